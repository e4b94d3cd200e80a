-- `carry` meets its contract: one line after another, of a script whose text is no longer than the whole.
use Rattle.model.proofs.Prelude.{arith, windows_lent, refl}
use Rattle.script.proofs.Prelude.{line_within, leads_end, leads_last, wrote_bad}
use Rattle.script.proofs.Carries.{carried_end, carried_unended, line_onward, line_stop}
use Rattle.script.proofs.Bounds.{carried_most}
use Rattle.script.proofs.script.carry.Goals as goal

-- what is printed is no longer than the whole
pub turn-requires : goal.turn-requires
turn-requires c =
    let a = c.args in
    omega (arith, c.loop-at.invariant.2.same_end, c.requires, carried_most 1 a.first (windows_lent a.windows.now) a.script.now)

pub returns-then-newline-script : goal.returns-then-newline-script
returns-then-newline-script c =
    let l = c.loop-at in
    let a = c.args in
    leads_last _ _ _ _ _ _ _ _ _ l.invariant.2
    (carried_unended l.n l.state (windows_lent l.windows) a.script.now l.at c.line_end-newline.result
    c.loop-at-test.true c.line_end-newline.ensures c.if-newline-script.true)
    (wrote_bad _ _ _ _ _
    (omega (arith, l.invariant.2.same_end, c.requires, carried_most 1 a.first (windows_lent a.windows.now) a.script.now))
    c.put_bad.ensures)

-- a line ends within the script
pub slice_bounds-read-end : goal.slice_bounds-read-end
slice_bounds-read-end c = (line_within c.args.script.now c.loop-at.at _ c.loop-at.invariant.0 c.line_end-newline.ensures).1

pub returns-in-Break : goal.returns-in-Break
returns-in-Break c =
    let l = c.loop-at in
    let a = c.args in
    line_stop a.script.now _ _ l.n l.state (windows_lent l.windows) l.out l.end l.at
    c.line_end-newline.result c.read-form.result _ _ _ _
    c.loop-at-test.true c.line_end-newline.ensures c.if-newline-script.false c.read-form.ensures l.invariant.2 c.in-Break.ensures.written refl

pub loop-at-preserved : goal.loop-at-preserved
loop-at-preserved c =
    let l = c.loop-at in
    let a = c.args in
    let inside = line_within a.script.now l.at _ l.invariant.0 c.line_end-newline.ensures in (
      omega (arith, inside, c.if-newline-script.false),
      omega (arith, inside, l.invariant.1),
      line_onward a.script.now _ _ l.n l.state (windows_lent l.windows) l.out l.end l.at
          c.line_end-newline.result c.read-form.result _ _ _ _
          c.loop-at-test.true c.line_end-newline.ensures c.if-newline-script.false c.read-form.ensures l.invariant.2 c.in-Continue.ensures.written refl,
    )

pub returns : goal.returns
returns c = leads_end _ _ _ _ _ _ c.loop-at.invariant.2 (carried_end _ _ _ _ _ c.loop-at-test.false)
