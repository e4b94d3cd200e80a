-- `pop_at` meets its contract: the hole is read where it is lent, and then the frame.
use Rattle.model.proofs.Prelude.{no_holder, some_holder, told_done, told_refused, sym, ◌∙◌, arith, made}
use Rattle.model.specs.Lent.{windows_read}
use Rattle.stack.proofs.PushPopRegisters.{held_placed, hole_held, hole_lost, hole_is, frame_run}
use Rattle.stack.proofs.PushPopAnswers.{pop_lacks, pop_short, pop_done}
use Rattle.stack.proofs.frame.pop_at.Goals as goal

pub returns-then-is_none : goal.returns-then-is_none
returns-then-is_none c =
    λ pc halt marks mask m.
    let a = c.args in
    let w = windows_read a.windows in
    let l = a.special.now in
    let hole = c.wrapping_sub-below in
    let found = c.read_octa-octa in
    let s = made a.general.now l pc halt marks mask in
    let good = held_placed s c.requires.0 in
    pop_lacks w s a.x a.yz good c.requires.1.above m (hole_lost w l c.requires.1 _ hole.ensures _ found.ensures.1 (no_holder _ _ c.is_none.ensures c.if-is_none.true))

pub returns-then-ne : goal.returns-then-ne
returns-then-ne c =
    λ pc halt marks mask m.
    let a = c.args in
    let w = windows_read a.windows in
    let l = a.special.now in
    let hole = c.wrapping_sub-below in
    let found = c.read_octa-octa in
    let s = made a.general.now l pc halt marks mask in
    let good = held_placed s c.requires.0 in
    pop_short w s a.x a.yz good c.requires.1.above m (hole_held w l c.requires.1 _ hole.ensures _ found.ensures.1 (some_holder _ _ c.is_none.ensures c.if-is_none.false)) _ (hole_is w l c.requires.1 _ hole.ensures _ found.ensures.0)
    (λ i. (told_refused _ _ c.ne.ensures c.if-ne.true) ((frame_run w l c.requires.1 _ _ _ _ (omega arith) c.wrapping_sub-bottom.ensures c.min-n.ensures c.run_refusal.ensures) ∙ i))

pub leave-requires : goal.leave-requires
leave-requires c =
    let a = c.args in
    let w = windows_read a.windows in
    let l = a.special.now in
    (c.requires.0, omega arith, c.requires.1, sym (frame_run w l c.requires.1 _ _ _ _ (omega arith) c.wrapping_sub-bottom.ensures c.min-n.ensures c.run_refusal.ensures) ∙ (told_done _ _ c.ne.ensures c.if-ne.false))

pub returns : goal.returns
returns c =
    λ pc halt marks mask m.
    let a = c.args in
    let w = windows_read a.windows in
    let l = a.special.now in
    let hole = c.wrapping_sub-below in
    let found = c.read_octa-octa in
    let s = made a.general.now l pc halt marks mask in
    let good = held_placed s c.requires.0 in
    pop_done w s a.x a.yz good c.requires.1.above m (hole_held w l c.requires.1 _ hole.ensures _ found.ensures.1 (some_holder _ _ c.is_none.ensures c.if-is_none.false)) _ (hole_is w l c.requires.1 _ hole.ensures _ found.ensures.0) _ _
    (sym (frame_run w l c.requires.1 _ _ _ _ (omega arith) c.wrapping_sub-bottom.ensures c.min-n.ensures c.run_refusal.ensures) ∙ (told_done _ _ c.ne.ensures c.if-ne.false))
    (c.leave.ensures pc halt marks mask) c.wrapping_add-target.ensures
