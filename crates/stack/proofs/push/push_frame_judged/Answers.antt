-- `push_frame_judged` meets its contract: what it asks is what the definition asks, and what its calls leave is what PUSH does.
use Rattle.model.proofs.Prelude.{reply_by, told_done, told_refused, not, ap, refl, arith, state_lent, windows_lent, denied, granted}
use Rattle.stack.proofs.PushPopRegisters.{held_by}
use Rattle.stack.proofs.Judged.{passed, failed, missing_by}
use Rattle.stack.proofs.PushPopAnswers.{push_one, push_six, push_done}
use Rattle.stack.proofs.push.push_frame_judged.Goals as goal

pub returns-then-not-is_placed-clause-gives : goal.returns-then-not-is_placed-clause-gives
returns-then-not-is_placed-clause-gives c =
    let s = state_lent c.args.s.now in
    push_one (windows_lent c.args.w.now) s c.args.x (denied _ _ (c.is_placed.ensures s refl refl) (ap not c.if-not-is_placed.true))

pub hole_of-h-requires : goal.hole_of-h-requires
hole_of-h-requires c =
    let s = state_lent c.args.s.now in
    let h = held_by s (granted _ _ (c.is_placed.ensures s refl refl) (ap not c.if-not-is_placed.false)) (omega (arith, c.counted.ensures.1)) in omega (arith, h.g_high, h.l_g)

pub returns-then-ne-clause-gives : goal.returns-then-ne-clause-gives
returns-then-ne-clause-gives c =
    let run = rw c.read-lent.ensures at c.run_refusal-reply.ensures in
    let s = state_lent c.args.s.now in
    push_six (windows_lent c.args.w.now) s c.args.x (granted _ _ (c.is_placed.ensures s refl refl) (ap not c.if-not-is_placed.false)) _ (c.hole_of-h.ensures.0 s refl refl)
    (failed _ _ _ _ _ run (told_refused _ _ c.ne.ensures c.if-ne.true) (omega arith)) _ (missing_by _ _ _ _ run (told_refused _ _ c.ne.ensures c.if-ne.true) _ (reply_by _))

pub store_frame-requires : goal.store_frame-requires
store_frame-requires c = (c.hole_of-h.ensures.1, passed _ _ _ _ _ (rw c.read-lent.ensures at c.run_refusal-reply.ensures) (told_done _ _ c.ne.ensures c.if-ne.false) (omega arith))

pub enter-requires : goal.enter-requires
enter-requires c =
    let s = state_lent c.args.s.now in
    (held_by s (granted _ _ (c.is_placed.ensures s refl refl) (ap not c.if-not-is_placed.false)) (omega (arith, c.counted.ensures.1)), c.hole_of-h.ensures.1, refl)

pub returns-clause-gives : goal.returns-clause-gives
returns-clause-gives c =
    let s = state_lent c.args.s.now in
    let w = windows_lent c.args.w.now in
    push_done w s c.args.x (granted _ _ (c.is_placed.ensures s refl refl) (ap not c.if-not-is_placed.false)) _ (c.hole_of-h.ensures.0 s refl refl) _ _
    (passed w _ _ _ _ (rw c.read-lent.ensures at c.run_refusal-reply.ensures) (told_done _ _ c.ne.ensures c.if-ne.false) (omega arith))
    c.store_frame.ensures.stored c.enter.ensures.pushed
