-- `pop_frame_judged` meets its contract: what it judges is what the definition judges, in that order.
use Rattle.model.proofs.Prelude.{not, ap, refl, sym, ◌∙◌, arith, state_lent, windows_read, halted, denied, granted}
use Rattle.stack.proofs.PushPopRegisters.{held_by, placed_by}
use Rattle.stack.proofs.PushPopAnswers.{pop_one, pop_none, pop_rejected}
use Rattle.stack.proofs.frame.pop_frame_judged.Goals as goal

pub returns-then-not-is_placed-clause-gives : goal.returns-then-not-is_placed-clause-gives
returns-then-not-is_placed-clause-gives c =
    let s = state_lent c.args.s.now in
    pop_one (windows_read c.args.windows) s c.args.x c.args.yz (denied _ _ (c.is_placed.ensures s refl refl) (ap not c.if-not-is_placed.true))

pub returns-then-ro-le-STACK_START-clause-gives : goal.returns-then-ro-le-STACK_START-clause-gives
unfolding halted
returns-then-ro-le-STACK_START-clause-gives c =
    let s = state_lent c.args.s.now in
    pop_none (windows_read c.args.windows) s c.args.x c.args.yz (granted _ _ (c.is_placed.ensures s refl refl) (ap not c.if-not-is_placed.false)) c.if-ro-le-STACK_START.true

pub returns-then-is_misplaced-clause-gives : goal.returns-then-is_misplaced-clause-gives
unfolding halted
returns-then-is_misplaced-clause-gives c =
    let s = state_lent c.args.s.now in
    pop_rejected (windows_read c.args.windows) s c.args.x c.args.yz (granted _ _ (c.is_placed.ensures s refl refl) (ap not c.if-not-is_placed.false)) c.if-ro-le-STACK_START.false
    (sym (c.is_misplaced.ensures s refl) ∙ c.if-is_misplaced.true)

pub pop_at-requires : goal.pop_at-requires
pop_at-requires c =
    let s = state_lent c.args.s.now in (
      held_by s (granted _ _ (c.is_placed.ensures s refl refl) (ap not c.if-not-is_placed.false)) (omega (arith, c.counted.ensures.1)),
      placed_by s c.if-ro-le-STACK_START.false (sym (c.is_misplaced.ensures s refl) ∙ c.if-is_misplaced.false),
    )

pub returns-clause-gives : goal.returns-clause-gives
returns-clause-gives c =
    let s = state_lent c.args.s.now in
    c.pop_at.ensures s.pc s.halt s.marks s.mask (sym (c.is_misplaced.ensures s refl) ∙ c.if-is_misplaced.false)
