-- `compute` meets its contract: the operands, the operation done, $X, rH and rR written, then the flag.
use Rattle.model.proofs.Prelude.{state_lent}
use Rattle.arms.proofs.ArithmeticArms.{computed_done, computed_raised}
use Rattle.arms.proofs.operations.compute.Goals as goal

pub returns-then-results-eq0-clause-told : goal.returns-then-results-eq0-clause-told
returns-then-results-eq0-clause-told c =
    let a = c.args in
    let s = state_lent a.s.now in
    computed_done s _ _ _ _ _ _ _ _ _ _ (c.first-y.ensures s.special s.pc s.halt s.marks s.mask) (c.last-z.ensures s.special s.pc s.halt s.marks s.mask)
    c.operation_of.ensures c.perform-results.ensures (c.set_register.ensures s) _ c.if-results-eq0.true c.following-s.ensures

pub returns-clause-told : goal.returns-clause-told
returns-clause-told c =
    let a = c.args in
    let s = state_lent a.s.now in
    computed_raised s _ _ _ _ _ _ _ _ _ _ (c.first-y.ensures s.special s.pc s.halt s.marks s.mask) (c.last-z.ensures s.special s.pc s.halt s.marks s.mask)
    c.operation_of.ensures c.perform-results.ensures (c.set_register.ensures s) _ _ _ c.if-results-eq0.false c.word_of-word.ensures (c.raise.ensures.told)
