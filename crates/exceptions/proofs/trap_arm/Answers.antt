-- `trap_arm` meets its contract: where it is not named, the trap registers stand and the halt code is 1.
use Rattle.model.proofs.Prelude.{sym, ◌∙◌, state_lent}
use Rattle.exceptions.proofs.Interrupts.{trap_named', trap_done}
use Rattle.exceptions.proofs.trap_arm.Goals as goal

pub returns-then-is_named-clause-told : goal.returns-then-is_named-clause-told
returns-then-is_named-clause-told c = trap_named' (state_lent c.args.s.now) _ _ _ _ (sym c.is_named.ensures ∙ c.if-is_named.true)

pub returns-clause-told : goal.returns-clause-told
returns-clause-told c = trap_done (state_lent c.args.s.now) _ _ _ _ _ (sym c.is_named.ensures ∙ c.if-is_named.false) (rw c.kept_of-kept.ensures at c.set_interrupt.ensures.set)
