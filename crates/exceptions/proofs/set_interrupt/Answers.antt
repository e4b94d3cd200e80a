-- `set_interrupt` meets its contract: it stores in the definition's order, each register read before.
use Rattle.exceptions.proofs.Interrupts.{interrupted_is}
use Rattle.exceptions.proofs.set_interrupt.Goals as goal

pub returns-clause-set : goal.returns-clause-set
returns-clause-set c = interrupted_is _ _ _ _ _ _ _ _ _ _ _ _ _ _ _ c.following.ensures
