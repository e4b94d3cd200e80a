-- `trip_arm` meets its contract: it is a trip through vector 0 with the operands read before.
use Rattle.exceptions.proofs.Interrupts.{trip_says}
use Rattle.exceptions.proofs.trip_arm.Goals as goal

pub returns-clause-told : goal.returns-clause-told
returns-clause-told c = trip_says _ _ _ _ _ _ _ (rw c.kept_of-kept.ensures at c.trip.ensures.told)
