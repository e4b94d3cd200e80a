-- `trip` meets its contract: the trip registers stand, and the vector's mark tells which way it goes.
use Rattle.model.proofs.Prelude.{sym, ◌∙◌, state_lent}
use Rattle.exceptions.proofs.Interrupts.{trip_loaded, trip_not_loaded}
use Rattle.exceptions.proofs.trip.Goals as goal

pub returns-then-loaded-clause-told : goal.returns-then-loaded-clause-told
returns-then-loaded-clause-told c = trip_loaded (state_lent c.args.s.now) _ _ _ _ _ c.set_interrupt.ensures.set (sym c.is_loaded-loaded.ensures ∙ c.if-loaded.true)

pub returns-clause-told : goal.returns-clause-told
returns-clause-told c = trip_not_loaded (state_lent c.args.s.now) _ _ _ _ _ c.set_interrupt.ensures.set (sym c.is_loaded-loaded.ensures ∙ c.if-loaded.false)
