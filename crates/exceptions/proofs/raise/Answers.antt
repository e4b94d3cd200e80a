-- `raise` meets its contract: all flags but the taken one are added, and where one is enabled its vector is taken.
use Rattle.model.proofs.Prelude.{state_lent}
use Rattle.exceptions.proofs.Interrupts.{none_taken, one_taken}
use Rattle.exceptions.proofs.raise.Goals as goal

pub returns-then-enabled-eq0-clause-told : goal.returns-then-enabled-eq0-clause-told
returns-then-enabled-eq0-clause-told c =
    none_taken (state_lent c.args.s.now) _ _ _ _ _ c.ranges.flags.fits c.add_untaken.ensures.added _ _ c.enabled_of-enabled.ensures c.if-enabled-eq0.true c.following-s.ensures

pub returns-clause-told : goal.returns-clause-told
returns-clause-told c =
    one_taken (state_lent c.args.s.now) _ _ _ _ _ c.ranges.flags.fits c.add_untaken.ensures.added _ _ _ _ c.enabled_of-enabled.ensures c.if-enabled-eq0.false c.vector_of.ensures.0 c.trip.ensures.told
