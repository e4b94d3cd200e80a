-- `add_untaken` meets its contract: its arithmetic is the definition's, of a flag that is a byte.
use Rattle.model.proofs.Prelude.{ap, ◌∙◌, leftmost}
use Rattle.exceptions.proofs.Interrupts.{added_is}
use Rattle.exceptions.proofs.add_untaken.Goals as goal

pub returns-clause-added : goal.returns-clause-added
returns-clause-added c = rw c.from.ensures (added_is _ _ _ _ _ _ _ _ c.ranges.flags.fits (c.leftmost_flag-taken.ensures ∙ ap leftmost c.enabled_of-enabled.ensures))
