-- `store_each` meets its contract: none are stored at first, and a turn stores one more.
use Rattle.model.proofs.Prelude.{refl, ◌∙◌}
use Rattle.machine.proofs.OctabyteRuns.{flat_none, flat_turn}
use Rattle.std.proofs.Common.{rules}
use Rattle.machine.proofs.octabytes.store_each.Goals as goal

pub loop-i-init : goal.loop-i-init
loop-i-init c = (refl, flat_none _ _)

pub loop-i-preserved : goal.loop-i-preserved
loop-i-preserved c = (search rules, c.store.ensures ∙ flat_turn _ _ _ _ _ c.loop-i-test.true c.loop-i.invariant.1)
