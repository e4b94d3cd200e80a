-- `store_all` meets its contract: a turn stores one more.
use Rattle.model.proofs.Prelude.{◌∙◌}
use Rattle.machine.proofs.OctabyteRuns.{flat_turn}
use Rattle.std.proofs.Common.{rules}
use Rattle.machine.proofs.octabytes.store_all.Goals as goal

pub loop-i-preserved : goal.loop-i-preserved
loop-i-preserved c = (search rules, c.store.ensures ∙ flat_turn _ _ _ _ _ c.loop-i-test.true c.loop-i.invariant.1)
