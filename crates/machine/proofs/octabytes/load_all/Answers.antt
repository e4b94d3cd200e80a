-- `load_all` meets its contract: a turn loads one more.
use Rattle.model.proofs.Prelude.{arith, length-set}
use Rattle.machine.proofs.OctabyteRuns.{octas_turn}
use Rattle.machine.proofs.octabytes.load_all.Goals as goal

pub loop-i-preserved : goal.loop-i-preserved
loop-i-preserved c =
    let inv = c.loop-i.invariant in
    (simp length-set inv.0, octas_turn _ _ _ _ _ (omega (arith, c.loop-i-test.true, inv.0)) inv.1 c.load.ensures)
