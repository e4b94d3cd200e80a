-- `load_each` meets its contract: none are loaded at first, and a turn loads one more.
use Rattle.model.proofs.Prelude.{refl, arith, length-set}
use Rattle.machine.proofs.OctabyteRuns.{octas_none, octas_turn}
use Rattle.machine.proofs.octabytes.load_each.Goals as goal

pub loop-i-init : goal.loop-i-init
loop-i-init c = (refl, octas_none _ _)

pub loop-i-preserved : goal.loop-i-preserved
loop-i-preserved c =
    let inv = c.loop-i.invariant in
    (simp length-set inv.0, octas_turn _ _ _ _ _ (omega (arith, c.loop-i-test.true, inv.0)) inv.1 c.load.ensures)
