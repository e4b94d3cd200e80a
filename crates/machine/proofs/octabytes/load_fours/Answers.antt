-- `load_fours` meets its contract: none are loaded at first, a turn loads four more, and all are loaded in the end.
use Rattle.model.proofs.Prelude.{refl, arith, length-set}
use Rattle.machine.proofs.OctabyteRuns.{octas_none, octas_four}
use Rattle.machine.proofs.octabytes.load_fours.Goals as goal

pub loop-values-init : goal.loop-values-init
loop-values-init c = (omega arith, refl, octas_none _ _)

pub bounds-values-i-in-loop-values : goal.bounds-values-i-in-loop-values
bounds-values-i-in-loop-values c = simp length-set (omega arith)

pub bounds-values-i-in-loop-values-2 : goal.bounds-values-i-in-loop-values-2
bounds-values-i-in-loop-values-2 c = simp length-set (omega arith)

pub bounds-values-i-in-loop-values-3 : goal.bounds-values-i-in-loop-values-3
bounds-values-i-in-loop-values-3 c = simp length-set (omega arith)

pub loop-values-preserved : goal.loop-values-preserved
loop-values-preserved c =
    let inv = c.loop-values.invariant in (
      simp length-set (omega arith),
      simp length-set inv.1,
      octas_four _ _ _ _ _ _ _ _ (omega (arith, c.loop-values-test.true, inv.0)) inv.2
          c.load.ensures c.load-in-loop-values.ensures c.load-in-loop-values-2.ensures c.load-in-loop-values-3.ensures,
    )

pub shape_of-values : goal.shape_of-values
shape_of-values c = c.loop-values.invariant.1

pub returns : goal.returns
returns c = let inv = c.loop-values.invariant in (inv.0, inv.2)
