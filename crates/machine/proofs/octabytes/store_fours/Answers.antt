-- `store_fours` meets its contract: none are stored at first, a turn stores four more, and all are stored in the end.
use Rattle.model.proofs.Prelude.{refl, arith}
use Rattle.machine.proofs.OctabyteRuns.{flat_none, flat_four}
use Rattle.std.proofs.Common.{rules}
use Rattle.machine.proofs.octabytes.store_fours.Goals as goal

pub loop-i-init : goal.loop-i-init
loop-i-init c = (omega arith, refl, flat_none _ _)

pub loop-i-preserved : goal.loop-i-preserved
loop-i-preserved c =
    let inv = c.loop-i.invariant in (
      omega (arith, c.loop-i-test.true, inv.0),
      search rules,
      flat_four _ _ _ _ _ _ _ _ _ (omega (arith, c.loop-i-test.true, inv.0)) inv.2
          c.store.ensures c.store-in-loop-i.ensures c.store-in-loop-i-2.ensures c.store-in-loop-i-3.ensures,
    )

pub shape_of-bytes : goal.shape_of-bytes
shape_of-bytes c = c.loop-i.invariant.1

pub returns : goal.returns
returns c = let inv = c.loop-i.invariant in (inv.0, inv.2)
