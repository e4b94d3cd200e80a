-- `copy_out` meets its contract: none are copied at first, a turn copies one more, and all are copied in the end.
use Rattle.model.proofs.Prelude.{refl, arith, out_all, out_none, out_turn}
use Rattle.std.proofs.Common.{rules}
use Rattle.points.proofs.room.copy_out.Goals as goal

pub loop-i-init : goal.loop-i-init
loop-i-init c = (refl, out_none c.args.from.now c.args.to.now c.args.at)

pub loop-i-preserved : goal.loop-i-preserved
loop-i-preserved c =
    let a = c.args in
    (search rules, out_turn a.from.now c.loop-i.to a.at c.loop-i.i (omega (arith, c.loop-i.invariant.0)) c.loop-i.invariant.1)

pub returns : goal.returns
returns c = out_all _ _ _ c.loop-i.i _ (omega (arith, c.loop-i.invariant.0)) (omega (arith, c.loop-i.invariant.0)) c.loop-i.invariant.1
