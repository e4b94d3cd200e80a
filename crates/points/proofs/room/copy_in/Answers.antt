-- `copy_in` meets its contract: none are copied at first, a turn copies one more, and all are copied in the end.
use Rattle.model.proofs.Prelude.{refl, arith, in_all, in_none, in_turn}
use Rattle.std.proofs.Common.{rules}
use Rattle.points.proofs.room.copy_in.Goals as goal

pub loop-i-init : goal.loop-i-init
loop-i-init c = (refl, in_none c.args.to.now c.args.at c.args.from.now)

pub loop-i-preserved : goal.loop-i-preserved
loop-i-preserved c =
    let a = c.args in
    (search rules, in_turn c.loop-i.to a.to.now a.from.now a.at c.loop-i.i (omega arith) c.loop-i.invariant.1)

pub returns : goal.returns
returns c = in_all _ _ _ _ c.loop-i.i (omega arith) c.loop-i.invariant.1
