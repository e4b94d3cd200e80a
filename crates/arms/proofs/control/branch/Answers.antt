-- `branch` meets its contract: where it is taken PC goes to the target, else to the next tetra.
use Rattle.model.proofs.Prelude.{refl, reply_of, made, goes}
use Rattle.arms.proofs.ControlArms.{branch_taken, branch_not}
use Rattle.arms.proofs.control.branch.Goals as goal

pub returns-then-is_taken : goal.returns-then-is_taken
unfolding goes reply_of
returns-then-is_taken c =
    λ special halt marks mask.
    let a = c.args in
    let s = made a.general.now special a.pc.now halt marks mask in
    record {
      reply_is = refl;
      state_is = branch_taken s a.i.now.op a.i.now.x a.i.now.y a.i.now.z _ _ c.is_taken.ensures c.if-is_taken.true c.near.ensures;
    }

pub returns : goal.returns
unfolding goes reply_of
returns c =
    λ special halt marks mask.
    let a = c.args in
    let s = made a.general.now special a.pc.now halt marks mask in
    record {
      reply_is = refl;
      state_is = branch_not s a.i.now.op a.i.now.x a.i.now.y a.i.now.z _ _ c.is_taken.ensures c.if-is_taken.false c.following.ensures;
    }
