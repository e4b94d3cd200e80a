-- `are_ruled` meets its contract: a part that breaks its rule tells; where none does, all obey it.
use Rattle.model.proofs.Prelude.{not}
use Rattle.model.proofs.Prelude.{ap}
use Rattle.model.proofs.Prelude.{arith}
use Rattle.tasks.proofs.Judged.{below_none, ruled_fails, ruled_more, ruled_all}
use Rattle.tasks.proofs.judge.are_ruled.Goals as goal

pub loop-k-init : goal.loop-k-init
loop-k-init c = below_none _

pub returns-then-not-is_ruled : goal.returns-then-not-is_ruled
returns-then-not-is_ruled c =
    ruled_fails c.args.b_len c.args.parts.now c.loop-k.k _ c.part_at-own.ensures _ c.is_ruled.ensures
    c.args.n (omega arith) (ap not c.if-not-is_ruled.true)

pub loop-k-preserved : goal.loop-k-preserved
loop-k-preserved c =
    ruled_more c.args.b_len c.args.parts.now c.loop-k.k _ c.part_at-own.ensures _ c.is_ruled.ensures
    (ap not c.if-not-is_ruled.false) c.loop-k.invariant

pub returns : goal.returns
returns c =
    ruled_all c.args.b_len c.args.parts.now _ c.loop-k.k (omega arith) c.loop-k.invariant
