-- `are_clear` meets its contract: a part that overlaps an earlier one tells; where none does, all are clear.
use Rattle.model.proofs.Prelude.{not}
use Rattle.model.proofs.Prelude.{ap}
use Rattle.model.proofs.Prelude.{sym, arith, denied, granted}
use Rattle.tasks.proofs.Prelude.{part_clear}
use Rattle.tasks.proofs.Judged.{below_none, below_more, below_fails, below_all}
use Rattle.tasks.proofs.judge.are_clear.Goals as goal

pub loop-k-init : goal.loop-k-init
loop-k-init c = below_none _

pub returns-then-not-is_clear : goal.returns-then-not-is_clear
returns-then-not-is_clear c =
    sym (below_fails _ (part_clear c.args.parts.now) c.loop-k.k (omega arith) (denied _ _ c.is_clear.ensures (ap not c.if-not-is_clear.true)))

pub loop-k-preserved : goal.loop-k-preserved
loop-k-preserved c =
    below_more c.loop-k.k (part_clear c.args.parts.now) c.loop-k.invariant (granted _ _ c.is_clear.ensures (ap not c.if-not-is_clear.false))

pub returns : goal.returns
returns c = below_all _ c.loop-k.k (part_clear c.args.parts.now) (omega arith) c.loop-k.invariant
