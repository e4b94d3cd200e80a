-- `is_clear` meets its contract: an earlier part that overlaps it tells; where none does, it is clear.
use Rattle.model.proofs.Prelude.{arith}
use Rattle.tasks.proofs.Judged.{below_none, clear_fails, clear_more, clear_all}
use Rattle.tasks.proofs.judge.is_clear.Goals as goal

pub loop-j-init : goal.loop-j-init
loop-j-init c = below_none _

pub returns-then-overlap : goal.returns-then-overlap
returns-then-overlap c =
    clear_fails _ _ c.loop-j.j _ _ c.part_at-other.ensures c.part_at-own.ensures _ c.overlap.ensures (omega arith) c.if-overlap.true

pub loop-j-preserved : goal.loop-j-preserved
loop-j-preserved c =
    let a = c.args in
    clear_more a.parts.now a.k c.loop-j.j _ _ c.part_at-other.ensures c.part_at-own.ensures _ c.overlap.ensures
    c.if-overlap.false c.loop-j.invariant

pub returns : goal.returns
returns c = clear_all _ _ c.loop-j.j (omega arith) c.loop-j.invariant
