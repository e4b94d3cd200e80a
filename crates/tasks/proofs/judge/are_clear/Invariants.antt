-- `are_clear` meets its contract. The loop's invariant: the first k parts are clear.
use Rattle.model.proofs.Prelude.{true, ◌≡◌}
use Rattle.tasks.proofs.Prelude.{each_below, part_clear}
use Rattle.tasks.proofs.judge.are_clear.Given as goal

abbrev pub invariant-loop-k : goal.invariant-loop-k
invariant-loop-k l = each_below l.k (part_clear l.parts) ≡ true
