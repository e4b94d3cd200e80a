-- `is_clear` meets its contract. The loop's invariant: part k overlaps none of the first j.
use Rattle.model.proofs.Prelude.{true, ◌≡◌}
use Rattle.tasks.proofs.Judged.{clear_so}
use Rattle.tasks.proofs.judge.is_clear.Given as goal

abbrev pub invariant-loop-j : goal.invariant-loop-j
invariant-loop-j l = clear_so l.parts l.k l.j ≡ true
