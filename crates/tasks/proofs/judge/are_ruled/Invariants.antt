-- `are_ruled` meets its contract. The loop's invariant: the first k parts obey their rule.
use Rattle.model.proofs.Prelude.{true, ◌≡◌}
use Rattle.tasks.proofs.Judged.{ruled_so}
use Rattle.tasks.proofs.judge.are_ruled.Given as goal

abbrev pub invariant-loop-k : goal.invariant-loop-k
invariant-loop-k l = ruled_so l.b_len l.parts l.k ≡ true
