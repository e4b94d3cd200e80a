-- `judge` meets its contract. The loop's invariant: judging goes on from the i-th pair with the rL that the earlier ones leave.
use Rattle.model.proofs.Prelude.{◌≡◌}
use Rattle.sets.specs.Sets.{pairs_of}
use Rattle.sets.specs.Judged.{judge_pairs}
use Rattle.sets.proofs.Pairs.{pairs_from}
use Rattle.sets.proofs.judge.Given as goal

abbrev pub invariant-loop-i : goal.invariant-loop-i
invariant-loop-i l = judge_pairs l.rl 0 (pairs_of l.pairs) ≡ judge_pairs l.local l.i (pairs_from l.i l.pairs)
