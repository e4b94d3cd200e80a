-- `are_admissible` meets its contract. The loop's invariant: the first k images are of admissible states.
use Rattle.model.proofs.Prelude.{true, ◌≡◌}
use Rattle.tasks.proofs.ImageParts.{admitted_so}
use Rattle.tasks.proofs.judge.are_admissible.Given as goal

abbrev pub invariant-loop-k : goal.invariant-loop-k
invariant-loop-k l = admitted_so l.each l.images l.k ≡ true
