-- `is_clear` meets its contract. The loop's invariant: the registers below k are zero.
use Rattle.model.proofs.Prelude.{ℕ, ◌<◌, ◌≤◌, ◌≡◌, get_or}
use Rattle.instruction.proofs.claim.is_clear.Given as goal

abbrev pub invariant-loop-k : goal.invariant-loop-k
invariant-loop-k l = (j : ℕ) → l.from ≤ j → j < l.k → get_or l.general j 0 ≡ 0
