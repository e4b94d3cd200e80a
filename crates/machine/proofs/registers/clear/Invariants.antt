-- `clear` meets its contract. The loop's invariant: the elements before this one are 0.
use Rattle.model.proofs.Prelude.{ℕ, ◌<◌, ◌≡◌, get_or}
use Rattle.machine.proofs.registers.clear.Given as goal

abbrev pub invariant-loop-value : goal.invariant-loop-value
invariant-loop-value l = (k : ℕ) → k < l.value-index → get_or l.values k 0 ≡ 0
