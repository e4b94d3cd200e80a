-- `number` meets its contract. The loop's invariant: the bytes so far are digits, and the number is theirs.
use Rattle.model.proofs.Prelude.{ℕ, ◌<◌, ◌≡◌, get_or, take}
use Rattle.text.specs.Digits.{digit_of, value_of}
use Rattle.text.proofs.read.number.Given as goal

abbrev pub invariant-loop-b : goal.invariant-loop-b
invariant-loop-b l = (l.number ≡ value_of (take l.b-index l.digits)) × ((k : ℕ) → k < l.b-index → digit_of (get_or l.digits k 0) < 16)
