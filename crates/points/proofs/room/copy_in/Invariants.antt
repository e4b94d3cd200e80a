-- `copy_in` meets its contract. The loop's invariant: the first i bytes stand in `to` from `at` up, and nothing else has changed.
use Rattle.model.proofs.Prelude.{◌≡◌, length, take, written}
use Rattle.points.proofs.room.copy_in.Given as goal

abbrev pub invariant-loop-i : goal.invariant-loop-i
invariant-loop-i l = (length l.to ≡ length l.initial.to) × (l.to ≡ written l.initial.to l.at (take l.i l.from))
