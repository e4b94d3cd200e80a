-- `copy_out` meets its contract. The loop's invariant: the first i bytes are those of `from` from `at` up.
use Rattle.model.proofs.Prelude.{◌≡◌, length, take, part}
use Rattle.points.proofs.room.copy_out.Given as goal

abbrev pub invariant-loop-i : goal.invariant-loop-i
invariant-loop-i l = (length l.to ≡ length l.initial.to) × (take l.i l.to ≡ part l.from l.at l.i)
