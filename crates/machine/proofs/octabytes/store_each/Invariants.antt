-- `store_each` meets its contract. The loop's invariant: the first i values stand in the bytes from `at` up, and nothing else has changed.
use Rattle.model.proofs.Prelude.{◌≡◌, length, take, written}
use Rattle.machine.specs.Octabytes.{flat}
use Rattle.machine.proofs.octabytes.store_each.Given as goal

abbrev pub invariant-loop-i : goal.invariant-loop-i
invariant-loop-i l = (length l.bytes ≡ length l.fn.bytes) × (l.bytes ≡ written l.fn.bytes l.at (flat (take l.i l.values)))
