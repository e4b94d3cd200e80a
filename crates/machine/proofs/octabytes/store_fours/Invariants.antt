-- `store_fours` meets its contract. The loop's invariant: the first i values stand in the bytes from `at` up, and nothing else has changed.
use Rattle.model.proofs.Prelude.{◌-◌, ◌≤◌, ◌≡◌, length, take, written}
use Rattle.machine.specs.Octabytes.{flat}
use Rattle.machine.proofs.octabytes.store_fours.Given as goal

abbrev pub invariant-loop-i : goal.invariant-loop-i
invariant-loop-i l = (l.i ≤ length l.values) × (length l.bytes ≡ length l.initial.bytes) × (l.bytes ≡ written l.initial.bytes l.at (flat (take l.i l.values)))

abbrev pub decreases-loop-i : goal.decreases-loop-i
decreases-loop-i l = length l.values - l.i
