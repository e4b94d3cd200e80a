-- `load_fours` meets its contract. The loop's invariant: the first i values are the bytes' octabytes from `at` up.
use Rattle.model.proofs.Prelude.{◌-◌, ◌≤◌, ◌≡◌, length, take}
use Rattle.machine.specs.Octabytes.{octas}
use Rattle.machine.proofs.octabytes.load_fours.Given as goal

abbrev pub invariant-loop-values : goal.invariant-loop-values
invariant-loop-values l = (l.i ≤ length l.values) × (length l.values ≡ length l.initial.values) × (take l.i l.values ≡ octas l.bytes l.at l.i)

abbrev pub decreases-loop-values : goal.decreases-loop-values
decreases-loop-values l = length l.initial.values - l.i
