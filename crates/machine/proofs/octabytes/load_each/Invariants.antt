-- `load_each` meets its contract. The loop's invariant: the first i values are the bytes' octabytes from `at` up.
use Rattle.model.proofs.Prelude.{◌≡◌, length, take}
use Rattle.machine.specs.Octabytes.{octas}
use Rattle.machine.proofs.octabytes.load_each.Given as goal

abbrev pub invariant-loop-i : goal.invariant-loop-i
invariant-loop-i l = (length l.values ≡ length l.fn.values) × (take l.i l.values ≡ octas l.bytes l.at l.i)
