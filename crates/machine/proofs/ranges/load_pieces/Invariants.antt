-- `load_pieces` meets its contract. The loop's invariant: the registers below i are loaded; those past the 256th are none.
use Rattle.model.proofs.Prelude.{max, ℕ, ◌*◌, ◌+◌, ◌-◌, ◌≤◌, ◌≡◌, over, lent}
use Rattle.machine.specs.Octas.{read_octa}
use Rattle.machine.proofs.ranges.load_pieces.Given as goal

abbrev pub invariant-loop-i : goal.invariant-loop-i
invariant-loop-i l = (l.general ≡ over (λ (k : ℕ). read_octa (lent l.at l.a l.b) (l.addr + 8 * (k - l.from))) l.from l.i l.initial.general) × (l.from ≤ l.i) × (l.i ≤ max l.from l.end)

abbrev pub decreases-loop-i : goal.decreases-loop-i
decreases-loop-i l = l.end - l.i
