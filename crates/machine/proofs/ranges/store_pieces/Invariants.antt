-- `store_pieces` meets its contract. The loop's invariant: the registers below i are written; those past the 256th are none.
use Rattle.model.proofs.Prelude.{max, ℕ, ◌+◌, ◌-◌, ◌≤◌, ◌≡◌, get_or, length, lent}
use Rattle.machine.specs.Octas.{written_run}
use Rattle.machine.proofs.ranges.store_pieces.Given as goal

abbrev pub invariant-loop-i : goal.invariant-loop-i
invariant-loop-i l = (lent l.at l.a l.b ≡ written_run (lent l.at l.initial.a l.initial.b) l.addr (l.i - l.from) (λ (k : ℕ). get_or l.general (l.from + k) 0)) × (l.from ≤ l.i) × (l.i ≤ max l.from l.end)
    × (length l.a ≡ length l.initial.a) × (length l.b ≡ length l.initial.b)

abbrev pub decreases-loop-i : goal.decreases-loop-i
decreases-loop-i l = l.end - l.i
