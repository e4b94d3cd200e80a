-- `pieces_refusal` meets its contract. The loop's invariant: the first i octabytes pass, and `place` is the next one's address.
use Rattle.model.proofs.Prelude.{◌%◌, ◌*◌, ◌+◌, ◌-◌, ◌^◌, ◌≤◌, ◌≡◌, shapes_of, lent, worst, refusing}
use Rattle.machine.proofs.memory.pieces_refusal.Given as goal

abbrev pub invariant-loop-i : goal.invariant-loop-i
invariant-loop-i l = (l.i ≤ l.n) × (worst (refusing (shapes_of (lent l.at l.a l.b))) l.addr l.i ≡ 0) × (l.place ≡ (l.addr + 8 * l.i) % 2 ^ 64)

abbrev pub decreases-loop-i : goal.decreases-loop-i
decreases-loop-i l = l.n - l.i
