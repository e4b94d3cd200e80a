-- `store_specials` meets its contract. The loop's invariant: i of the twelve are stored.
use Rattle.model.proofs.Prelude.{ℕ, ◌≡◌, get_or, length, saved_special, lent}
use Rattle.contexts.proofs.Prelude.{written_run}
use Rattle.contexts.proofs.context.store_specials.Given as goal

abbrev pub invariant-loop-i : goal.invariant-loop-i
invariant-loop-i l = (lent l.at l.a l.b ≡ written_run (lent l.at l.initial.a l.initial.b) l.addr l.i (λ (j : ℕ). get_or l.special (saved_special j) 0)) × (length l.a ≡ length l.initial.a) × (length l.b ≡ length l.initial.b)
