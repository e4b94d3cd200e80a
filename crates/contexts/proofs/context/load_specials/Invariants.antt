-- `load_specials` meets its contract. The loop's invariant: i of the twelve are loaded.
use Rattle.model.proofs.Prelude.{ℕ, ◌%◌, ◌*◌, ◌+◌, ◌^◌, ◌≡◌, lent}
use Rattle.contexts.proofs.Prelude.{read_octa}
use Rattle.contexts.specs.ContextWork.{loaded}
use Rattle.contexts.proofs.context.load_specials.Given as goal

abbrev pub invariant-loop-i : goal.invariant-loop-i
invariant-loop-i l = l.special ≡ loaded (λ (j : ℕ). read_octa (lent l.at l.a l.b) ((l.addr + 8 * j) % 2 ^ 64)) l.i l.initial.special
