-- Laws of what code leaves where the state is known but for the last store: PC sent on, or the halt code set.
use Rattle.model.proofs.Prelude.{ℕ, ◌%◌, ◌+◌, ◌^◌, ap, ◌∙◌, ◌≡◌, made, goes, halted, next}
use Rattle.model.specs.declared.State.{State}

module _ (r t : State) (e : r ≡ t) where
  pub goes_is : (n : ℕ) → made r.general r.special n r.halt r.marks r.mask ≡ goes t n
  unfolding goes
  goes_is n = ap (λ (u : State). goes u n) e

  pub next_is : (n : ℕ) → n ≡ (r.pc + 4) % 2 ^ 64 → made r.general r.special n r.halt r.marks r.mask ≡ next t
  unfolding goes
  next_is n h = ap (λ (k : ℕ). made r.general r.special k r.halt r.marks r.mask) h ∙ ap next e

  pub halted_is : made r.general r.special r.pc 1 r.marks r.mask ≡ halted t
  unfolding halted
  halted_is = ap halted e
