-- POP's two stages: what the state between is, and that clearing makes the POP of it.
use Rattle.model.proofs.Logic.{ℕ, ◌+◌, ◌-◌, ◌<◌, ◌≤◌, Bool, cond, List, ◌⊎◌, ⊎_elim, ap, refl, sym, ◌∙◌, ◌≡◌, eq-or-lt_of_le, arith, eqb, ltb, get_or}
use Rattle.model.proofs.Logic.{length, ext_get_or, eq-eqb, le-ltb, ne_eqb}
use Rattle.model.specs.Fill.{over}
use Rattle.model.specs.Registers.{r_g, r_l, sp, reg, with_parts, with_special, cleared, spilled, Sized}
use Rattle.model.specs.Frames.{count_of, last_output, restored, unslide, popped}
use Rattle.model.specs.PopOrder.{lowered, between, PopInOrder}
use Rattle.model.specs.declared.State.{State}
use Rattle.model.proofs.Fill.{flag, lt_or_le, length_over, over_in, over_above, over_below, over_before, over_after}
use Rattle.model.proofs.AdmissibleKept.{spec_other, spec_same}

-- with no outputs the hole is 0
no_output : (s : State) (x : ℕ) → count_of s x ≡ 0 → last_output s x ≡ 0
unfolding count_of last_output
no_output s x e =
    ⊎_elim (λ m. rw m) (λ m. let z : x ≡ 0 = sym (ap (λ (t : Bool). cond t (sp s r_l + 1) x) m) ∙ e in ap (λ (t : Bool). cond t 0 (cond (eqb x 0) 0 (reg s (x - 1)))) m ∙ rw (eq-eqb x 0 z)) (flag (ltb (sp s r_l) x))

module _ (s : State) (x h : ℕ) (ls : List ℕ) where
  abbrev f : ℕ → ℕ
  f = restored s x h ls

  abbrev g : List ℕ
  g = s.general

  abbrev low : ℕ
  low = lowered s x h

  abbrev top : ℕ
  top = sp s r_g

  popped_general : (popped s x h ls).general ≡ over f 0 top g
  unfolding popped unslide spilled with_special
  popped_general = refl

  -- from the new rL up POP leaves 0
  beyond : (k : ℕ) → low ≤ k → k < top → f k ≡ 0
  unfolding restored
  beyond k a b =
      let past : h + count_of s x ≤ k = omega arith in
      let le : h ≤ k = omega arith in
      ⊎_elim
      (λ here. rw (le-ltb k h (omega arith), eq-eqb k h (sym here)) (no_output s x (omega arith)))
      (λ above. rw (le-ltb k h (omega arith), ne_eqb k h (omega arith), le-ltb k (h + count_of s x) past))
      (eq-or-lt_of_le le)

  -- the general registers of the state between, as they are written
  pub first_general : (between s x h ls).general ≡ over f 0 low g
  unfolding between
  first_general =
      rw popped_general (ext_get_or 0 (over (reg s) low top (over f 0 top g)) (over f 0 low g)
      (length_over (reg s) low top (over f 0 top g) ∙ length_over f 0 top g ∙ sym (length_over f 0 low g))
      (λ k m. let n : k < length g = omega (arith, length_over (reg s) low top (over f 0 top g), length_over f 0 top g) in
      let q : k < length (over f 0 top g) = omega (arith, length_over f 0 top g) in
      ⊎_elim
      (λ lo. over_below (reg s) low top (over f 0 top g) k lo q ∙ over_in f 0 top g k (omega arith) (omega arith) n ∙ sym (over_in f 0 low g k (omega arith) lo n))
      (λ hi. ⊎_elim
      (λ lt. over_in (reg s) low top (over f 0 top g) k hi lt q ∙ sym (over_above f 0 low g k hi n))
      (λ out. over_above (reg s) low top (over f 0 top g) k out q ∙ over_above f 0 top g k out n ∙ sym (over_above f 0 low g k hi n))
      (lt_or_le k top))
      (lt_or_le k low)))

  first_writes : between s x h ls ≡ with_parts s (over f 0 low g) s.special
  unfolding between
  first_writes = ap (λ (l : List ℕ). with_parts s l s.special) first_general

  pub then_clears : (cleared (between s x h ls) low top).general ≡ (popped s x h ls).general
  unfolding cleared
  then_clears =
      rw (first_general, popped_general) (ext_get_or 0 (over (λ (k : ℕ). 0) low top (over f 0 low g)) (over f 0 top g)
      (length_over (λ (k : ℕ). 0) low top (over f 0 low g) ∙ length_over f 0 low g ∙ sym (length_over f 0 top g))
      (λ k m. let n : k < length g = omega (arith, length_over (λ (k : ℕ). 0) low top (over f 0 low g), length_over f 0 low g) in
      let q : k < length (over f 0 low g) = omega (arith, length_over f 0 low g) in
      ⊎_elim
      (λ lo. over_below (λ (k : ℕ). 0) low top (over f 0 low g) k lo q ∙ over_in f 0 low g k (omega arith) lo n ∙ sym (over_in f 0 top g k (omega arith) (omega arith) n))
      (λ hi. ⊎_elim
      (λ lt. over_in (λ (k : ℕ). 0) low top (over f 0 low g) k hi lt q ∙ sym (over_in f 0 top g k (omega arith) lt n ∙ beyond k hi lt))
      (λ out. over_above (λ (k : ℕ). 0) low top (over f 0 low g) k out q ∙ over_above f 0 low g k hi n ∙ sym (over_above f 0 top g k out n))
      (lt_or_le k top))
      (lt_or_le k low)))

  outside_final : (k : ℕ) → (k < low) ⊎ (top ≤ k) → reg (between s x h ls) k ≡ reg (popped s x h ls) k
  unfolding between
  outside_final k = ⊎_elim (over_before (reg s) low top (popped s x h ls).general k) (over_after (reg s) low top (popped s x h ls).general k)

  within_before : (k : ℕ) → low ≤ k → k < top → reg (between s x h ls) k ≡ reg s k
  within_before k a b = ap (λ (l : List ℕ). get_or l k 0) first_general ∙ over_after f 0 low g k a

  new_low : Sized s → sp (popped s x h ls) r_l ≡ low
  unfolding popped unslide spilled with_special
  new_low z = simp (spec_other, spec_same) (spec_same s.special r_l low z.specials refl)

pub pop_in_order : PopInOrder
pop_in_order = record {
  new_low = new_low;
  outside_final = outside_final;
  within_before = within_before;
  first_writes = first_writes;
  then_clears = then_clears;
}
