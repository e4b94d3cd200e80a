-- Division rounded down, by signs and magnitudes: a quotient below 0 is one more than the magnitudes' less one, and what is left is left of the divisor.
use Rattle.model.proofs.Prelude.{suc, zero, ℕ, ◌%◌, ◌+◌, ◌-◌, ◌/◌, ◌<◌, Bool, bool_beq, cond, false, not, ◌&&◌, ap, ap₂, refl, sym, ◌∙◌, ◌≡◌, zero-div}
use Rattle.model.proofs.Prelude.{zero-mod, add-one, arith, eqb, nat_abs, negsuc, pos, ℤ, non_neg, ne_eqb, is_negative, floor_by, floor_quotient, floor_remainder}
use Rattle.model.proofs.Prelude.{signed_of, by_sign, floor_above, floor_below, floor_negatives, floor_same, floor_zero, negative_high, negative_low, signed_high}
use Rattle.model.proofs.Prelude.{signed_low, with_sign}
use Rattle.arithmetic.proofs.Sums.{differ}

abbrev pub quotient_of : Bool → ℕ → ℕ → ℕ
quotient_of up n k = cond (up && not (eqb n 0)) ((n - 1) / k + 1) (n / k)

abbrev pub remainder_of : Bool → ℕ → ℕ → ℕ
remainder_of up n k = cond (up && not (eqb n 0)) (k - 1 - (n - 1) % k) (n % k)

less_one : (a : ℕ) → suc a - 1 ≡ a
less_one a = omega arith

not_zero : (a : ℕ) → eqb (suc a) 0 ≡ false
not_zero a = ne_eqb (suc a) 0 (omega arith)

-- whether the signs of two whole numbers differ
abbrev apart : ℤ → ℤ → Bool
apart y z = not (bool_beq (not (non_neg y)) (not (non_neg z)))

quotient_parts : (y z : ℤ) → with_sign (apart y z) (quotient_of (apart y z) (nat_abs y) (nat_abs z)) ≡ floor_quotient y z
unfolding floor_by floor_quotient
quotient_parts (pos a) (pos b) = refl
quotient_parts (pos zero) (negsuc b) = rw zero-div refl
quotient_parts (pos (suc a)) (negsuc b) = rw (not_zero a, less_one a, add-one) refl
quotient_parts (negsuc a) (pos b) = rw (not_zero a, less_one a, add-one) refl
quotient_parts (negsuc a) (negsuc b) = refl

remainder_parts : (y z : ℤ) → 0 < nat_abs z → with_sign (not (non_neg z)) (remainder_of (apart y z) (nat_abs y) (nat_abs z)) ≡ floor_remainder y z
remainder_parts (pos a) (pos b) p = sym (floor_same a b)
remainder_parts (pos zero) (negsuc b) p = rw zero-mod (sym (floor_zero b))
remainder_parts (pos (suc a)) (negsuc b) p = rw (not_zero a, less_one a, less_one b) (sym (floor_above a b))
remainder_parts (negsuc a) (pos b) p = rw (not_zero a, less_one a) (sym (floor_below a b p))
remainder_parts (negsuc a) (negsuc b) p = sym (floor_negatives a b)

-- ---- octabytes

sign_signed : (v : ℕ) → is_negative v ≡ not (non_neg (signed_of v))
sign_signed v = by_sign v (λ h. rw (negative_low v h, signed_low v h) refl) (λ h. rw (negative_high v h, signed_high v h) refl)

pub magnitude_pos : (v : ℕ) → (v ≡ 0 → ⊥) → 0 < nat_abs (signed_of v)
magnitude_pos v n = by_sign v (λ h. rw (signed_low v h) (omega arith)) (λ h. rw (signed_high v h) (omega arith))

-- d, whether the signs differ; t, the divisor's; q and r by magnitudes
module _ (y z q r : ℕ) (d t : Bool) (nz : z ≡ 0 → ⊥) (ed : d ≡ differ y z) (et : t ≡ is_negative z) where
  apart_is : d ≡ apart (signed_of y) (signed_of z)
  apart_is = ed ∙ ap₂ (λ (i j : Bool). not (bool_beq i j)) (sign_signed y) (sign_signed z)

  pub quotient_is : q ≡ quotient_of d (nat_abs (signed_of y)) (nat_abs (signed_of z)) → with_sign d q ≡ floor_quotient (signed_of y) (signed_of z)
  quotient_is e =
      ap (λ (k : ℕ). with_sign d k) e ∙ ap (λ (b : Bool). with_sign b (quotient_of b (nat_abs (signed_of y)) (nat_abs (signed_of z)))) apart_is
      ∙ quotient_parts (signed_of y) (signed_of z)

  pub remainder_is : r ≡ remainder_of d (nat_abs (signed_of y)) (nat_abs (signed_of z)) → with_sign t r ≡ floor_remainder (signed_of y) (signed_of z)
  remainder_is e =
      ap₂ with_sign (et ∙ sign_signed z) (e ∙ ap (λ (b : Bool). remainder_of b (nat_abs (signed_of y)) (nat_abs (signed_of z))) apart_is)
      ∙ remainder_parts (signed_of y) (signed_of z) (magnitude_pos z nz)
