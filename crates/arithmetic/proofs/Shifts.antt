-- Shifts as products and quotients by a power of two.
use Rattle.model.proofs.Prelude.{suc, ℕ, ◌%◌, ◌*◌, ◌+◌, ◌-◌, ◌/◌, ◌<◌, ◌^◌, ◌≤◌, false, true, ⊎_elim, ap, refl, sym, ◌∙◌, ◌≡◌, div-eq_of_lt, div-le_self}
use Rattle.model.proofs.Prelude.{eq-zero-or-pos, le-div_iff_mul-le, mul-le-mul_right, mul-mod_left, arith, eqb, pos, ◌*ℤ◌, pow-add, pow_pos, mag, eq-eqb}
use Rattle.model.proofs.Prelude.{le-leb, le-ltb, lt-leb, lt-ltb, ne_eqb, floor_by, is_signed, octa_of, power_of, signed_of, by_order, by_sign, far, octa_pos}
use Rattle.model.proofs.Prelude.{power_far, power_near, signed_high, signed_low, signed_neg, signed_pos}
use Rattle.arithmetic.proofs.Digits.{factor_pos}

-- ---- left

pub left_far : (y z : ℕ) → 64 ≤ z → 0 ≡ octa_of (pos (y * power_of z))
unfolding octa_of
left_far y z h = rw (power_far z h) (sym (mul-mod_left y (2 ^ 64)))

pub left_near : (y z : ℕ) → z < 64 → y * 2 ^ z % 2 ^ 64 ≡ octa_of (pos (y * power_of z))
unfolding octa_of
left_near y z h = rw (power_near z (omega arith)) refl

-- by k, of which 2^63 is a multiple
module _ (y p k : ℕ) (p_pos : 0 < p) (e : k * p ≡ 2 ^ 63) where
  small : mag (signed_of y) < k → is_signed (signed_of y *ℤ pos p) ≡ true
  small = by_sign y
      (λ h. rw (signed_low y h, signed_pos) (λ l. lt-ltb (y * p) (2 ^ 63) (omega (arith, mul-le-mul_right p l))))
      (λ h. rw (signed_high y h, signed_neg) (λ l. le-leb (suc (2 ^ 64 - suc y) * p) (2 ^ 63) (omega (arith, mul-le-mul_right p l))))

  large : k ≤ mag (signed_of y) → is_signed (signed_of y *ℤ pos p) ≡ false
  large = by_sign y
      (λ h. rw (signed_low y h, signed_pos) (λ l. le-ltb (y * p) (2 ^ 63) (omega (arith, mul-le-mul_right p l))))
      (λ h. rw (signed_high y h, signed_neg) (λ l. lt-leb (suc (2 ^ 64 - suc y) * p) (2 ^ 63) (omega (arith, mul-le-mul_right p l))))

  tested : eqb (mag (signed_of y) / k) 0 ≡ is_signed (signed_of y *ℤ pos p)
  tested = by_order (mag (signed_of y)) k
      (λ l. rw (small l) (eq-eqb (mag (signed_of y) / k) 0 (div-eq_of_lt l)))
      (λ l. rw (large l) (ne_eqb (mag (signed_of y) / k) 0 (λ n. omega (arith, (le-div_iff_mul-le {k = k} {x = 1} {y = mag (signed_of y)} (factor_pos k p (omega arith))).1 (omega arith)))))

pub signed_near : (y z : ℕ) → z < 64 → eqb (mag (signed_of y) / 2 ^ (63 - z)) 0 ≡ is_signed (signed_of y *ℤ pos (power_of z))
signed_near y z h =
    let e : 63 - z + z ≡ 63 = omega arith in
    rw (power_near z (omega arith)) (tested y (2 ^ z) (2 ^ (63 - z)) (pow_pos z) (sym (pow-add 2 (63 - z) z) ∙ ap (λ (k : ℕ). 2 ^ k) e))

-- by 64 or more only 0 is left whole
pub signed_far : (y z : ℕ) → 64 ≤ z → eqb y 0 ≡ is_signed (signed_of y *ℤ pos (power_of z))
signed_far y z h = rw (power_far z h) (⊎_elim
    (λ e. rw (e, signed_low 0 (omega arith), signed_pos) refl)
    (λ n. ne_eqb y 0 (omega arith) ∙ sym (far y (2 ^ 64) n (omega arith)))
    (eq-zero-or-pos y))

-- ---- right

pub right_far : (y z : ℕ) → y < 2 ^ 64 → 64 ≤ z → 0 ≡ y / power_of z
right_far y z f h = rw (power_far z h) (sym (div-eq_of_lt f))

pub right_near : (y z : ℕ) → z < 64 → y / 2 ^ z ≡ y / power_of z
right_near y z h = rw (power_near z (omega arith)) refl

pub right_low : (y p : ℕ) → y < 2 ^ 63 → mag (signed_of y) / p ≡ octa_of (floor_by (signed_of y) p)
unfolding floor_by
right_low y p h = rw (signed_low y h) (sym (octa_pos (y / p) (omega (arith, div-le_self y p))))

pub right_high : (y p : ℕ) → 2 ^ 63 ≤ y → 2 ^ 64 - 1 - mag (signed_of y) / p ≡ octa_of (floor_by (signed_of y) p)
unfolding floor_by octa_of
right_high y p h = rw (signed_high y h) (omega (arith, div-le_self (2 ^ 64 - suc y) p))
