-- Laws of whole numbers and octabytes: signed values by the octabyte's sign, octabytes of whole numbers by theirs, sign and magnitude, products with a
-- power, division rounded down by the four cases of the signs.
use Rattle.model.proofs.Logic.{suc, zero, ℕ, ◌%◌, ◌*◌, ◌+◌, ◌-◌, ◌/◌, ◌<◌, ◌^◌, ◌≤◌, Bool, bool_beq, bool_not_not, cond, false, not, true, inl, inr, ◌⊎◌}
use Rattle.model.proofs.Logic.{⊎_elim, ap, refl, sym, ◌∙◌, ◌≡◌, add-mul, add-zero, div-add-mod', min-eq_left, min-eq_right, mod-lt}
use Rattle.model.proofs.Logic.{mul-add-mod_self_right, mul_comm, mul-le-mul_right, mul-zero, sub-zero, zero-div, zero-mul, arith, leb, ltb, nat_abs}
use Rattle.model.proofs.Logic.{negsuc, neg_ℤ, neg_ℤ-neg_ℤ, pos, sub_ℕ, ℤ, ◌*ℤ◌, ◌-ℤ◌, le-leb, le-ltb, leb-false, leb-true, lt-leb, lt-ltb}
use Rattle.model.specs.Control.{is_negative}
use Rattle.model.specs.Whole.{signed_of, octa_of, is_signed, floor_by, floor_quotient, floor_remainder, power_of}

-- ---- tests

flipped : (a b : ℕ) (t : Bool) → leb a b ≡ t → ltb b a ≡ not t
flipped a b true e = le-ltb b a (leb-true a b e)
flipped a b false e = lt-ltb b a (leb-false a b e)

-- a test is its opposite's negation
pub ltb_not_leb : (a b : ℕ) → ltb b a ≡ not (leb a b)
ltb_not_leb a b = flipped a b (leb a b) refl

pub leb_not_ltb : (a b : ℕ) → leb b a ≡ not (ltb a b)
leb_not_ltb a b = sym (bool_not_not (leb b a)) ∙ ap not (sym (ltb_not_leb b a))

tested : (a b : ℕ) (t : Bool) → leb a b ≡ t → (b < a) ⊎ (a ≤ b)
tested a b true e = inr (leb-true a b e)
tested a b false e = inl (leb-false a b e)

-- what follows below a, and from a on, follows
pub by_order : {P : Type 0} (b a : ℕ) → (b < a → P) → (a ≤ b → P) → P
by_order b a f g = ⊎_elim f g (tested a b (leb a b) refl)

-- by the sign of an octabyte
pub by_sign : {P : Type 0} (v : ℕ) → (v < 2 ^ 63 → P) → (2 ^ 63 ≤ v → P) → P
by_sign v f g = by_order v (2 ^ 63) f g

-- ---- octabytes as signed numbers

pub negative_low : (v : ℕ) → v < 2 ^ 63 → is_negative v ≡ false
negative_low v h = lt-leb (2 ^ 63) v h

pub negative_high : (v : ℕ) → 2 ^ 63 ≤ v → is_negative v ≡ true
negative_high v h = le-leb (2 ^ 63) v h

pub signed_low : (v : ℕ) → v < 2 ^ 63 → signed_of v ≡ pos v
unfolding signed_of
signed_low v h = rw (negative_low v h) refl

pub signed_high : (v : ℕ) → 2 ^ 63 ≤ v → signed_of v ≡ negsuc (2 ^ 64 - suc v)
unfolding signed_of
signed_high v h = rw (negative_high v h) refl

-- ---- octabytes of n and −n

pub octa_pos : (n : ℕ) → n < 2 ^ 64 → octa_of (pos n) ≡ n
unfolding octa_of
octa_pos n h = omega arith

pub octa_neg : (n : ℕ) → octa_of (neg_ℤ (pos n)) ≡ (2 ^ 64 - n % 2 ^ 64) % 2 ^ 64
unfolding octa_of
octa_neg zero = refl
octa_neg (suc n) = omega arith

pub signed_pos : (n : ℕ) → is_signed (pos n) ≡ ltb n (2 ^ 63)
unfolding is_signed
signed_pos n = refl

pub signed_neg : (n : ℕ) → is_signed (neg_ℤ (pos n)) ≡ leb n (2 ^ 63)
unfolding is_signed
signed_neg zero = refl
signed_neg (suc n) = refl

-- a − b
pub octa_minus : (a b : ℕ) → b ≤ 2 ^ 64 → octa_of (sub_ℕ a b) ≡ (a + (2 ^ 64 - b)) % 2 ^ 64
unfolding octa_of
octa_minus a b l = by_order a b (λ h. rw (lt-ltb a b h) (omega arith)) (λ h. rw (le-ltb a b h) (omega arith))

pub pos_minus_pos : (a b : ℕ) → pos a -ℤ pos b ≡ sub_ℕ a b
pos_minus_pos a zero = rw (le-ltb a 0 (omega arith), add-zero, sub-zero) refl
pos_minus_pos a (suc b) = refl

pub minus_pos : (a b : ℕ) → b ≤ a → sub_ℕ a b ≡ pos (a - b)
minus_pos a b h = rw (le-ltb a b h) refl

pub minus_neg : (a b : ℕ) → a ≤ b → sub_ℕ a b ≡ neg_ℤ (pos (b - a))
minus_neg a b l = by_order a b
    (λ h. let e : b - a ≡ suc (b - suc a) = omega arith in rw (lt-ltb a b h, e) refl)
    (λ h. let e : b - a ≡ 0 = omega arith in let f : a - b ≡ 0 = omega arith in rw (le-ltb a b h, e, f) refl)

-- ---- sign and magnitude

abbrev pub with_sign : Bool → ℕ → ℤ
with_sign s n = cond s (neg_ℤ (pos n)) (pos n)

pub magnitude_low : (v : ℕ) → v < 2 ^ 63 → nat_abs (signed_of v) ≡ v
magnitude_low v h = rw (signed_low v h) refl

pub magnitude_high : (v : ℕ) → 2 ^ 63 ≤ v → nat_abs (signed_of v) ≡ suc (2 ^ 64 - suc v)
magnitude_high v h = rw (signed_high v h) refl

pub signed_parts : (v : ℕ) → signed_of v ≡ with_sign (is_negative v) (nat_abs (signed_of v))
signed_parts v = by_sign v (λ h. rw (negative_low v h, signed_low v h) refl) (λ h. rw (negative_high v h, signed_high v h) refl)

-- the upper octabyte does not matter
pub octa_low : (s : Bool) (h l : ℕ) → octa_of (with_sign s (h * 2 ^ 64 + l)) ≡ octa_of (with_sign s l)
unfolding octa_of
octa_low false h l = mul-add-mod_self_right h (2 ^ 64) l
octa_low true h l = octa_neg (h * 2 ^ 64 + l) ∙ ap (λ (n : ℕ). (2 ^ 64 - n) % 2 ^ 64) (mul-add-mod_self_right h (2 ^ 64) l) ∙ sym (octa_neg l)

pub product_parts : (s t : Bool) (a b : ℕ) → with_sign s a *ℤ with_sign t b ≡ with_sign (not (bool_beq s t)) (a * b)
product_parts false false a b = refl
product_parts false true a zero = rw mul-zero refl
product_parts false true a (suc b) = refl
product_parts true false zero b = rw zero-mul refl
product_parts true false (suc a) b = refl
product_parts true true zero zero = refl
product_parts true true zero (suc b) = rw zero-mul refl
product_parts true true (suc a) zero = rw mul-zero refl
product_parts true true (suc a) (suc b) = refl

-- ---- powers

pub power_near : (count : ℕ) → count ≤ 64 → power_of count ≡ 2 ^ count
unfolding power_of
power_near count l = ap (λ (k : ℕ). 2 ^ k) (min-eq_left l)

pub power_far : (count : ℕ) → 64 ≤ count → power_of count ≡ 2 ^ 64
unfolding power_of
power_far count l = rw (min-eq_right l) refl

-- two numbers that make a multiple of 2^64
complement : (a b m : ℕ) → a + b ≡ m * 2 ^ 64 → (2 ^ 64 - a % 2 ^ 64) % 2 ^ 64 ≡ b % 2 ^ 64
complement a b m e = omega arith

pub octa_times : (v p : ℕ) → v < 2 ^ 64 → octa_of (signed_of v *ℤ pos p) ≡ v * p % 2 ^ 64
unfolding octa_of
octa_times v p f = by_sign v
    (λ h. rw (signed_low v h) refl)
    (λ h. let e : suc (2 ^ 64 - suc v) + v ≡ 2 ^ 64 = omega arith in
    rw (signed_high v h, octa_neg) (complement (suc (2 ^ 64 - suc v) * p) (v * p) p (sym (add-mul (suc (2 ^ 64 - suc v)) v p) ∙ ap (λ (n : ℕ). n * p) e ∙ mul_comm (2 ^ 64) p)))

-- an octabyte that is not 0, times 2^64 or more
pub far : (v p : ℕ) → 0 < v → 2 ^ 64 ≤ p → is_signed (signed_of v *ℤ pos p) ≡ false
far v p n l = by_sign v
    (λ h. rw (signed_low v h, signed_pos) (le-ltb (v * p) (2 ^ 63) (omega (arith, mul-le-mul_right p n))))
    (λ h. rw (signed_high v h, signed_neg) (lt-leb (suc (2 ^ 64 - suc v) * p) (2 ^ 63) (omega arith)))

-- ---- division rounded down: where the signs agree the magnitudes' own, else one more and what is left of z

module _ (a b : ℕ) where
  pub floor_same : floor_remainder (pos a) (pos b) ≡ pos (a % b)
  unfolding floor_by floor_quotient floor_remainder
  floor_same = pos_minus_pos a (a / b * b) ∙ minus_pos a (a / b * b) (omega (arith, div-add-mod' a b)) ∙ ap pos (omega (arith, div-add-mod' a b))

  pub floor_negatives : floor_remainder (negsuc a) (negsuc b) ≡ neg_ℤ (pos (suc a % suc b))
  unfolding floor_by floor_quotient floor_remainder
  floor_negatives =
      let e : suc a - suc a / suc b * suc b ≡ suc a % suc b = omega (arith, div-add-mod' (suc a) (suc b)) in
      rw neg_ℤ-neg_ℤ (minus_neg (suc a / suc b * suc b) (suc a) (omega (arith, div-add-mod' (suc a) (suc b))) ∙ ap (λ (n : ℕ). neg_ℤ (pos n)) e)

  pub floor_below : 0 < b → floor_remainder (negsuc a) (pos b) ≡ pos (b - 1 - a % b)
  unfolding floor_by floor_quotient floor_remainder
  floor_below p =
      rw neg_ℤ-neg_ℤ (minus_pos (suc (a / b) * b) (suc a) (omega (arith, div-add-mod' a b, mod-lt a p)) ∙ ap pos (omega (arith, div-add-mod' a b, mod-lt a p)))

  pub floor_above : floor_remainder (pos (suc a)) (negsuc b) ≡ neg_ℤ (pos (b - a % suc b))
  unfolding floor_by floor_quotient floor_remainder
  floor_above =
      let l : a % suc b < suc b = mod-lt a (omega arith) in
      let e : suc (a / suc b) * suc b - suc a ≡ b - a % suc b = omega (arith, div-add-mod' a (suc b)) in
      pos_minus_pos (suc a) (suc (a / suc b) * suc b) ∙ minus_neg (suc a) (suc (a / suc b) * suc b) (omega (arith, div-add-mod' a (suc b))) ∙ ap (λ (n : ℕ). neg_ℤ (pos n)) e

pub floor_zero : (b : ℕ) → floor_remainder (pos 0) (negsuc b) ≡ pos 0
unfolding floor_by floor_quotient floor_remainder
floor_zero b = rw (zero-div, zero-mul) refl
