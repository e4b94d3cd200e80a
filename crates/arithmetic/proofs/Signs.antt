-- Sums, differences and the order of signed values, by the four cases of the signs: what the sign of a sum or a difference tells of overflow.
use Rattle.model.proofs.Prelude.{suc, zero, ℕ, ◌%◌, ◌+◌, ◌-◌, ◌<◌, ◌^◌, ◌≤◌, Bool, bool_beq, cond, false, not, true, ◌&&◌, ap, refl, sym, ◌∙◌, ◌≡◌}
use Rattle.model.proofs.Prelude.{add-suc, arith, leb, ltb, negsuc, pos, sub_ℕ, ℤ, ◌+ℤ◌, ◌-ℤ◌, lt_z, le-leb, le-ltb, lt-leb, lt-ltb, exact, is_negative}
use Rattle.model.proofs.Prelude.{flag_v, compared, is_signed, octa_of, signed_of, by_order, by_sign, leb_not_ltb, negative_high, negative_low, octa_minus}
use Rattle.model.proofs.Prelude.{pos_minus_pos, signed_high, signed_low}
use Rattle.model.specs.declared.Operands.{Operands}
use Rattle.model.specs.declared.Results.{Results}
use Rattle.arithmetic.proofs.Sums.{differ, flag_of, results_made}

pub exactly : (a : Operands) {x f : ℕ} (t : Bool) (n : ℤ) → x ≡ octa_of n → f ≡ cond t flag_v 0 → t ≡ not (is_signed n)
    → ◌≡◌ {A = Results} (record { x = x; rh = a.rh; rr = a.rr; flags = f }) (exact a n)
exactly a t n ex ef et = results_made a n ex (ef ∙ flag_of t n et)

differs_false : (t : Bool) → not (bool_beq false t) ≡ t
differs_false true = refl
differs_false false = refl

differs_true : (t : Bool) → not (bool_beq true t) ≡ not t
differs_true true = refl
differs_true false = refl

signed_minus : (a b : ℕ) → a < 2 ^ 63 + b → b ≤ 2 ^ 63 + a → is_signed (sub_ℕ a b) ≡ true
unfolding is_signed
signed_minus a b l m = by_order a b
    (λ h. rw (lt-ltb a b h) (lt-ltb (b - suc a) (2 ^ 63) (omega arith)))
    (λ h. rw (le-ltb a b h) (lt-ltb (a - b) (2 ^ 63) (omega arith)))

neg_minus_pos : (a b : ℕ) → negsuc a -ℤ pos b ≡ negsuc (a + b)
neg_minus_pos a zero = rw (lt-ltb 0 (suc a) (omega arith)) (ap negsuc (omega arith))
neg_minus_pos a (suc b) = ap negsuc (sym (add-suc a b))

-- v is the octabyte of the exact number n, and the test says whether n is no signed octabyte
abbrev Exactly : ℕ → Bool → ℤ → Type 0
Exactly v t n = (v ≡ octa_of n) × (t ≡ not (is_signed n))

-- ---- sums: two of one sign, and a sum of the other

module _ (y z v : ℕ) (fy : y < 2 ^ 64) (fz : z < 2 ^ 64) (e : v ≡ (y + z) % 2 ^ 64) where
  sum_low_low : y < 2 ^ 63 → z < 2 ^ 63 → Exactly v (not (differ y z) && differ y v) (signed_of y +ℤ signed_of z)
  unfolding octa_of is_signed
  sum_low_low hy hz =
      let w : v ≡ y + z = omega arith in
      rw (signed_low y hy, signed_low z hz, negative_low y hy, negative_low z hz, differs_false, w) (omega arith, leb_not_ltb (y + z) (2 ^ 63))

  sum_low_high : y < 2 ^ 63 → 2 ^ 63 ≤ z → Exactly v (not (differ y z) && differ y v) (signed_of y +ℤ signed_of z)
  sum_low_high hy hz =
      rw (signed_low y hy, signed_high z hz, negative_low y hy, negative_high z hz)
      (rw (octa_minus y (suc (2 ^ 64 - suc z)) (omega arith)) (omega arith), rw (signed_minus y (suc (2 ^ 64 - suc z)) (omega arith) (omega arith)) refl)

  sum_high_low : 2 ^ 63 ≤ y → z < 2 ^ 63 → Exactly v (not (differ y z) && differ y v) (signed_of y +ℤ signed_of z)
  sum_high_low hy hz =
      rw (signed_high y hy, signed_low z hz, negative_high y hy, negative_low z hz)
      (rw (octa_minus z (suc (2 ^ 64 - suc y)) (omega arith)) (omega arith), rw (signed_minus z (suc (2 ^ 64 - suc y)) (omega arith) (omega arith)) refl)

  below_zero : 2 ^ 63 ≤ y → 2 ^ 63 ≤ z → leb (2 ^ 63) v ≡ ltb (suc (2 ^ 64 - suc y + (2 ^ 64 - suc z))) (2 ^ 63)
  below_zero hy hz = by_sign v
      (λ h. rw (lt-leb (2 ^ 63) v h) (sym (le-ltb (suc (2 ^ 64 - suc y + (2 ^ 64 - suc z))) (2 ^ 63) (omega arith))))
      (λ h. rw (le-leb (2 ^ 63) v h) (sym (lt-ltb (suc (2 ^ 64 - suc y + (2 ^ 64 - suc z))) (2 ^ 63) (omega arith))))

  sum_high_high : 2 ^ 63 ≤ y → 2 ^ 63 ≤ z → Exactly v (not (differ y z) && differ y v) (signed_of y +ℤ signed_of z)
  unfolding octa_of is_signed
  sum_high_high hy hz =
      rw (signed_high y hy, signed_high z hz, negative_high y hy, negative_high z hz, differs_true)
      (omega arith, ap not (below_zero hy hz))

  pub sum_exact : Exactly v (not (differ y z) && differ y v) (signed_of y +ℤ signed_of z)
  sum_exact = by_sign y (λ hy. by_sign z (sum_low_low hy) (sum_low_high hy)) (λ hy. by_sign z (sum_high_low hy) (sum_high_high hy))

-- ---- differences: two of different signs, and a difference whose sign is not the first's

module _ (y z v : ℕ) (fy : y < 2 ^ 64) (fz : z < 2 ^ 64) (e : v ≡ (y + (2 ^ 64 - z)) % 2 ^ 64) where
  difference_low_low : y < 2 ^ 63 → z < 2 ^ 63 → Exactly v (differ y z && differ y v) (signed_of y -ℤ signed_of z)
  difference_low_low hy hz =
      rw (signed_low y hy, signed_low z hz, negative_low y hy, negative_low z hz, pos_minus_pos)
      (rw (octa_minus y z (omega arith)) e, rw (signed_minus y z (omega arith) (omega arith)) refl)

  difference_low_high : y < 2 ^ 63 → 2 ^ 63 ≤ z → Exactly v (differ y z && differ y v) (signed_of y -ℤ signed_of z)
  unfolding octa_of is_signed
  difference_low_high hy hz =
      let w : v ≡ y + suc (2 ^ 64 - suc z) = omega arith in
      rw (signed_low y hy, signed_high z hz, negative_low y hy, negative_high z hz, differs_false, w) (omega arith, leb_not_ltb (y + suc (2 ^ 64 - suc z)) (2 ^ 63))

  above_zero : 2 ^ 63 ≤ y → z < 2 ^ 63 → leb (2 ^ 63) v ≡ ltb (2 ^ 64 - suc y + z) (2 ^ 63)
  above_zero hy hz = by_sign v
      (λ h. rw (lt-leb (2 ^ 63) v h) (sym (le-ltb (2 ^ 64 - suc y + z) (2 ^ 63) (omega arith))))
      (λ h. rw (le-leb (2 ^ 63) v h) (sym (lt-ltb (2 ^ 64 - suc y + z) (2 ^ 63) (omega arith))))

  difference_high_low : 2 ^ 63 ≤ y → z < 2 ^ 63 → Exactly v (differ y z && differ y v) (signed_of y -ℤ signed_of z)
  unfolding octa_of is_signed
  difference_high_low hy hz =
      rw (signed_high y hy, signed_low z hz, negative_high y hy, negative_low z hz, neg_minus_pos, differs_true) (omega arith, ap not (above_zero hy hz))

  difference_high_high : 2 ^ 63 ≤ y → 2 ^ 63 ≤ z → Exactly v (differ y z && differ y v) (signed_of y -ℤ signed_of z)
  difference_high_high hy hz =
      rw (signed_high y hy, signed_high z hz, negative_high y hy, negative_high z hz) (
        rw (octa_minus (suc (2 ^ 64 - suc z)) (suc (2 ^ 64 - suc y)) (omega arith)) (omega arith),
        rw (signed_minus (suc (2 ^ 64 - suc z)) (suc (2 ^ 64 - suc y)) (omega arith) (omega arith)) refl,
      )

  pub difference_exact : Exactly v (differ y z && differ y v) (signed_of y -ℤ signed_of z)
  difference_exact =
      by_sign y (λ hy. by_sign z (difference_low_low hy) (difference_low_high hy)) (λ hy. by_sign z (difference_high_low hy) (difference_high_high hy))

-- ---- the order

absurd_test : {X : Type 0} → false ≡ true → X
absurd_test t = absurd (let n : ◌≡◌ {A = ℕ} 0 1 = cc in omega arith)

complements : (y z : ℕ) → y < 2 ^ 64 → z < 2 ^ 64 → ltb y z ≡ ltb (2 ^ 64 - suc z) (2 ^ 64 - suc y)
complements y z fy fz = by_order y z
    (λ h. rw (lt-ltb y z h) (sym (lt-ltb (2 ^ 64 - suc z) (2 ^ 64 - suc y) (omega arith))))
    (λ h. rw (le-ltb y z h) (sym (le-ltb (2 ^ 64 - suc z) (2 ^ 64 - suc y) (omega arith))))

module _ (y z : ℕ) (fy : y < 2 ^ 64) (fz : z < 2 ^ 64) where
  -- of different signs, the negative one is below
  pub order_differ : differ y z ≡ true → is_negative y ≡ lt_z (signed_of y) (signed_of z)
  order_differ = by_sign y
      (λ hy. by_sign z
      (λ hz. rw (negative_low y hy, negative_low z hz) (λ t. absurd_test t))
      (λ hz. rw (negative_low y hy, negative_high z hz, signed_low y hy, signed_high z hz) (λ t. refl)))
      (λ hy. by_sign z
      (λ hz. rw (negative_high y hy, negative_low z hz, signed_high y hy, signed_low z hz) (λ t. refl))
      (λ hz. rw (negative_high y hy, negative_high z hz) (λ t. absurd_test t)))

  -- of one sign, the octabytes are in order
  pub order_same : differ y z ≡ false → ltb y z ≡ lt_z (signed_of y) (signed_of z)
  order_same = by_sign y
      (λ hy. by_sign z
      (λ hz. rw (signed_low y hy, signed_low z hz) (λ t. refl))
      (λ hz. rw (negative_low y hy, negative_high z hz) (λ t. absurd_test (sym t))))
      (λ hy. by_sign z
      (λ hz. rw (negative_high y hy, negative_low z hz) (λ t. absurd_test (sym t)))
      (λ hz. rw (signed_high y hy, signed_high z hz) (λ t. complements y z fy fz)))

-- −1, 0 or 1 by the tests

pub compared_below : (a b : ℤ) → lt_z a b ≡ true → 0xFFFFFFFFFFFFFFFF ≡ octa_of (compared a b)
unfolding octa_of compared
compared_below a b t = rw t refl

pub compared_above : (a b : ℤ) → lt_z a b ≡ false → lt_z b a ≡ true → 1 ≡ octa_of (compared a b)
unfolding octa_of compared
compared_above a b f t = rw (f, t) refl

pub compared_equal : (a b : ℤ) → lt_z a b ≡ false → lt_z b a ≡ false → 0 ≡ octa_of (compared a b)
unfolding octa_of compared
compared_equal a b f t = rw (f, t) refl
