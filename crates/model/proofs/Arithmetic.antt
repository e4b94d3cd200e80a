-- Theorem: what is meant by the words of whole numbers.
use Rattle.model.proofs.Logic.{suc, zero, ℕ, ◌%◌, ◌*◌, ◌+◌, ◌-◌, ◌<◌, ◌^◌, ◌≤◌, true, inl, inr, ◌⊎◌, ⊎_elim, ap, refl, sym, ◌∙◌, ◌≡◌, div-eq_of_lt}
use Rattle.model.proofs.Logic.{eq-zero-or-pos, lt_of_lt_of_le, mod-lt, mul_assoc, mul-mod_left, zero-mul, arith, nat_abs, negsuc, neg_ℤ, pos, ℤ, +ℤ_comm}
use Rattle.model.proofs.Logic.{◌*ℤ◌, -ℤ-+ℤ_cancel, ◌+ℤ◌, pow-add, pow_mono, split, non_neg, leb-true, lt-ltb, ltb-true}
use Rattle.model.specs.Whole.{signed_of, octa_of, is_signed, product_high, product_low, floor_by, floor_quotient, floor_remainder, power_of}
use Rattle.model.specs.ArithmeticMeant.{Stands, Shifts, ArithmeticMeant}
use Rattle.model.proofs.Whole.{by_order, by_sign, signed_low, signed_high, octa_pos, pos_minus_pos, power_near, power_far, octa_times, far, floor_same, floor_negatives, floor_below, floor_above, floor_zero}

-- ---- division

whole : (y z : ℤ) → floor_quotient y z *ℤ z +ℤ floor_remainder y z ≡ y
unfolding floor_remainder
whole y z = +ℤ_comm (floor_quotient y z *ℤ z) _ ∙ -ℤ-+ℤ_cancel y (floor_quotient y z *ℤ z)

-- a remainder r of z
abbrev Remains : ℤ → ℤ → Type 0
Remains r z = (nat_abs r < nat_abs z) × ((r ≡ pos 0) ⊎ (non_neg r ≡ non_neg z))

below_zero : (n b : ℕ) → n < suc b → Remains (neg_ℤ (pos n)) (negsuc b)
below_zero zero b l = (l, inl refl)
below_zero (suc n) b l = (l, inr refl)

remains : (y z : ℤ) → 0 < nat_abs z → Remains (floor_remainder y z) z
remains (pos a) (pos b) p = rw (floor_same a b) (mod-lt a p, inr refl)
remains (pos zero) (negsuc b) p = rw (floor_zero b) (p, inl refl)
remains (pos (suc a)) (negsuc b) p = rw (floor_above a b) (below_zero (b - a % suc b) b (omega arith))
remains (negsuc a) (pos b) p = rw (floor_below a b p) (omega arith, inr refl)
remains (negsuc a) (negsuc b) p = rw (floor_negatives a b) (below_zero (suc a % suc b) b (mod-lt (suc a) p))

-- ---- octabytes

stands : (v : ℕ) → v < 2 ^ 64 → Stands v
unfolding octa_of is_signed
stands v f = by_sign v
    (λ h. record {
      back = rw (signed_low v h) (octa_pos v f);
      within = rw (signed_low v h) (lt-ltb v (2 ^ 63) h);
      negative = λ e. absurd (omega (arith, leb-true (2 ^ 63) v e));
    })
    (λ h. record {
      back = rw (signed_high v h) (omega arith);
      within = rw (signed_high v h) (lt-ltb (2 ^ 64 - suc v) (2 ^ 63) (omega arith));
      negative = λ e. rw (signed_high v h) (sym (pos_minus_pos v (2 ^ 64) ∙ rw (lt-ltb v (2 ^ 64) f) refl));
    })

signed_back : (n : ℤ) → is_signed n ≡ true → signed_of (octa_of n) ≡ n
unfolding octa_of is_signed
signed_back (pos n) e =
    let l : n < 2 ^ 63 = ltb-true n (2 ^ 63) e in
    let w : n % 2 ^ 64 ≡ n = omega arith in
    rw w (signed_low n l)
signed_back (negsuc n) e =
    let l : n < 2 ^ 63 = ltb-true n (2 ^ 63) e in
    signed_high (2 ^ 64 - suc (n % 2 ^ 64)) (omega arith) ∙ ap negsuc (omega arith)

product : (y z : ℕ) → product_high y z * 2 ^ 64 + product_low y z ≡ y * z
unfolding product_high product_low
product y z = split (y * z) 64

-- ---- shifts

-- a count of 64 or more leaves nothing
emptied : (v count : ℕ) → 64 ≤ count → v * 2 ^ count % 2 ^ 64 ≡ 0
emptied v count l =
    let e : count - 64 + 64 ≡ count = omega arith in
    ap (λ (k : ℕ). v * 2 ^ k % 2 ^ 64) (sym e) ∙ ap (λ (n : ℕ). v * n % 2 ^ 64) (pow-add 2 (count - 64) 64)
    ∙ ap (λ (n : ℕ). n % 2 ^ 64) (sym (mul_assoc v (2 ^ (count - 64)) (2 ^ 64))) ∙ mul-mod_left (v * 2 ^ (count - 64)) (2 ^ 64)

floor_far : (v p q : ℕ) → v < 2 ^ 64 → 2 ^ 64 ≤ p → 2 ^ 64 ≤ q → floor_by (signed_of v) p ≡ floor_by (signed_of v) q
unfolding floor_by
floor_far v p q f l m = by_sign v
    (λ h. rw (signed_low v h) (ap pos (div-eq_of_lt (omega arith) ∙ sym (div-eq_of_lt (omega arith)))))
    (λ h. rw (signed_high v h) (ap negsuc (div-eq_of_lt (omega arith) ∙ sym (div-eq_of_lt (omega arith)))))

overflow_far : (v p q : ℕ) → 2 ^ 64 ≤ p → 2 ^ 64 ≤ q → is_signed (signed_of v *ℤ pos p) ≡ is_signed (signed_of v *ℤ pos q)
unfolding is_signed
overflow_far v p q l m = ⊎_elim
    (λ e. rw (e, signed_low 0 (omega arith)) (simp zero-mul))
    (λ n. far v p n l ∙ sym (far v q n m))
    (eq-zero-or-pos v)

shifts : (v count : ℕ) → v < 2 ^ 64 → Shifts v count
unfolding octa_of
shifts v count f = by_order count 64
    (λ h. let e : power_of count ≡ 2 ^ count = power_near count (omega arith) in
    record { left = rw e; left_signed = rw e; overflows = rw e; right = rw e; right_signed = rw e })
    (λ h. let e : power_of count ≡ 2 ^ 64 = power_far count h in
    let l : 2 ^ 64 ≤ 2 ^ count = pow_mono {i = 64} {j = count} h in
    let m : v * 2 ^ 64 % 2 ^ 64 ≡ v * 2 ^ count % 2 ^ 64 = mul-mod_left v (2 ^ 64) ∙ sym (emptied v count h) in
    record {
      left = rw e m;
      left_signed = rw e (octa_times v (2 ^ 64) f ∙ m ∙ sym (octa_times v (2 ^ count) f));
      overflows = rw e (overflow_far v (2 ^ 64) (2 ^ count) (omega arith) l);
      right = rw e (div-eq_of_lt f ∙ sym (div-eq_of_lt (lt_of_lt_of_le f l)));
      right_signed = rw e (floor_far v (2 ^ 64) (2 ^ count) f (omega arith) l);
    })

pub arithmetic_meant : ArithmeticMeant
arithmetic_meant = record {
  divides = λ y z p. record { whole = whole y z; smaller = (remains y z p).0; side = (remains y z p).1 };
  stands = stands;
  signed_back = signed_back;
  product = product;
  shifts = shifts;
}
