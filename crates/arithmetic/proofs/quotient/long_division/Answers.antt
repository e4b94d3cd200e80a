-- `long_division` meets its contract: dividend and divisor times p = 2^s, in two digits; the quotient is that of both as they were, the remainder p times theirs.
use Rattle.model.proofs.Prelude.{ℕ, ◌%◌, ◌*◌, ◌+◌, ◌-◌, ◌/◌, ◌<◌, ◌^◌, ◌≤◌, ap, ap₂, refl, subst, sym, ◌∙◌, ◌≡◌, div-add-mod', div-lt_iff_lt-mul, lt_of_not-le}
use Rattle.model.proofs.Prelude.{mod-eq_of_lt, mod-lt, mul-div_cancel, mul-div-mul_right, mul-le-mul_right, arith, digits_div, digits_lt, pow-add, pow_mono}
use Rattle.model.proofs.Prelude.{pow_pos, shr-shr, wide_of}
use Rattle.arithmetic.proofs.Digits.{quotient_digit}
use Rattle.arithmetic.proofs.quotient.long_division.Goals as goal

-- ---- over plain numbers

shift_small : (z s : ℕ) → 0 < z → z * 2 ^ s < 2 ^ 64 → s < 64
shift_small z s hz h = lt_of_not-le (λ g. omega (arith, pow_mono {i = 64} {j = s} g, mul-le-mul_right (2 ^ s) hz))

-- what a left shift by s pushes out of an octabyte
pushed : (y s : ℕ) → s < 64 → y / 2 / 2 ^ (63 - s) ≡ y * 2 ^ s / 2 ^ 64
pushed y s h =
    let e : 1 + (63 - s) + s ≡ 64 = omega arith in
    shr-shr y 1 (63 - s) ∙ sym (mul-div-mul_right y (2 ^ (1 + (63 - s))) (pow_pos s))
    ∙ ap (λ (n : ℕ). y * 2 ^ s / n) (sym (pow-add 2 (1 + (63 - s)) s) ∙ ap (λ (n : ℕ). 2 ^ n) e)

pushed_small : (y p : ℕ) → 0 < p → y < 2 ^ 64 → y * p / 2 ^ 64 < p
pushed_small y p hp hy = (div-lt_iff_lt-mul {k = 2 ^ 64} {x = y * p} {y = p} (pow_pos 64)).1 (omega (arith, mul-le-mul_right p hy))

-- two digits and what they leave
whole : (d y v p m q1 r1 q0 r0 : ℕ) → q1 * v + r1 ≡ (d * p + y * p / 2 ^ 64) * 2 ^ 32 + m / 2 ^ 32 → q0 * v + r0 ≡ r1 * 2 ^ 32 + m % 2 ^ 32 → m ≡ y * p % 2 ^ 64
    → wide_of d y * p ≡ (q1 * 2 ^ 32 + q0) * v + r0
whole d y v p m q1 r1 q0 r0 e1 e0 em = omega arith

quotient : (n z p q r : ℕ) → 0 < p → n * p ≡ q * (z * p) + r → r < z * p → q ≡ n / z
quotient n z p q r hp e h = sym (sym (mul-div-mul_right n z hp) ∙ ap (λ (k : ℕ). k / (z * p)) e ∙ digits_div q h)

remainder : (n z p q r : ℕ) → 0 < p → n * p ≡ q * (z * p) + r → q ≡ n / z → r / p ≡ n % z
remainder n z p q r hp e eq =
    let w : (q * z + n % z) * p ≡ n * p = ap (λ (k : ℕ). (k * z + n % z) * p) eq ∙ ap (λ (k : ℕ). k * p) (div-add-mod' n z) in
    let s : r ≡ n % z * p = omega arith in
    ap (λ (k : ℕ). k / p) s ∙ mul-div_cancel (n % z) hp

-- ---- where the divisor's top bit comes to stand at 63

record Shifted (d y z s : ℕ) : Type 0 where
  less : d < z
  small : y < 2 ^ 64
  top : z * 2 ^ s / 2 ^ 63 ≡ 1

module _ {d y z s : ℕ} (h : Shifted d y z s) where
  abbrev v : ℕ
  v = z * 2 ^ s % 2 ^ 64

  abbrev high : ℕ
  high = d * 2 ^ s % 2 ^ 64 + y / 2 / 2 ^ (63 - s)

  abbrev low : ℕ
  low = y * 2 ^ s % 2 ^ 64

  divisor_small : z * 2 ^ s < 2 ^ 64
  divisor_small = omega (arith, h.top)

  short : s < 64
  short = shift_small z s (omega (arith, h.less)) divisor_small

  v_is : v ≡ z * 2 ^ s
  v_is = mod-eq_of_lt divisor_small

  v_top : 2 ^ 63 ≤ v
  v_top = omega (arith, h.top, v_is)

  high_is : high ≡ d * 2 ^ s + y * 2 ^ s / 2 ^ 64
  high_is = let k : d * 2 ^ s < 2 ^ 64 = omega (arith, mul-le-mul_right (2 ^ s) h.less, divisor_small) in omega (arith, mod-eq_of_lt k, pushed y s short)

  below : high < v
  below = subst (λ (n : ℕ). high < n) (sym v_is) (subst (λ (n : ℕ). n < z * 2 ^ s) (sym high_is) (digits_lt h.less (pushed_small y (2 ^ s) (pow_pos s) h.small)))

  left_small : (n : ℕ) → n % v < v
  left_small n = mod-lt n (omega (arith, v_top))

  divided : (q1 r1 q0 r0 : ℕ) → q1 ≡ (high * 2 ^ 32 + low / 2 ^ 32) / v → r1 ≡ (high * 2 ^ 32 + low / 2 ^ 32) % v → q0 ≡ (r1 * 2 ^ 32 + low % 2 ^ 32) / v → r0 ≡ (r1 * 2 ^ 32 + low % 2 ^ 32) % v
      → (q1 * 2 ^ 32 + q0 ≡ wide_of d y / z) × (r0 / 2 ^ s ≡ wide_of d y % z)
  divided q1 r1 q0 r0 a1 b1 a0 b0 =
      let e1 : q1 * v + r1 ≡ high * 2 ^ 32 + low / 2 ^ 32 = ap₂ (λ (q r : ℕ). q * v + r) a1 b1 ∙ div-add-mod' (high * 2 ^ 32 + low / 2 ^ 32) v in
      let e0 : q0 * v + r0 ≡ r1 * 2 ^ 32 + low % 2 ^ 32 = ap₂ (λ (q r : ℕ). q * v + r) a0 b0 ∙ div-add-mod' (r1 * 2 ^ 32 + low % 2 ^ 32) v in
      let w : wide_of d y * 2 ^ s ≡ (q1 * 2 ^ 32 + q0) * (z * 2 ^ s) + r0 =
      whole d y v (2 ^ s) low q1 r1 q0 r0 (e1 ∙ ap (λ (n : ℕ). n * 2 ^ 32 + low / 2 ^ 32) high_is) e0 refl ∙ ap (λ (n : ℕ). (q1 * 2 ^ 32 + q0) * n + r0) v_is in
      let l : r0 < z * 2 ^ s = subst (λ (n : ℕ). r0 < n) v_is (subst (λ (n : ℕ). n < v) (sym b0) (left_small (r1 * 2 ^ 32 + low % 2 ^ 32))) in
      let q : q1 * 2 ^ 32 + q0 ≡ wide_of d y / z = quotient (wide_of d y) z (2 ^ s) (q1 * 2 ^ 32 + q0) r0 (pow_pos s) w l in
      (q, remainder (wide_of d y) z (2 ^ s) (q1 * 2 ^ 32 + q0) r0 (pow_pos s) w q)

  -- what the first digit leaves, and the two digits
  rest_small : (n r : ℕ) → r ≡ n % v → r < v
  rest_small n r e = subst (λ (k : ℕ). k < v) (sym e) (left_small n)

  first_small : (l q : ℕ) → l < 2 ^ 32 → q ≡ (high * 2 ^ 32 + l) / v → q < 2 ^ 32
  first_small l q hl e = quotient_digit _ _ _ _ below hl e

  second_small : (n r l q : ℕ) → r ≡ n % v → l < 2 ^ 32 → q ≡ (r * 2 ^ 32 + l) / v → q < 2 ^ 32
  second_small n r l q er hl e = quotient_digit _ _ _ _ (rest_small n r er) hl e

at : (d y z s : ℕ) → d < z → y < 2 ^ 64 → z * 2 ^ s / 2 ^ 63 ≡ 1 → Shifted d y z s
at d y z s l h t = record { less = l; small = h; top = t }

-- ---- the code's places

pub overflow_shl-v : goal.overflow_shl-v
overflow_shl-v c =
    let a = c.args in
    let h = at a.d a.y a.z c.headroom-s.result c.requires c.ranges.y.fits c.headroom-s.ensures in
    short h

pub overflow_shl-high : goal.overflow_shl-high
overflow_shl-high c =
    let a = c.args in
    let h = at a.d a.y a.z c.headroom-s.result c.requires c.ranges.y.fits c.headroom-s.ensures in
    short h

pub overflow_sub-high : goal.overflow_sub-high
overflow_sub-high c =
    let a = c.args in
    let h = at a.d a.y a.z c.headroom-s.result c.requires c.ranges.y.fits c.headroom-s.ensures in
    omega (arith, short h)

pub overflow_add-high : goal.overflow_add-high
overflow_add-high c =
    let a = c.args in
    let h = at a.d a.y a.z c.headroom-s.result c.requires c.ranges.y.fits c.headroom-s.ensures in
    omega (arith, below h)

pub overflow_shl-low : goal.overflow_shl-low
overflow_shl-low c =
    let a = c.args in
    let h = at a.d a.y a.z c.headroom-s.result c.requires c.ranges.y.fits c.headroom-s.ensures in
    short h

pub digit-first-requires : goal.digit-first-requires
digit-first-requires c =
    let a = c.args in
    let h = at a.d a.y a.z c.headroom-s.result c.requires c.ranges.y.fits c.headroom-s.ensures in
    (v_top h, below h, omega arith)

pub digit-second-requires : goal.digit-second-requires
digit-second-requires c =
    let a = c.args in
    let h = at a.d a.y a.z c.headroom-s.result c.requires c.ranges.y.fits c.headroom-s.ensures in
    (v_top h, rest_small h _ _ c.digit-first.ensures.1, omega arith)

pub overflow_mul-result : goal.overflow_mul-result
overflow_mul-result c =
    let a = c.args in
    let h = at a.d a.y a.z c.headroom-s.result c.requires c.ranges.y.fits c.headroom-s.ensures in
    let f = c.digit-first in
    omega (arith, first_small h _ f.result.quotient (omega arith) f.ensures.0)

pub overflow_add-result : goal.overflow_add-result
overflow_add-result c =
    let a = c.args in
    let h = at a.d a.y a.z c.headroom-s.result c.requires c.ranges.y.fits c.headroom-s.ensures in
    let f = c.digit-first in
    let g = c.digit-second in
    omega (arith, first_small h _ f.result.quotient (omega arith) f.ensures.0, second_small h _ f.result.remainder _ g.result.quotient f.ensures.1 (omega arith) g.ensures.0)

pub overflow_shr-result : goal.overflow_shr-result
overflow_shr-result c =
    let a = c.args in
    let h = at a.d a.y a.z c.headroom-s.result c.requires c.ranges.y.fits c.headroom-s.ensures in
    short h

pub returns : goal.returns
returns c =
    let a = c.args in
    let h = at a.d a.y a.z c.headroom-s.result c.requires c.ranges.y.fits c.headroom-s.ensures in
    let f = c.digit-first in
    let g = c.digit-second in
    divided h f.result.quotient f.result.remainder g.result.quotient g.result.remainder f.ensures.0 f.ensures.1 g.ensures.0 g.ensures.1
