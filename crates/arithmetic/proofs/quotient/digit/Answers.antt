-- `digit` meets its contract: what q times the divisor's lower half leaves, modulo 2^64, is the remainder, which has 64 bits.
use Rattle.model.proofs.Prelude.{ℕ, ◌%◌, ◌*◌, ◌+◌, ◌/◌, ◌<◌, ◌^◌, ◌≤◌, ◌-◌, ap, refl, sym, ◌∙◌, ◌≡◌, div-add-mod', div-eq_of_lt-le, mod-lt, arith, split}
use Rattle.arithmetic.proofs.Digits.{digit_product, quotient_digit}
use Rattle.arithmetic.proofs.quotient.digit.Goals as goal

-- R is the remainder, x what the code computes
same : (h l v1 v0 q r x R : ℕ) → q * v1 + r ≡ h → q * (v1 * 2 ^ 32 + v0) + R ≡ h * 2 ^ 32 + l → l < 2 ^ 32 → q * v0 < 2 ^ 64 → R < 2 ^ 64
    → x ≡ (r % 2 ^ 32 * 2 ^ 32 + l + (2 ^ 64 - q * v0)) % 2 ^ 64 → x ≡ R
same h l v1 v0 q r x R e w hl hq h_r t = omega arith

quotient : (h l v q : ℕ) → q * v ≤ h * 2 ^ 32 + l → h * 2 ^ 32 + l < (q + 1) * v → q ≡ (h * 2 ^ 32 + l) / v
quotient h l v q a b = sym (div-eq_of_lt-le v a b)

remainder : (h l v q r x : ℕ) → 0 < v → v < 2 ^ 64 → l < 2 ^ 32 → q * (v % 2 ^ 32) < 2 ^ 64 → q * (v / 2 ^ 32) + r ≡ h → q ≡ (h * 2 ^ 32 + l) / v
    → x ≡ (r % 2 ^ 32 * 2 ^ 32 + l + (2 ^ 64 - q * (v % 2 ^ 32))) % 2 ^ 64 → x ≡ (h * 2 ^ 32 + l) % v
remainder h l v q r x hp hv hl hq e eq t =
    let N : ℕ = h * 2 ^ 32 + l in
    same h l (v / 2 ^ 32) (v % 2 ^ 32) q r x (N % v) e
    (ap (λ (y : ℕ). q * y + N % v) (split v 32) ∙ ap (λ (y : ℕ). y * v + N % v) eq ∙ div-add-mod' N v) hl hq (omega (arith, mod-lt N hp)) t

-- the digit is one: h is below v
small : (h l v q : ℕ) → h < v → l < 2 ^ 32 → q * v ≤ h * 2 ^ 32 + l → h * 2 ^ 32 + l < (q + 1) * v → q < 2 ^ 32
small h l v q hh hl a b = quotient_digit h l v q hh hl (quotient h l v q a b)

pub overflow_mul-result : goal.overflow_mul-result
overflow_mul-result c =
    let a = c.args in
    let q = c.estimate-e.result.quotient in
    let e = c.estimate-e.ensures in
    omega (arith, digit_product q (a.v % 2 ^ 32) (small a.h a.l a.v q c.requires.1 c.requires.2 e.0 e.1) (omega arith))

pub returns : goal.returns
returns c =
    let a = c.args in
    let q = c.estimate-e.result.quotient in
    let e = c.estimate-e.ensures in
    let is = quotient a.h a.l a.v q e.0 e.1 in
    let room : q * (a.v % 2 ^ 32) < 2 ^ 64 = omega (arith, digit_product q (a.v % 2 ^ 32) (small a.h a.l a.v q c.requires.1 c.requires.2 e.0 e.1) (omega arith)) in
    (is, remainder a.h a.l a.v q c.estimate-e.result.remainder _ (omega arith) (omega arith) c.requires.2 room e.2 is refl)
