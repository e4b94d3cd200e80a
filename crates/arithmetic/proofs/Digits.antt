-- Products and quotients of digits of 32 bits. `omega` multiplies out and takes each monomial as one unknown, so what is handed to it is a bound of a product.
use Rattle.model.proofs.Prelude.{suc, zero, ℕ, ◌*◌, ◌+◌, ◌/◌, ◌<◌, ◌^◌, ◌≤◌, subst, sym, ◌≡◌, div-lt_iff_lt-mul, mul-le-mul, arith}

-- a product of two digits leaves room for two digits more
pub digit_product : (a b : ℕ) → a < 2 ^ 32 → b < 2 ^ 32 → a * b ≤ 0xFFFFFFFF * 0xFFFFFFFF
digit_product a b ha hb = mul-le-mul {n₂ = 0xFFFFFFFF} {m₂ = 0xFFFFFFFF} (omega arith) (omega arith)

-- a product that is not 0 has no factor 0
pub factor_pos : (q v : ℕ) → 0 < q * v → 0 < q
factor_pos zero v h = omega arith
factor_pos (suc q) v h = omega arith

-- h * 2^32 + l by v is one digit
pub quotient_digit : (h l v q : ℕ) → h < v → l < 2 ^ 32 → q ≡ (h * 2 ^ 32 + l) / v → q < 2 ^ 32
quotient_digit h l v q hh hl e = subst (λ (n : ℕ). n < 2 ^ 32) (sym e) ((div-lt_iff_lt-mul {k = v} {x = h * 2 ^ 32 + l} {y = 2 ^ 32} (omega arith)).1 (omega arith))
