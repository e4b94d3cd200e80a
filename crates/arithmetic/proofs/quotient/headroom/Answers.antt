-- `headroom` meets its contract. v has m bits, which with the free ones make 64: so v is at least 2^(m − 1), and below 2^m.
use Rattle.model.proofs.Prelude.{suc, zero, ℕ, ◌*◌, ◌+◌, ◌/◌, ◌<◌, ◌^◌, ◌≤◌, ap, subst, sym, ◌≡◌, mul-le-mul_right, add-one, arith, leading_length}
use Rattle.model.proofs.Prelude.{count_leading_zeros, pow-add, shl_lt}
use Rattle.arithmetic.proofs.quotient.headroom.Goals as goal

-- between half of a power and the power
halved : (v j : ℕ) → 2 ^ suc j ≤ 2 * v + 1 → 2 ^ j ≤ v
halved v j l = omega (arith, ap (λ (k : ℕ). 2 ^ k) (add-one j), pow-add 2 j 1)

topmost : (v r m : ℕ) → 0 < v → r + m ≡ 64 → v < 2 ^ m → 2 ^ m ≤ 2 * v + 1 → v * 2 ^ r / 2 ^ 63 ≡ 1
topmost v r zero p e h l = absurd (omega arith)
topmost v r (suc j) p e h l =
    let i : j + r ≡ 63 = omega arith in
    let low : 2 ^ 63 ≤ v * 2 ^ r = subst (λ (k : ℕ). 2 ^ k ≤ v * 2 ^ r) i (subst (λ (n : ℕ). n ≤ v * 2 ^ r) (sym (pow-add 2 j r)) (mul-le-mul_right (2 ^ r) (halved v j l))) in
    let o : suc j + r ≡ 64 = omega arith in
    let high : v * 2 ^ r < 2 ^ 64 = subst (λ (k : ℕ). v * 2 ^ r < 2 ^ k) o (shl_lt {a = v} (suc j) r h) in
    omega arith

pub returns : goal.returns
returns c =
    let bits = leading_length 64 c.args.v c.ranges.v.fits in
    rw c.from.ensures (topmost c.args.v (count_leading_zeros 64 c.args.v) bits.0 c.requires bits.1 bits.2 bits.3)
