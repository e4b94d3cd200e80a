-- Laws of the number that digits from an index on are: one digit more, none, and how large it is.
use Rattle.model.proofs.Prelude.{suc, zero, ℕ, ◌*◌, ◌+◌, ◌<◌, ◌^◌, ◌≤◌, List, ap, sym, refl, ◌∙◌, ◌≡◌, add-one, arith, get_or, pow-add, pow_mono}
use Rattle.text.proofs.Digits.{digit_most}
use Rattle.text.specs.Digits.{digit_of, number_of}
use Rattle.point_lines.specs.Line.{digits_at, hex_at}

digits_suc : (h : ℕ) (l : List ℕ) (o n : ℕ) → number_of h (digits_at l o (suc n)) ≡ number_of h (digits_at l o n) * 16 + digit_of (get_or l (o + n) 0)
unfolding number_of digits_at
digits_suc h l o zero = ap (λ (k : ℕ). h * 16 + digit_of (get_or l k 0)) (omega arith)
digits_suc h l o (suc n) =
    digits_suc (h * 16 + digit_of (get_or l o 0)) l (suc o) n
    ∙ ap (λ (k : ℕ). number_of (h * 16 + digit_of (get_or l o 0)) (digits_at l (suc o) n) * 16 + digit_of (get_or l k 0)) (omega arith)

-- one digit more
pub hex_more : (l : List ℕ) (o n : ℕ) → hex_at l o n * 16 + digit_of (get_or l (o + n) 0) ≡ hex_at l o (n + 1)
unfolding hex_at
hex_more l o n = sym (ap (λ (k : ℕ). number_of 0 (digits_at l o k)) (add-one n) ∙ digits_suc 0 l o n)

pub hex_none : (l : List ℕ) (o : ℕ) → 0 ≡ hex_at l o 0
unfolding hex_at digits_at number_of
hex_none l o = refl

-- what is no digit counts 16, so n digits are below 32^n
hex_bound : (l : List ℕ) (o n : ℕ) → hex_at l o n < 2 ^ (5 * n)
hex_bound l o zero = omega (arith, hex_none l o)
hex_bound l o (suc n) =
    let e : 2 ^ (5 * suc n) ≡ 2 ^ (5 * n) * 32 = ap (λ (k : ℕ). 2 ^ k) (omega arith) ∙ pow-add 2 (5 * n) 5 in
    let f : hex_at l o n * 16 + digit_of (get_or l (o + n) 0) ≡ hex_at l o (suc n) = hex_more l o n ∙ ap (hex_at l o) (add-one n) in
    omega (arith, hex_bound l o n, digit_most (get_or l (o + n) 0))

pub hex_small : (l : List ℕ) (o n : ℕ) → n ≤ 8 → hex_at l o n < 2 ^ 40
hex_small l o n h =
    let e : 2 ^ (5 * n) ≤ 2 ^ 40 = pow_mono {j = 40} (omega arith) in
    omega (arith, hex_bound l o n)
