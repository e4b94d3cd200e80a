-- `div` meets its contract: the magnitudes' quotient, rounded up where it is below 0.
use Rattle.model.proofs.Prelude.{ℕ, ◌<◌, Bool, ap, ap₂, refl, subst, sym, ◌∙◌, ◌≡◌, arith, nat_abs, eq-eqb, ne_eqb, divided, flag_d, overflow_of, parted}
use Rattle.model.proofs.Prelude.{is_negative, floor_quotient, floor_remainder, octa_of, signed_of, wide_of, with_sign}
use Rattle.model.specs.declared.Operands.{Operands}
use Rattle.arithmetic.proofs.Sums.{differ}
use Rattle.arithmetic.proofs.Floors.{quotient_of, remainder_of, magnitude_pos, quotient_is, remainder_is}
use Rattle.arithmetic.proofs.signed.div.Goals as goal

by_zero : (a : Operands) → a.z ≡ 0 → parted a 0 a.y flag_d ≡ divided a
unfolding divided
by_zero a e = rw (eq-eqb a.z 0 e) refl

-- the magnitudes n and k; their quotient q and remainder r; d, whether the signs differ, and t, the divisor's
divided_is : (a : Operands) (n k q r x w f : ℕ) (d t : Bool) → (a.z ≡ 0 → ⊥) → d ≡ differ a.y a.z → t ≡ is_negative a.z → n ≡ nat_abs (signed_of a.y) → k ≡ nat_abs (signed_of a.z)
    → q ≡ quotient_of d n k → r ≡ remainder_of d n k → x ≡ octa_of (with_sign d q) → w ≡ octa_of (with_sign t r)
    → f ≡ overflow_of (with_sign d (wide_of 0 q)) → parted a x w f ≡ divided a
unfolding divided
divided_is a n k q r x w f d t nz ed et en ek eq er ex ew ef =
    let quotient : with_sign d q ≡ floor_quotient (signed_of a.y) (signed_of a.z) = quotient_is a.y a.z q r d t nz ed et (eq ∙ ap₂ (quotient_of d) en ek) in
    let remainder : with_sign t r ≡ floor_remainder (signed_of a.y) (signed_of a.z) = remainder_is a.y a.z q r d t nz ed et (er ∙ ap₂ (remainder_of d) en ek) in
    let above : wide_of 0 q ≡ q = omega arith in
    let flag : f ≡ overflow_of (floor_quotient (signed_of a.y) (signed_of a.z)) = ef ∙ ap (λ (i : ℕ). overflow_of (with_sign d i)) above ∙ ap overflow_of quotient in
    rw (ne_eqb a.z 0 nz) (λ i. parted a ((ex ∙ ap octa_of quotient) i) ((ew ∙ ap octa_of remainder) i) (flag i))

pub returns-then-z-eq0 : goal.returns-then-z-eq0
returns-then-z-eq0 c = by_zero c.args.a c.if-z-eq0.true

pub rounded-q-requires : goal.rounded-q-requires
rounded-q-requires c = subst (λ (n : ℕ). 0 < n) (sym c.magnitude-2.ensures) (magnitude_pos _ c.if-z-eq0.false)

pub returns : goal.returns
returns c =
    let a = c.args.a in
    divided_is a c.magnitude.result c.magnitude-2.result c.rounded-q.result.quotient c.rounded-q.result.remainder c.with_sign.result c.with_sign-2.result
    c.overflow_of.result c.signs_differ-negative.result c.is_negative.result c.if-z-eq0.false c.signs_differ-negative.ensures c.is_negative.ensures
    c.magnitude.ensures c.magnitude-2.ensures c.rounded-q.ensures.0 c.rounded-q.ensures.1 c.with_sign.ensures c.with_sign-2.ensures c.overflow_of.ensures
