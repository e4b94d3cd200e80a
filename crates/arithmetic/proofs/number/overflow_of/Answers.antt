-- `overflow_of` meets its contract: at most 2^63 below 0, and less above.
use Rattle.model.proofs.Prelude.{ℕ, ◌*◌, ◌+◌, ◌-◌, ◌^◌, Bool, cond, false, not, true, refl, ◌∙◌, ◌≡◌, arith, eqb, ltb, le-ltb, lt-leb, lt-ltb, is_signed, wide_of, by_order}
use Rattle.model.proofs.Prelude.{ltb_not_leb, ne_eqb, signed_neg, signed_pos, with_sign}
use Rattle.arithmetic.proofs.Sums.{flag_of}
use Rattle.arithmetic.proofs.number.overflow_of.Goals as goal
use Rattle.arithmetic.proofs.number.overflow_of.Goals.{then-negative, else-negative, then-high-ne0, else-high-ne0}

large : (s : Bool) (h l : ℕ) → (h ≡ 0 → ⊥) → not (eqb h 0) ≡ not (is_signed (with_sign s (wide_of h l)))
large false h l n = rw (ne_eqb h 0 n, signed_pos, le-ltb (h * 2 ^ 64 + l) (2 ^ 63) (omega arith)) refl
large true h l n = rw (ne_eqb h 0 n, signed_neg, lt-leb (h * 2 ^ 64 + l) (2 ^ 63) (omega arith)) refl

-- l beyond what is left of a signed octabyte
beyond : (s : Bool) (h l m : ℕ) → h ≡ 0 → m ≡ cond s (2 ^ 63) (2 ^ 63 - 1) → ltb m l ≡ not (is_signed (with_sign s (wide_of h l)))
beyond false h l m e em =
    let w : h * 2 ^ 64 + l ≡ l = omega arith in
    rw (w, signed_pos) (by_order l (2 ^ 63) (λ o. rw (lt-ltb l (2 ^ 63) o, le-ltb m l (omega arith)) refl) (λ o. rw (le-ltb l (2 ^ 63) o, lt-ltb m l (omega arith)) refl))
beyond true h l m e em = let w : h * 2 ^ 64 + l ≡ l = omega arith in rw (w, em, signed_neg) (ltb_not_leb l (2 ^ 63))

pub returns : goal.returns
returns c =
    let a = c.args in
    let limit : c.if-negative.limit ≡ cond a.negative (2 ^ 63) (2 ^ 63 - 1) = elim c.if-negative.branch [
      | then-negative w ↦ rw w.if-negative.true w.limit-is
      | else-negative w ↦ rw w.if-negative.false w.limit-is
    ] in
    let is : c.if-high-ne0.flag ≡ not (is_signed (with_sign a.negative (wide_of a.high a.low))) = elim c.if-high-ne0.branch [
      | then-high-ne0 w ↦ w.flag-is ∙ large a.negative a.high a.low w.if-high-ne0.true
      | else-high-ne0 w ↦ w.flag-is ∙ beyond a.negative a.high a.low c.if-negative.limit w.if-high-ne0.false limit
    ] in
    c.flag.ensures ∙ flag_of c.if-high-ne0.flag (with_sign a.negative (wide_of a.high a.low)) is
