-- `number` meets its contract: its tests are the definition's, on the number of digits and on the first.
use Rattle.model.proofs.Prelude.{dec_le, sym, ◌∙◌, inl, inr, ◌<◌, arith, eqb-true, eqb-false, get_or-take, length}
use Rattle.script.specs.Line.{digits_at}
use Rattle.script.proofs.Digits.{length_digits, front_digits, front_below, size_refused, zero_refused, number_taken}
use Rattle.script.proofs.line.number.Goals as goal
use Rattle.script.proofs.line.number.Goals.{else-digits-gt1-via-then-digits-gt1+else-digits-eq48, else-digits-gt1-via-else-digits-gt1}

pub split_at-requires : goal.split_at-requires
split_at-requires c = omega (arith, c.digits_len.ensures, length_digits c.args.line.now)

pub returns-then-is_empty : goal.returns-then-is_empty
returns-then-is_empty c =
    size_refused c.args.line.now
    (inl (omega (arith, c.split_at.ensures.front_len, c.digits_len.ensures, eqb-true (length c.split_at.result.0.now) 0 (sym c.is_empty.ensures ∙ c.if-is_empty.true))))

pub returns-then-digits-eq48 : goal.returns-then-digits-eq48
returns-then-digits-eq48 c =
    let s = c.split_at.ensures in
    zero_refused c.args.line.now (omega (arith, s.front_len, c.digits_len.ensures, c.if-digits-gt1.true))
    (rw (s.front, get_or-take c.digits_len.result c.args.line.now 0 0 (omega (arith, s.front_len, c.if-digits-gt1.true))) at c.if-digits-eq48.true)

pub returns-in_err-number : goal.returns-in_err-number
returns-in_err-number c =
    let l = c.args.line.now in
    let s = c.split_at.ensures in
    rw c.from_residual.ensures (elim (dec_le (length (digits_at l)) 16) [
      | yes h ↦ absurd (c.in_err-number.ensures (omega (arith, s.front_len, c.digits_len.ensures), rw (s.front, c.digits_len.ensures) (front_below l)))
      | no h ↦ size_refused l (inr (omega arith))
    ])

pub returns : goal.returns
returns c =
    let l = c.args.line.now in
    let s = c.split_at.ensures in
    let some : 0 < length (digits_at l) = omega (arith, s.front_len, c.digits_len.ensures, eqb-false (length c.split_at.result.0.now) 0 (sym c.is_empty.ensures ∙ c.if-is_empty.false)) in (
      number_taken l some (omega (arith, s.front_len, c.digits_len.ensures, c.in_ok-number.ensures.0.0)) (λ h z. elim c.else-digits-gt1.branch [
        | else-digits-gt1-via-then-digits-gt1+else-digits-eq48 w ↦ w.if-digits-eq48.false (rw (s.front, get_or-take c.digits_len.result l 0 0 (omega (arith, c.digits_len.ensures))) z)
        | else-digits-gt1-via-else-digits-gt1 w ↦ omega (arith, w.if-digits-gt1.false, s.front_len, c.digits_len.ensures)
      ]),
      c.in_ok-number.ensures.1 ∙ rw (s.front, c.digits_len.ensures, front_digits l),
      rw (← c.digits_len.ensures) s.back,
    )
