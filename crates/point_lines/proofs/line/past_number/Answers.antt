-- `past_number` meets its contract: there are n bytes, and they are a number's digits.
use Rattle.model.proofs.Prelude.{arith, ◌∙◌, ap}
use Rattle.text.specs.Digits.{value_of}
use Rattle.point_lines.proofs.Forms.{digits_good, digits_other, digits_missing, below_all, not_all, value_hex}
use Rattle.point_lines.proofs.line.past_number.Goals as goal

pub returns-in_err-digits : goal.returns-in_err-digits
returns-in_err-digits c = rw c.from_residual.ensures (digits_missing _ _ c.in_err-digits.ensures.cases)

pub returns-in_err-number : goal.returns-in_err-number
returns-in_err-number c =
    let s = c.in_ok-digits.ensures.cases in
    rw c.from_residual-in_err-number.ensures (digits_other _ _ s.0 (rw s.1 at (not_all _ (λ a. c.in_err-number.ensures (omega arith, a)))))

pub returns : goal.returns
returns c =
    let s = c.in_ok-digits.ensures.cases in (
      rw s.2 (digits_good _ _ s.0 (rw s.1 at (below_all _ c.in_ok-number.ensures.0.1))),
      c.in_ok-number.ensures.1 ∙ ap value_of s.1 ∙ value_hex _ _ s.0,
      s.2,
    )
