-- `past_digits` meets its contract: there are n bytes, and all of them digits.
use Rattle.model.proofs.Prelude.{ℕ, sym, ◌∙◌, length-replicate}
use Rattle.point_lines.specs.Line.{mark}
use Rattle.point_lines.proofs.Forms.{digits_good, digits_other, digits_missing}
use Rattle.point_lines.proofs.line.past_digits.Goals as goal

pub returns-in_err-digits : goal.returns-in_err-digits
returns-in_err-digits c = rw c.from_residual.ensures (digits_missing _ _ c.in_err-digits.ensures.cases)

pub returns-then-are_digits : goal.returns-then-are_digits
returns-then-are_digits c =
    let s = c.in_ok-digits.ensures.cases in
    (rw s.2 (digits_good _ _ s.0 (rw s.1 at (sym c.are_digits.ensures ∙ c.if-are_digits.true))), rw (length-replicate {A = ℕ} c.args.n mark) s.2)

pub returns-else-are_digits : goal.returns-else-are_digits
returns-else-are_digits c =
    let s = c.in_ok-digits.ensures.cases in
    digits_other _ _ s.0 (rw s.1 at (sym c.are_digits.ensures ∙ c.if-are_digits.false))
