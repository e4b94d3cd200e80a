-- `past` meets its contract: a byte that is missing or does not fit ends it with none; in the end the rest is what follows the part.
use Rattle.model.proofs.Prelude.{sym, ◌∙◌}
use Rattle.point_lines.proofs.Forms.{along_on, along_other, along_missing, along_end}
use Rattle.point_lines.proofs.line.past.Goals as goal

pub returns-in_err-b : goal.returns-in_err-b
returns-in_err-b c = rw c.from_residual.ensures (along_missing _ _ _ _ c.loop-c-test.true c.loop-c.invariant c.in_err-b.ensures.cases)

pub returns-then-not-fits_byte : goal.returns-then-not-fits_byte
returns-then-not-fits_byte c =
    along_other _ _ _ _ c.loop-c-test.true c.loop-c.invariant _ _ c.in_ok-b.ensures.cases.0 (sym c.fits_byte.ensures ∙ c.if-not-fits_byte.true)

pub loop-c-preserved : goal.loop-c-preserved
loop-c-preserved c =
    along_on _ _ _ _ c.loop-c-test.true c.loop-c.invariant _ _ c.in_ok-b.ensures.cases.0 (sym c.fits_byte.ensures ∙ c.if-not-fits_byte.false)

pub returns : goal.returns
returns c = along_end _ _ _ _ c.loop-c-test.false c.loop-c.auto.c-index-end c.loop-c.invariant
