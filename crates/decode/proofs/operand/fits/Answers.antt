-- `fits` meets its contract: a signed operand, extended, is the value or another one.
use Rattle.model.proofs.Prelude.{mod-lt, values_positive}
use Rattle.decode.proofs.Operands.{fits_unsigned, fits_signed}
use Rattle.decode.proofs.operand.fits.Goals as goal

pub returns-then-op-ne0 : goal.returns-then-op-ne0
returns-then-op-ne0 c = fits_unsigned _ _ c.if-op-ne0.true

pub extended-requires : goal.extended-requires
extended-requires c = rw c.low_bytes-low.ensures (mod-lt _ (values_positive _))

pub returns : goal.returns
returns c = rw (c.extended.ensures, c.low_bytes-low.ensures) (fits_signed _ _ c.if-op-ne0.false)
