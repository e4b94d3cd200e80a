-- `operand` meets its contract: what is right of the operand is shifted out, what is left of it masked.
use Rattle.model.proofs.Prelude.{◌∙◌}
use Rattle.decode.proofs.Operands.{operand_is}
use Rattle.decode.proofs.operand.operand.Goals as goal

pub returns : goal.returns
returns c = c.low_bytes.ensures ∙ operand_is _ _ _ _ c.shift_of-shift.ensures.1
