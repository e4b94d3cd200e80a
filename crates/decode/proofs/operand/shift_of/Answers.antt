-- `shift_of` meets its contract: the key that matched is the width, and the shift eight times the bytes right of the operand.
use Rattle.model.proofs.Prelude.{arith, bytes_in, byte, octabyte, tetra, wyde}
use Rattle.decode.proofs.Operands.{width_byte, width_wyde, width_tetra, width_octabyte, shift_is}
use Rattle.decode.proofs.operand.shift_of.Goals as goal

pub returns-in-0 : goal.returns-in-0
unfolding bytes_in
returns-in-0 c = shift_is _ _ _ byte (width_byte _ c.in-0.is) (omega arith)

pub returns-in-1 : goal.returns-in-1
unfolding bytes_in
returns-in-1 c = shift_is _ _ _ wyde (width_wyde _ c.in-1.is) (omega arith)

pub returns-in-2 : goal.returns-in-2
unfolding bytes_in
returns-in-2 c = shift_is _ _ _ tetra (width_tetra _ c.in-2.is) (omega arith)

pub returns-in_default : goal.returns-in_default
unfolding bytes_in
returns-in_default c = let k = c.in_default.in_default-own.rest in shift_is _ _ _ octabyte (width_octabyte _ k.0.0.1 k.0.1 k.1) (omega arith)
