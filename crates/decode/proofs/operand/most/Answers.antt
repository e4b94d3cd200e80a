-- `most` meets its contract: the key that matched is the width.
use Rattle.model.proofs.Prelude.{bytes_in}
use Rattle.decode.proofs.Operands.{width_byte, width_wyde, width_tetra, width_octabyte}
use Rattle.decode.proofs.operand.most.Goals as goal

pub returns-in-0 : goal.returns-in-0
unfolding bytes_in
returns-in-0 c = rw (width_byte _ c.in-0.is)

pub returns-in-1 : goal.returns-in-1
unfolding bytes_in
returns-in-1 c = rw (width_wyde _ c.in-1.is)

pub returns-in-2 : goal.returns-in-2
unfolding bytes_in
returns-in-2 c = rw (width_tetra _ c.in-2.is)

pub returns-in_default : goal.returns-in_default
unfolding bytes_in
returns-in_default c = let k = c.in_default.in_default-own.rest in rw (width_octabyte _ k.0.0.1 k.0.1 k.1)
