-- `tetra_at` meets its contract: what is right of the tetra is shifted out, what is left of it dropped.
use Rattle.decode.proofs.Operands.{tetra_is}
use Rattle.decode.proofs.operand.tetra_at.Goals as goal

pub returns : goal.returns
returns c = tetra_is _ _
