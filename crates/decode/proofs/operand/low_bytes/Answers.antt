-- `low_bytes` meets its contract: a mask of all ones is a remainder.
use Rattle.decode.proofs.Operands.{low_masked}
use Rattle.decode.proofs.operand.low_bytes.Goals as goal

pub returns : goal.returns
returns c = low_masked _ _ _ c.most.ensures
