-- `loaded` meets its contract: an operand is small enough to be extended.
use Rattle.model.proofs.Prelude.{operand_small}
use Rattle.decode.proofs.operand.loaded.Goals as goal

pub extended-requires : goal.extended-requires
extended-requires c = rw c.operand-u.ensures (operand_small _ _ _)

pub returns : goal.returns
returns c = rw c.operand-u.ensures at c.extended.ensures
