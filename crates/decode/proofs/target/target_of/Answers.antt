-- `target_of` meets its contract: it goes by the count of the field.
use Rattle.model.proofs.Prelude.{arith}
use Rattle.decode.proofs.Counts.{passed_small, passed_target}
use Rattle.decode.proofs.target.target_of.Goals as goal

pub move_by-requires : goal.move_by-requires
move_by-requires c = passed_small _ _ _ (omega arith) (omega arith) _ c.count_of.ensures

pub returns : goal.returns
returns c = passed_target _ _ _ (omega arith) (omega arith) _ c.count_of.ensures _ _ c.move_by.ensures
