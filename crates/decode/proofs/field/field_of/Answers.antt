-- `field_of` meets its contract: its three tests are the definition's, and each answer is a law of Fields.
use Rattle.model.proofs.Prelude.{arith}
use Rattle.decode.proofs.Fields.{misaligned, ahead, between, behind}
use Rattle.decode.proofs.field.field_of.Goals as goal

pub returns-then-distance-ne0 : goal.returns-then-distance-ne0
returns-then-distance-ne0 c = misaligned _ _ _ _ c.wrapping_sub-distance.ensures (omega arith)

pub returns-then-ahead-size : goal.returns-then-ahead-size
returns-then-ahead-size c = ahead _ _ _ _ c.wrapping_sub-distance.ensures (omega arith) (omega arith)

pub returns-then-ahead-farthest : goal.returns-then-ahead-farthest
returns-then-ahead-farthest c = between _ _ _ _ c.wrapping_sub-distance.ensures (omega arith) (omega arith) (omega arith)

pub returns : goal.returns
returns c = behind _ _ _ _ c.wrapping_sub-distance.ensures (omega arith) (omega arith) (omega arith)
