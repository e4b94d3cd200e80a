-- `extended` meets its contract: the sign by the opcode, then the operand's own.
use Rattle.decode.proofs.Operands.{extended_unsigned, extended_positive, extended_negative}
use Rattle.decode.proofs.operand.extended.Goals as goal

pub returns-then-op-ne0 : goal.returns-then-op-ne0
returns-then-op-ne0 c = extended_unsigned _ _ c.if-op-ne0.true

pub returns-then-u-most : goal.returns-then-u-most
returns-then-u-most c = extended_positive _ _ c.if-op-ne0.false _ c.most-most.ensures c.if-u-most.true

pub returns : goal.returns
returns c = extended_negative _ _ c.if-op-ne0.false _ c.most-most.ensures c.if-u-most.false
