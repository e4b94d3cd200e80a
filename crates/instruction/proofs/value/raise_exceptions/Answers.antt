-- `raise_exceptions` meets its contract: marks and mask are lent as numbers, and stay.
use Rattle.instruction.proofs.value.raise_exceptions.Goals as goal

pub returns : goal.returns
returns c = let k = c.raise_exceptions-reply.ensures.same in rw (k.4, k.5) at c.raise_exceptions-reply.ensures.told
