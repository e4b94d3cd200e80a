-- `merged` meets its contract: the operand that was there is taken out and the new one put in, at its place.
use Rattle.decode.proofs.Operands.{taken_fits, merged_fits, merged_is}
use Rattle.decode.proofs.operand.merged.Goals as goal

pub overflow_sub-result : goal.overflow_sub-result
overflow_sub-result c =
    taken_fits _ _ _ _ _ _ _ c.ranges.v.fits c.shift_of-shift.ensures.1 c.operand-old.ensures c.low_bytes-new.ensures

pub overflow_add-result : goal.overflow_add-result
overflow_add-result c =
    record { fits = merged_fits _ _ _ _ _ _ _ c.ranges.v.fits c.shift_of-shift.ensures.1 c.operand-old.ensures c.low_bytes-new.ensures }

pub returns : goal.returns
returns c =
    merged_is _ _ _ _ _ _ _ c.ranges.v.fits c.shift_of-shift.ensures.1 c.operand-old.ensures c.low_bytes-new.ensures
