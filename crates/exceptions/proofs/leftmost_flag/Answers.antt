-- `leftmost_flag` meets its contract: 0x80 shifted by the leading zeros, of which a flag that is there has at most seven.
use Rattle.model.proofs.Prelude.{arith}
use Rattle.exceptions.proofs.Interrupts.{vector_small, zeros_small, leftmost_none, leftmost_is}
use Rattle.exceptions.proofs.leftmost_flag.Goals as goal

pub returns-then-flags-eq0 : goal.returns-then-flags-eq0
returns-then-flags-eq0 c = leftmost_none _ c.if-flags-eq0.true

pub overflow_cast-result : goal.overflow_cast-result
overflow_cast-result c = record { fits = omega (arith, zeros_small c.args.flags) }

pub overflow_shr-result : goal.overflow_shr-result
overflow_shr-result c = omega (arith, vector_small c.args.flags c.ranges.flags.fits (omega (arith, c.if-flags-eq0.false)))

pub returns : goal.returns
returns c = leftmost_is c.args.flags c.ranges.flags.fits c.if-flags-eq0.false
