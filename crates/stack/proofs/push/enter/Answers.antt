-- `enter` meets its contract: what its calls leave is what PUSH does to the registers.
use Rattle.model.proofs.Prelude.{arith}
use Rattle.stack.proofs.PushPopRegisters.{entered}
use Rattle.stack.proofs.push.enter.Goals as goal

pub returns-clause-pushed : goal.returns-clause-pushed
returns-clause-pushed c =
    let s = c.args.s.now in
    entered s.general.now _ _ s.special.now s.pc.now c.args.h _ _ _ _ _ c.requires.0 c.saturating_sub-n.ensures c.wrapping_add-new_ro.ensures c.wrapping_add-rj.ensures
    c.slide.ensures (omega arith) (rw c.requires.2 at c.clear_range.ensures) (omega arith) s.halt.now s.marks s.mask
