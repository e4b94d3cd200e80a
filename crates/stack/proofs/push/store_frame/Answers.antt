-- `store_frame` meets its contract: the hole is the octabyte after the locals.
use Rattle.model.proofs.Prelude.{◌+◌, sym, arith, framed, state_lent, windows_lent}
use Rattle.stack.proofs.PushPopRegisters.{framed_hole, locals_stored, store_next}
use Rattle.stack.proofs.push.store_frame.Goals as goal

pub returns-clause-stored : goal.returns-clause-stored
returns-clause-stored c =
    let a = c.args in
    let s = state_lent a.s.now in
    store_next (windows_lent a.w.now) a.ro (a.h + 1) a.h _ c.requires.1 (omega arith) c.wrapping_add-addr.ensures (framed s a.h) _ _ _
    c.write_octa.ensures.0 (locals_stored _ _ s a.ro a.h c.requires.0 c.requires.1 c.store_locals.ensures.stored)
    (sym (framed_hole s a.h))
