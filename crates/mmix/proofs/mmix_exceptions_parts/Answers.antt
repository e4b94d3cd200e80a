-- `mmix_exceptions_parts` meets its contract: it is the exception in place, with the reply's number.
use Rattle.std.proofs.Common.{rules}
use Rattle.mmix.proofs.Entries.{raised_state}
use Rattle.mmix.proofs.mmix_exceptions_parts.Goals as goal

pub returns : goal.returns
returns c =
    let k = c.raise_exceptions-raised.ensures.same in
    let done = raised_state _ _ _ _ _ _ _ _ _ _ (rw (k.4, k.5) at c.raise_exceptions-raised.ensures.told) _ c.from.ensures in
    record { reply_is = done.reply_is; state_is = search (rules, done.state_is) }
