-- `mmix_step_parts` meets its contract: it is the step in place.
use Rattle.std.proofs.Common.{rules}
use Rattle.mmix.proofs.mmix_step_parts.Goals as goal

pub returns : goal.returns
returns c =
    let k = c.step-stepped.ensures.same in
    let done = rw (k.0.4, k.0.5, k.1.2) at c.step-stepped.ensures.numbered in
    record { reply_is = search (rules, c.from.ensures, done.reply_is); state_is = search (rules, done.state_is); window_is = search (rules, done.window_is) }
