-- `mmix_run_parts` meets its contract: it is the run in place.
use Rattle.std.proofs.Common.{rules}
use Rattle.mmix.proofs.mmix_run_parts.Goals as goal

pub returns : goal.returns
returns c =
    let k = c.run-ran.ensures.same in
    let done = rw (k.0.4, k.0.5, k.1.2) at c.run-ran.ensures.numbered in
    record {
      reply_is = search (rules, c.from.ensures, done.reply_is);
      count_is = search (rules, done.count_is);
      state_is = search (rules, done.state_is);
      window_is = search (rules, done.window_is);
    }
