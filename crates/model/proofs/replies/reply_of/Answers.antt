-- A reply found has the number; where none is, the number lies behind them all.
use Rattle.model.proofs.Logic.{ap, sym, ◌∙◌, get_or_eq_default}
use Rattle.model.specs.declared.Reply.TheVariants.{Done}
use Rattle.model.specs.Numbers.{in_order, reply_of}
use Rattle.model.proofs.Numbers.{reply_by}
use Rattle.model.proofs.replies.reply_of.Goals as goal

pub returns-in-Ok : goal.returns-in-Ok
returns-in-Ok c = reply_by c.in-Ok.reply ∙ ap reply_of c.in-Ok.ensures

pub returns-in-Err : goal.returns-in-Err
unfolding reply_of
returns-in-Err c = sym (get_or_eq_default in_order Done c.in-Err.ensures.1)
