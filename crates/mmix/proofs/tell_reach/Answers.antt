-- `tell_reach` meets its contract: the case tells the number and the values.
use Rattle.model.proofs.Prelude.{answer_of}
use Rattle.mmix.proofs.Entries.{case_told}
use Rattle.mmix.proofs.tell_reach.Goals as goal

pub returns-in-Forward : goal.returns-in-Forward
unfolding answer_of
returns-in-Forward c = case_told _ _ c.in-Forward.is _ c.from.ensures

pub returns-in-Backward : goal.returns-in-Backward
unfolding answer_of
returns-in-Backward c = case_told _ _ c.in-Backward.is _ c.from-in-Backward.ensures

pub returns-in-Neither : goal.returns-in-Neither
unfolding answer_of
returns-in-Neither c = case_told _ _ c.in-Neither.is _ c.from-in-Neither.ensures
