-- `unsave_context_judged` meets its contract: each way out is what `locate` found.
use Rattle.model.proofs.Prelude.{halted, state_lent}
use Rattle.contexts.proofs.LocateAnswers.{at_err, stands_at}
use Rattle.contexts.proofs.SaveUnsaveAnswers.{unsave_done, unsave_bad, unsave_lost}
use Rattle.contexts.proofs.context.unsave_context_judged.Goals as goal

pub arrive-requires : goal.arrive-requires
arrive-requires c = let e = stands_at _ _ _ c.locate-located.ensures _ c.in-Ok.is in (e.g_high, e.l_g)

pub returns-in-Ok-clause-gives : goal.returns-in-Ok-clause-gives
returns-in-Ok-clause-gives c = unsave_done _ (state_lent c.args.s.now) _ _ c.locate-located.ensures _ c.in-Ok.is _ (c.arrive.ensures _ _ _ _)

pub returns-in-Err-Bad-clause-gives : goal.returns-in-Err-Bad-clause-gives
unfolding halted
returns-in-Err-Bad-clause-gives c = unsave_bad _ (state_lent c.args.s.now) _ _ c.locate-located.ensures _ (at_err _ _ _ c.in-Err-Bad.is (rw c.in-Err-Bad.is at c.in-Err-Bad.field-0-is))

pub returns-in-Err-Lost-clause-gives : goal.returns-in-Err-Lost-clause-gives
returns-in-Err-Lost-clause-gives c = unsave_lost _ (state_lent c.args.s.now) _ _ c.locate-located.ensures _ (at_err _ _ _ c.in-Err-Lost.is (rw c.in-Err-Lost.is at c.in-Err-Lost.field-0-is))
