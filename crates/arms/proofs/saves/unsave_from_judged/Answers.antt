-- `unsave_from_judged` meets its contract: the reply's number is the outcome's, so the match tells whether PC goes on.
use Rattle.model.proofs.Prelude.{is_done, is_refused, sym, windows_read, state_lent, goes}
use Rattle.arms.proofs.Prelude.{unsave_in}
use Rattle.arms.proofs.SaveUnsaveSent.{unsave_onward, onward_done, onward_refused}
use Rattle.arms.proofs.saves.unsave_from_judged.Goals as goal

pub returns-then-eq-clause-replied : goal.returns-then-eq-clause-replied
unfolding unsave_in goes
returns-then-eq-clause-replied c =
    let a = c.args in
    let s = state_lent a.s.now in
    onward_done _ s (unsave_onward (windows_read a.w) s a.address) _ _ _ c.unsave_context_judged-reply.ensures.gives _ (is_done (sym c.if-eq.ensures)) c.following-s.ensures

pub returns-else-eq-clause-replied : goal.returns-else-eq-clause-replied
unfolding unsave_in goes
returns-else-eq-clause-replied c =
    let a = c.args in
    let s = state_lent a.s.now in
    onward_refused _ s (unsave_onward (windows_read a.w) s a.address) _ _ _ c.unsave_context_judged-reply.ensures.gives (is_refused (sym c.if-eq.ensures))
