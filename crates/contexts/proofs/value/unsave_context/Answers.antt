-- `unsave_context` of a state meets its contract: refused, or the work in place on the fields.
use Rattle.model.proofs.Prelude.{reply_by, told_done, told_refused, sym, ◌∙◌, windows_read}
use Rattle.contexts.proofs.SaveUnsaveAnswers.{unsave_refused, unsave_judged}
use Rattle.contexts.proofs.value.unsave_context.Goals as goal

pub returns-then-ne : goal.returns-then-ne
returns-then-ne c = let a = c.args in unsave_refused (windows_read a.windows) a.state a.address _ (c.refusal-refusal.ensures a.state.general a.state.pc a.state.halt) (told_refused _ _ c.ne.ensures c.if-ne.true) _ (reply_by _)

pub returns : goal.returns
returns c =
    let a = c.args in
    let k = c.unsave_context_judged-reply.ensures.same in
    rw (unsave_judged (windows_read a.windows) a.state a.address (sym (c.refusal-refusal.ensures a.state.general a.state.pc a.state.halt) ∙ told_done _ _ c.ne.ensures c.if-ne.false)) at
    (rw (k.4, k.5) at c.unsave_context_judged-reply.ensures.gives)
