-- `save_context` of a state meets its contract: refused, or the work in place on the fields.
use Rattle.model.proofs.Prelude.{reply_by, told_done, told_refused, sym, ◌∙◌, windows_lent}
use Rattle.contexts.proofs.SaveUnsaveAnswers.{save_refused, save_judged}
use Rattle.contexts.proofs.value.save_context.Goals as goal

pub returns-then-ne-clause-gives : goal.returns-then-ne-clause-gives
returns-then-ne-clause-gives c =
    let a = c.args in
    save_refused (windows_lent a.w.now) a.state a.x _ (rw c.read-lent.ensures at (c.refusal-refusal.ensures a.state.general a.state.pc a.state.halt)) (told_refused _ _ c.ne.ensures c.if-ne.true) _ (reply_by _)

pub returns-clause-gives : goal.returns-clause-gives
returns-clause-gives c =
    let a = c.args in
    let k = c.save_context_judged-reply.ensures.same.0 in
    rw (save_judged (windows_lent a.w.now) a.state a.x (sym (rw c.read-lent.ensures at (c.refusal-refusal.ensures a.state.general a.state.pc a.state.halt)) ∙ told_done _ _ c.ne.ensures c.if-ne.false)) at
    (rw (k.4, k.5) at c.save_context_judged-reply.ensures.gives)
