-- `pop_frame` of a state meets its contract: refused, or the work in place on the fields.
use Rattle.model.proofs.Prelude.{told_done, told_refused, sym, ◌∙◌, windows_read}
use Rattle.stack.proofs.Judged.{refused_by_law}
use Rattle.stack.proofs.PushPopAnswers.{pop_refused, pop_judged}
use Rattle.stack.proofs.value.pop_frame.Goals as goal

pub refused-requires : goal.refused-requires
refused-requires c = let a = c.args in refused_by_law (windows_read a.windows) a.state _ (c.refusal-refusal.ensures a.state.general a.state.pc a.state.halt) (told_refused _ _ c.ne.ensures c.if-ne.true)

pub returns-then-ne : goal.returns-then-ne
returns-then-ne c = let a = c.args in pop_refused (windows_read a.windows) a.state a.x a.yz _ (c.refusal-refusal.ensures a.state.general a.state.pc a.state.halt) (told_refused _ _ c.ne.ensures c.if-ne.true) _ c.refused.ensures.0 (c.refused.ensures.1 a.state a.yz)

pub returns : goal.returns
returns c =
    let a = c.args in
    let k = c.pop_frame_judged-answer.ensures.same in
    rw (pop_judged (windows_read a.windows) a.state a.x a.yz (sym (c.refusal-refusal.ensures a.state.general a.state.pc a.state.halt) ∙ told_done _ _ c.ne.ensures c.if-ne.false)) at
    (rw (k.4, k.5) at c.pop_frame_judged-answer.ensures.gives)
