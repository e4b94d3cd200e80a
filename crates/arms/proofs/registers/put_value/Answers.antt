-- `put_value` meets its contract: 31; else the reply's number is the refusal's, so the match tells whether there is one.
use Rattle.model.proofs.Prelude.{is_done, is_refused, sym, ◌∙◌, state_lent, halted}
use Rattle.arms.proofs.NoMemoryReplies.{put_hidden, put_done_law, put_refused}
use Rattle.arms.proofs.registers.put_value.Goals as goal

pub returns-then-is_hidden-clause-told : goal.returns-then-is_hidden-clause-told
unfolding halted
returns-then-is_hidden-clause-told c =
    let a = c.args in
    put_hidden (state_lent a.s.now) _ _ (sym c.is_hidden.ensures ∙ c.if-is_hidden.true)

pub returns-then-eq-clause-told : goal.returns-then-eq-clause-told
returns-then-eq-clause-told c =
    let a = c.args in
    let s = state_lent a.s.now in
    put_done_law s _ _ _ _ _ (c.put_special-reply.ensures s).reply_is (c.put_special-reply.ensures s).state_is (sym c.is_hidden.ensures ∙ c.if-is_hidden.false) _ (is_done (sym c.if-eq.ensures)) c.following-s.ensures

pub returns-else-eq-clause-told : goal.returns-else-eq-clause-told
returns-else-eq-clause-told c =
    let a = c.args in
    let s = state_lent a.s.now in
    put_refused s _ _ _ _ _ (c.put_special-reply.ensures s).reply_is (c.put_special-reply.ensures s).state_is (sym c.is_hidden.ensures ∙ c.if-is_hidden.false) (is_refused (sym c.if-eq.ensures))
