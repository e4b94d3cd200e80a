-- `push_to_judged` meets its contract: the stack's reply tells whether PC is sent on.
use Rattle.model.proofs.Prelude.{state_lent, windows_lent, goes, is_done, is_refused, sym}
use Rattle.arms.proofs.PushPopSent.{push_done, push_refused}
use Rattle.arms.proofs.calls.push_to_judged.Goals as goal

pub returns-then-eq-clause-replied : goal.returns-then-eq-clause-replied
unfolding goes
returns-then-eq-clause-replied c = push_done (windows_lent c.args.w.now) (state_lent c.args.s.now) _ _ _ _ _ c.push_frame_judged-reply.ensures.gives (is_done (sym c.if-eq.ensures))

pub returns-else-eq-clause-replied : goal.returns-else-eq-clause-replied
returns-else-eq-clause-replied c = push_refused (windows_lent c.args.w.now) (state_lent c.args.s.now) _ _ _ _ _ c.push_frame_judged-reply.ensures.gives (is_refused (sym c.if-eq.ensures))
