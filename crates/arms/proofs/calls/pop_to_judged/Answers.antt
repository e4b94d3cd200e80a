-- `pop_to_judged` meets its contract: each answer of the stack is a number, and with 0 PC is sent on.
use Rattle.model.proofs.Prelude.{refl, yz_of, reply_of, windows_read, state_lent, goes}
use Rattle.arms.proofs.Prelude.{pop_number}
use Rattle.arms.proofs.PushPopSent.{pop_done, pop_refused}
use Rattle.arms.proofs.calls.pop_to_judged.Goals as goal

pub returns-in-Frame-clause-replied : goal.returns-in-Frame-clause-replied
unfolding goes
returns-in-Frame-clause-replied c =
    let a = c.args in
    pop_done (windows_read a.w) (state_lent a.s.now) a.i.now.x (yz_of a.i.now.y a.i.now.z) _ _ c.pop_frame_judged-found.ensures.gives _ c.in-Frame.is

pub returns-in-NoFrame-clause-replied : goal.returns-in-NoFrame-clause-replied
unfolding reply_of pop_number
returns-in-NoFrame-clause-replied c =
    let a = c.args in
    pop_refused (windows_read a.w) (state_lent a.s.now) a.i.now.x (yz_of a.i.now.y a.i.now.z) _ _ c.pop_frame_judged-found.ensures.gives _ _ c.in-NoFrame.is refl refl

pub returns-in-Rejected-clause-replied : goal.returns-in-Rejected-clause-replied
unfolding reply_of pop_number
returns-in-Rejected-clause-replied c =
    let a = c.args in
    pop_refused (windows_read a.w) (state_lent a.s.now) a.i.now.x (yz_of a.i.now.y a.i.now.z) _ _ c.pop_frame_judged-found.ensures.gives _ _ c.in-Rejected.is refl refl

pub returns-in-Missing-clause-replied : goal.returns-in-Missing-clause-replied
unfolding reply_of pop_number
returns-in-Missing-clause-replied c =
    let a = c.args in
    pop_refused (windows_read a.w) (state_lent a.s.now) a.i.now.x (yz_of a.i.now.y a.i.now.z) _ _ c.pop_frame_judged-found.ensures.gives _ _ c.in-Missing.is refl refl

pub returns-in-NotAdmissible-clause-replied : goal.returns-in-NotAdmissible-clause-replied
unfolding reply_of pop_number
returns-in-NotAdmissible-clause-replied c =
    let a = c.args in
    pop_refused (windows_read a.w) (state_lent a.s.now) a.i.now.x (yz_of a.i.now.y a.i.now.z) _ _ c.pop_frame_judged-found.ensures.gives _ _ c.in-NotAdmissible.is refl refl

pub returns-in-WindowRule-clause-replied : goal.returns-in-WindowRule-clause-replied
unfolding reply_of pop_number
returns-in-WindowRule-clause-replied c =
    let a = c.args in
    pop_refused (windows_read a.w) (state_lent a.s.now) a.i.now.x (yz_of a.i.now.y a.i.now.z) _ _ c.pop_frame_judged-found.ensures.gives _ _ c.in-WindowRule.is refl refl

pub returns-in-Shared-clause-replied : goal.returns-in-Shared-clause-replied
unfolding reply_of pop_number
returns-in-Shared-clause-replied c =
    let a = c.args in
    pop_refused (windows_read a.w) (state_lent a.s.now) a.i.now.x (yz_of a.i.now.y a.i.now.z) _ _ c.pop_frame_judged-found.ensures.gives _ _ c.in-Shared.is refl refl
