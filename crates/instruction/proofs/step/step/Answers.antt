-- `step` meets its contract: refused by 1, 2 or 22, or what the choice gives.
use Rattle.model.proofs.Prelude.{told_done, told_refused, sym, ◌∙◌, state_lent, windows_lent}
use Rattle.instruction.proofs.Prelude.{judged_by}
use Rattle.instruction.proofs.EarlyRefusals.{refused_step, numbered}
use Rattle.instruction.proofs.step.step.Goals as goal

pub returns-then-ne-clause-numbered : goal.returns-then-ne-clause-numbered
returns-then-ne-clause-numbered c =
    let s = state_lent c.args.s.now in
    refused_step (windows_lent c.args.w.now) s _ _ _ _ _ (rw c.read-lent.ensures at (c.refusal-refused.ensures s.general s.pc s.halt)) (told_refused _ _ c.ne.ensures c.if-ne.true)

pub dispatch-requires : goal.dispatch-requires
dispatch-requires c =
    let s = state_lent c.args.s.now in
    judged_by (windows_lent c.args.w.now) s (sym (rw c.read-lent.ensures at (c.refusal-refused.ensures s.general s.pc s.halt)) ∙ told_done _ _ c.ne.ensures c.if-ne.false)

pub returns-clause-numbered : goal.returns-clause-numbered
returns-clause-numbered c = numbered _ _ _ _ _ _ _ _ _ c.dispatch.ensures.replied
