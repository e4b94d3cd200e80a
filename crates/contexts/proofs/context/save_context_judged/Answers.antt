-- `save_context_judged` meets its contract: each way out is one of the plan: 1, 13, 6, done.
use Rattle.model.proofs.Prelude.{reply_by, told_done, told_refused, not, ap, ◌∙◌, arith, halted, denied, granted, state_lent, windows_lent}
use Rattle.contexts.proofs.Prelude.{missing_by}
use Rattle.contexts.specs.ContextWork.{Ranged}
use Rattle.contexts.proofs.SaveStores.{departed}
use Rattle.contexts.proofs.SaveUnsaveAnswers.{ranged, save_state, save_local, save_missing, save_done}
use Rattle.contexts.proofs.context.save_context_judged.Goals as goal

pub returns-then-not-admissible-clause-gives : goal.returns-then-not-admissible-clause-gives
returns-then-not-admissible-clause-gives c = save_state _ (state_lent c.args.s.now) _ (denied _ _ (c.admissible.ensures _ _ _) (ap not c.if-not-admissible.true))

pub returns-then-x-rg-clause-gives : goal.returns-then-x-rg-clause-gives
unfolding halted
returns-then-x-rg-clause-gives c =
    save_local _ (state_lent c.args.s.now) _ (granted _ _ (c.admissible.ensures _ _ _) (ap not c.if-not-admissible.false)) c.if-x-rg.true

pub overflow_add-rl : goal.overflow_add-rl
overflow_add-rl c = let s = c.args.s.now in let e : Ranged s.special.now = ranged _ _ 0 0 _ _ (granted _ _ (c.admissible.ensures s.general.now 0 0) (ap not c.if-not-admissible.false)) in omega arith

pub returns-then-ne-clause-gives : goal.returns-then-ne-clause-gives
returns-then-ne-clause-gives c =
    let run = rw c.read-lent.ensures at c.run_refusal-reply.ensures in
    save_missing _ (state_lent c.args.s.now) _ (granted _ _ (c.admissible.ensures _ _ _) (ap not c.if-not-admissible.false)) c.if-x-rg.false
    (λ z. (told_refused _ _ c.ne.ensures c.if-ne.true) (run ∙ z)) _ (missing_by _ _ _ _ run (told_refused _ _ c.ne.ensures c.if-ne.true) _ (reply_by _))

pub put_away-requires : goal.put_away-requires
put_away-requires c = ranged _ _ 0 0 _ _ (granted _ _ (c.admissible.ensures c.args.s.now.general.now 0 0) (ap not c.if-not-admissible.false))

pub depart-requires : goal.depart-requires
depart-requires c = ranged _ _ 0 0 _ _ (granted _ _ (c.admissible.ensures c.args.s.now.general.now 0 0) (ap not c.if-not-admissible.false))

pub returns-clause-gives : goal.returns-clause-gives
returns-clause-gives c =
    let stored = c.put_away.ensures in
    let run = rw c.read-lent.ensures at c.run_refusal-reply.ensures in
    save_done _ (state_lent c.args.s.now) _ (granted _ _ (c.admissible.ensures _ _ _) (ap not c.if-not-admissible.false)) c.if-x-rg.false
    (omega (arith, run, told_done _ _ c.ne.ensures c.if-ne.false)) _ _
    (departed _ _ _ _ _ (omega (arith, c.counted.ensures.1)) stored.1 c.depart.ensures _ _ _ _) stored.0
