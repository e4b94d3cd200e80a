-- `run` meets its contract: 1, 2, 22, 25 and 33, and else it is the run on the part, put back.
use Rattle.model.proofs.Prelude.{told_done, told_refused, number_of, not, ap, ◌+◌, ◌-◌, sym, ◌∙◌, ◌≡◌, arith, made, denied, granted}
use Rattle.model.specs.Lent.{state_lent, windows_lent}
use Rattle.task_run.proofs.Prelude.{refusal_on, judged_by}
use Rattle.task_run.specs.RunIn.{own}
use Rattle.task_run.proofs.PartShapes.{part_ruled_law}
use Rattle.task_run.proofs.TurnIn.{judged_read, turn_unopened, turn_large, turn_partless, lent_fine, lent_own, turn_done}
use Rattle.task_run.proofs.run.Goals as goal

pub returns-then-ne-clause-ran : goal.returns-then-ne-clause-ran
returns-then-ne-clause-ran c =
    let s = state_lent c.args.state.now in
    turn_unopened (own c.args.part) (windows_lent c.args.windows.now) s _ _ (judged_read _ (windows_lent c.args.windows.now) s _ (c.refusal-reply.ensures _ _ _) c.read-lent.ensures) (told_refused _ _ c.ne.ensures c.if-ne.true)

pub returns-then-grant-gt-GRANT_MOST-clause-ran : goal.returns-then-grant-gt-GRANT_MOST-clause-ran
unfolding number_of
returns-then-grant-gt-GRANT_MOST-clause-ran c =
    let s = state_lent c.args.state.now in
    turn_large (own c.args.part) (windows_lent c.args.windows.now) s _ (sym (judged_read _ (windows_lent c.args.windows.now) s _ (c.refusal-reply.ensures _ _ _) c.read-lent.ensures) ∙ told_done _ _ c.ne.ensures c.if-ne.false) c.if-grant-gt-GRANT_MOST.true

pub returns-then-not-is_ruled-clause-ran : goal.returns-then-not-is_ruled-clause-ran
unfolding number_of
returns-then-not-is_ruled-clause-ran c =
    let s = state_lent c.args.state.now in
    turn_partless (own c.args.part) (windows_lent c.args.windows.now) s _ (sym (judged_read _ (windows_lent c.args.windows.now) s _ (c.refusal-reply.ensures _ _ _) c.read-lent.ensures) ∙ told_done _ _ c.ne.ensures c.if-ne.false) c.if-grant-gt-GRANT_MOST.false (denied _ _ c.is_ruled.ensures (ap not c.if-not-is_ruled.true))

pub overflow_add-end : goal.overflow_add-end
overflow_add-end c = omega (arith, (part_ruled_law _ _ (granted _ _ c.is_ruled.ensures (ap not c.if-not-is_ruled.false))).within)

pub slice_bounds-run_own-end-2 : goal.slice_bounds-run_own-end-2
slice_bounds-run_own-end-2 c = omega (arith, (part_ruled_law _ _ (granted _ _ c.is_ruled.ensures (ap not c.if-not-is_ruled.false))).within)

pub run_own-requires : goal.run_own-requires
run_own-requires c =
    let w = c.args.windows.now in
    let p = c.args.part in
    let s = state_lent c.args.state.now in
    let e : refusal_on (windows_lent w) s ≡ 0 = sym (judged_read _ (windows_lent c.args.windows.now) s _ (c.refusal-reply.ensures _ _ _) c.read-lent.ensures) ∙ told_done _ _ c.ne.ensures c.if-ne.false in
    let n = p.start + p.len - p.start in (
      (judged_by (windows_lent w) s e).0,
      lent_fine w.at w.a.now w.b.now (own p) s e (granted _ _ c.is_ruled.ensures (ap not c.if-not-is_ruled.false)) _ n c.wrapping_add.ensures (omega arith),
      lent_own w.at w.a.now w.b.now (own p) s e (granted _ _ c.is_ruled.ensures (ap not c.if-not-is_ruled.false)) _ n c.wrapping_add.ensures (omega arith),
    )

pub returns-clause-ran : goal.returns-clause-ran
returns-clause-ran c =
    let w = c.args.windows.now in
    let p = c.args.part in
    let s = state_lent c.args.state.now in
    turn_done w.at w.a.now w.b.now (own p) s (sym (judged_read _ (windows_lent c.args.windows.now) s _ (c.refusal-reply.ensures _ _ _) c.read-lent.ensures) ∙ told_done _ _ c.ne.ensures c.if-ne.false) (granted _ _ c.is_ruled.ensures (ap not c.if-not-is_ruled.false)) _ (p.start + p.len - p.start) c.wrapping_add.ensures (omega arith)
    _ (record { generals = c.counted.ensures.0; specials = c.counted.ensures.1 }) c.if-grant-gt-GRANT_MOST.false _ _ (made _ _ _ _ _ _) _ _ c.run_own.ensures.ran
