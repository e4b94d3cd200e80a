-- `call_refusal` meets its contract: each test in its turn.
use Rattle.model.proofs.Prelude.{told_done, told_refused, number_of, not}
use Rattle.model.proofs.Prelude.{ap}
use Rattle.model.proofs.Prelude.{arith, shape_of, shapes_of, denied, granted}
use Rattle.tasks.proofs.Judged.{ruled_so_law, call_unruled, call_granted, call_ruled, call_inadmissible, call_open}
use Rattle.tasks.proofs.judge.call_refusal.Goals as goal

pub returns-then-ne : goal.returns-then-ne
returns-then-ne c = call_unruled _ _ _ _ _ _ c.windows_refusal-refused.ensures (told_refused _ _ c.ne.ensures c.if-ne.true)

pub returns-then-grant-gt-GRANT_MOST : goal.returns-then-grant-gt-GRANT_MOST
unfolding number_of
returns-then-grant-gt-GRANT_MOST c = call_granted _ _ _ _ _ _ c.windows_refusal-refused.ensures (told_done _ _ c.ne.ensures c.if-ne.false) (omega arith)

pub returns-then-not-is_ruled : goal.returns-then-not-is_ruled
unfolding shapes_of shape_of number_of
returns-then-not-is_ruled c =
    call_ruled _ _ _ _ _ _ c.windows_refusal-refused.ensures (told_done _ _ c.ne.ensures c.if-ne.false) (omega arith) (denied _ _ c.is_ruled.ensures (ap not c.if-not-is_ruled.true))

pub are_admissible-requires : goal.are_admissible-requires
are_admissible-requires c =
    let r = ruled_so_law _ _ _ (granted _ _ c.is_ruled.ensures (ap not c.if-not-is_ruled.false)) in
    (r.tasks_some, r.tasks_few)

pub returns-then-not-are_admissible : goal.returns-then-not-are_admissible
unfolding shapes_of shape_of number_of
returns-then-not-are_admissible c =
    call_inadmissible _ _ _ _ _ _ c.windows_refusal-refused.ensures (told_done _ _ c.ne.ensures c.if-ne.false) (omega arith)
    (granted _ _ c.is_ruled.ensures (ap not c.if-not-is_ruled.false)) (denied _ _ c.are_admissible.ensures (ap not c.if-not-are_admissible.true))

pub returns : goal.returns
unfolding shapes_of shape_of number_of
returns c =
    call_open _ _ _ _ _ _ c.windows_refusal-refused.ensures (told_done _ _ c.ne.ensures c.if-ne.false) (omega arith)
    (granted _ _ c.is_ruled.ensures (ap not c.if-not-is_ruled.false)) (granted _ _ c.are_admissible.ensures (ap not c.if-not-are_admissible.false))
