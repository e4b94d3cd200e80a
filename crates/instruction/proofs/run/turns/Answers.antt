-- `turns` meets its contract: a turn that is refused ends the run, and one that is done leaves the rest of it.
use Rattle.model.proofs.Prelude.{arith, told_done, told_refused, number_of, ◌≡◌}
use Rattle.instruction.proofs.RunTurned.{next_turn, run_refused, run_spent}
use Rattle.instruction.proofs.run.turns.Goals as goal

pub returns-then-ne-clause-numbered : goal.returns-then-ne-clause-numbered
returns-then-ne-clause-numbered c =
    run_refused _ _ _ _ _ c.loop-done.invariant.0 (omega arith) _ _ _ c.fetched-reply.ensures.numbered (told_refused _ _ c.ne.ensures c.if-ne.true)

pub loop-done-preserved : goal.loop-done-preserved
loop-done-preserved c =
    (next_turn _ _ _ _ _ c.loop-done.invariant.0 (omega arith) _ _ _ c.fetched-reply.ensures.numbered (told_done _ _ c.ne.ensures c.if-ne.false), search, search)

pub returns-clause-numbered : goal.returns-clause-numbered
unfolding number_of
returns-clause-numbered c =
    let e : c.loop-done.done ≡ c.args.grant = omega (arith, c.loop-done.invariant.0.most) in
    rw e at (run_spent _ _ _ _ _ c.loop-done.invariant.0 (omega arith))
