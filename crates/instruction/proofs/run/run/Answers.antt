-- `run` meets its contract: 1, 2 and 22 by one number, 25, and else it is the turns.
use Rattle.model.proofs.Prelude.{told_done, told_refused, sym, ◌∙◌, number_of, state_lent, windows_lent}
use Rattle.instruction.proofs.Prelude.{judged_by}
use Rattle.instruction.proofs.RunTurned.{run_unopened, run_large, run_turns}
use Rattle.instruction.proofs.run.run.Goals as goal

pub returns-then-ne-clause-numbered : goal.returns-then-ne-clause-numbered
returns-then-ne-clause-numbered c =
    let s = state_lent c.args.s.now in
    let w = windows_lent c.args.w.now in
    let e = rw c.read-lent.ensures at (c.refusal-reply.ensures s.general s.pc s.halt) in
    run_unopened w s c.args.grant _ e (told_refused _ _ c.ne.ensures c.if-ne.true)

pub returns-then-grant-gt-GRANT_MOST-clause-numbered : goal.returns-then-grant-gt-GRANT_MOST-clause-numbered
unfolding number_of
returns-then-grant-gt-GRANT_MOST-clause-numbered c =
    let s = state_lent c.args.s.now in
    let e = rw c.read-lent.ensures at (c.refusal-reply.ensures s.general s.pc s.halt) in
    run_large (windows_lent c.args.w.now) s c.args.grant (sym e ∙ told_done _ _ c.ne.ensures c.if-ne.false) c.if-grant-gt-GRANT_MOST.true

pub turns-requires : goal.turns-requires
turns-requires c =
    let s = state_lent c.args.s.now in
    let e = rw c.read-lent.ensures at (c.refusal-reply.ensures s.general s.pc s.halt) in
    judged_by (windows_lent c.args.w.now) s (sym e ∙ told_done _ _ c.ne.ensures c.if-ne.false)

pub returns-clause-numbered : goal.returns-clause-numbered
returns-clause-numbered c =
    let s = state_lent c.args.s.now in
    let e = rw c.read-lent.ensures at (c.refusal-reply.ensures s.general s.pc s.halt) in
    run_turns (windows_lent c.args.w.now) s c.args.grant (sym e ∙ told_done _ _ c.ne.ensures c.if-ne.false) c.if-grant-gt-GRANT_MOST.false _ _ _ _ c.turns.ensures.numbered
