-- `run_own` meets its contract: the run's number, and 32 in the place of 6 or 24 where the instruction that it ends at asks for what is foreign.
use Rattle.std.proofs.Common.{rules}
use Rattle.model.proofs.Prelude.{not, ap, number_of, lent, state_lent, denied, granted}
use Rattle.task_run.proofs.TurnRun.{end_fine, end_admissible, end_counted, end_own, told_found, told_foreign, told_lost}
use Rattle.task_run.proofs.run_own.Goals as goal

pub returns-then-not-is_lost-clause-ran : goal.returns-then-not-is_lost-clause-ran
returns-then-not-is_lost-clause-ran c =
    let done = told_found _ (lent c.args.at c.args.a.now c.args.b.now) (state_lent c.args.state.now) _ (record { generals = c.counted.ensures.0; specials = c.counted.ensures.1 }) c.requires.0 c.requires.1 c.requires.2 _ _ _ _ c.run-ran.ensures.numbered
    (denied _ _ c.is_lost.ensures (ap not c.if-not-is_lost.true)) in
    record { reply_is = done.reply_is; count_is = done.count_is; state_is = done.state_is; window_is = search (rules, (rw c.run-ran.ensures.same.1.2 at done.window_is)) }

pub asks_foreign-requires : goal.asks_foreign-requires
asks_foreign-requires c = (
  end_counted _ (lent c.args.at c.args.a.now c.args.b.now) (state_lent c.args.state.now) _ (record { generals = c.counted.ensures.0; specials = c.counted.ensures.1 }) c.requires.0 c.requires.1 c.requires.2 _ _ _ _ c.run-ran.ensures.numbered,
  rw c.read.ensures (end_own _ (lent c.args.at c.args.a.now c.args.b.now) (state_lent c.args.state.now) _ (record { generals = c.counted.ensures.0; specials = c.counted.ensures.1 }) c.requires.0 c.requires.1 c.requires.2 _ _ _ _ c.run-ran.ensures.numbered),
  rw c.read.ensures (end_fine _ (lent c.args.at c.args.a.now c.args.b.now) (state_lent c.args.state.now) _ (record { generals = c.counted.ensures.0; specials = c.counted.ensures.1 }) c.requires.0 c.requires.1 c.requires.2 _ _ _ _ c.run-ran.ensures.numbered),
)

pub returns-then-asks_foreign-clause-ran : goal.returns-then-asks_foreign-clause-ran
unfolding number_of
returns-then-asks_foreign-clause-ran c =
    let done = told_foreign _ (lent c.args.at c.args.a.now c.args.b.now) (state_lent c.args.state.now) _ (record { generals = c.counted.ensures.0; specials = c.counted.ensures.1 }) c.requires.0 c.requires.1 c.requires.2 _ _ _ _ c.run-ran.ensures.numbered
    (granted _ _ c.is_lost.ensures (ap not c.if-not-is_lost.false)) _
    (rw c.read.ensures at (c.asks_foreign.ensures (end_admissible _ (lent c.args.at c.args.a.now c.args.b.now) (state_lent c.args.state.now) _ (record { generals = c.counted.ensures.0; specials = c.counted.ensures.1 }) c.requires.0 c.requires.1 c.requires.2 _ _ _ _ c.run-ran.ensures.numbered))) c.if-asks_foreign.true in
    record { reply_is = done.reply_is; count_is = done.count_is; state_is = done.state_is; window_is = search (rules, (rw c.run-ran.ensures.same.1.2 at done.window_is)) }

pub returns-clause-ran : goal.returns-clause-ran
returns-clause-ran c =
    let done = told_lost _ (lent c.args.at c.args.a.now c.args.b.now) (state_lent c.args.state.now) _ (record { generals = c.counted.ensures.0; specials = c.counted.ensures.1 }) c.requires.0 c.requires.1 c.requires.2 _ _ _ _ c.run-ran.ensures.numbered
    (granted _ _ c.is_lost.ensures (ap not c.if-not-is_lost.false)) _
    (rw c.read.ensures at (c.asks_foreign.ensures (end_admissible _ (lent c.args.at c.args.a.now c.args.b.now) (state_lent c.args.state.now) _ (record { generals = c.counted.ensures.0; specials = c.counted.ensures.1 }) c.requires.0 c.requires.1 c.requires.2 _ _ _ _ c.run-ran.ensures.numbered))) c.if-asks_foreign.false in
    record { reply_is = done.reply_is; count_is = done.count_is; state_is = done.state_is; window_is = search (rules, (rw c.run-ran.ensures.same.1.2 at done.window_is)) }
