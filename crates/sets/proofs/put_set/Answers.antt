-- `put_set` meets its contract: 1, 30, then what judging says; where it passes, all is put.
use Rattle.model.proofs.Prelude.{number_of, not, ap, subst, arith, halted, denied, granted}
use Rattle.model.specs.Lent.{state_lent}
use Rattle.sets.specs.Sets.{pairs_of}
use Rattle.sets.specs.Answer.{Judged}
use Rattle.sets.proofs.Pairs.{pairs_count}
use Rattle.sets.proofs.Answers.{not_admissible, too_many, all_put, none_put, fails_by}
use Rattle.sets.proofs.put_set.Goals as goal

pub returns-then-not-admissible-clause-put : goal.returns-then-not-admissible-clause-put
returns-then-not-admissible-clause-put c =
    let s = state_lent c.args.state.now in
    not_admissible s (pairs_of c.args.pairs.now) (denied _ _ (c.admissible.ensures s.general s.pc s.halt) (ap not c.if-not-admissible.true))

pub returns-then-pairs-gt-PAIRS_MAX-clause-put : goal.returns-then-pairs-gt-PAIRS_MAX-clause-put
returns-then-pairs-gt-PAIRS_MAX-clause-put c =
    let s = state_lent c.args.state.now in
    too_many s (pairs_of c.args.pairs.now) (granted _ _ (c.admissible.ensures s.general s.pc s.halt) (ap not c.if-not-admissible.false))
    (omega (arith, pairs_count c.args.pairs.now))

pub returns-in-Err-clause-put : goal.returns-in-Err-clause-put
unfolding halted
returns-in-Err-clause-put c =
    let s = state_lent c.args.state.now in
    none_put s (pairs_of c.args.pairs.now) (record { generals = c.counted.ensures.0; specials = c.counted.ensures.1 })
    (granted _ _ (c.admissible.ensures s.general s.pc s.halt) (ap not c.if-not-admissible.false))
    (omega (arith, pairs_count c.args.pairs.now))
    _ (subst (Judged _) c.in-Err.is c.judge.ensures)

pub returns-clause-put : goal.returns-clause-put
returns-clause-put c =
    let s = state_lent c.args.state.now in
    all_put s (pairs_of c.args.pairs.now) (record { generals = c.counted.ensures.0; specials = c.counted.ensures.1 })
    (granted _ _ (c.admissible.ensures s.general s.pc s.halt) (ap not c.if-not-admissible.false))
    (omega (arith, pairs_count c.args.pairs.now))
    (subst (Judged _) c.in_default.is c.judge.ensures) _ (c.put_all.ensures s)

pub returns-then-not-admissible-clause-failed : goal.returns-then-not-admissible-clause-failed
unfolding number_of
returns-then-not-admissible-clause-failed c = λ e. omega arith

pub returns-then-pairs-gt-PAIRS_MAX-clause-failed : goal.returns-then-pairs-gt-PAIRS_MAX-clause-failed
unfolding number_of
returns-then-pairs-gt-PAIRS_MAX-clause-failed c = λ e. omega arith

pub returns-in-Err-clause-failed : goal.returns-in-Err-clause-failed
returns-in-Err-clause-failed c =
    fails_by _ (pairs_of c.args.pairs.now) _ (omega (arith, pairs_count c.args.pairs.now)) (subst (Judged _) c.in-Err.is c.judge.ensures)
