-- `rounds` meets its contract: where nothing is left, or none runs, further rounds change nothing; else one more is given.
use Rattle.model.proofs.Prelude.{not, ap, refl, arith}
use Rattle.tasks.proofs.Played.{rounds_start, rounds_more, ends_spent, ends_none, ends_full}
use Rattle.tasks.proofs.Lent.{tasks_on, windows_on}
use Rattle.tasks.proofs.schedule.rounds.Goals as goal

pub overflow_add-most : goal.overflow_add-most
overflow_add-most c = omega (arith, c.requires.0.few, c.requires.1)

pub loop-init : goal.loop-init
loop-init c = ((refl, refl, refl), (refl, refl, refl), rounds_start _ _ _ _ _ _ _ c.requires.0)

pub returns-then-left-eq0-clause-shown : goal.returns-then-left-eq0-clause-shown
returns-then-left-eq0-clause-shown c = ends_spent _ _ _ _ _ _ _ _ _ _ _ _ c.loop.counter c.loop.invariant.2 _ (omega arith) c.if-left-eq0.true

pub any_runs-requires : goal.any_runs-requires
any_runs-requires c = c.requires.0.few

pub returns-then-not-any_runs-clause-shown : goal.returns-then-not-any_runs-clause-shown
returns-then-not-any_runs-clause-shown c =
    ends_none _ _ _ _ _ _ _ _ _ _ _ _ c.loop.counter c.loop.invariant.2 _ (omega arith) _ c.any_runs.ensures (ap not c.if-not-any_runs.true)

pub round-left-requires : goal.round-left-requires
round-left-requires c = c.loop.invariant.2.ready

pub loop-preserved : goal.loop-preserved
loop-preserved c =
    let same = c.round-left.ensures.same in (
      tasks_on c.args.tasks.now c.loop.tasks c.round-left.new.tasks c.loop.invariant.0 same.0,
      windows_on c.args.windows.now c.loop.windows c.round-left.new.windows c.loop.invariant.1 same.1,
      rounds_more _ _ _ _ _ _ _ _ _ _ _ _ c.loop.counter c.loop.invariant.2 c.if-left-eq0.false _
          c.any_runs.ensures (ap not c.if-not-any_runs.false) _ _ _ _ _ c.round-left.ensures.played,
    )

pub returns-clause-shown : goal.returns-clause-shown
returns-clause-shown c = ends_full _ _ _ _ _ _ _ _ _ _ _ _ c.loop.counter c.loop.invariant.2 _ (omega arith)
