-- `round` meets its contract: no turn is given at first, one more each time, and all are given in the end.
use Rattle.model.proofs.Prelude.{refl, arith}
use Rattle.tasks.proofs.Played.{turns_start, turns_more, turns_all}
use Rattle.tasks.proofs.Lent.{tasks_on, windows_on}
use Rattle.tasks.proofs.schedule.round.Goals as goal

pub loop-k-init : goal.loop-k-init
loop-k-init c = ((refl, refl, refl), (refl, refl, refl), turns_start _ _ _ _ _ _ _ c.requires)

pub turn-rest-requires : goal.turn-rest-requires
turn-rest-requires c = (omega arith, c.loop-k.invariant.2.ready)

pub loop-k-preserved : goal.loop-k-preserved
loop-k-preserved c =
    let same = c.turn-rest.ensures.same in (
      tasks_on c.args.tasks.now c.loop-k.tasks c.turn-rest.new.tasks c.loop-k.invariant.0 same.0,
      windows_on c.args.windows.now c.loop-k.windows c.turn-rest.new.windows c.loop-k.invariant.1 same.1,
      turns_more _ _ _ _ _ _ _ _ _ _ _ _ c.loop-k.k c.loop-k.invariant.2 _ _ _ _ _ c.turn-rest.ensures.played,
    )

pub returns-clause-played : goal.returns-clause-played
returns-clause-played c = turns_all _ _ _ _ _ _ _ _ _ _ _ _ c.loop-k.k (omega arith) c.loop-k.invariant.2
