-- `rounds` meets its contract. The loop's invariant: as many rounds have been given as it has gone.
use Rattle.model.specs.Lent.{windows_lent, SameWindows}
use Rattle.tasks.specs.Lent.{SameTasks}
use Rattle.tasks.proofs.Prelude.{tasks_in, rounds}
use Rattle.tasks.specs.Desks.{tasks_turn, Played}
use Rattle.tasks.proofs.schedule.rounds.Given as goal

abbrev pub invariant-loop : goal.invariant-loop
invariant-loop l = SameTasks l.initial.tasks l.tasks × SameWindows l.initial.windows l.windows
    × Played l.parts (rounds (tasks_turn l.parts l.initial.tasks.images.now) (tasks_in l.parts) l.q l.counter) l.grant l.initial.tasks.images.now (windows_lent l.initial.windows) l.initial.tasks.counts.now l.initial.tasks.refusals.now l.left l.tasks.images.now (windows_lent l.windows) l.tasks.counts.now l.tasks.refusals.now
