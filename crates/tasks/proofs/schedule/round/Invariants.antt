-- `round` meets its contract. The loop's invariant: the turns of the first k have been given.
use Rattle.model.specs.Lent.{windows_lent, SameWindows}
use Rattle.tasks.specs.Lent.{SameTasks}
use Rattle.tasks.proofs.Prelude.{tasks_in, turns_from}
use Rattle.tasks.specs.Desks.{tasks_turn, Played}
use Rattle.tasks.proofs.schedule.round.Given as goal

abbrev pub invariant-loop-k : goal.invariant-loop-k
invariant-loop-k l = SameTasks l.initial.tasks l.tasks × SameWindows l.initial.windows l.windows
    × Played l.parts (turns_from (tasks_turn l.parts l.initial.tasks.images.now) (tasks_in l.parts) l.q 0 l.k) l.left l.initial.tasks.images.now (windows_lent l.initial.windows) l.initial.tasks.counts.now l.initial.tasks.refusals.now l.rest l.tasks.images.now (windows_lent l.windows) l.tasks.counts.now l.tasks.refusals.now
