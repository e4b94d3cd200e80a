-- `has_foreign` meets its contract. The loop's invariant: the octabytes that are passed are not foreign, so that the others tell.
use Rattle.model.proofs.Prelude.{◌-◌, ◌≡◌, ups}
use Rattle.task_run.specs.Ask.{asks}
use Rattle.task_run.proofs.ask.has_foreign.Given as goal

abbrev pub invariant-loop : goal.invariant-loop
invariant-loop l = asks l.whole (ups l.addr l.n) ≡ asks l.whole (ups l.place (l.n - l.counter))
