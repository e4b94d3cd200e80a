-- The tasks of a call as code lends them: after it they are still the same ones.
use Rattle.std.specs.Prelude.{◌≡◌}
use Rattle.tasks.specs.declared.schedule.Tasks.{Tasks}

abbrev pub SameTasks : Tasks → Tasks → Type 0
SameTasks s t =
    (t.images.ghost_name ≡ s.images.ghost_name) × (t.counts.ghost_name ≡ s.counts.ghost_name) × (t.refusals.ghost_name ≡ s.refusals.ghost_name)
