-- What is lent on and on is still the same.
use Rattle.model.proofs.Prelude.{◌∙◌}
use Rattle.model.specs.Lent.{SameWindows}
use Rattle.model.specs.declared.WindowsMut.{WindowsMut}
use Rattle.tasks.specs.Lent.{SameTasks}
use Rattle.tasks.specs.declared.schedule.Tasks.{Tasks}

pub tasks_on : (s t u : Tasks) → SameTasks s t → SameTasks t u → SameTasks s u
tasks_on s t u e f = (f.0 ∙ e.0, f.1 ∙ e.1, f.2 ∙ e.2)

pub windows_on : (v w x : WindowsMut) → SameWindows v w → SameWindows w x → SameWindows v x
windows_on v w x e f = (f.0 ∙ e.0, f.1 ∙ e.1, f.2 ∙ e.2)
