-- An instance of what tasks hide, all hypotheses computed: rC, hidden, is 1 in the one and 2 in the other.
use Rattle.model.proofs.Prelude.{suc, zero, ℕ, [], ◌∷◌, refl, SameSeen, hiding, same_seen}
use Rattle.task_model.proofs.Prelude.{lent}
use Rattle.task_model.specs.Tasks.{task_of}
use Rattle.task_model.specs.Call.{tasks_of}
use Rattle.task_model.specs.TasksMeant.{SameTasks, SameTasked}
use Rattle.task_model.proofs.TasksUnseen.{tasks_unseen}

same_tasks : SameTasks (hiding 1 ∷ []) (hiding 2 ∷ [])
same_tasks = record { count_same = refl; seen_same = each_seen }
  where
    each_seen : (k : ℕ) → SameSeen (task_of (hiding 1 ∷ []) k) (task_of (hiding 2 ∷ []) k)
    each_seen zero = same_seen 1 2
    each_seen (suc k) = record {
      general_same = refl;
      special_same = record { count_same = refl; seen_same = λ i h. refl };
      pc_same = refl;
      halt_same = refl;
      marks_same = refl;
      mask_same = refl;
    }

tasks_unseen_met : SameTasked (tasks_of lent (hiding 1 ∷ []) (8 ∷ 16 ∷ []) 1 5) (tasks_of lent (hiding 2 ∷ []) (8 ∷ 16 ∷ []) 1 5)
tasks_unseen_met = tasks_unseen.by_call lent (hiding 1 ∷ []) (hiding 2 ∷ []) (8 ∷ 16 ∷ []) 1 5 same_tasks
