-- Turns that are cut into some before, one, a list, another and the rest: where the other finds the tasks, its answer among all, and what it leaves where it is the last.
use Rattle.model.proofs.Prelude.{ℕ, append_assoc, List, [], ◌++◌, ◌∷◌, ap, sym, ◌∙◌, ◌≡◌, get_or, length, Ran, runs, step_on, both, Windows, runs_append, splits}
use Rattle.task_model.proofs.Prelude.{State}
use Rattle.task_model.specs.Tasks.{Turn, studies}
use Rattle.task_model.specs.TaskDemand.{after_turns}

module _ (ss : List State) (w : Windows) (is : List Turn) (t : Turn) (js : List Turn) where
  abbrev found : Ran (List State) Windows
  found = after_turns (step_on both studies (runs both studies ss w is).state (runs both studies ss w is).memory t) js

  pub cut_state : (runs both studies ss w (is ++ (t ∷ js))).state ≡ found.state
  unfolding runs
  cut_state = ap (λ (r : Ran (List State) Windows). r.state) (runs_append both studies is (t ∷ js) ss w)

  pub cut_memory : (runs both studies ss w (is ++ (t ∷ js))).memory ≡ found.memory
  unfolding runs
  cut_memory = ap (λ (r : Ran (List State) Windows). r.memory) (runs_append both studies is (t ∷ js) ss w)

  pub cut_answer : (u : Turn) (ks : List Turn) (d : ℕ)
      → get_or (runs both studies ss w (is ++ (t ∷ (js ++ (u ∷ ks))))).answers (length (is ++ (t ∷ js))) d ≡ (step_on both studies found.state found.memory u).reply
  cut_answer u ks d =
      ap (λ (ts : List Turn). get_or (runs both studies ss w ts).answers (length (is ++ (t ∷ js))) d) (sym (append_assoc is (t ∷ js) (u ∷ ks)))
      ∙ (splits both studies).answer_at ss w (is ++ (t ∷ js)) u ks d
      ∙ (λ i. (step_on both studies (cut_state i) (cut_memory i) u).reply)

  pub cut_ends : (u : Turn) (ks : List Turn) → ks ≡ [] → (runs both studies ss w (is ++ (t ∷ (js ++ (u ∷ ks))))).state ≡ (step_on both studies found.state found.memory u).state
  unfolding runs
  cut_ends u ks e =
      ap (λ (ts : List Turn). (runs both studies ss w (is ++ (t ∷ (js ++ (u ∷ ts))))).state) e
      ∙ ap (λ (ts : List Turn). (runs both studies ss w ts).state) (sym (append_assoc is (t ∷ js) (u ∷ [])))
      ∙ ap (λ (r : Ran (List State) Windows). r.state) (runs_append both studies (is ++ (t ∷ js)) (u ∷ []) ss w)
      ∙ (λ i. (step_on both studies (cut_state i) (cut_memory i) u).state)
