-- A call is the list of the turns that it tried.
use Rattle.model.proofs.Prelude.{min, ℕ, List, ◌++◌, ap, refl, ◌∙◌, ◌≡◌, replicate, Ran, runs, both, Windows, Stopped, tried, fetched, runs_append, IsList}
use Rattle.model.proofs.Prelude.{run_listed}
use Rattle.task_model.proofs.Prelude.{State}
use Rattle.task_model.specs.Tasks.{Turn, turn, studies}
use Rattle.task_model.specs.Schedule.{Desk, gave}
use Rattle.task_model.specs.Call.{tasks_in, part_at, turn_run, call_of}
use Rattle.task_model.specs.TasksMeant.{tried_turns, tried_answers, CallListed}
use Rattle.task_model.proofs.Schedule.{ran_by, call_keeps}

module _ (w : Windows) (ss : List State) (ns : List ℕ) (q : ℕ) where
  -- what a turn of k adds
  abbrev its_turns : ℕ → Stopped (List State) Windows → List Turn
  its_turns k r = replicate (tried r) (turn k (part_at ns k) fetched)

  pub turn_listed : (k g : ℕ) (ts : List State) (m : Windows) → IsList both studies (turn k (part_at ns k) fetched) ts m (turn_run ns k g ts m)
  unfolding turn_run
  turn_listed k g ts m = run_listed both studies (turn k (part_at ns k) fetched) g ts m

  pub given_listed : (k : ℕ) (d : Desk (List State) Windows) (r : Stopped (List State) Windows) → IsList both studies (turn k (part_at ns k) fetched) d.states d.memory r
      → CallListed w ss ns d → CallListed w ss ns (gave (turn_run ns) (tasks_in ns) q k d r)
  unfolding tried_turns tried_answers
  given_listed k d r t h = record {
    answers_are = ap (λ (x : Ran (List State) Windows). x.answers) all ∙ (λ i. h.answers_are i ++ t.answers_are i);
    states_are = ap (λ (x : Ran (List State) Windows). x.state) all ∙ t.state_is;
    memory_is = ap (λ (x : Ran (List State) Windows). x.memory) all ∙ t.memory_is;
  }
    where
      before : Ran (List State) Windows
      before = runs both studies ss w (tried_turns ns d.given)

      now : Ran (List State) Windows
      now = runs both studies d.states d.memory (its_turns k r)

      all : runs both studies ss w (tried_turns ns d.given ++ its_turns k r) ≡ record { answers = before.answers ++ now.answers; state = now.state; memory = now.memory }
      all = runs_append both studies (tried_turns ns d.given) (its_turns k r) ss w
          ∙ (λ i. let t : Ran (List State) Windows = runs both studies (h.states_are i) (h.memory_is i) (its_turns k r) in
          record { answers = before.answers ++ t.answers; state = t.state; memory = t.memory })

  pub call_listed : (grant : ℕ) → CallListed w ss ns (call_of w ss ns q grant)
  unfolding call_of
  call_listed grant =
      call_keeps (turn_run ns) (tasks_in ns) q (CallListed w ss ns)
      (λ k d l x r h. given_listed k d (ran_by (turn_run ns) (tasks_in ns) q k d) (turn_listed k (min q d.left) d.states d.memory) h) grant ss w
      (record { answers_are = unfold tried_turns tried_answers runs in refl; states_are = unfold tried_turns runs in refl; memory_is = unfold tried_turns runs in refl })
