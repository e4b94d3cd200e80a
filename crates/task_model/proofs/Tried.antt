-- What holds of the turns that a call tries: of none, and of those before with one more.
use Rattle.model.proofs.Prelude.{suc, zero, ℕ, ◌<◌, append_assoc, append-nil, List, [], ◌++◌, ◌∷◌, subst, sym, replicate, Windows, tried, fetched}
use Rattle.task_model.proofs.Prelude.{State}
use Rattle.task_model.specs.Tasks.{Turn, turn}
use Rattle.task_model.specs.Call.{tasks_in, part_at, turn_run, call_of}
use Rattle.task_model.specs.TasksMeant.{tried_turns}
use Rattle.task_model.proofs.Schedule.{ran_by, call_keeps}

module _ (Q : List Turn → Type 0) (ns : List ℕ) (none : Q []) (more : (is : List Turn) (k : ℕ) → k < tasks_in ns → Q is → Q (is ++ (turn k (part_at ns k) fetched ∷ []))) where
  many : (m k : ℕ) (is : List Turn) → k < tasks_in ns → Q is → Q (is ++ replicate m (turn k (part_at ns k) fetched))
  many zero k is l h = subst Q (sym (append-nil is)) h
  many (suc m) k is l h = subst Q (append_assoc is (turn k (part_at ns k) fetched ∷ []) (replicate m (turn k (part_at ns k) fetched))) (many m k _ l (more is k l h))

  pub tried_by : (w : Windows) (ss : List State) (q grant : ℕ) → Q (tried_turns ns (call_of w ss ns q grant).given)
  unfolding call_of tried_turns
  tried_by w ss q grant =
      call_keeps (turn_run ns) (tasks_in ns) q (λ d. Q (tried_turns ns d.given))
      (λ k d l x r h. many (tried (ran_by (turn_run ns) (tasks_in ns) q k d)) k (tried_turns ns d.given) l h) grant ss w none
