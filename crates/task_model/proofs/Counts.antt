-- The counts of eight tasks, all that have turns, come to all that was done; and who has stopped where none runs.
use Rattle.model.proofs.Prelude.{suc, zero, ℕ, ◌+◌, ◌<◌, ◌≤◌, false, true, List, ◌∷◌, ◌≢◌, refl, ◌∙◌, ◌≡◌, ℕ_discrete, arith, eq-eqb, eqb-false, ne_eqb, tab}
use Rattle.model.proofs.Prelude.{Stopped, or_left, or_right}
use Rattle.task_model.specs.Schedule.{Given, count_by, refusal_by, running, any_runs, total_of, Desk, gave, call_by}
use Rattle.task_model.specs.Call.{tasks_most}
use Rattle.task_model.specs.TasksMeant.{sum_of}
use Rattle.task_model.proofs.Schedule.{ran_by, call_keeps}

-- the counts of the c tasks from i on
unfoldable pub counts_of : ℕ → ℕ → List Given → ℕ
counts_of c i gs = sum_of (tab i c (λ k. count_by k gs))

-- a turn of t: its count alone is more
counts_other : (c i t d r : ℕ) (gs : List Given) → t < i → counts_of c i (record { task = t; done = d; reply = r } ∷ gs) ≡ counts_of c i gs
unfolding counts_of sum_of tab count_by
counts_other zero i t d r gs l = refl
counts_other (suc c) i t d r gs l = rw (ne_eqb t i (λ e. omega arith), counts_other c (suc i) t d r gs (omega arith)) (omega arith)

counts_own : (c i t d r : ℕ) (gs : List Given) → i ≤ t → t < i + c → counts_of c i (record { task = t; done = d; reply = r } ∷ gs) ≡ d + counts_of c i gs
unfolding counts_of sum_of tab count_by
counts_own zero i t d r gs l m = absurd (omega arith)
counts_own (suc c) i t d r gs l m = go (ℕ_discrete t i) (λ h. counts_own c (suc i) t d r gs h (omega arith))
  where
    go : Dec (t ≡ i) → (suc i ≤ t → counts_of c (suc i) (record { task = t; done = d; reply = r } ∷ gs) ≡ d + counts_of c (suc i) gs)
        → counts_of (suc c) i (record { task = t; done = d; reply = r } ∷ gs) ≡ d + counts_of (suc c) i gs
    go (yes e) f = rw (eq-eqb t i e, counts_other c (suc i) t d r gs (omega arith)) (omega arith)
    go (no e) f = rw (ne_eqb t i e, f (omega (arith, e))) (omega arith)

pub counts_total : {C M : Type 0} (run : ℕ → ℕ → C → M → Stopped C M) (n q grant : ℕ) (c : C) (m : M) → n ≤ tasks_most
    → sum_of (tab 0 tasks_most (λ k. count_by k (call_by run n q grant c m).given)) ≡ total_of (call_by run n q grant c m).given
unfolding counts_of
counts_total {C} {M} run n q grant c m few =
    call_keeps run n q (λ d. counts_of tasks_most 0 d.given ≡ total_of d.given) kept grant c m (unfold counts_of sum_of tab count_by total_of in refl)
  where
    kept : (k : ℕ) (d : Desk C M) → k < n → 0 < d.left → running k d.given ≡ true → counts_of tasks_most 0 d.given ≡ total_of d.given
        → counts_of tasks_most 0 (gave run n q k d (ran_by run n q k d)).given ≡ total_of (gave run n q k d (ran_by run n q k d)).given
    kept k d l x r h = counts_own tasks_most 0 k (ran_by run n q k d).done (ran_by run n q k d).reply d.given (omega arith) (omega arith)
        ∙ (unfold total_of in rw h)

pub none_runs : (n : ℕ) (gs : List Given) → any_runs n gs ≡ false → (k : ℕ) → k < n → refusal_by k gs ≢ 0
unfolding any_runs
none_runs zero gs e k l = absurd (omega arith)
none_runs (suc n) gs e k l = go (ℕ_discrete k n) (none_runs n gs (or_right (running n gs) _ e) k)
  where
    go : Dec (k ≡ n) → (k < n → refusal_by k gs ≢ 0) → refusal_by k gs ≢ 0
    go (yes q) f = rw q (eqb-false _ _ (or_left (running n gs) _ e))
    go (no q) f = f (omega (arith, q))
