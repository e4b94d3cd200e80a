-- What a call of several tasks means: its schedule, the turns that it tried, its total; and that states stay admissible.
use Rattle.model.proofs.Prelude.{min, ℕ, ◌+◌, ◌<◌, ◌≤◌, Bool, false, not, true, ◌&&◌, List, inl, inr, ◌≢◌, ◌⊎◌, refl, ◌∙◌, ◌≡◌, ℕ_discrete, arith, eqb, ltb}
use Rattle.model.proofs.Prelude.{get_or, length, length-set, set, get_or-set_other, get_or-set_same, eq-eqb, eqb-true, ltb-false, tab, step_on, both, shapes_of}
use Rattle.model.proofs.Prelude.{Windows, admissible, fresh, Sized, run_for, fetched, Item, item_plan, adm, adm_of, Good, and_left, and_right, good_keeps}
use Rattle.model.proofs.Prelude.{item_keeps, both_lawful, perform_always, run_by, run_most, run_spent, get_d_tab}
use Rattle.task_model.proofs.Prelude.{State}
use Rattle.task_model.specs.Tasks.{Own, refusing_in, mmix_in, task_of, turn, studies}
use Rattle.task_model.specs.Schedule.{count_by, refusal_by, any_runs, is_over, Runs, Scheduled}
use Rattle.task_model.specs.Call.{tasks_in, part_at, all_admissible, turn_run, call_of, tasks_most, tasks_of}
use Rattle.task_model.specs.TasksMeant.{sum_of, CallIsMeant}
use Rattle.task_model.proofs.Schedule.{call_keeps}
use Rattle.task_model.proofs.Ends.{scheduled}
use Rattle.task_model.proofs.Counts.{counts_total, none_runs}
use Rattle.task_model.proofs.Turns.{turn_run_law}
use Rattle.task_model.proofs.Parts.{at_below, each_below_law, CallRuled, call_ruled}
use Rattle.task_model.proofs.CallOrder.{TasksPass, tasks_by}
use Rattle.task_model.proofs.Listed.{call_listed}

-- ---- the schedule

turns_known : (ns : List ℕ) (n q : ℕ) → Runs (turn_run ns) n q
unfolding turn_run
turns_known ns n q = record {
  most = λ k g ss w. run_most both studies (turn k (part_at ns k) fetched) g ss w;
  spends = λ k g ss w. run_spent both studies (turn k (part_at ns k) fetched) g ss w;
}

pub call_scheduled : (ns : List ℕ) (q : ℕ) → Scheduled (turn_run ns) (tasks_in ns) q
call_scheduled ns q = scheduled (turn_run ns) (tasks_in ns) q (turns_known ns (tasks_in ns) q)

-- ---- the total

module _ (w : Windows) (ss : List State) (ns : List ℕ) (q grant : ℕ) where
  rules : TasksPass w ss ns q grant → CallRuled ns q
  rules p = call_ruled (shapes_of w).b.size ns q p.tasks_ruled'

  spent : TasksPass w ss ns q grant → sum_of (tab 0 tasks_most (λ k. count_by k (call_of w ss ns q grant).given)) + (call_of w ss ns q grant).left ≡ grant
  unfolding call_of
  spent p =
      rw (counts_total (turn_run ns) (tasks_in ns) q grant ss w (rules p).tasks_few) ((call_scheduled ns q).spent grant ss w (rules p).turn_some)

  over : TasksPass w ss ns q grant → is_over (turn_run ns) (tasks_in ns) q (call_of w ss ns q grant) ≡ true
  unfolding call_of
  over p = (call_scheduled ns q).ends grant ss w (rules p).turn_some

  stopped : TasksPass w ss ns q grant → any_runs (tasks_in ns) (call_of w ss ns q grant).given ≡ false → (k : ℕ) → k < tasks_in ns
      → get_or (tab 0 tasks_most (λ j. refusal_by j (call_of w ss ns q grant).given)) k 0 ≢ 0
  stopped p e k l =
      rw (get_d_tab tasks_most k (λ j. refusal_by j (call_of w ss ns q grant).given) (omega (arith, (rules p).tasks_few))) (none_runs (tasks_in ns) (call_of w ss ns q grant).given e k l)

  total : (tasks_of w ss ns q grant).reply ≡ 0
      → (sum_of (tasks_of w ss ns q grant).counts ≡ grant) ⊎ ((k : ℕ) → k < tasks_in ns → get_or (tasks_of w ss ns q grant).refusals k 0 ≢ 0)
  total =
      tasks_by w ss ns q grant (λ t. t.reply ≡ 0 → (sum_of t.counts ≡ grant) ⊎ ((k : ℕ) → k < tasks_in ns → get_or t.refusals k 0 ≢ 0))
      (λ r n e. absurd (n e)) (λ p e. go p (ltb 0 (call_of w ss ns q grant).left) (any_runs (tasks_in ns) (call_of w ss ns q grant).given) refl refl (over p))
    where
      go : TasksPass w ss ns q grant → (a b : Bool) → ltb 0 (call_of w ss ns q grant).left ≡ a → any_runs (tasks_in ns) (call_of w ss ns q grant).given ≡ b → not (a && b) ≡ true
          → (sum_of (tab 0 tasks_most (λ k. count_by k (call_of w ss ns q grant).given)) ≡ grant)
          ⊎ ((k : ℕ) → k < tasks_in ns → get_or (tab 0 tasks_most (λ k. refusal_by k (call_of w ss ns q grant).given)) k 0 ≢ 0)
      go p true true e f h = absurd (let o : ◌≡◌ {A = ℕ} 0 1 = cc in omega arith)
      go p true false e f h = inr (stopped p f)
      go p false b e f h = let z : (call_of w ss ns q grant).left ≤ 0 = ltb-false _ _ e in inl (omega (arith, spent p))

  total_most : sum_of (tasks_of w ss ns q grant).counts ≤ grant
  total_most = tasks_by w ss ns q grant (λ t. sum_of t.counts ≤ grant) (λ r n. unfold sum_of in omega arith) (λ p. omega (arith, spent p))

-- ---- states stay admissible

task_good : (p : Own) (s : State) (w : Windows) (i : Item) → Good s → Good (step_on both (mmix_in p) s w i).state
unfolding step_on mmix_in
task_good p s w i h =
    perform_always both both_lawful Good (refusing_in p (both.shape w)) s (item_plan s (both.shape w) i) w h
    (item_keeps Good Good good_keeps (λ t g. g) s (both.shape w) i (λ e. h) h)

run_good : (p : Own) (g : ℕ) (s : State) (w : Windows) → Good s → Good (run_for both (mmix_in p) fetched g s w).state
run_good p =
    run_by both (mmix_in p) fetched (λ s m. Good s) (λ r. Good r.state) (λ n r h. h) (λ s m h. h) (λ s m h n. task_good p s m fetched h) (λ s m h e. task_good p s m fetched h)

record AllGood (n : ℕ) (ss : List State) : Type 0 where
  count : length ss ≡ n
  good : (k : ℕ) → k < n → Good (task_of ss k)

set_good : (n k : ℕ) (ss : List State) (t : State) → k < n → Good t → AllGood n ss → AllGood n (set ss k t)
set_good n k ss t l g h = record { count = length-set ss k t ∙ h.count; good = λ j m. go j m (ℕ_discrete j k) }
  where
    go : (j : ℕ) → j < n → Dec (j ≡ k) → Good (task_of (set ss k t) j)
    go j m (yes e) = rw (e, get_or-set_same ss k t fresh (rw h.count l)) g
    go j m (no e) = rw (get_or-set_other ss k j t fresh e) (h.good j m)

turn_good : (ns : List ℕ) (n k g : ℕ) (ss : List State) (w : Windows) → k < n → AllGood n ss → AllGood n (turn_run ns k g ss w).state
turn_good ns n k g ss w l h =
    rw (turn_run_law ns k g ss w (rw h.count l)) (set_good n k ss _ l (run_good (part_at ns k) g (task_of ss k) w (h.good k l)) h)

all_good : (n : ℕ) (ss : List State) → ((k : ℕ) → Sized (task_of ss k)) → all_admissible n ss ≡ true → AllGood n ss
unfolding all_admissible
all_good n ss z e = record {
  count = eqb-true _ _ (and_left (eqb (length ss) n) _ e);
  good = λ k l. record {
    size = z k;
    admits = adm (task_of ss k) (at_below n (λ k. admissible (task_of ss k)) (and_right (eqb (length ss) n) _ e) k l);
  };
}

of_good : (n : ℕ) (ss : List State) → AllGood n ss → all_admissible n ss ≡ true
unfolding all_admissible
of_good n ss h = rw (eq-eqb (length ss) n h.count) (each_below_law n (λ k. admissible (task_of ss k)) (λ k l. adm_of (task_of ss k) (h.good k l).admits))

admitted : (w : Windows) (ss : List State) (ns : List ℕ) (q grant : ℕ) → ((k : ℕ) → Sized (task_of ss k)) → (tasks_of w ss ns q grant).reply ≡ 0
    → all_admissible (tasks_in ns) (tasks_of w ss ns q grant).states ≡ true
unfolding call_of
admitted w ss ns q grant z =
    tasks_by w ss ns q grant (λ t. t.reply ≡ 0 → all_admissible (tasks_in ns) t.states ≡ true) (λ r n e. absurd (n e))
    (λ p e. of_good (tasks_in ns) _ (call_keeps (turn_run ns) (tasks_in ns) q (λ d. AllGood (tasks_in ns) d.states)
    (λ k d l x r h. turn_good ns (tasks_in ns) k (min q d.left) d.states d.memory l h) grant ss w (all_good (tasks_in ns) ss z p.admitted)))

pub call_is_meant : CallIsMeant
call_is_meant = record {
  scheduled = call_scheduled;
  listed = λ w ss ns q grant e. call_listed w ss ns q grant;
  total = total;
  total_most = total_most;
  admitted = admitted;
}
