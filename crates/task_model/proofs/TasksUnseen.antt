-- What is hidden is not seen by tasks either: turns on states that differ only in hidden registers make the same accesses, give the same replies and leave such states.
use Rattle.model.proofs.Prelude.{ℕ, ◌<◌, ◌&&◌, List, ap, refl, sym, ◌∙◌, ◌≡◌, dec_lt, ℕ_discrete, arith, eqb, length, length-set, set, get_or-set_other}
use Rattle.model.proofs.Prelude.{get_or-set_same, set_out, tab, runs, both, Shapes, shapes_of, Windows, fresh, fetched, item_plan, SameSeen, by_test}
use Rattle.model.proofs.Prelude.{admissible_same, of_seen, Seen, seen_of}
use Rattle.task_model.proofs.Prelude.{State}
use Rattle.model.proofs.Related.{Related, RelatedRan, RelatedStopped, related_map, runs_related, run_related}
use Rattle.model.proofs.Unseen.{item_seen}
use Rattle.task_model.specs.Tasks.{task_of, Turn, turn, turn_judge, turn_plan, studies}
use Rattle.task_model.specs.Schedule.{Given, count_by, refusal_by}
use Rattle.task_model.specs.Call.{tasks_in, part_at, each_below, all_admissible, call_refusal, turn_run, call_of, tasks_most, tasks_of}
use Rattle.task_model.specs.TasksMeant.{SameTasks, SameTurns, SameTasked, TasksUnseen}
use Rattle.task_model.proofs.SameCall.{SameStop, SameDesk, call_same}

-- ---- turns

set_same : (ss ts : List State) (k : ℕ) (s t : State) → SameSeen s t → SameTasks ss ts → SameTasks (set ss k s) (set ts k t)
set_same ss ts k s t x h = go (dec_lt k (length ss))
  where
    at : k < length ss → (j : ℕ) → Dec (j ≡ k) → SameSeen (task_of (set ss k s) j) (task_of (set ts k t) j)
    at l j (yes e) = rw (e, get_or-set_same ss k s fresh l, get_or-set_same ts k t fresh (rw (← h.count_same) l)) x
    at l j (no e) = rw (get_or-set_other ss k j s fresh e, get_or-set_other ts k j t fresh e) (h.seen_same j)

    go : Dec (k < length ss) → SameTasks (set ss k s) (set ts k t)
    go (yes l) = record { count_same = length-set ss k s ∙ h.count_same ∙ sym (length-set ts k t); seen_same = λ j. at l j (ℕ_discrete j k) }
    go (no l) = rw (set_out ss k s (omega arith), set_out ts k t (omega (arith, h.count_same))) h

judges : (ss ts : List State) (w : Shapes) (t : Turn) → studies.judge ss w t ≡ studies.judge ts w t
unfolding studies turn_judge
judges ss ts w (turn k p i) = refl

plans : (ss ts : List State) (w : Shapes) (t : Turn) → SameTasks ss ts → Related SameTasks (studies.plan ss w t) (studies.plan ts w t)
unfolding studies turn_plan
plans ss ts w (turn k p i) h =
    related_map (Seen (task_of ss k).mask) SameTasks (λ t. set ss k t) (λ t. set ts k t) (λ s t x. set_same ss ts k s t (of_seen (task_of ss k).mask s t x) h)
    (item_plan (task_of ss k) w i) (item_plan (task_of ts k) w i) (item_seen (task_of ss k).mask (task_of ss k) (task_of ts k) w i (seen_of _ _ (h.seen_same k)))

by_turns : (w : Windows) (ss ts : List State) (is : List Turn) → SameTasks ss ts → SameTurns (runs both studies ss w is) (runs both studies ts w is)
by_turns w ss ts is h =
    let r : RelatedRan both SameTasks (runs both studies ss w is) (runs both studies ts w is) = runs_related both SameTasks studies judges plans is ss ts w h in
    record { answers_same = r.answers_same; tasks_same = r.states; memory_same = r.memory_same }

-- ---- a call

abbrev Alike : List State → List State → Windows → Type 0
Alike ss ts w = SameTasks ss ts

run_same : (ns : List ℕ) (k g : ℕ) (ss ts : List State) (w : Windows) → SameTasks ss ts → SameStop Alike (turn_run ns k g ss w) (turn_run ns k g ts w)
unfolding turn_run
run_same ns k g ss ts w h =
    let r : RelatedStopped both SameTasks (turn_run ns k g ss w) (turn_run ns k g ts w)
    = run_related both SameTasks studies judges plans g (turn k (part_at ns k) fetched) ss ts w h in
    record { done_same = r.done_same; reply_same = r.reply_same; memory_same = r.memory_same; states = r.states }

desk_same : (w : Windows) (ss ts : List State) (ns : List ℕ) (q grant : ℕ) → SameTasks ss ts → SameDesk Alike (call_of w ss ns q grant) (call_of w ts ns q grant)
unfolding call_of
desk_same w ss ts ns q grant h =
    call_same Alike (turn_run ns) (turn_run ns) (tasks_in ns) q (λ k g c d m l b x. run_same ns k g c d m x) grant ss ts w h

admitted_same : (n : ℕ) (ss ts : List State) → SameTasks ss ts → all_admissible n ss ≡ all_admissible n ts
unfolding all_admissible
admitted_same n ss ts h =
    λ i. eqb (h.count_same i) n && each_below n (λ k. admissible_same (task_of ss k).mask (task_of ss k) (task_of ts k) (seen_of _ _ (h.seen_same k)) i)

refusal_same : (w : Shapes) (ss ts : List State) (ns : List ℕ) (q grant : ℕ) → SameTasks ss ts → call_refusal w ss ns q grant ≡ call_refusal w ts ns q grant
unfolding call_refusal
refusal_same w ss ts ns q grant h = rw (admitted_same (tasks_in ns) ss ts h)

by_call : (w : Windows) (ss ts : List State) (ns : List ℕ) (q grant : ℕ) → SameTasks ss ts → SameTasked (tasks_of w ss ns q grant) (tasks_of w ts ns q grant)
unfolding tasks_of
by_call w ss ts ns q grant h =
    by_test SameTasked (eqb (call_refusal (shapes_of w) ss ns q grant) 0) (eqb (call_refusal (shapes_of w) ts ns q grant) 0) (λ i. eqb (same i) 0)
    (λ e. record {
      reply_same = refl;
      counts_same = ap (λ (gs : List Given). tab 0 tasks_most (λ k. count_by k gs)) d.given_same;
      refusals_same = ap (λ (gs : List Given). tab 0 tasks_most (λ k. refusal_by k gs)) d.given_same;
      tasks_same = d.states;
      memory_same = d.memory_same;
    })
    (λ e. record { reply_same = same; counts_same = refl; refusals_same = refl; tasks_same = h; memory_same = refl })
  where
    same : call_refusal (shapes_of w) ss ns q grant ≡ call_refusal (shapes_of w) ts ns q grant
    same = refusal_same (shapes_of w) ss ts ns q grant h

    d : SameDesk Alike (call_of w ss ns q grant) (call_of w ts ns q grant)
    d = desk_same w ss ts ns q grant h

pub tasks_unseen : TasksUnseen
tasks_unseen = record { by_turns = by_turns; by_call = by_call }
