-- Turns of tasks that are lent, among all: a turn reads and sets its own task's state alone.
use Rattle.model.proofs.Prelude.{suc, zero, ℕ, ◌<◌, List, [], ◌++◌, ◌∷◌, ◌≢◌, ap, refl, subst, sym, ◌∙◌, ◌≡◌, arith, get_or, length, length-set, set}
use Rattle.model.proofs.Prelude.{get_or-set_other, get_or-set_same, set-get_or, set-set, needs_of, Ran, run_needs_by, runs, step_on, both, shapes_of, Windows, map_outcome}
use Rattle.model.proofs.Prelude.{Outcome, fresh, Item, item_plan, needs_map}
use Rattle.task_model.proofs.Prelude.{needs, State}
use Rattle.task_model.specs.Tasks.{Own, refusing_in, mmix_in, task_of, Turn, turn, turn_judge, turn_plan, studies, without32, turn_needs}
use Rattle.task_model.specs.Call.{tasks_in, call_of}
use Rattle.task_model.specs.TasksMeant.{tried_turns, CallListed}
use Rattle.task_model.proofs.Turns.{turn_is}
use Rattle.task_model.proofs.Tried.{tried_by}
use Rattle.task_model.proofs.Listed.{call_listed}
use Rattle.task_model.specs.Lent.{Once, picked, put_back, renamed, TurnsBelow, among_all, LentTurns}

-- ---- lists

set_swap : {A : Type 0} (xs : List A) (i j : ℕ) (a b : A) → i ≢ j → set (set xs i a) j b ≡ set (set xs j b) i a
set_swap [] i j a b n = refl
set_swap (x ∷ xs) zero zero a b n = absurd (n refl)
set_swap (x ∷ xs) zero (suc j) a b n = refl
set_swap (x ∷ xs) (suc i) zero a b n = refl
set_swap {A} (x ∷ xs) (suc i) (suc j) a b n = ap (λ (l : List A). x ∷ l) (set_swap xs i j a b (λ e. n (ap suc e)))

pub picked_length : {A : Type 0} (d : A) (xs : List A) (js : List ℕ) → length (picked d xs js) ≡ length js
unfolding picked
picked_length d xs [] = refl
picked_length d xs (j ∷ js) = ap suc (picked_length d xs js)

pub placed_length : {A : Type 0} (xs : List A) (js : List ℕ) (ys : List A) → length (put_back xs js ys) ≡ length xs
unfolding put_back
placed_length xs [] ys = refl
placed_length xs (j ∷ js) [] = refl
placed_length xs (j ∷ js) (y ∷ ys) = length-set (put_back xs js ys) j y ∙ placed_length xs js ys

pub placed_picked : {A : Type 0} (d : A) (xs : List A) (js : List ℕ) → put_back xs js (picked d xs js) ≡ xs
unfolding put_back picked
placed_picked d xs [] = refl
placed_picked {A} d xs (j ∷ js) = ap (λ (l : List A). set l j (get_or xs j d)) (placed_picked d xs js) ∙ set-get_or xs j d

module _ {A : Type 0} (d : A) (xs : List A) where
  pub placed_at : (js : List ℕ) (ys : List A) (k : ℕ) → Once (length xs) js → length ys ≡ length js → k < length js → get_or (put_back xs js ys) (get_or js k 0) d ≡ get_or ys k d
  unfolding put_back Once
  placed_at [] ys k o n l = absurd (omega arith)
  placed_at (j ∷ js) [] k o n l = absurd (omega arith)
  placed_at (j ∷ js) (y ∷ ys) zero o n l = get_or-set_same (put_back xs js ys) j y d (let q : j < length xs = o.0 in omega (arith, placed_length xs js ys))
  placed_at (j ∷ js) (y ∷ ys) (suc k) o n l =
      get_or-set_other (put_back xs js ys) j (get_or js k 0) y d (o.1 k (omega arith)) ∙ placed_at js ys k o.2 (omega arith) (omega arith)

  pub placed_set : (js : List ℕ) (ys : List A) (k : ℕ) (v : A) → Once (length xs) js → length ys ≡ length js → k < length js
      → set (put_back xs js ys) (get_or js k 0) v ≡ put_back xs js (set ys k v)
  unfolding put_back Once
  placed_set [] ys k v o n l = absurd (omega arith)
  placed_set (j ∷ js) [] k v o n l = absurd (omega arith)
  placed_set (j ∷ js) (y ∷ ys) zero v o n l = set-set (put_back xs js ys) j y v
  placed_set (j ∷ js) (y ∷ ys) (suc k) v o n l =
      set_swap (put_back xs js ys) j (get_or js k 0) y v (λ e. o.1 k (omega arith) (sym e))
      ∙ ap (λ (q : List A). set q j y) (placed_set js ys k v o.2 (omega arith) (omega arith))

-- ---- turns

-- what a turn needs is of its own task's state
own_needs_law : (ss : List State) (m : Windows) (k : ℕ) (p : Own) (i : Item)
    → turn_needs ss m (turn k p i) ≡ without32 (refusing_in p (shapes_of m)) (needs both (refusing_in p (shapes_of m)) (item_plan (task_of ss k) (shapes_of m) i) m)
unfolding turn_needs needs_of studies turn_judge turn_plan both
own_needs_law ss m k p i = ap (without32 (refusing_in p (shapes_of m))) (needs_map both (λ t. set ss k t) (refusing_in p (shapes_of m)) (item_plan (task_of ss k) (shapes_of m) i) m)

module _ (ss : List State) (js : List ℕ) (o : Once (length ss) js) where
  abbrev in_all : Outcome (List State) Windows → Outcome (List State) Windows
  in_all r = record { reply = r.reply; state = put_back ss js r.state; memory = r.memory }

  turn_among : (qs : List State) (w : Windows) (k : ℕ) (p : Own) (i : Item) → length qs ≡ length js → k < length js
      → step_on both studies (put_back ss js qs) w (turn (get_or js k 0) p i) ≡ in_all (step_on both studies qs w (turn k p i))
  unfolding map_outcome
  turn_among qs w k p i n l =
      let its : task_of (put_back ss js qs) (get_or js k 0) ≡ task_of qs k = placed_at fresh ss js qs k o n l in
      let r : Outcome State Windows = step_on both (mmix_in p) (task_of qs k) w i in
      turn_is p (put_back ss js qs) w (get_or js k 0) i
      ∙ ap (λ (s : State). map_outcome (λ t. set (put_back ss js qs) (get_or js k 0) t) (step_on both (mmix_in p) s w i)) its
      ∙ (λ j. record { reply = r.reply; state = placed_set fresh ss js qs k r.state o n l j; memory = r.memory })
      ∙ sym (ap in_all (turn_is p qs w k i))

  turn_count : (qs : List State) (w : Windows) (k : ℕ) (p : Own) (i : Item) → length (step_on both studies qs w (turn k p i)).state ≡ length qs
  unfolding map_outcome
  turn_count qs w k p i = ap (λ (r : Outcome (List State) Windows). length r.state) (turn_is p qs w k i) ∙ length-set qs k _

  runs_among : (ts : List Turn) (qs : List State) (w : Windows) → length qs ≡ length js → TurnsBelow (length js) ts
      → runs both studies (put_back ss js qs) w (renamed js ts) ≡ among_all ss js (runs both studies qs w ts)
  unfolding runs renamed TurnsBelow
  runs_among [] qs w n b = refl
  runs_among (turn k p i ∷ ts) qs w n b =
      let r : Outcome (List State) Windows = step_on both studies qs w (turn k p i) in
      rw (turn_among qs w k p i n b.0)
      (ap (λ (x : Ran (List State) Windows). record { answers = r.reply ∷ x.answers; state = x.state; memory = x.memory })
      (runs_among ts r.state r.memory (turn_count qs w k p i ∙ n) b.1))

  needs_among : (ts : List Turn) (qs : List State) (w : Windows) → length qs ≡ length js → TurnsBelow (length js) ts
      → run_needs_by both studies turn_needs (put_back ss js qs) w (renamed js ts) ≡ run_needs_by both studies turn_needs qs w ts
  unfolding run_needs_by renamed TurnsBelow
  needs_among [] qs w n b = refl
  needs_among (turn k p i ∷ ts) qs w n b =
      let r : Outcome (List State) Windows = step_on both studies qs w (turn k p i) in
      let a : turn_needs (put_back ss js qs) w (turn (get_or js k 0) p i) ≡ turn_needs qs w (turn k p i)
      = own_needs_law (put_back ss js qs) w (get_or js k 0) p i
      ∙ ap (λ (s : State). without32 (refusing_in p (shapes_of w)) (needs both (refusing_in p (shapes_of w)) (item_plan s (shapes_of w) i) w)) (placed_at fresh ss js qs k o n b.0)
      ∙ sym (own_needs_law qs w k p i) in
      rw (turn_among qs w k p i n b.0, a)
      (ap (λ (x : List ℕ). turn_needs qs w (turn k p i) ++ x) (needs_among ts r.state r.memory (turn_count qs w k p i ∙ n) b.1))

-- ---- a call

below_append : (n : ℕ) (is js : List Turn) → TurnsBelow n is → TurnsBelow n js → TurnsBelow n (is ++ js)
unfolding TurnsBelow
below_append n [] js f g = g
below_append n (turn k p i ∷ is) js f g = (f.0, below_append n is js f.1 g)

pub below_tried : (w : Windows) (ss : List State) (ns : List ℕ) (q grant : ℕ) → TurnsBelow (tasks_in ns) (tried_turns ns (call_of w ss ns q grant).given)
unfolding TurnsBelow
below_tried w ss ns q grant = tried_by (TurnsBelow (tasks_in ns)) ns tt (λ is k l h. below_append (tasks_in ns) is _ h (l, tt)) w ss q grant

turns_among : (ss : List State) (w : Windows) (js : List ℕ) (ts : List Turn) → Once (length ss) js → TurnsBelow (length js) ts
    → runs both studies ss w (renamed js ts) ≡ among_all ss js (runs both studies (picked fresh ss js) w ts)
turns_among ss w js ts o b =
    ap (λ (qs : List State). runs both studies qs w (renamed js ts)) (sym (placed_picked fresh ss js)) ∙ runs_among ss js o ts (picked fresh ss js) w (picked_length fresh ss js) b

pub lent_turns : LentTurns
lent_turns = record {
  turns_among = turns_among;
  needs_among = λ ss w js ts o b. ap (λ (qs : List State). run_needs_by both studies turn_needs qs w (renamed js ts)) (sym (placed_picked fresh ss js))
      ∙ needs_among ss js o ts (picked fresh ss js) w (picked_length fresh ss js) b;
  call_among = λ ss w js ns q grant o n.
      let c : CallListed w (picked fresh ss js) ns (call_of w (picked fresh ss js) ns q grant) = call_listed w (picked fresh ss js) ns q grant in
      turns_among ss w js _ o (subst (λ (m : ℕ). TurnsBelow m (tried_turns ns (call_of w (picked fresh ss js) ns q grant).given)) (sym n) (below_tried w (picked fresh ss js) ns q grant))
      ∙ (λ i. record { answers = c.answers_are i; state = put_back ss js (c.states_are i); memory = c.memory_is i });
}
