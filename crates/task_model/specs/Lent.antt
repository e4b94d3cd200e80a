-- Theorem. Some of the tasks, lent in an order of their own: turns of these, on the list of their states, are turns on the list of all states; the others' stay.
use Rattle.std.specs.Prelude.{ℕ, ◌<◌, ◌≡◌, ◌≢◌, List, [], ◌∷◌, length, get_or, set}
use Rattle.model.specs.Memory.{Windows, both}
use Rattle.model.specs.Lists.{Ran, runs, run_needs_by}
use Rattle.model.specs.Registers.{fresh}
use Rattle.model.specs.declared.State.{State}
use Rattle.task_model.specs.Tasks.{Turn, turn, studies, turn_needs}
use Rattle.task_model.specs.Call.{tasks_in, call_of}
use Rattle.task_model.specs.TasksMeant.{tried_turns, tried_answers}

-- each of js is below n, and stands there once
unfoldable pub Once : ℕ → List ℕ → Type 0
Once n [] = Unit {0}
Once n (j ∷ js) = (j < n) × ((k : ℕ) → k < length js → get_or js k 0 ≢ j) × Once n js

-- those of xs that js names, in its order; d where there is none
unfoldable pub picked : {A : Type 0} → A → List A → List ℕ → List A
picked d xs [] = []
picked d xs (j ∷ js) = get_or xs j d ∷ picked d xs js

-- xs with ys in the places that js names
unfoldable pub put_back : {A : Type 0} → List A → List ℕ → List A → List A
put_back xs [] ys = xs
put_back xs (j ∷ js) [] = xs
put_back xs (j ∷ js) (y ∷ ys) = set (put_back xs js ys) j y

-- turns of the k-th that is lent are turns of the task that it is
unfoldable pub renamed : List ℕ → List Turn → List Turn
renamed js [] = []
renamed js (turn k p i ∷ ts) = turn (get_or js k 0) p i ∷ renamed js ts

-- turns of the first n tasks
unfoldable pub TurnsBelow : ℕ → List Turn → Type 0
TurnsBelow n [] = Unit {0}
TurnsBelow n (turn k p i ∷ ts) = (k < n) × TurnsBelow n ts

-- what they leave, in all states
abbrev pub among_all : List State → List ℕ → Ran (List State) Windows → Ran (List State) Windows
among_all ss js r = record { answers = r.answers; state = put_back ss js r.state; memory = r.memory }

pub record LentTurns : Type 0 where
  pub turns_among : (ss : List State) (w : Windows) (js : List ℕ) (ts : List Turn) → Once (length ss) js → TurnsBelow (length js) ts
      → runs both studies ss w (renamed js ts) ≡ among_all ss js (runs both studies (picked fresh ss js) w ts)
  pub needs_among : (ss : List State) (w : Windows) (js : List ℕ) (ts : List Turn) → Once (length ss) js → TurnsBelow (length js) ts
      → run_needs_by both studies turn_needs ss w (renamed js ts) ≡ run_needs_by both studies turn_needs (picked fresh ss js) w ts
  -- a call of those tasks, among all: it is the list of the turns that it tried, and the states of the others stay
  pub call_among : (ss : List State) (w : Windows) (js ns : List ℕ) (q grant : ℕ) → Once (length ss) js → length js ≡ tasks_in ns
      → runs both studies ss w (renamed js (tried_turns ns (call_of w (picked fresh ss js) ns q grant).given))
      ≡ record {
        answers = tried_answers (call_of w (picked fresh ss js) ns q grant).given;
        state = put_back ss js (call_of w (picked fresh ss js) ns q grant).states;
        memory = (call_of w (picked fresh ss js) ns q grant).memory;
      }
