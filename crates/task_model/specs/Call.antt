-- 02, change 12: THE call of several tasks, `tasks_of`: what refuses it whole, then turns of fetched instructions.
use Rattle.std.specs.Prelude.{ℕ, zero, suc, ◌+◌, ◌*◌, ◌/◌, ◌%◌, Bool, true, cond, not, ◌&&◌, ◌||◌, List, leb, ltb, eqb, length, get_or, replicate}
use Rattle.model.specs.Fill.{tab}
use Rattle.model.specs.Memory.{Windows, Shapes, shapes_of, both}
use Rattle.model.specs.Registers.{admissible}
use Rattle.model.specs.Step.{unruled_by, fetched}
use Rattle.model.specs.Run.{Stopped, grant_most, run_for}
use Rattle.model.specs.declared.State.{State}
use Rattle.task_model.specs.Tasks.{Own, owns, task_of, turn, studies}
use Rattle.task_model.specs.Schedule.{count_by, refusal_by, Desk, call_by}

-- ---- the parts, as a host hands them over: start and length of the first, then of the second, ..

-- n = parts_len / 2
abbrev pub tasks_in : List ℕ → ℕ
tasks_in ns = length ns / 2

abbrev pub part_at : List ℕ → ℕ → Own
part_at ns k = record { start = get_or ns (2 * k) 0; size = get_or ns (2 * k + 1) 0 }

-- P holds of each number below n
unfoldable pub each_below : ℕ → (ℕ → Bool) → Bool
each_below zero P = true
each_below (suc n) P = P n && each_below n P

-- it does not "split an octabyte" nor "leave the window", of b bytes; start + length is a whole number
unfoldable pub part_ruled : ℕ → Own → Bool
part_ruled b p = eqb (p.start % 8) 0 && (eqb (p.size % 8) 0 && leb (p.start + p.size) b)

-- two parts "overlap": the first byte of one lies in the other; an empty one overlaps nothing
unfoldable pub overlaps : Own → Own → Bool
overlaps p r = (ltb 0 r.size && owns p r.start) || (ltb 0 p.size && owns r p.start)

-- part k overlaps none before it
unfoldable pub part_clear : List ℕ → ℕ → Bool
part_clear ns k = each_below k (λ j. not (overlaps (part_at ns j) (part_at ns k)))

-- the largest q
abbrev pub turn_most : ℕ
turn_most = 1000

-- 33: "tasks not 1 to 8, parts that overlap, leave the window or split an octabyte, or q out of range"; an odd length is 33
unfoldable pub tasks_ruled : ℕ → List ℕ → ℕ → Bool
tasks_ruled b ns q =
    eqb (length ns % 2) 0 && ((leb 1 (tasks_in ns) && leb (tasks_in ns) 8) && ((leb 1 q && leb q turn_most)
    && (each_below (tasks_in ns) (λ k. part_ruled b (part_at ns k)) && each_below (tasks_in ns) (part_clear ns))))

-- ---- the call

-- "1, for any task's state"; and where there are not as many states as tasks
unfoldable pub all_admissible : ℕ → List State → Bool
all_admissible n ss = eqb (length ss) n && each_below n (λ k. admissible (task_of ss k))

-- Order of the call: 2, 22, 25, 33, then 1 for any task's state; 0 where it is not refused whole
unfoldable pub call_refusal : Shapes → List State → List ℕ → ℕ → ℕ → ℕ
call_refusal w ss ns q grant =
    cond (eqb (unruled_by w) 0)
    (cond (ltb grant_most grant) 25 (cond (tasks_ruled w.b.size ns q) (cond (all_admissible (tasks_in ns) ss) 0 1) 33))
    (unruled_by w)

-- A turn is a run of request 6, of task k on its part
unfoldable pub turn_run : List ℕ → ℕ → ℕ → List State → Windows → Stopped (List State) Windows
turn_run ns k g ss w = run_for both studies (turn k (part_at ns k) fetched) g ss w

-- the desk where a call that is not refused whole ends
unfoldable pub call_of : Windows → List State → List ℕ → ℕ → ℕ → Desk (List State) Windows
call_of w ss ns q grant = call_by (turn_run ns) (tasks_in ns) q grant ss w

-- The reply of the call is 0 or the number that refuses it whole; each task's count, and its refusal or 0 for spent, eight of each; states and windows after it
pub record Tasked : Type 0 where
  pub reply : ℕ
  pub counts : List ℕ
  pub refusals : List ℕ
  pub states : List State
  pub memory : Windows

abbrev pub tasks_most : ℕ
tasks_most = 8

abbrev pub worked : Desk (List State) Windows → Tasked
worked d = record {
  reply = 0;
  counts = tab 0 tasks_most (λ k. count_by k d.given);
  refusals = tab 0 tasks_most (λ k. refusal_by k d.given);
  states = d.states;
  memory = d.memory;
}

abbrev pub whole_refused : ℕ → Windows → List State → Tasked
whole_refused r w ss = record { reply = r; counts = replicate tasks_most 0; refusals = replicate tasks_most 0; states = ss; memory = w }

-- THE call
unfoldable pub tasks_of : Windows → List State → List ℕ → ℕ → ℕ → Tasked
tasks_of w ss ns q grant =
    cond (eqb (call_refusal (shapes_of w) ss ns q grant) 0) (worked (call_of w ss ns q grant)) (whole_refused (call_refusal (shapes_of w) ss ns q grant) w ss)
