-- Theorem. A list of calls of the C functions on what tasks hold is `runs` of the turns that it tried: the same answers, tallies, states and windows.
use Rattle.std.specs.Prelude.{ℕ, ◌<◌, ◌≡◌, cond, List, [], ◌∷◌, ◌++◌, eqb, length, replicate}
use Rattle.model.specs.Fill.{tab}
use Rattle.model.specs.Memory.{Windows, both}
use Rattle.model.specs.Lists.{Ran, runs}
use Rattle.model.specs.Invariants.{Bytes}
use Rattle.model.specs.declared.State.{State}
use Rattle.task_model.specs.Tasks.{task_of, studies}
use Rattle.task_model.specs.Schedule.{Given, count_by, refusal_by}
use Rattle.task_model.specs.Call.{call_of, tasks_most}
use Rattle.task_model.specs.TasksMeant.{tried_answers}
use Rattle.claims.specs.OneCall.{Held, HeldIs, HeldFits, answered_by, counted_by}
use Rattle.claims.specs.TaskCalls.{held_by, states_held, lent_held, TaskEntry, alone, together, TaskMade, TaskChain, tallies, task_last_held, task_last_window, AllFitIn, all_turns}

-- the answers to the turns that a call on hs and w tried, where it replied r with the count n of a run
unfoldable pub task_answered_by : List Held → Windows → TaskEntry → ℕ → ℕ → List ℕ
task_answered_by hs w (alone k e) r n = answered_by e r n
task_answered_by hs w (together js e ns q grant) r n = cond (eqb r 0) (tried_answers (call_of w (states_held (lent_held hs js)) ns q grant).given) []

unfoldable pub task_answers : List Held → Windows → List TaskMade → List ℕ
task_answers hs w [] = []
task_answers hs w (c ∷ cs) = task_answered_by hs w c.entry c.reply c.count ++ task_answers c.held c.window cs

-- counts and refusals of turns given
abbrev pub tallies_of : List Given → List ℕ
tallies_of gs = tab 0 tasks_most (λ k. count_by k gs) ++ tab 0 tasks_most (λ k. refusal_by k gs)

-- a run's count is the number of its answers 0 (`answered_by`); those of mmix_tasks are of the turns that it gave, all 0 where it is refused whole
unfoldable pub tallies_meant_by : List Held → Windows → TaskEntry → ℕ → ℕ → List ℕ
tallies_meant_by hs w (alone k e) r n = counted_by e n
tallies_meant_by hs w (together js e ns q grant) r n =
    cond (eqb r 0) (tallies_of (call_of w (states_held (lent_held hs js)) ns q grant).given) (replicate tasks_most 0 ++ replicate tasks_most 0)

unfoldable pub tallies_meant : List Held → Windows → List TaskMade → List ℕ
tallies_meant hs w [] = []
tallies_meant hs w (c ∷ cs) = tallies_meant_by hs w c.entry c.reply c.count ++ tallies_meant c.held c.window cs

pub record TasksCarried (hs : List Held) (w : Windows) (cs : List TaskMade) (r : Ran (List State) Windows) : Type 0 where
  pub answers_are : task_answers hs w cs ≡ r.answers
  pub tallies_are : tallies cs ≡ tallies_meant hs w cs
  pub states_are : states_held (task_last_held hs cs) ≡ r.state
  pub held_are : (k : ℕ) → k < length hs → HeldIs (held_by (task_last_held hs cs) k) (task_of r.state k)
  pub count_same : length (task_last_held hs cs) ≡ length hs
  pub window_is : task_last_window w cs ≡ r.memory

abbrev pub ListsOfTaskCalls : Type 0
ListsOfTaskCalls = (hs : List Held) (w : Windows) (cs : List TaskMade) → ((k : ℕ) → k < length hs → HeldFits (held_by hs k)) → Bytes w → AllFitIn cs → TaskChain hs w cs
    → TasksCarried hs w cs (runs both studies (states_held hs) w (all_turns hs w cs))
