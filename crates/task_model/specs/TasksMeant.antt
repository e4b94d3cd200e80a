-- Theorem (02, change 12). What a call of several tasks means: that it is the list of the turns that it tried, when it ends, how long a task waits, in which
-- order it is refused whole; what parts are when they do not overlap; and that what is hidden is not seen by tasks either.
use Rattle.std.specs.Prelude.{ℕ, suc, ◌+◌, ◌≤◌, ◌<◌, ◌≡◌, ◌≢◌, ◌⊎◌, true, false, cond, List, [], ◌∷◌, ◌++◌, eqb, length, get_or, replicate}
use Rattle.model.specs.Memory.{Windows, shapes_of, ruled, shares, both}
use Rattle.model.specs.Lists.{Ran, step_on, needs_of, runs}
use Rattle.model.specs.Registers.{Sized}
use Rattle.model.specs.Step.{unruled_by, Item, fetched, mmix}
use Rattle.model.specs.Run.{grant_most}
use Rattle.model.specs.Unseen.{SameSeen}
use Rattle.model.specs.declared.State.{State}
use Rattle.task_model.specs.Tasks.{Own, owns, any_foreign, mmix_in, task_of, Turn, turn, studies}
use Rattle.task_model.specs.Schedule.{Given, Scheduled, Desk}
use Rattle.task_model.specs.Call.{tasks_in, part_at, overlaps, tasks_ruled, all_admissible, turn_run, call_of, Tasked, whole_refused, tasks_of}
use Rattle.task_model.specs.TaskDemand.{Disjoint, PartsApart}

-- ---- the turns that were tried

-- of each turn given, latest first in `Given`, its instructions: those done, and the one refused
unfoldable pub tried_turns : List ℕ → List Given → List Turn
tried_turns ns [] = []
tried_turns ns (g ∷ gs) = tried_turns ns gs ++ replicate (cond (eqb g.reply 0) g.done (suc g.done)) (turn g.task (part_at ns g.task) fetched)

-- the answers to these: 0 to each that was done, then the refusal where there is one
unfoldable pub tried_answers : List Given → List ℕ
tried_answers [] = []
tried_answers (g ∷ gs) = tried_answers gs ++ (replicate g.done 0 ++ cond (eqb g.reply 0) [] (g.reply ∷ []))

-- counts are those of the definition's steps: states, memory and answers are those of the list of turns that were tried
pub record CallListed (w : Windows) (ss : List State) (ns : List ℕ) (d : Desk (List State) Windows) : Type 0 where
  pub answers_are : (runs both studies ss w (tried_turns ns d.given)).answers ≡ tried_answers d.given
  pub states_are : (runs both studies ss w (tried_turns ns d.given)).state ≡ d.states
  pub memory_is : (runs both studies ss w (tried_turns ns d.given)).memory ≡ d.memory

-- ---- 32

pub record ForeignMeant : Type 0 where
  -- 32 leaves everything; what it does not refuse is done, or refused, as on all of B: what each other number leaves is said there (RepliesLeave)
  pub either : (p : Own) (w : Windows) (s : State) (i : Item)
      → (step_on both (mmix_in p) s w i ≡ step_on both mmix s w i) ⊎ (step_on both (mmix_in p) s w i ≡ record { reply = 32; state = s; memory = w })
  -- "a needed or fetched octabyte lies in the stack window outside the task's own part": just there
  pub thirty_two : (p : Own) (w : Windows) (s : State) (i : Item) → Sized s
      → eqb (step_on both (mmix_in p) s w i).reply 32 ≡ any_foreign p (shapes_of w) (needs_of both (mmix_in p) s w i)
  -- on all of B nothing is
  pub whole : (w : Windows) (s : State) (i : Item) → step_on both (mmix_in (record { start = 0; size = length w.b.bytes })) s w i ≡ step_on both mmix s w i

-- ---- the call

-- the sum of a list
unfoldable pub sum_of : List ℕ → ℕ
sum_of [] = 0
sum_of (n ∷ ns) = n + sum_of ns

pub record CallIsMeant : Type 0 where
  -- waiting, ending, spending
  pub scheduled : (ns : List ℕ) (q : ℕ) → Scheduled (turn_run ns) (tasks_in ns) q
  pub listed : (w : Windows) (ss : List State) (ns : List ℕ) (q grant : ℕ) → length ss ≡ tasks_in ns → CallListed w ss ns (call_of w ss ns q grant)
  -- in a call that is not refused whole the total is the grant or all have stopped
  pub total : (w : Windows) (ss : List State) (ns : List ℕ) (q grant : ℕ) → (tasks_of w ss ns q grant).reply ≡ 0
      → (sum_of (tasks_of w ss ns q grant).counts ≡ grant) ⊎ ((k : ℕ) → k < tasks_in ns → get_or (tasks_of w ss ns q grant).refusals k 0 ≢ 0)
  pub total_most : (w : Windows) (ss : List State) (ns : List ℕ) (q grant : ℕ) → sum_of (tasks_of w ss ns q grant).counts ≤ grant
  -- there are as many states as before, and each is admissible
  pub admitted : (w : Windows) (ss : List State) (ns : List ℕ) (q grant : ℕ) → ((k : ℕ) → Sized (task_of ss k)) → (tasks_of w ss ns q grant).reply ≡ 0
      → all_admissible (tasks_in ns) (tasks_of w ss ns q grant).states ≡ true

-- Order of the call: 2, 22, 25, 33, then 1 for any task's state, each whatever the later ones would say
pub record TasksInOrder : Type 0 where
  pub two_first : (w : Windows) (ss : List State) (ns : List ℕ) (q grant : ℕ) → ruled (shapes_of w) ≡ false → tasks_of w ss ns q grant ≡ whole_refused 2 w ss
  pub twenty_two : (w : Windows) (ss : List State) (ns : List ℕ) (q grant : ℕ) → ruled (shapes_of w) ≡ true → shares (shapes_of w) ≡ true
      → tasks_of w ss ns q grant ≡ whole_refused 22 w ss
  pub twenty_five : (w : Windows) (ss : List State) (ns : List ℕ) (q grant : ℕ) → unruled_by (shapes_of w) ≡ 0 → grant_most < grant
      → tasks_of w ss ns q grant ≡ whole_refused 25 w ss
  pub thirty_three : (w : Windows) (ss : List State) (ns : List ℕ) (q grant : ℕ) → unruled_by (shapes_of w) ≡ 0 → grant ≤ grant_most
      → tasks_ruled (shapes_of w).b.size ns q ≡ false → tasks_of w ss ns q grant ≡ whole_refused 33 w ss
  pub one_last : (w : Windows) (ss : List State) (ns : List ℕ) (q grant : ℕ) → unruled_by (shapes_of w) ≡ 0 → grant ≤ grant_most
      → tasks_ruled (shapes_of w).b.size ns q ≡ true → all_admissible (tasks_in ns) ss ≡ false → tasks_of w ss ns q grant ≡ whole_refused 1 w ss

-- ---- parts

pub record PartsMeant : Type 0 where
  -- parts that do not overlap have no byte in common, and those that do have one
  pub apart : (p r : Own) → overlaps p r ≡ false → (d : ℕ) → owns p d ≡ true → owns r d ≡ true → ⊥
  pub common : (p r : Own) → overlaps p r ≡ true → ((owns p r.start ≡ true) × (owns r r.start ≡ true)) ⊎ ((owns p p.start ≡ true) × (owns r p.start ≡ true))
  -- of a call that 33 does not refuse
  pub each_apart : (b : ℕ) (ns : List ℕ) (q : ℕ) → tasks_ruled b ns q ≡ true → (j k : ℕ) → j < tasks_in ns → k < tasks_in ns → j ≢ k
      → overlaps (part_at ns j) (part_at ns k) ≡ false
  -- as `NoneAltersAnother` and `Demand3Own` ask: such parts are disjoint, and the turns that a call tries are apart from each task's part
  pub disjoint : (b : ℕ) (ns : List ℕ) (q : ℕ) → tasks_ruled b ns q ≡ true → (j k : ℕ) → j < tasks_in ns → k < tasks_in ns → j ≢ k → Disjoint (part_at ns j) (part_at ns k)
  pub turns_apart : (b : ℕ) (ns : List ℕ) (q : ℕ) → tasks_ruled b ns q ≡ true → (w : Windows) (ss : List State) (grant c : ℕ) → c < tasks_in ns
      → PartsApart (part_at ns c) c (tried_turns ns (call_of w ss ns q grant).given)

-- ---- what is hidden

-- states of tasks that differ only in hidden registers, each two with one mask
pub record SameTasks (ss ts : List State) : Type 0 where
  pub count_same : length ss ≡ length ts
  pub seen_same : (k : ℕ) → SameSeen (task_of ss k) (task_of ts k)

pub record SameTurns (a b : Ran (List State) Windows) : Type 0 where
  pub answers_same : a.answers ≡ b.answers
  pub tasks_same : SameTasks a.state b.state
  pub memory_same : a.memory ≡ b.memory

pub record SameTasked (a b : Tasked) : Type 0 where
  pub reply_same : a.reply ≡ b.reply
  pub counts_same : a.counts ≡ b.counts
  pub refusals_same : a.refusals ≡ b.refusals
  pub tasks_same : SameTasks a.states b.states
  pub memory_same : a.memory ≡ b.memory

-- request 11's theorem, `HiddenUnseen`, of turns and of a call
pub record TasksUnseen : Type 0 where
  pub by_turns : (w : Windows) (ss ts : List State) (is : List Turn) → SameTasks ss ts → SameTurns (runs both studies ss w is) (runs both studies ts w is)
  pub by_call : (w : Windows) (ss ts : List State) (ns : List ℕ) (q grant : ℕ) → SameTasks ss ts → SameTasked (tasks_of w ss ns q grant) (tasks_of w ts ns q grant)
