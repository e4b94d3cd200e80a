-- 02, change 12: "up to eight programs that share window A, each with its own part of the stack window". One task on its own part; and several as one machine,
-- whose state is the list of the tasks' states and whose items are turns: each names its task, that task's part, and what the task does.
use Rattle.std.specs.Prelude.{ℕ, ◌+◌, Bool, false, cond, not, ◌&&◌, ◌||◌, List, [], ◌∷◌, leb, ltb, eqb, get_or, set}
use Rattle.model.specs.Memory.{Windows, Shapes, offset, has, both}
use Rattle.model.specs.Plan.{Plan, map_plan}
use Rattle.model.specs.Lists.{Machine, needs_of}
use Rattle.model.specs.Registers.{fresh}
use Rattle.model.specs.Step.{refusing, Item, item_plan}
use Rattle.model.specs.declared.State.{State}

-- ---- one task

-- a task's own part of window B, (start, length) in bytes from B's base
pub record Own : Type 0 where
  pub start : ℕ
  pub size : ℕ

-- byte d of B lies in it
unfoldable pub owns : Own → ℕ → Bool
owns p d = leb p.start d && ltb d (p.start + p.size)

-- the octabyte that x names "lies in the stack window outside the task's own part"
unfoldable pub foreign : Own → Shapes → ℕ → Bool
foreign p w x = has w.b x && not (owns p (offset w.b.from x))

-- 32: ".. judged just before 6 or 24". The number that refuses a group of needs is the largest (`worst`), so that 32 wins over 6; the fetch gives 24
-- in the place of 6 alone (`named`)
unfoldable pub refusing_in : Own → Shapes → ℕ → ℕ
refusing_in p w x = cond (foreign p w x) 32 (refusing w x)

-- one of some octabytes does
unfoldable pub any_foreign : Own → Shapes → List ℕ → Bool
any_foreign p w [] = false
any_foreign p w (x ∷ xs) = foreign p w x || any_foreign p w xs

-- the machine of one task
unfoldable pub mmix_in : Own → Machine State Item Shapes
mmix_in p = record { judge = λ s w i. refusing_in p w; plan = item_plan }

-- ---- several

-- task k's state
abbrev pub task_of : List State → ℕ → State
task_of ss k = get_or ss k fresh

-- task k, on its part, does an item
pub data Turn : Type 0 where
  turn : ℕ → Own → Item → Turn

unfoldable pub turn_judge : List State → Shapes → Turn → ℕ → ℕ
turn_judge ss w (turn k p i) = refusing_in p w

-- its own state alone is read and changed
unfoldable pub turn_plan : List State → Shapes → Turn → Plan (List State)
turn_plan ss w (turn k p i) = map_plan (λ t. set ss k t) (item_plan (task_of ss k) w i)

unfoldable pub studies : Machine (List State) Turn Shapes
studies = record { judge = turn_judge; plan = turn_plan }

-- ---- what a turn needs

-- a list of octabytes less those that 32 refuses
unfoldable pub without32 : (ℕ → ℕ) → List ℕ → List ℕ
without32 j [] = []
without32 j (a ∷ rest) = cond (eqb (j a) 32) (without32 j rest) (a ∷ without32 j rest)

-- Needs of a step that 32 refuses are its needs less the octabytes that 32 refuses
unfoldable pub turn_needs : List State → Windows → Turn → List ℕ
turn_needs ss m t = without32 (studies.judge ss (both.shape m) t) (needs_of both studies ss m t)
