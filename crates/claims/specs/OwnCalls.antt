-- Theorem. Demand 3 of the C functions with the frame in the caller's own part: where mmix_tasks lends the caller its part, 33 sees to it that no other task's turn
-- reaches it. So `AnywhereOwnCalls`, `AnywhereOwnCallsTwice` and `AnywhereOwnCallsWithin` ask of the caller's own needs alone.
use Rattle.std.specs.Prelude.{ℕ, ◌%◌, ◌<◌, ◌≡◌, ◌≢◌, ◌⊎◌, List, [], ◌∷◌, ◌++◌, length, get_or}
use Rattle.model.specs.Memory.{Windows, both}
use Rattle.model.specs.Lists.{step_on, runs}
use Rattle.model.specs.Step.{Item}
use Rattle.model.specs.Invariants.{Bytes}
use Rattle.task_model.specs.Tasks.{Own, Turn, turn, studies}
use Rattle.task_model.specs.Call.{part_at}
use Rattle.task_model.specs.TaskDemand.{Disjoint, PartsApart, OwnFrame, own_needs}
use Rattle.task_model.specs.Anywhere.{Cut, turns_to_pop, turns_cut, CalledThere, PopsThere}
use Rattle.task_model.specs.CallApart.{HasStill, CalledIn}
use Rattle.claims.specs.OneCall.{Held}
use Rattle.claims.specs.TaskCalls.{states_held, TaskEntry, alone, together, TaskMade, TaskChain, AllFitIn, all_turns}
use Rattle.claims.specs.AnywhereCalls.{AllHeldFit, CameBackHeld}

-- task c is lent, with the part p
pub record HasPart (p : Own) (c : ℕ) (js ns : List ℕ) : Type 0 where
  pub place : ℕ
  pub place_below : place < length js
  pub names : get_or js place 0 ≡ c
  pub part_is : part_at ns place ≡ p

-- a function on what task c holds; or mmix_tasks that lends c the part p, or that lends no byte of p
unfoldable pub PartLent : Own → ℕ → TaskEntry → Type 0
PartLent p c (alone k e) = k ≡ c
PartLent p c (together js e ns q grant) = HasPart p c js ns ⊎ ((i : ℕ) → i < length js → Disjoint p (part_at ns i))

unfoldable pub PartsLent : Own → ℕ → List TaskMade → Type 0
PartsLent p c [] = Unit {0}
PartsLent p c (m ∷ ms) = PartLent p c m.entry × PartsLent p c ms

pub record OwnCalls (p : Own) (c : ℕ) (hs : List Held) (w : Windows) (cs : List TaskMade) : Type 0 where
  pub turns_apart : PartsApart p c (all_turns hs w cs)
  -- no turn of another changes c's state or part, wherever in these calls
  pub others_kept : p.start % 8 ≡ 0 → (before : List Turn) (k : ℕ) (r : Own) (i : Item) (rest : List Turn) → all_turns hs w cs ≡ before ++ (turn k r i ∷ rest) → c ≢ k
      → HasStill c p (runs both studies (states_held hs) w before)
      (step_on both studies (runs both studies (states_held hs) w before).state (runs both studies (states_held hs) w before).memory (turn k r i))
  -- what the three theorems ask for
  pub called_own : (k : Cut) (after : List Turn) → k.task ≡ c → k.part ≡ p → all_turns hs w cs ≡ turns_to_pop k ++ after → CalledIn k (states_held hs) w
      → CalledThere k (states_held hs) w OwnFrame own_needs
  -- the first of them
  pub comes_back : (k : Cut) → k.task ≡ c → k.part ≡ p → all_turns hs w cs ≡ turns_cut k → CalledIn k (states_held hs) w → PopsThere k (states_held hs) w → CameBackHeld k hs w cs

abbrev pub OwnPartCalls : Type 0
OwnPartCalls = (p : Own) (c : ℕ) (hs : List Held) (w : Windows) (cs : List TaskMade) → c < length hs → AllHeldFit hs → Bytes w → AllFitIn cs → TaskChain hs w cs
    → PartsLent p c cs → OwnCalls p c hs w cs
