-- Theorem. Demand 3 of the C functions wherever the call and its POP fall: among the turns that a list of calls tried, in mmix_run, mmix_run_parts or mmix_tasks,
-- in one call of C or in several.
use Rattle.std.specs.Prelude.{ℕ, ◌<◌, ◌≡◌, List, [], ◌∷◌, ◌++◌, length, get_or, take}
use Rattle.model.specs.Memory.{Windows, both}
use Rattle.model.specs.Lists.{runs}
use Rattle.model.specs.Registers.{r_o, sp, reg}
use Rattle.model.specs.Invariants.{Bytes}
use Rattle.model.specs.Demand.{Within, SameOutside}
use Rattle.task_model.specs.Tasks.{Turn, studies, turn_needs}
use Rattle.task_model.specs.TaskDemand.{GivesBackTo, Condition, any_parts, OwnFrame, own_needs}
use Rattle.task_model.specs.Anywhere.{Reading, Cut, pop_turn, turns_to_pop, turns_cut, at_pop, popped_at, caller_at, hole_at, pushed_at, CalledThere, PopsThere, AlikeThere}
use Rattle.claims.specs.OneCall.{Held, held_state, HeldFits}
use Rattle.claims.specs.TaskCalls.{held_by, states_held, TaskMade, TaskChain, task_entries, task_replies, tallies, task_last_held, task_last_window, AllFitIn, all_turns}
use Rattle.claims.specs.TaskLists.{task_answers}

-- what C's types give
abbrev pub AllHeldFit : List Held → Type 0
AllHeldFit hs = (k : ℕ) → k < length hs → HeldFits (held_by hs k)

-- THEOREM: the POP was done, and after it the caller's locals are back; where it was the last that was tried, in what the host then holds
pub record CameBackHeld (k : Cut) (hs : List Held) (w : Windows) (cs : List TaskMade) : Type 0 where
  pub back : GivesBackTo k.task (hole_at k (states_held hs) w) (pushed_at k (states_held hs) w) (popped_at k (states_held hs) w)
  pub answer_is : get_or (task_answers hs w cs) (length (turns_to_pop k)) 1 ≡ 0
  pub held_back : k.rest ≡ [] → (i : ℕ) → i < hole_at k (states_held hs) w → reg (held_state (held_by (task_last_held hs cs) k.task)) i ≡ reg (pushed_at k (states_held hs) w) i

abbrev pub CallsBy : Condition → Reading → Type 0
CallsBy parted needed = (hs : List Held) (w : Windows) (cs : List TaskMade) (k : Cut) → AllHeldFit hs → Bytes w → AllFitIn cs → TaskChain hs w cs
    → all_turns hs w cs ≡ turns_cut k → k.task < length hs → CalledThere k (states_held hs) w parted needed → PopsThere k (states_held hs) w → CameBackHeld k hs w cs

abbrev pub AnywhereCalls : Type 0
AnywhereCalls = CallsBy any_parts (λ c. turn_needs)

abbrev pub AnywhereOwnCalls : Type 0
AnywhereOwnCalls = CallsBy OwnFrame own_needs

-- THEOREM: two lists of the same functions with the same arguments, whose turns up to the call have the same answers and lead to states alike in all but those
-- locals, with equal windows then and equal call targets. The first list ends where the turns after the call end, just before the POP
pub record PrivateHeld (k : Cut) (hs ks : List Held) (w v : Windows) (cs ds : List TaskMade) : Type 0 where
  pub turns_same : all_turns hs w cs ≡ all_turns ks v ds
  pub replies_same : task_replies cs ≡ task_replies ds
  pub tallies_same : tallies cs ≡ tallies ds
  pub answers_same : task_answers hs w cs ≡ task_answers ks v ds
  pub states_same : states_held (task_last_held hs cs) ≡ states_held (task_last_held ks ds)
  pub window_same : SameOutside (Within (sp (caller_at k (states_held hs) w) r_o) (hole_at k (states_held hs) w)) (task_last_window w cs) (task_last_window v ds)

-- what is asked of both: the first tried the turns up to the POP, and then others
pub record TwoLists (parted : Condition) (needed : Reading) (k : Cut) (then : List Turn) (hs ks : List Held) (w v : Windows) (cs ds : List TaskMade) : Type 0 where
  pub fit : AllHeldFit hs
  pub fit_too : AllHeldFit ks
  pub bytes : Bytes w
  pub bytes_too : Bytes v
  pub fits : AllFitIn cs
  pub entries_same : task_entries ds ≡ task_entries cs
  pub chain : TaskChain hs w cs
  pub chain_too : TaskChain ks v ds
  pub turns_are : all_turns hs w cs ≡ turns_to_pop k ++ then
  pub there : k.task < length hs
  pub before_same : (runs both studies (states_held hs) w k.before).answers ≡ (runs both studies (states_held ks) v k.before).answers
  pub called : CalledThere k (states_held hs) w parted needed
  pub alike : AlikeThere k k (states_held hs) (states_held ks) w v

abbrev pub CallsTwiceBy : Condition → Reading → Type 0
CallsTwiceBy parted needed = (k : Cut) (hs ks : List Held) (w v : Windows) (cs ds : List TaskMade) → TwoLists parted needed k [] hs ks w v cs ds → PrivateHeld k hs ks w v cs ds

abbrev pub AnywhereCallsTwice : Type 0
AnywhereCallsTwice = CallsTwiceBy any_parts (λ c. turn_needs)

abbrev pub AnywhereOwnCallsTwice : Type 0
AnywhereOwnCallsTwice = CallsTwiceBy OwnFrame own_needs

-- ---- a list that ends inside a call of C

-- us begins with ts
pub record Begins (us ts : List Turn) : Type 0 where
  pub rest : List Turn
  pub turns_are : us ≡ ts ++ rest

-- THEOREM: the same where the turns after the call end inside a call of C, as of a program that calls and returns in one mmix_run
pub record PrivateWithin (k : Cut) (hs ks : List Held) (w v : Windows) (cs ds : List TaskMade) : Type 0 where
  -- the second list tried these turns too, and with them the next one that the first tried
  pub turns_too : Begins (all_turns ks v ds) (turns_to_pop k)
  pub next_too : (t : Turn) → Begins (all_turns hs w cs) (turns_to_pop k ++ (t ∷ [])) → Begins (all_turns ks v ds) (turns_to_pop k ++ (t ∷ []))
  -- where they end
  pub answers_same : take (length (turns_to_pop k)) (task_answers hs w cs) ≡ take (length (turns_to_pop k)) (task_answers ks v ds)
  pub states_same : (at_pop k (states_held hs) w).state ≡ (at_pop k (states_held ks) v).state
  pub window_same : SameOutside (Within (sp (caller_at k (states_held hs) w) r_o) (hole_at k (states_held hs) w)) (at_pop k (states_held hs) w).memory (at_pop k (states_held ks) v).memory
  -- replies and tallies of the first n calls, where all that these tried is among those turns
  pub calls_same : (n : ℕ) → Begins (turns_to_pop k) (all_turns hs w (take n cs))
      → (task_replies (take n cs) ≡ task_replies (take n ds)) × (tallies (take n cs) ≡ tallies (take n ds))
  -- a POP that was tried next gives the second its own locals back
  pub second_back : Begins (all_turns hs w cs) (turns_to_pop k ++ (pop_turn k ∷ [])) → PopsThere k (states_held ks) v
      → GivesBackTo k.task (hole_at k (states_held ks) v) (pushed_at k (states_held ks) v) (popped_at k (states_held ks) v)
      × (get_or (task_answers ks v ds) (length (turns_to_pop k)) 1 ≡ 0)

abbrev pub CallsWithinBy : Condition → Reading → Type 0
CallsWithinBy parted needed = (k : Cut) (then : List Turn) (hs ks : List Held) (w v : Windows) (cs ds : List TaskMade) → TwoLists parted needed k then hs ks w v cs ds
    → PrivateWithin k hs ks w v cs ds

abbrev pub AnywhereCallsWithin : Type 0
AnywhereCallsWithin = CallsWithinBy any_parts (λ c. turn_needs)

abbrev pub AnywhereOwnCallsWithin : Type 0
AnywhereOwnCallsWithin = CallsWithinBy OwnFrame own_needs
