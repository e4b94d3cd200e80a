-- Theorem. A parked context of the C functions wherever SAVE and UNSAVE fall among the turns that a list of calls tried.
use Rattle.std.specs.Prelude.{◌<◌, ◌≡◌, List, [], length, get_or}
use Rattle.model.specs.Memory.{Windows}
use Rattle.model.specs.Invariants.{Bytes}
use Rattle.task_model.specs.Parked.{ComesBack, UnparksTo}
use Rattle.task_model.specs.ParkedAnywhere.{Park, turns_to_unsave, turns_parked, at_unsave, unsaved_at, saver_at, SavedThere, AsksThere}
use Rattle.claims.specs.OneCall.{Held, held_state}
use Rattle.claims.specs.TaskCalls.{held_by, states_held, TaskMade, TaskChain, task_last_held, AllFitIn, all_turns}
use Rattle.claims.specs.TaskLists.{task_answers}
use Rattle.claims.specs.AnywhereCalls.{AllHeldFit}

pub record UnparkedHeld (k : Park) (hs : List Held) (w : Windows) (cs : List TaskMade) : Type 0 where
  pub back : UnparksTo k.task (saver_at k (states_held hs) w) (at_unsave k (states_held hs) w) (unsaved_at k (states_held hs) w)
  pub answer_is : get_or (task_answers hs w cs) (length (turns_to_unsave k)) 1 ≡ 0
  pub held_back : k.rest ≡ [] → ComesBack (saver_at k (states_held hs) w) (held_state (held_by (task_last_held hs cs) k.task))

abbrev pub ParkedAnywhereCalls : Type 0
ParkedAnywhereCalls = (hs : List Held) (w : Windows) (cs : List TaskMade) (k : Park) → AllHeldFit hs → Bytes w → AllFitIn cs → TaskChain hs w cs
    → all_turns hs w cs ≡ turns_parked k → k.task < length hs → SavedThere k (states_held hs) w → AsksThere k (states_held hs) w → UnparkedHeld k hs w cs
