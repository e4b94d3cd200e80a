-- Theorem. A whole call of several tasks that 33 lets through: its tasks' parts are apart (`PartsMeant`). So no task's part or state is changed by another in it, and
-- demand 3 with the frame in the caller's own part asks of the caller's own needs alone.
use Rattle.std.specs.Prelude.{ℕ, ◌+◌, ◌*◌, ◌<◌, ◌≡◌, ◌≢◌, true, List, ◌∷◌, ◌++◌, get_or}
use Rattle.model.specs.Memory.{Windows, shapes_of, has, both}
use Rattle.model.specs.Plan.{Outcome, All, Off}
use Rattle.model.specs.Lists.{Ran, step_on, runs, run_needs_by}
use Rattle.model.specs.Registers.{r_o, sp}
use Rattle.model.specs.Step.{Item}
use Rattle.model.specs.Ways.{NamesBy}
use Rattle.model.specs.Demand.{Within, opcode_of}
use Rattle.model.specs.declared.State.{State}
use Rattle.task_model.specs.Tasks.{Own, owns, task_of, Turn, turn, studies}
use Rattle.task_model.specs.Call.{tasks_in, part_at, tasks_ruled, call_of}
use Rattle.task_model.specs.TaskDemand.{PartsApart, own_needs}
use Rattle.task_model.specs.TasksMeant.{tried_turns}
use Rattle.task_model.specs.Anywhere.{Cut, turns_to_pop, turns_cut, at_call, called_at, caller_at, hole_at, CallerThere, PopsThere, CameBack, behind, AlikeThere, PrivateThere}

-- the turns that a call tries
abbrev pub turns_tried : Windows → List State → List ℕ → ℕ → ℕ → List Turn
turns_tried w ss ns q grant = tried_turns ns (call_of w ss ns q grant).given

-- what task c has before and after a turn: its state, and each byte of its part p
pub record HasStill (c : ℕ) (p : Own) (r : Ran (List State) Windows) (o : Outcome (List State) Windows) : Type 0 where
  pub state_kept : task_of o.state c ≡ task_of r.state c
  pub part_kept : (d : ℕ) → owns p d ≡ true → get_or o.memory.b.bytes d 0 ≡ get_or r.memory.b.bytes d 0

-- the call was done, the frame lies in B, and the caller's own turns need nothing of it
pub record CalledIn (k : Cut) (ss : List State) (w : Windows) : Type 0 where
  pub names : NamesBy k.how (opcode_of k.kind) (at_call k ss w).memory (caller_at k ss w)
  pub done : (called_at k ss w).reply ≡ 0
  pub in_b : (i : ℕ) → i < hole_at k ss w + 1 → has (shapes_of (at_call k ss w).memory).b (sp (caller_at k ss w) r_o + 8 * i) ≡ true
  pub off : All (Off (Within (sp (caller_at k ss w) r_o) (hole_at k ss w + 1)))
      (run_needs_by both studies (own_needs k.task) (called_at k ss w).state (called_at k ss w).memory k.list)

-- of a call with these arguments, b the length of window B
pub record CallApart (b : ℕ) (w : Windows) (ss : List State) (ns : List ℕ) (q grant : ℕ) : Type 0 where
  -- "No task's step alters another's stack part or state", wherever in the call
  pub others_kept : (before : List Turn) (k : ℕ) (p : Own) (i : Item) (rest : List Turn) → turns_tried w ss ns q grant ≡ before ++ (turn k p i ∷ rest)
      → (c : ℕ) → c < tasks_in ns → c ≢ k
      → HasStill c (part_at ns c) (runs both studies ss w before)
      (step_on both studies (runs both studies ss w before).state (runs both studies ss w before).memory (turn k p i))
  -- a list of turns after a call is apart from the caller's part
  pub list_apart : (k : Cut) (after : List Turn) → turns_tried w ss ns q grant ≡ turns_to_pop k ++ after → PartsApart k.part k.task k.list
  -- so the caller's locals come back, and are private
  pub comes_back : (k : Cut) → turns_tried w ss ns q grant ≡ turns_cut k → CallerThere k ss w → CalledIn k ss w → PopsThere k ss w → CameBack k ss w
  pub stays_private : (k : Cut) (after : List Turn) → turns_tried w ss ns q grant ≡ turns_to_pop k ++ after → CallerThere k ss w → CalledIn k ss w
      → (bs : List Turn) (ts : List State) (v : Windows) → CallerThere (behind k bs) ts v → AlikeThere k (behind k bs) ss ts w v
      → PrivateThere k (behind k bs) ss ts w v

abbrev pub CallsApart : Type 0
CallsApart = (b : ℕ) (w : Windows) (ss : List State) (ns : List ℕ) (q grant : ℕ) → tasks_ruled b ns q ≡ true → CallApart b w ss ns q grant
