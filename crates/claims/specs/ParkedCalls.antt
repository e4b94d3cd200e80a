-- Theorem (02, change 14), as a host meets it: And of the C functions, as demand 3 is: lists of calls of steps, exceptions, runs and tasks on images and
-- windows. SAVE by any function on what task c holds; then a list of calls, mmix_tasks among them; then UNSAVE by any function on what task c holds then.
-- A run that is granted one instruction does it fetched.
use Rattle.std.specs.Prelude.{ℕ, ◌<◌, ◌≡◌, List, [], ◌∷◌, length}
use Rattle.model.specs.Memory.{Windows, shapes_of}
use Rattle.model.specs.Opcodes.{op_save, op_unsave}
use Rattle.model.specs.Plan.{All, Off}
use Rattle.model.specs.Registers.{reg, following}
use Rattle.model.specs.Step.{refusing}
use Rattle.model.specs.Ways.{Way, item_by, NamesBy, x_by}
use Rattle.model.specs.Invariants.{Fits, Bytes}
use Rattle.model.specs.declared.State.{State}
use Rattle.task_model.specs.Parked.{ComesBack, Asks, Context}
use Rattle.claims.specs.OneCall.{Held, held_state, HeldFits, Entry, asked_by, Made, asked, Meets}
use Rattle.claims.specs.TaskCalls.{held_by, TaskMade, alone, TaskChain, task_last_held, task_last_window, AllFitIn, calls_need}

-- "it succeeds": what a call d on state e and v leaves, s the state before SAVE; PC and halt code as UNSAVE leaves them, and the windows
pub record Unparked (s e : State) (v : Windows) (d : Made) : Type 0 where
  pub done : d.reply ≡ 0
  pub state_back : ComesBack s (held_state d.held)
  pub pc_next : (held_state d.held).pc ≡ following e
  pub halt_same : (held_state d.held).halt ≡ e.halt
  pub window_same : d.window ≡ v

-- UNSAVE by any function as the next call on g and v, that names the address a
abbrev pub Unparks : State → ℕ → Held → Windows → Type 0
Unparks s a g v = (d : Made) (u : Way) → asked d ≡ item_by u op_unsave ∷ [] → Fits (item_by u op_unsave) → Asks (refusing (shapes_of v)) v (held_state g) a u
    → Meets g v d → Unparked s (held_state g) v d

-- THEOREM: a parked context survives a list of calls that needs none of its octabytes; a is the call of SAVE
abbrev pub ParkedCalls : Type 0
ParkedCalls = (w : Windows) (hs : List Held) (c : ℕ) (i : Way) (e : Entry) (a : TaskMade) (cs : List TaskMade)
    → c < length hs → ((k : ℕ) → k < length hs → HeldFits (held_by hs k)) → Bytes w → Fits (item_by i op_save) → AllFitIn cs
    → a.entry ≡ alone c e → asked_by e a.reply a.count ≡ item_by i op_save ∷ [] → NamesBy i op_save w (held_state (held_by hs c))
    → TaskChain hs w (a ∷ cs)
    → a.reply ≡ 0
    → All (Off (Context (held_state (held_by hs c)))) (calls_need a.held a.window cs)
    → Unparks (held_state (held_by hs c)) (reg (held_state (held_by a.held c)) (x_by i w (held_state (held_by hs c))))
    (held_by (task_last_held a.held cs) c) (task_last_window a.window cs)
