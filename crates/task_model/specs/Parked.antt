-- Theorem (02, change 14). "A parked context survives the study": what SAVE stored comes back by UNSAVE, whatever the list between them does that needs no
-- octabyte of the context. SAVE that is done, by step or fetched; UNSAVE by step and by run, a run being the list of its fetched instructions (RunMeant);
-- a return to a point is no item of the list. For any rO: "Misaligned rO and contexts across both windows are included"; and any parts.
use Rattle.std.specs.Prelude.{ℕ, ◌≤◌, ◌<◌, ◌≡◌, ◌≢◌, Bool, true, ◌&&◌, ◌||◌, List, leb, eqb, length}
use Rattle.model.specs.Memory.{Windows, shapes_of, both}
use Rattle.model.specs.Opcodes.{op_save, op_unsave}
use Rattle.model.specs.Plan.{Outcome, All, Off}
use Rattle.model.specs.Lists.{Ran, run_needs_by}
use Rattle.model.specs.Registers.{r_o, r_s, r_g, r_l, r_a, r_p, r_r, r_z, sp, reg, following, Sized, Words}
use Rattle.model.specs.Contexts.{extent}
use Rattle.model.specs.Step.{Item, refusing}
use Rattle.model.specs.Ways.{Way, item_by, NamesBy, LentBy, x_by, z_by, done_by}
use Rattle.model.specs.Demand.{Within, after, after_needs}
use Rattle.model.specs.declared.State.{State}
use Rattle.task_model.specs.Tasks.{Own, refusing_in, task_of, Turn, studies, turn_needs}
use Rattle.task_model.specs.TaskDemand.{turn_on, after_turns}

-- ---- what comes back

-- "rL, rG, rA, rO, the twelve specials": rB, rD, rE, rH, rJ, rM, rR, and rP, rW, rX, rY, rZ
unfoldable pub in_context : ℕ → Bool
in_context k = eqb k r_g || (eqb k r_l || (eqb k r_a || (eqb k r_o || (leb k r_r || (leb r_p k && leb k r_z)))))

-- of s, before SAVE, in t, after UNSAVE: the locals below rL and all globals, SAVE's own $X too, are as before SAVE, the other locals 0, rS = rO
pub record ComesBack (s t : State) : Type 0 where
  pub special_back : (k : ℕ) → k < 32 → in_context k ≡ true → sp t k ≡ sp s k
  pub stack_back : sp t r_s ≡ sp t r_o
  pub local_back : (i : ℕ) → i < sp s r_l → reg t i ≡ reg s i
  pub other_zero : (i : ℕ) → sp s r_l ≤ i → i < sp s r_g → reg t i ≡ 0
  pub global_back : (i : ℕ) → sp s r_g ≤ i → i < 256 → reg t i ≡ reg s i

-- ---- UNSAVE

-- an UNSAVE in state s names the address that SAVE gave (the value in its $Z, low bits included), a
pub record Asks (j : ℕ → ℕ) (w : Windows) (s : State) (a : ℕ) (u : Way) : Type 0 where
  pub names : NamesBy u op_unsave w s
  pub lent : LentBy u j s
  pub address : reg s (z_by u w s) ≡ a

-- the context's octabytes: what the list must not need
abbrev pub Context : State → ℕ → Type 0
Context s = Within (sp s r_o) (extent s)

-- ---- several tasks: task c on part p

-- SAVE, and where the list after it ends: other tasks' turns included, refused ones too
abbrev pub saved_by : Own → Windows → List State → ℕ → Way → Outcome (List State) Windows
saved_by p w ss c i = turn_on p w ss c (item_by i op_save)

abbrev pub until_unsave : Own → Windows → List State → ℕ → Way → List Turn → Ran (List State) Windows
until_unsave p w ss c i is = after_turns (saved_by p w ss c i) is

-- "it succeeds"; PC and halt code as UNSAVE leaves them: @ + 4, and the code that was. The others' states and the windows stay
pub record UnparksTo (c : ℕ) (s : State) (r : Ran (List State) Windows) (o : Outcome (List State) Windows) : Type 0 where
  pub done : o.reply ≡ 0
  pub state_back : ComesBack s (task_of o.state c)
  pub pc_next : (task_of o.state c).pc ≡ following (task_of r.state c)
  pub halt_same : (task_of o.state c).halt ≡ (task_of r.state c).halt
  pub others_same : (k : ℕ) → k ≢ c → task_of o.state k ≡ task_of r.state k
  pub memory_same : o.memory ≡ r.memory

-- let any list follow on the same windows and parts that needs no octabyte of the saved context, while nothing else writes the windows. When that task's
-- UNSAVE then names the address that SAVE gave, it succeeds. X is a byte
abbrev pub ParkedTasks : Type 0
ParkedTasks = (p : Own) (w : Windows) (ss : List State) (c : ℕ) (i u : Way) (is : List Turn)
    → c < length ss → Sized (task_of ss c) → Words (task_of ss c)
    → NamesBy i op_save w (task_of ss c) → x_by i w (task_of ss c) < 256
    → (saved_by p w ss c i).reply ≡ 0
    → All (Off (Context (task_of ss c))) (run_needs_by both studies turn_needs (saved_by p w ss c i).state (saved_by p w ss c i).memory is)
    → Asks (refusing_in p (shapes_of (until_unsave p w ss c i is).memory)) (until_unsave p w ss c i is).memory (task_of (until_unsave p w ss c i is).state c)
    (reg (task_of (saved_by p w ss c i).state c) (x_by i w (task_of ss c))) u
    → UnparksTo c (task_of ss c) (until_unsave p w ss c i is)
    (turn_on p (until_unsave p w ss c i is).memory (until_unsave p w ss c i is).state c (item_by u op_unsave))

-- ---- one state

pub record Unparks (s : State) (r : Ran State Windows) (o : Outcome State Windows) : Type 0 where
  pub done : o.reply ≡ 0
  pub state_back : ComesBack s o.state
  pub pc_next : o.state.pc ≡ following r.state
  pub halt_same : o.state.halt ≡ r.state.halt
  pub memory_same : o.memory ≡ r.memory

abbrev pub ParkedSurvives : Type 0
ParkedSurvives = (w : Windows) (s : State) (i u : Way) (is : List Item)
    → Sized s → Words s → NamesBy i op_save w s → x_by i w s < 256
    → (done_by i op_save w s).reply ≡ 0
    → All (Off (Context s)) (after_needs (done_by i op_save w s) is)
    → Asks (refusing (shapes_of (after (done_by i op_save w s) is).memory)) (after (done_by i op_save w s) is).memory (after (done_by i op_save w s) is).state
    (reg (done_by i op_save w s).state (x_by i w s)) u
    → Unparks s (after (done_by i op_save w s) is) (done_by u op_unsave (after (done_by i op_save w s) is).memory (after (done_by i op_save w s) is).state)
