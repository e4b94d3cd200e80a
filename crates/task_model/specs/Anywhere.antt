-- Theorem. Demand 3 wherever in a list of turns the call and its POP stand: of turns cut into those before a call of task c, the call, a list, a POP of task c
-- and the rest. Call and POP are by step or fetched, each on a part of its own.
use Rattle.std.specs.Prelude.{ℕ, ◌+◌, ◌*◌, ◌<◌, ◌≡◌, ◌⊎◌, List, ◌∷◌, ◌++◌, length, get_or}
use Rattle.model.specs.Memory.{Windows, shapes_of, both}
use Rattle.model.specs.Opcodes.{op_pop}
use Rattle.model.specs.Plan.{Outcome, All, Off}
use Rattle.model.specs.Lists.{Ran, step_on, runs, run_needs_by}
use Rattle.model.specs.Registers.{r_o, sp, Sized, Words, claim_local}
use Rattle.model.specs.Frames.{hole}
use Rattle.model.specs.Split.{Splits}
use Rattle.model.specs.Ways.{Way, by_step, by_fetch, item_by, NamesBy, x_by}
use Rattle.model.specs.Demand.{Within, Call, opcode_of, SameOutside, AtPop}
use Rattle.model.specs.declared.State.{State}
use Rattle.task_model.specs.Tasks.{Own, refusing_in, task_of, Turn, turn, studies, turn_needs}
use Rattle.task_model.specs.TaskDemand.{TasksAlike, after_turns, PopMetIn, GivesBackTo, Condition, any_parts, OwnFrame, own_needs}

-- what a list of turns leaves is what its second part leaves after its first
abbrev pub TurnsSplit : Type 0
TurnsSplit = Splits both studies

-- what turns need, c being the caller
abbrev pub Reading : Type 0
Reading = ℕ → List State → Windows → Turn → List ℕ

-- ---- turns that are cut

-- before the call; the calling task, its part, which call and how; the list; the POP's part and how; the rest
pub record Cut : Type 0 where
  pub before : List Turn
  pub task : ℕ
  pub part : Own
  pub kind : Call
  pub how : Way
  pub list : List Turn
  pub pop_part : Own
  pub pop_how : Way
  pub rest : List Turn

abbrev pub call_turn : Cut → Turn
call_turn k = turn k.task k.part (item_by k.how (opcode_of k.kind))

abbrev pub pop_turn : Cut → Turn
pop_turn k = turn k.task k.pop_part (item_by k.pop_how op_pop)

-- up to where the list ends, and all of them
abbrev pub turns_to_pop : Cut → List Turn
turns_to_pop k = k.before ++ (call_turn k ∷ k.list)

abbrev pub turns_cut : Cut → List Turn
turns_cut k = k.before ++ (call_turn k ∷ (k.list ++ (pop_turn k ∷ k.rest)))

-- the state that a call in state s pushes from: s, or, of a call that is fetched, s after the claim of $X
abbrev pub caller_by : Way → Windows → State → State
caller_by (by_step x y z) w s = s
caller_by by_fetch w s = claim_local s (x_by by_fetch w s)

-- ---- tried from states ss and windows w

module _ (k : Cut) (ss : List State) (w : Windows) where
  -- where the call finds them, what it leaves; where the POP finds them, what it leaves
  abbrev pub at_call : Ran (List State) Windows
  at_call = runs both studies ss w k.before

  abbrev pub called_at : Outcome (List State) Windows
  called_at = step_on both studies at_call.state at_call.memory (call_turn k)

  abbrev pub at_pop : Ran (List State) Windows
  at_pop = after_turns called_at k.list

  abbrev pub popped_at : Outcome (List State) Windows
  popped_at = step_on both studies at_pop.state at_pop.memory (pop_turn k)

  -- the caller's state before the call, and the hole's number
  abbrev pub caller_at : State
  caller_at = task_of at_call.state k.task

  abbrev pub hole_at : ℕ
  hole_at = hole caller_at (x_by k.how at_call.memory caller_at)

  -- what comes back are its locals below the hole
  abbrev pub pushed_at : State
  pushed_at = caller_by k.how at_call.memory caller_at

  -- the caller is one of the tasks, its registers in range
  pub record CallerThere : Type 0 where
    pub there : k.task < length at_call.state
    pub sized : Sized caller_at
    pub words : Words caller_at

  -- the call was done (fetched, the tetra at PC is that call), and the list needs no octabyte of the frame, in a reading of needs and under a condition on parts
  pub record CalledThere (parted : Condition) (needed : Reading) : Type 0 where
    pub names : NamesBy k.how (opcode_of k.kind) at_call.memory caller_at
    pub done : called_at.reply ≡ 0
    pub parts : parted k.part at_call.memory (sp caller_at r_o) (hole_at + 1) k.task k.list
    pub off : All (Off (Within (sp caller_at r_o) (hole_at + 1))) (run_needs_by both studies (needed k.task) called_at.state called_at.memory k.list)

  -- the POP finds rO back; fetched, its tetra is a POP that is lent; it is on the call's part, or on one that lets all of the frame through
  pub record PopsThere : Type 0 where
    pub finds_back : AtPop hole_at (sp (task_of called_at.state k.task) r_o) (task_of at_pop.state k.task)
    pub met : PopMetIn k.pop_part at_pop k.task k.pop_how
    pub lets : (k.pop_part ≡ k.part) ⊎ ((i : ℕ) → i < hole_at + 1 → refusing_in k.pop_part (shapes_of at_pop.memory) (sp caller_at r_o + 8 * i) ≡ 0)

-- THEOREM: then the POP was done, and the caller's locals are back; its answer stands where the POP stands among all turns
pub record CameBack (k : Cut) (ss : List State) (w : Windows) : Type 0 where
  pub back : GivesBackTo k.task (hole_at k ss w) (pushed_at k ss w) (popped_at k ss w)
  pub answer_is : get_or (runs both studies ss w (turns_cut k)).answers (length (turns_to_pop k)) 1 ≡ 0

abbrev pub AnywhereBy : Condition → Reading → Type 0
AnywhereBy parted needed = (k : Cut) (ss : List State) (w : Windows) → CallerThere k ss w → CalledThere k ss w parted needed → PopsThere k ss w → CameBack k ss w

abbrev pub Anywhere : Type 0
Anywhere = AnywhereBy any_parts (λ c. turn_needs)

-- "A caller's locals in its own part are thus protected while others run": nothing is asked of others' turns
abbrev pub AnywhereOwn : Type 0
AnywhereOwn = AnywhereBy OwnFrame own_needs

-- ---- two runs

-- the same call and list after other turns
abbrev pub behind : Cut → List Turn → Cut
behind k ts = record { before = ts; task = k.task; part = k.part; kind = k.kind; how = k.how; list = k.list; pop_part = k.pop_part; pop_how = k.pop_how; rest = k.rest }

-- "states equal outside $0 to $(H−1)", equal windows, equal call targets
pub record AlikeThere (k l : Cut) (ss ts : List State) (w v : Windows) : Type 0 where
  pub alike : TasksAlike k.task (hole_at k ss w) (at_call k ss w).state (at_call l ts v).state
  pub windows_same : (at_call k ss w).memory ≡ (at_call l ts v).memory
  pub targets_same : (task_of (called_at k ss w).state k.task).pc ≡ (task_of (called_at l ts v).state k.task).pc

-- at the end of the list: "the same answers in the same order", every task's state, and the windows outside those locals; and the POP in the second run
pub record PrivateThere (k l : Cut) (ss ts : List State) (w v : Windows) : Type 0 where
  pub call_same : (called_at l ts v).reply ≡ (called_at k ss w).reply
  pub answers_same : (at_pop k ss w).answers ≡ (at_pop l ts v).answers
  pub states_same : (at_pop k ss w).state ≡ (at_pop l ts v).state
  pub window_same : SameOutside (Within (sp (caller_at k ss w) r_o) (hole_at k ss w)) (at_pop k ss w).memory (at_pop l ts v).memory
  pub second_back : PopsThere l ts v → CameBack l ts v

-- THEOREM: "It is enough that the first run's needs keep off the frame"
abbrev pub TwiceBy : Condition → Reading → Type 0
TwiceBy parted needed = (k : Cut) (bs : List Turn) (ss ts : List State) (w v : Windows) → CallerThere k ss w → CallerThere (behind k bs) ts v
    → CalledThere k ss w parted needed → AlikeThere k (behind k bs) ss ts w v
    → PrivateThere k (behind k bs) ss ts w v

abbrev pub AnywhereTwice : Type 0
AnywhereTwice = TwiceBy any_parts (λ c. turn_needs)

abbrev pub AnywhereOwnTwice : Type 0
AnywhereOwnTwice = TwiceBy OwnFrame own_needs
