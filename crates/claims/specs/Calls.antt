-- Demand 3 as a host meets it: lists of calls of the C functions, in any mix, each on what the one before left. OneCall has what a host holds, and one call.
-- In a list: mmix_step, mmix_step_lent, mmix_step_parts, mmix_exceptions, mmix_exceptions_parts, mmix_run, mmix_run_parts, mmix_decode, mmix_encode; and
-- mmix_take and mmix_context, which leave state and windows as they are. mmix_tasks: TaskCalls.
-- In none: mmix_initialize and mmix_initialize_at start another run; mmix_put_set and mmix_put_set_parts are the host's own change of the state; mmix_go_back rewinds
-- history; mmix_branch_field, mmix_jump_field and mmix_version are given neither state nor window.
use Rattle.std.specs.Prelude.{ℕ, ◌+◌, ◌<◌, ◌≡◌, List, [], ◌∷◌, ◌++◌}
use Rattle.model.specs.Memory.{Windows, shapes_of, both}
use Rattle.model.specs.Opcodes.{op_pop}
use Rattle.model.specs.Plan.{All, Off}
use Rattle.model.specs.Lists.{Ran, runs, run_needs}
use Rattle.model.specs.Registers.{r_o, sp, reg}
use Rattle.model.specs.Frames.{hole}
use Rattle.model.specs.Step.{Item, step, refusing, mmix}
use Rattle.model.specs.Ways.{Way, item_by, MetBy}
use Rattle.model.specs.Invariants.{InstructionFits, Fits, Bytes}
use Rattle.model.specs.Demand.{Within, Call, opcode_of, Alike, SameOutside, AtPop}
use Rattle.model.specs.declared.State.{State}
use Rattle.claims.specs.OneCall.{Held, held_state, HeldIs, HeldFits, Entry, Made, asked, answered_by, MovedBy, counted_by, replied_by, Meets}

-- ---- a list of calls

-- "each later one what the one before left, refused or not"
unfoldable pub Chain : Held → Windows → List Made → Type 0
Chain g w [] = Unit {0}
Chain g w (c ∷ cs) = Meets g w c × Chain c.held c.window cs

unfoldable pub entries : List Made → List Entry
entries [] = []
entries (c ∷ cs) = c.entry ∷ entries cs

unfoldable pub replies : List Made → List ℕ
replies [] = []
replies (c ∷ cs) = replied_by c.entry c.reply ++ replies cs

unfoldable pub last_held : Held → List Made → Held
last_held g [] = g
last_held g (c ∷ cs) = last_held c.held cs

unfoldable pub last_window : Windows → List Made → Windows
last_window w [] = w
last_window w (c ∷ cs) = last_window c.window cs

-- the counts of the runs
unfoldable pub counts : List Made → List ℕ
counts [] = []
counts (c ∷ cs) = counted_by c.entry c.count ++ counts cs

-- the steps, exceptions and fetched instructions that are asked for, and the answers to these
unfoldable pub items : List Made → List Item
items [] = []
items (c ∷ cs) = asked c ++ items cs

unfoldable pub answers : List Made → List ℕ
answers [] = []
answers (c ∷ cs) = answered_by c.entry c.reply c.count ++ answers cs

-- each mmix_decode and mmix_encode replied 0
unfoldable pub Moved : List Made → Type 0
Moved [] = Unit {0}
Moved (c ∷ cs) = MovedBy c.entry c.reply × Moved cs

-- what is given fits C's types
unfoldable pub AllFit : List Item → Type 0
AllFit [] = Unit {0}
AllFit (i ∷ is) = Fits i × AllFit is

-- THEOREM: a list of calls is `runs` on the state that is held: the same answers, state and windows; mmix_decode and mmix_encode reply 0
pub record Carried (g : Held) (w : Windows) (cs : List Made) (r : Ran State Windows) : Type 0 where
  pub answers_are : answers cs ≡ r.answers
  pub others_are : Moved cs
  pub held_is : HeldIs (last_held g cs) r.state
  pub state_is : held_state (last_held g cs) ≡ r.state
  pub window_is : last_window w cs ≡ r.memory

abbrev pub ListsOfCalls : Type 0
ListsOfCalls = (g : Held) (w : Windows) (cs : List Made) → HeldFits g → Bytes w → AllFit (items cs) → Chain g w cs
    → Carried g w cs (runs both mmix (held_state g) w (items cs))

-- ---- demand 3

-- "a POP as the next step, whatever its X and YZ, succeeds, and those locals hold exactly what they held before the call": POP by any function
-- as the next call on g and v, by step or, by a run of one instruction, fetched, is done, and $0 to $(h − 1) are those of s
abbrev pub Returns : ℕ → State → Held → Windows → Type 0
Returns h s g v = (c : Made) (u : Way) → asked c ≡ item_by u op_pop ∷ [] → Fits (item_by u op_pop) → MetBy op_pop (refusing (shapes_of v)) v (held_state g) u → Meets g v c
    → (c.reply ≡ 0) × ((i : ℕ) → i < h → reg (held_state c.held) i ≡ reg s i)

-- what holds of two lists of calls after a call, a and b: on g and on k; "the same answers in the same order, the same registers, PC, halt
-- code and marks, and the same memory outside those locals"; and the POP in each
pub record PrivateCalls (h : ℕ) (g k : Held) (a b : Made) (cs ds : List Made) : Type 0 where
  pub call_same : b.reply ≡ a.reply
  pub replies_same : replies cs ≡ replies ds
  pub counts_same : counts cs ≡ counts ds
  pub held_same : last_held a.held cs ≡ last_held b.held ds
  pub window_same : SameOutside (Within (sp (held_state g) r_o) h) (last_window a.window cs) (last_window b.window ds)
  pub first_back : AtPop h (sp (held_state a.held) r_o) (held_state (last_held a.held cs))
      → Returns h (held_state g) (last_held a.held cs) (last_window a.window cs)
  pub second_back : AtPop h (sp (held_state a.held) r_o) (held_state (last_held a.held cs))
      → Returns h (held_state k) (last_held b.held ds) (last_window b.window ds)

-- THEOREM: demand 3 of the C functions. "Before the call the two runs have equal windows and states equal outside $0 to $(H−1); call and list
-- are the same in both. A call target is the PC after the call"; "It is enough that the first run's needs keep off the frame". The call is by
-- any function that steps; a run in the list has the needs of its fetched instructions
abbrev pub Demand3Calls : Type 0
Demand3Calls = (w : Windows) (g k : Held) (c : Call) (x y z : ℕ) (a b : Made) (cs ds : List Made)
    → HeldFits g → HeldFits k → Bytes w → InstructionFits (opcode_of c) x y z → AllFit (items cs)
    → Alike (hole (held_state g) x) (held_state g) (held_state k)
    → asked a ≡ step (opcode_of c) x y z ∷ [] → b.entry ≡ a.entry → entries ds ≡ entries cs
    → Chain g w (a ∷ cs) → Chain k w (b ∷ ds)
    → a.reply ≡ 0
    → (held_state a.held).pc ≡ (held_state b.held).pc
    → All (Off (Within (sp (held_state g) r_o) (hole (held_state g) x + 1))) (run_needs both mmix (held_state a.held) a.window (items cs))
    → PrivateCalls (hole (held_state g) x) g k a b cs ds
