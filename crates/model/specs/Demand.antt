-- Theorem 5, demand 3: what a caller keeps below the hole is private to it and comes back, whatever the list after the call does
-- that needs no octabyte of the call's frame. One theorem about the whole list, over `step_of` and `exception_of`; and `fetched_of`, for a call that is itself
-- fetched, and in the list, where a run is the list of its fetched instructions (RunMeant).
use Rattle.std.specs.Prelude.{◌≡◌, ℕ, ◌+◌, ◌*◌, ◌%◌, ◌<◌, ◌≤◌, List, length, slice_index}
use Rattle.model.specs.Octa.{octa}
use Rattle.model.specs.Memory.{Window, Windows, shapes_of, both}
use Rattle.model.specs.Opcodes.{op_pushj, op_pushjb, op_pushgo, op_pushgoi, op_pop}
use Rattle.model.specs.Plan.{Outcome, All, Off}
use Rattle.model.specs.Lists.{Ran, runs, run_needs, run_wider_needs}
use Rattle.model.specs.Registers.{r_o, r_g, stack_start, sp, reg, Sized, Words, MarginalZero, claim_local}
use Rattle.model.specs.Frames.{hole}
use Rattle.model.specs.Step.{Item, refusing, step_of, opcode_in, x_in, fetched_of, tetra_of, mmix}
use Rattle.model.specs.Ways.{Way, done_by, MetBy}
use Rattle.model.specs.declared.State.{State}

-- the octabytes of a run of n from address a
pub record Within (a n : ℕ) (o : ℕ) : Type 0 where
  pub place : ℕ
  pub place_below : place < n
  pub named_by : o ≡ octa (a + 8 * place)

-- "a call by PUSHJ, PUSHJB, PUSHGO or PUSHGOI"
pub data Call : Type 0 where
  PUSHJ : Call
  PUSHJB : Call
  PUSHGO : Call
  PUSHGOI : Call

abbrev pub opcode_of : Call → ℕ
opcode_of PUSHJ = op_pushj
opcode_of PUSHJB = op_pushjb
opcode_of PUSHGO = op_pushgo
opcode_of PUSHGOI = op_pushgoi

-- "states equal outside $0 to $(H−1)"
pub record Alike (h : ℕ) (s t : State) : Type 0 where
  pub special_same : s.special ≡ t.special
  pub pc_same : s.pc ≡ t.pc
  pub halt_same : s.halt ≡ t.halt
  pub marks_same : s.marks ≡ t.marks
  pub mask_same : s.mask ≡ t.mask
  pub rest_same : (i : ℕ) → h ≤ i → reg s i ≡ reg t i

-- equal byte by byte outside the octabytes of F
pub record SameBytes (F : ℕ → Type 0) (v w : Window) : Type 0 where
  pub base_same : v.base ≡ w.base
  pub length_same : length v.bytes ≡ length w.bytes
  pub byte_same : (i : ℕ) → Off F (v.base + i) → slice_index v.bytes i ≡ slice_index w.bytes i

-- in both windows
pub record SameOutside (F : ℕ → Type 0) (v w : Windows) : Type 0 where
  pub in_a : SameBytes F v.a w.a
  pub in_b : SameBytes F v.b w.b

-- "If rO is then back at its value after the call, a multiple of 8 above 0x6000000000000000 and below 0x8000000000000000, and rG is
-- at least the hole's number"
pub record AtPop (h ro : ℕ) (s : State) : Type 0 where
  pub back : sp s r_o ≡ ro
  pub aligned : ro % 8 ≡ 0
  pub above : stack_start < ro
  pub below : ro < 0x8000000000000000
  pub reach : h ≤ sp s r_g

-- "a POP as the next step, whatever its X and YZ, succeeds, and those locals hold exactly what they held before the call"
pub record GivesBack (h : ℕ) (s : State) (o : Outcome State Windows) : Type 0 where
  pub done : o.reply ≡ 0
  pub locals : (i : ℕ) → i < h → reg o.state i ≡ reg s i

-- the list after a call, its needs, and the POP after it
abbrev pub after : Outcome State Windows → List Item → Ran State Windows
after o is = runs both mmix o.state o.memory is

abbrev pub after_needs : Outcome State Windows → List Item → List ℕ
after_needs o is = run_needs both mmix o.state o.memory is

abbrev pub after_wider_needs : Outcome State Windows → List Item → List ℕ
after_wider_needs o is = run_wider_needs both mmix o.state o.memory is

-- by step, or fetched
abbrev pub pop_after : Ran State Windows → Way → Outcome State Windows
pop_after r u = done_by u op_pop r.memory r.state

-- fetched, the tetra at PC is a POP, and its octabyte is lent
abbrev pub PopMet : Ran State Windows → Way → Type 0
PopMet r u = MetBy op_pop (refusing (shapes_of r.memory)) r.memory r.state u

-- what holds of the two runs, a and b their outcomes of the call: "the same answers in the same order, the same registers, PC, halt
-- code and marks, and the same memory outside those locals"; and the POP in each
pub record Private (h : ℕ) (s t : State) (a b : Outcome State Windows) (is : List Item) : Type 0 where
  pub call_same : b.reply ≡ a.reply
  pub answers_same : (after a is).answers ≡ (after b is).answers
  pub state_same : (after a is).state ≡ (after b is).state
  pub window_same : SameOutside (Within (sp s r_o) h) (after a is).memory (after b is).memory
  pub first_back : AtPop h (sp a.state r_o) (after a is).state → (u : Way) → PopMet (after a is) u → GivesBack h s (pop_after (after a is) u)
  pub second_back : AtPop h (sp a.state r_o) (after a is).state → (u : Way) → PopMet (after b is) u → GivesBack h t (pop_after (after b is) u)

-- the claim, for a reading of the needs: "take every list of steps and exceptions on the same window, refused ones included, that
-- needs no octabyte of the call's frame"; "two runs that began alike in all but the locals pushed below the hole, with equal call
-- targets"; "It is enough that the first run's needs keep off the frame"
abbrev pub Claim : (Outcome State Windows → List Item → List ℕ) → Type 0
Claim needed = (w : Windows) (s t : State) (c : Call) (x y z : ℕ) (is : List Item)
    → Sized s → Sized t → Words s → Words t
    → Alike (hole s x) s t
    → (step_of w s (opcode_of c) x y z).reply ≡ 0
    → (step_of w s (opcode_of c) x y z).state.pc ≡ (step_of w t (opcode_of c) x y z).state.pc
    → All (Off (Within (sp s r_o) (hole s x + 1))) (needed (step_of w s (opcode_of c) x y z) is)
    → Private (hole s x) s t (step_of w s (opcode_of c) x y z) (step_of w t (opcode_of c) x y z) is

abbrev pub Demand3 : Type 0
Demand3 = Claim after_needs

-- the corollary: needs in the wider reading, all that a refused PUSH or SAVE would store, suffice too
abbrev pub Demand3Wider : Type 0
Demand3Wider = Claim after_wider_needs

-- ---- a call that is itself fetched

-- X of the tetra at PC
abbrev pub x_at : Windows → State → ℕ
x_at w s = x_in (tetra_of w s)

-- the same claim, the locals being those after the claim of $X. The windows and PC are equal, so that both runs fetch the same tetra
abbrev pub FetchedClaim : (Outcome State Windows → List Item → List ℕ) → Type 0
FetchedClaim needed = (w : Windows) (s t : State) (c : Call) (is : List Item)
    → Sized s → Sized t → Words s → Words t
    → opcode_in (tetra_of w s) ≡ opcode_of c
    → Alike (hole s (x_at w s)) s t
    → (fetched_of w s).reply ≡ 0
    → (fetched_of w s).state.pc ≡ (fetched_of w t).state.pc
    → All (Off (Within (sp s r_o) (hole s (x_at w s) + 1))) (needed (fetched_of w s) is)
    → Private (hole s (x_at w s)) (claim_local s (x_at w s)) (claim_local t (x_at w s)) (fetched_of w s) (fetched_of w t) is

abbrev pub Demand3Fetched : Type 0
Demand3Fetched = FetchedClaim after_needs

abbrev pub Demand3FetchedWider : Type 0
Demand3FetchedWider = FetchedClaim after_wider_needs

-- and, where marginal registers are zero, exactly those before: the claim changes no general register
abbrev pub ClaimKeeps : Type 0
ClaimKeeps = (s : State) (x i : ℕ) → MarginalZero s → reg (claim_local s x) i ≡ reg s i
