-- Theorem (02, change 12). Demand 3 with other tasks' turns in the list: "A caller's locals in its own part are thus protected while others run and parts stay:
-- demand 3's list then holds their steps too, even one that 32 refuses for asking at the frame, each on its own task's state, equal in both runs before the call
-- and after the list". And "No task's step alters another's stack part or state".
use Rattle.std.specs.Prelude.{ℕ, ◌+◌, ◌*◌, ◌%◌, ◌≤◌, ◌<◌, ◌≡◌, ◌≢◌, ◌⊎◌, true, cond, List, [], ◌∷◌, eqb, length, get_or}
use Rattle.model.specs.Memory.{Windows, shapes_of, has, both}
use Rattle.model.specs.Opcodes.{op_pop}
use Rattle.model.specs.Plan.{Outcome, All, Off}
use Rattle.model.specs.Lists.{Ran, step_on, needs_of, runs, run_needs_by}
use Rattle.model.specs.Registers.{r_o, sp, reg, Sized, Words, claim_local}
use Rattle.model.specs.Frames.{hole}
use Rattle.model.specs.Step.{Item, step, fetched, opcode_in, tetra_of}
use Rattle.model.specs.Ways.{Way, item_by, MetBy}
use Rattle.model.specs.Demand.{Within, Call, opcode_of, Alike, SameOutside, AtPop, x_at, Demand3}
use Rattle.model.specs.declared.State.{State}
use Rattle.task_model.specs.Tasks.{Own, owns, refusing_in, task_of, Turn, turn, studies, turn_needs}

-- ---- the claim

-- ".. each on its own task's state, equal in both runs before the call": all but the caller's locals
pub record TasksAlike (c h : ℕ) (ss ts : List State) : Type 0 where
  pub count_same : length ss ≡ length ts
  pub caller : Alike h (task_of ss c) (task_of ts c)
  pub others : (k : ℕ) → k ≢ c → task_of ss k ≡ task_of ts k

-- task c does an item on its part
abbrev pub turn_on : Own → Windows → List State → ℕ → Item → Outcome (List State) Windows
turn_on p w ss c i = step_on both studies ss w (turn c p i)

-- the list after a call, and the POP after it, by that task
abbrev pub after_turns : Outcome (List State) Windows → List Turn → Ran (List State) Windows
after_turns o is = runs both studies o.state o.memory is

-- by step, or fetched
abbrev pub pop_in : Own → Ran (List State) Windows → ℕ → Way → Outcome (List State) Windows
pop_in p r c u = turn_on p r.memory r.state c (item_by u op_pop)

-- fetched, the tetra at its PC is a POP, and its octabyte is lent to that task
abbrev pub PopMetIn : Own → Ran (List State) Windows → ℕ → Way → Type 0
PopMetIn p r c u = MetBy op_pop (refusing_in p (shapes_of r.memory)) r.memory (task_of r.state c) u

pub record GivesBackTo (c h : ℕ) (s : State) (o : Outcome (List State) Windows) : Type 0 where
  pub done : o.reply ≡ 0
  pub locals : (i : ℕ) → i < h → reg (task_of o.state c) i ≡ reg s i

-- what holds of the two runs, a and b their outcomes of the call
pub record PrivateTo (p : Own) (c h : ℕ) (s t : State) (a b : Outcome (List State) Windows) (is : List Turn) : Type 0 where
  pub call_same : b.reply ≡ a.reply
  pub answers_same : (after_turns a is).answers ≡ (after_turns b is).answers
  -- every task's: ".. and after the list"
  pub states_same : (after_turns a is).state ≡ (after_turns b is).state
  pub window_same : SameOutside (Within (sp s r_o) h) (after_turns a is).memory (after_turns b is).memory
  pub first_back : AtPop h (sp (task_of a.state c) r_o) (task_of (after_turns a is).state c) → (u : Way) → PopMetIn p (after_turns a is) c u
      → GivesBackTo c h s (pop_in p (after_turns a is) c u)
  pub second_back : AtPop h (sp (task_of a.state c) r_o) (task_of (after_turns a is).state c) → (u : Way) → PopMetIn p (after_turns b is) c u
      → GivesBackTo c h t (pop_in p (after_turns b is) c u)

-- a condition on the caller's part, the windows, the frame (an address and how many octabytes), the caller and the list's turns
abbrev pub Condition : Type 1
Condition = Own → Windows → ℕ → ℕ → ℕ → List Turn → Type 0

-- the claim, under such a condition and for a reading of the needs; p is the caller's part
abbrev pub ClaimIn : Condition → (ℕ → List State → Windows → Turn → List ℕ) → Type 0
ClaimIn parted needed = (p : Own) (w : Windows) (ss ts : List State) (c : ℕ) (f : Call) (x y z : ℕ) (is : List Turn)
    → parted p w (sp (task_of ss c) r_o) (hole (task_of ss c) x + 1) c is
    → c < length ss → Sized (task_of ss c) → Sized (task_of ts c) → Words (task_of ss c) → Words (task_of ts c)
    → TasksAlike c (hole (task_of ss c) x) ss ts
    → (turn_on p w ss c (step (opcode_of f) x y z)).reply ≡ 0
    → (task_of (turn_on p w ss c (step (opcode_of f) x y z)).state c).pc ≡ (task_of (turn_on p w ts c (step (opcode_of f) x y z)).state c).pc
    → All (Off (Within (sp (task_of ss c) r_o) (hole (task_of ss c) x + 1)))
    (run_needs_by both studies (needed c) (turn_on p w ss c (step (opcode_of f) x y z)).state (turn_on p w ss c (step (opcode_of f) x y z)).memory is)
    → PrivateTo p c (hole (task_of ss c) x) (task_of ss c) (task_of ts c) (turn_on p w ss c (step (opcode_of f) x y z)) (turn_on p w ts c (step (opcode_of f) x y z)) is

-- of a call that is itself fetched, the locals being those after the claim of $X
abbrev pub FetchedClaimIn : Condition → (ℕ → List State → Windows → Turn → List ℕ) → Type 0
FetchedClaimIn parted needed = (p : Own) (w : Windows) (ss ts : List State) (c : ℕ) (f : Call) (is : List Turn)
    → parted p w (sp (task_of ss c) r_o) (hole (task_of ss c) (x_at w (task_of ss c)) + 1) c is
    → c < length ss → Sized (task_of ss c) → Sized (task_of ts c) → Words (task_of ss c) → Words (task_of ts c)
    → opcode_in (tetra_of w (task_of ss c)) ≡ opcode_of f
    → TasksAlike c (hole (task_of ss c) (x_at w (task_of ss c))) ss ts
    → (turn_on p w ss c fetched).reply ≡ 0
    → (task_of (turn_on p w ss c fetched).state c).pc ≡ (task_of (turn_on p w ts c fetched).state c).pc
    → All (Off (Within (sp (task_of ss c) r_o) (hole (task_of ss c) (x_at w (task_of ss c)) + 1)))
    (run_needs_by both studies (needed c) (turn_on p w ss c fetched).state (turn_on p w ss c fetched).memory is)
    → PrivateTo p c (hole (task_of ss c) (x_at w (task_of ss c))) (claim_local (task_of ss c) (x_at w (task_of ss c))) (claim_local (task_of ts c) (x_at w (task_of ss c)))
    (turn_on p w ss c fetched) (turn_on p w ts c fetched) is

-- ---- any parts

abbrev pub any_parts : Condition
any_parts p w a n c is = Unit {0}

-- "even one that 32 refuses for asking at the frame": what 32 refuses is no need
abbrev pub Demand3Tasks : Type 0
Demand3Tasks = ClaimIn any_parts (λ c. turn_needs)

abbrev pub Demand3TasksFetched : Type 0
Demand3TasksFetched = FetchedClaimIn any_parts (λ c. turn_needs)

-- The claim without tasks follows from it and keeps its text
abbrev pub WithoutTasks : Type 0
WithoutTasks = Demand3Tasks → Demand3

-- ---- a frame in the caller's own part

-- parts that have no byte in common; an empty one has none
abbrev pub Disjoint : Own → Own → Type 0
Disjoint p r = (p.start + p.size ≤ r.start) ⊎ ((r.start + r.size ≤ p.start) ⊎ ((p.size ≡ 0) ⊎ (r.size ≡ 0)))

-- every turn of another task than c is on a part that has no byte of p
unfoldable pub PartsApart : Own → ℕ → List Turn → Type 0
PartsApart p c [] = Unit {0}
PartsApart p c (turn k r i ∷ ts) = (k ≢ c → Disjoint p r) × PartsApart p c ts

-- the frame lies in B (in p, since the call was done), and parts are apart
pub record OwnFrame (p : Own) (w : Windows) (a n c : ℕ) (is : List Turn) : Type 0 where
  pub in_b : (i : ℕ) → i < n → has (shapes_of w).b (a + 8 * i) ≡ true
  pub apart : PartsApart p c is

-- what c's own turns need
unfoldable pub own_needs : ℕ → List State → Windows → Turn → List ℕ
own_needs c ss m (turn k p i) = cond (eqb k c) (needs_of both studies ss m (turn k p i)) []

-- "A caller's locals in its own part are thus protected while others run": nothing is asked of others' turns
abbrev pub Demand3Own : Type 0
Demand3Own = ClaimIn OwnFrame own_needs

abbrev pub Demand3OwnFetched : Type 0
Demand3OwnFetched = FetchedClaimIn OwnFrame own_needs

-- ---- others' states and parts

-- what a turn of k on p that left o keeps, whatever it does
pub record OthersKept (w : Windows) (ss : List State) (k : ℕ) (p : Own) (o : Outcome (List State) Windows) : Type 0 where
  pub state_kept : (j : ℕ) → j ≢ k → task_of o.state j ≡ task_of ss j
  -- every byte of a part that has none of p's, and splits no octabyte
  pub part_kept : (r : Own) → Disjoint p r → r.start % 8 ≡ 0 → (d : ℕ) → owns r d ≡ true → get_or o.memory.b.bytes d 0 ≡ get_or w.b.bytes d 0

-- "No task's step alters another's stack part or state"
abbrev pub NoneAltersAnother : Type 0
NoneAltersAnother = (w : Windows) (ss : List State) (k : ℕ) (p : Own) (i : Item) → OthersKept w ss k p (turn_on p w ss k i)
