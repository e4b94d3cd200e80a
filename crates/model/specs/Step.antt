-- The entries' own definitions, `step_of`, `exception_of` and `fetched_of`: 01's steps under 01's order of judging, and one that is fetched; and lists of them.
use Rattle.std.specs.Prelude.{ℕ, ◌/◌, ◌%◌, ◌^◌, Bool, cond, ◌||◌, List, [], ◌==◌, slice_index}
use Rattle.model.specs.Memory.{Windows, Shapes, shapes_of, ruled, shares, both}
use Rattle.model.specs.Plan.{Plan, answer, read, Outcome, look, perform, needs}
use Rattle.model.specs.Lists.{Machine}
use Rattle.model.specs.Registers.{admissible, with_parts, claim_local}
use Rattle.model.specs.Opcodes.{tetra, Arm, among, arm_of}
use Rattle.model.specs.NoMemory.{Said, say, tell}
use Rattle.model.specs.Trips.{word_of, raised}
use Rattle.model.specs.LoadStore.{operand_in}
use Rattle.model.specs.Row.{refusal_in, plan_in}
use Rattle.model.specs.Rows.{row_of}
unfoldable pub use Rattle.model.specs.Needs.{refusing}
pub use Rattle.model.specs.SystemRows.{is_named}
use Rattle.model.specs.declared.State.{State}

-- ---- judging

-- 3 to 5: what refuses an instruction before it is begun, 0 where nothing does
unfoldable pub refusal_of : Arm → ℕ → ℕ → ℕ → ℕ
refusal_of a x y z = refusal_in (row_of a) x y z

-- 2: "window length or base breaks its rule", of either; 22: "the two windows share an octabyte, judged right after 2"; 0 where neither is so
unfoldable pub unruled_by : Shapes → ℕ
unruled_by w = cond (ruled w) (cond (shares w) 22 0) 2

-- "Order: 1, 2, [22,] then 3 to 5, then the instruction's own"
unfoldable pub judged : State → Shapes → Arm → ℕ → ℕ → ℕ → ℕ
judged s w a x y z = cond (admissible s) (cond (unruled_by w == 0) (refusal_of a x y z) (unruled_by w)) 1

-- ---- one step

-- the instruction's own, from the arm's row
unfoldable pub plan_of : State → Arm → ℕ → ℕ → ℕ → ℕ → Plan State
plan_of s a op x y z = plan_in (row_of a) s op x y z

-- "Order: 1, 2, [22] ..", `bad` where one of them is met; ..
unfoldable pub guarded : {S : Type 0} → S → State → Shapes → Plan S → Plan S
guarded bad s w p = cond (admissible s) (cond (unruled_by w == 0) p (answer (unruled_by w) bad 0 [])) (answer 1 bad 0 [])

-- ".. then 3 to 5, then the instruction's own"
unfoldable pub from_three : State → Arm → ℕ → ℕ → ℕ → ℕ → Plan State
from_three s a op x y z = cond (refusal_of a x y z == 0) (plan_of s a op x y z) (tell (say (refusal_of a x y z) s))

unfoldable pub step_plan : State → Shapes → ℕ → ℕ → ℕ → ℕ → Plan State
step_plan s w op x y z = guarded s s w (from_three s (arm_of op) op x y z)

-- THE step: reply, state and window after it
unfoldable pub step_of : Windows → State → ℕ → ℕ → ℕ → ℕ → Outcome State Windows
step_of w s op x y z = perform both (refusing (shapes_of w)) s (step_plan s (shapes_of w) op x y z) w

-- the octabytes that it needs
unfoldable pub step_needs : Windows → State → ℕ → ℕ → ℕ → ℕ → List ℕ
step_needs w s op x y z = needs both (refusing (shapes_of w)) (step_plan s (shapes_of w) op x y z) w

-- ---- one fetched instruction

-- "The byte ranges in `writes_general_register_x` name the opcodes whose $X is claimed before the arm"
unfoldable pub claims : ℕ → Bool
claims op =
    among 0x01 0x3F op || (among 0x60 0x99 op || (among 0x9E 0x9F op || (among 0xBE 0xEF op || (among 0xF2 0xF5 op || (op == 0xFA || op == 0xFE)))))

-- opcode, X, Y and Z of a tetra
abbrev pub opcode_in : ℕ → ℕ
opcode_in t = t / 2 ^ 24

abbrev pub x_in : ℕ → ℕ
x_in t = t / 2 ^ 16 % 256

abbrev pub y_in : ℕ → ℕ
y_in t = t / 2 ^ 8 % 256

abbrev pub z_in : ℕ → ℕ
z_in t = t % 256

-- the tetra at PC, of the octabyte v that PC names: "PC's low two bits are dropped for the fetch alone; @ is PC"
unfoldable pub tetra_at : State → ℕ → ℕ
tetra_at s v = operand_in tetra s.pc v

-- "An instruction refused by any number but 19 takes its claim back"
unfoldable pub keeps_claim : ℕ → Bool
keeps_claim r = r == 0 || r == 19

-- then the registers of the state t that reply r leaves are those of s
unfoldable pub settled_by : State → ℕ → State → State
settled_by s r t = cond (keeps_claim r) t (with_parts t s.general s.special)

unfoldable pub taken_back : State → Plan State → Plan State
taken_back s (answer r t a vs) = answer r (settled_by s r t) a vs
taken_back s (read q a n k) = read q a n (λ vs. taken_back s (k vs))

-- the state that the arm works on
unfoldable pub claimed_by : State → ℕ → ℕ → State
claimed_by s op x = cond (claims op) (claim_local s x) s

-- from 3 on, with $X claimed first where the opcode claims it
unfoldable pub instruction_plan : State → ℕ → ℕ → ℕ → ℕ → Plan State
instruction_plan s op x y z =
    cond (claims op) (taken_back s (from_three (claim_local s x) (arm_of op) op x y z)) (from_three s (arm_of op) op x y z)

unfoldable pub tetra_plan : State → ℕ → Plan State
tetra_plan s t = instruction_plan s (opcode_in t) (x_in t) (y_in t) (z_in t)

-- 24: "the tetra at PC is in no window, judged for each instruction after 22 and before 3"
unfoldable pub fetched_plan : State → Shapes → Plan State
fetched_plan s w = guarded s s w (read 24 s.pc 1 (λ v. tetra_plan s (tetra_at s (slice_index v 0))))

-- THE fetched instruction: reply, state and windows after it
unfoldable pub fetched_of : Windows → State → Outcome State Windows
fetched_of w s = perform both (refusing (shapes_of w)) s (fetched_plan s (shapes_of w)) w

-- the tetra at PC, and the state that its arm works on
abbrev pub tetra_of : Windows → State → ℕ
tetra_of w s = tetra_at s (look both w s.pc)

abbrev pub claimed_at : Windows → State → State
claimed_at w s = claimed_by s (opcode_in (tetra_of w s)) (x_in (tetra_of w s))

-- the octabytes that it needs: "Fetching counts as a need"
unfoldable pub fetched_needs : Windows → State → List ℕ
fetched_needs w s = needs both (refusing (shapes_of w)) (fetched_plan s (shapes_of w)) w

-- ---- one exception

-- THE exception: "a byte of flags, op, X, Y, Z and two operands come in; this entry judges 1, then 19"
unfoldable pub exception_of : State → ℕ → ℕ → ℕ → ℕ → ℕ → ℕ → ℕ → Said
exception_of s f op x y z u v = cond (admissible s) (raised s f (word_of op x y z) u v) (say 1 s)

-- ---- lists

-- "The list may hold steps with any opcode, X, Y and Z, and exceptions with any arguments"; and instructions fetched at PC
pub data Item : Type 0 where
  step : ℕ → ℕ → ℕ → ℕ → Item
  exception : ℕ → ℕ → ℕ → ℕ → ℕ → ℕ → ℕ → Item
  fetched : Item

unfoldable pub item_plan : State → Shapes → Item → Plan State
item_plan s w (step op x y z) = step_plan s w op x y z
item_plan s w (exception f op x y z u v) = tell (exception_of s f op x y z u v)
item_plan s w fetched = fetched_plan s w

unfoldable pub mmix : Machine State Item Shapes
mmix = record { judge = λ s w i. refusing w; plan = item_plan }
