-- An opcode, decoded once: which arm of control.rs or system.rs it is.
use Rattle.std.specs.Prelude.{ℕ, ◌-◌, ◌/◌, ◌%◌, Bool, cond, ◌&&◌, List, [], ◌∷◌, ◌==◌, nat_le, slice_index_or}
use Rattle.model.specs.declared.Operation.{Operation}
use Rattle.model.specs.declared.Operation.TheVariants.{Mul, Mulu, Div, Divu, Add, Addu, Sub, Subu, Addu2, Addu4, Addu8, Addu16, Cmp, Cmpu, Neg, Negu, Sl, Slu, Sr, Sru}

pub data Condition : Type 0 where
  negative : Condition
  is_zero : Condition
  positive : Condition
  odd : Condition
  non_negative : Condition
  non_zero : Condition
  non_positive : Condition
  even : Condition

-- the direction of a relative address
pub data Direction : Type 0 where
  forward : Direction
  backward : Direction

-- the last operand: $Z, or Z itself
pub data Operand : Type 0 where
  register : Operand
  immediate : Operand

-- the size of an operand in memory
pub data Width : Type 0 where
  byte : Width
  wyde : Width
  tetra : Width
  octabyte : Width

pub data Sign : Type 0 where
  signed : Sign
  unsigned : Sign

-- ---- the arms, by families

-- branches, JMP, GETA, GO: ControlRows
pub data ControlArm : Type 0 where
  branch : Condition → Direction → ControlArm
  jump : Direction → ControlArm
  get_address : Direction → ControlArm
  go : Operand → ControlArm

-- PUSHJ, PUSHGO, POP, SAVE, UNSAVE: StackRows
pub data StackArm : Type 0 where
  push_jump : Direction → StackArm
  push_go : Operand → StackArm
  pop : StackArm
  save : StackArm
  unsave : StackArm

-- PUT, GET, SYNC, SWYM, TRIP, TRAP: SystemRows
pub data SystemArm : Type 0 where
  put : Operand → SystemArm
  get : SystemArm
  sync : SystemArm
  swym : SystemArm
  trip : SystemArm
  trap : SystemArm

-- loads and stores: MemoryRows
pub data MemoryArm : Type 0 where
  load : Width → Sign → Operand → MemoryArm
  store : Width → Sign → Operand → MemoryArm

pub data Arm : Type 0 where
  control : ControlArm → Arm
  stack : StackArm → Arm
  system : SystemArm → Arm
  memory : MemoryArm → Arm
  arithmetic : Operation → Operand → Operand → Arm
  none : Arm

-- ---- opcode bytes (mmixal.rs), each once

abbrev pub op_trap : ℕ
op_trap = 0x00

abbrev pub op_go : ℕ
op_go = 0x9E

abbrev pub op_goi : ℕ
op_goi = 0x9F

abbrev pub op_pushgo : ℕ
op_pushgo = 0xBE

abbrev pub op_pushgoi : ℕ
op_pushgoi = 0xBF

abbrev pub op_jmp : ℕ
op_jmp = 0xF0

abbrev pub op_jmpb : ℕ
op_jmpb = 0xF1

abbrev pub op_pushj : ℕ
op_pushj = 0xF2

abbrev pub op_pushjb : ℕ
op_pushjb = 0xF3

abbrev pub op_geta : ℕ
op_geta = 0xF4

abbrev pub op_getab : ℕ
op_getab = 0xF5

abbrev pub op_put : ℕ
op_put = 0xF6

abbrev pub op_puti : ℕ
op_puti = 0xF7

abbrev pub op_pop : ℕ
op_pop = 0xF8

abbrev pub op_save : ℕ
op_save = 0xFA

abbrev pub op_unsave : ℕ
op_unsave = 0xFB

abbrev pub op_sync : ℕ
op_sync = 0xFC

abbrev pub op_swym : ℕ
op_swym = 0xFD

abbrev pub op_get : ℕ
op_get = 0xFE

abbrev pub op_trip : ℕ
op_trip = 0xFF

-- MUL to SRU, each with $Z and then with Z; of NEG to NEGUI, Y is a constant
abbrev pub first_arithmetic : ℕ
first_arithmetic = 0x18

abbrev pub last_arithmetic : ℕ
last_arithmetic = 0x3F

abbrev pub first_negation : ℕ
first_negation = 0x34

abbrev pub last_negation : ℕ
last_negation = 0x37

-- the branches, plain and probable, each forward and then backward: from BN to PBEVB
abbrev pub first_branch : ℕ
first_branch = 0x40

abbrev pub last_branch : ℕ
last_branch = 0x5F

-- LDB, LDBU, LDW, LDWU, LDT, LDTU, LDO, LDOU, each with $Z and then with Z: from LDB to LDOUI; the stores from STB to STOUI in the same order
abbrev pub first_load : ℕ
first_load = 0x80

abbrev pub last_load : ℕ
last_load = 0x8F

abbrev pub first_store : ℕ
first_store = 0xA0

abbrev pub last_store : ℕ
last_store = 0xAF

-- BN, BZ, BP, BOD, BNN, BNZ, BNP, BEV
abbrev conditions : List Condition
conditions = negative ∷ is_zero ∷ positive ∷ odd ∷ non_negative ∷ non_zero ∷ non_positive ∷ even ∷ []

-- even opcodes go forward, odd ones backward
abbrev pub direction_of : ℕ → Direction
direction_of op = cond (op % 2 == 0) forward backward

-- even opcodes take $Z, odd ones Z
abbrev pub last_of : ℕ → Operand
last_of op = cond (op % 2 == 0) register immediate

abbrev widths : List Width
widths = byte ∷ wyde ∷ tetra ∷ octabyte ∷ []

-- size by bits 2 and 3 of the opcode, unsigned by bit 1
unfoldable pub width_of : ℕ → Width
width_of op = slice_index_or widths (op / 4 % 4) octabyte

unfoldable pub sign_of : ℕ → Sign
sign_of op = cond (op / 2 % 2 == 0) signed unsigned

pub record Entry : Type 0 where
  pub opcode : ℕ
  pub arm : Arm

abbrev is : ℕ → Arm → Entry
is o a = record { opcode = o; arm = a }

-- the other arms; RESUME (0xF9) has none here
abbrev arms : List Entry
arms = is op_trap (system trap)
    ∷ is op_go (control (go register)) ∷ is op_goi (control (go immediate))
    ∷ is op_pushgo (stack (push_go register)) ∷ is op_pushgoi (stack (push_go immediate))
    ∷ is op_jmp (control (jump forward)) ∷ is op_jmpb (control (jump backward))
    ∷ is op_pushj (stack (push_jump forward)) ∷ is op_pushjb (stack (push_jump backward))
    ∷ is op_geta (control (get_address forward)) ∷ is op_getab (control (get_address backward))
    ∷ is op_put (system (put register)) ∷ is op_puti (system (put immediate))
    ∷ is op_pop (stack pop)
    ∷ is op_save (stack save) ∷ is op_unsave (stack unsave)
    ∷ is op_sync (system sync) ∷ is op_swym (system swym) ∷ is op_get (system get) ∷ is op_trip (system trip) ∷ []

abbrev find : ℕ → List Entry → Arm
find op [] = none
find op (e ∷ es) = cond (op == e.opcode) e.arm (find op es)

-- the condition of a branch, plain or probable
unfoldable pub condition_of : ℕ → Condition
condition_of op = slice_index_or conditions (op / 2 % 8) even

-- op is one of a to b
abbrev pub among : ℕ → ℕ → ℕ → Bool
among a b op = nat_le a op && nat_le op b

abbrev pub operations : List Operation
operations = Mul ∷ Mulu ∷ Div ∷ Divu ∷ Add ∷ Addu ∷ Sub ∷ Subu ∷ Addu2 ∷ Addu4 ∷ Addu8 ∷ Addu16 ∷ Cmp ∷ Cmpu ∷ Neg ∷ Negu ∷ Sl ∷ Slu ∷ Sr ∷ Sru ∷ []

unfoldable pub operation_of : ℕ → Operation
operation_of op = slice_index_or operations ((op - first_arithmetic) / 2) Mul

-- the first operand: $Y, or Y itself
unfoldable pub first_of : ℕ → Operand
first_of op = cond (among first_negation last_negation op) immediate register

-- 0x40 to 0x4F are the branches, each forward and then backward; "P-branches act as their plain kin": 0x50 to 0x5F in the same order
unfoldable pub arm_of : ℕ → Arm
arm_of op =
    cond (among first_branch last_branch op) (control (branch (condition_of op) (direction_of op)))
    (cond (among first_load last_load op) (memory (load (width_of op) (sign_of op) (last_of op)))
    (cond (among first_store last_store op) (memory (store (width_of op) (sign_of op) (last_of op)))
    (cond (among first_arithmetic last_arithmetic op) (arithmetic (operation_of op) (first_of op) (last_of op))
    (find op arms))))
