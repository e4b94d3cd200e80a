-- What an arm is: a row. Of one that touches no memory, what it says; of one that does, its plan and what it needs; of each, what refuses it before it
-- is begun, Knuth's rule, the registers that it reads, the flags that it raises. Rows has the row of each arm, the families' files the rows.
use Rattle.std.specs.Prelude.{ℕ, Bool, false, cond, List, [], ◌∷◌, ◌==◌}
use Rattle.model.specs.Memory.{Windows}
use Rattle.model.specs.Plan.{Plan}
use Rattle.model.specs.Registers.{next}
use Rattle.model.specs.Opcodes.{Operand, register, immediate}
use Rattle.model.specs.NoMemory.{Said, say, tell}
use Rattle.model.specs.Rules.{After}
use Rattle.model.specs.declared.State.{State}

-- whether an instruction is begun, or what refuses it before
pub data Refusal : Type 0 where
  begins : Refusal
  no_arm : Refusal
  named_trap : Refusal
  no_special : Refusal

abbrev pub refusal_number : Refusal → ℕ
refusal_number begins = 0
refusal_number no_arm = 3
refusal_number named_trap = 4
refusal_number no_special = 5

-- an exception step: state, flags, word, two operands
abbrev pub Raise : Type 0
Raise = State → ℕ → ℕ → ℕ → ℕ → Said

-- the flags that an arm raises, from state, X, Y, Z; and its plan over any exception step in the place of `raised`
pub data Raises : Type 0 where
  never : Raises
  raises : (State → ℕ → ℕ → ℕ → ℕ) → (Raise → State → ℕ → ℕ → ℕ → ℕ → Plan State) → Raises

-- state, opcode, X, Y, Z
abbrev pub Of : Type 0 → Type 0
Of T = State → ℕ → ℕ → ℕ → ℕ → T

-- an arm that touches no memory
pub record Quiet : Type 0 where
  pub refusal : ℕ → ℕ → ℕ → Refusal
  pub says : Of Said
  pub rule : Of (Plan After)
  -- the registers that it reads and that may be marginal, from state, X, Y, Z
  pub reads : State → ℕ → ℕ → ℕ → List ℕ
  pub flags : Raises

-- an arm that does; none of 3 to 5 refuses it
pub record Touching : Type 0 where
  pub plan : Of (Plan State)
  pub rule : Of (Plan After)
  pub reads : State → ℕ → ℕ → ℕ → List ℕ
  pub flags : Raises
  pub needs : Windows → State → ℕ → ℕ → ℕ → List ℕ
  -- rS moves with rO
  pub spills : Bool

pub data Row : Type 0 where
  quiet : Quiet → Row
  touching : Touching → Row

-- ---- what a row says

abbrev pub refusal_in : Row → ℕ → ℕ → ℕ → ℕ
refusal_in (quiet q) x y z = refusal_number (q.refusal x y z)
refusal_in (touching t) x y z = 0

abbrev pub plan_in : Row → Of (Plan State)
plan_in (quiet q) s op x y z = tell (q.says s op x y z)
plan_in (touching t) s op x y z = t.plan s op x y z

abbrev pub rule_in : Row → Of (Plan After)
rule_in (quiet q) = q.rule
rule_in (touching t) = t.rule

abbrev pub reads_in : Row → State → ℕ → ℕ → ℕ → List ℕ
reads_in (quiet q) = q.reads
reads_in (touching t) = t.reads

abbrev pub needs_in : Row → Windows → State → ℕ → ℕ → ℕ → List ℕ
needs_in (quiet q) w s x y z = []
needs_in (touching t) w s x y z = t.needs w s x y z

abbrev pub flags_in : Row → Raises
flags_in (quiet q) = q.flags
flags_in (touching t) = t.flags

abbrev pub spills_in : Row → Bool
spills_in (quiet q) = false
spills_in (touching t) = t.spills

-- ---- words that rows share

-- registers read: $Z, or none; $Y and $Z, or $Y
abbrev pub operand_read : Operand → ℕ → List ℕ
operand_read register z = z ∷ []
operand_read immediate z = []

abbrev pub sum_read : Operand → ℕ → ℕ → List ℕ
sum_read o y z = y ∷ operand_read o z

-- an exception step e of some flags; where there is none, the next instruction
abbrev pub raised_if : Raise → State → ℕ → ℕ → ℕ → ℕ → Said
raised_if e s f word u v = cond (f == 0) (say 0 (next s)) (e s f word u v)

-- not refused before it is begun
abbrev pub begun : ℕ → ℕ → ℕ → Refusal
begun x y z = begins

-- an arm that touches no memory and raises no flag: one that may be refused before it is begun, and one that is not
pub record Plain : Type 0 where
  pub says : Of Said
  pub rule : Of (Plan After)
  pub reads : State → ℕ → ℕ → ℕ → List ℕ

abbrev pub refusable : (ℕ → ℕ → ℕ → Refusal) → Plain → Row
refusable r p = quiet (record { refusal = r; says = p.says; rule = p.rule; reads = p.reads; flags = never })

abbrev pub plain : Plain → Row
plain p = refusable begun p
