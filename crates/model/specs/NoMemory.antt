-- Steps that touch no memory: a reply and a state.
use Rattle.std.specs.Prelude.{ℕ, []}
use Rattle.model.specs.Plan.{Plan, answer}
use Rattle.model.specs.Registers.{halted}
use Rattle.model.specs.declared.State.{State}

pub record Said : Type 0 where
  pub reply : ℕ
  pub state : State

abbrev pub say : ℕ → State → Said
say r s = record { reply = r; state = s }

-- 7 to 18, 29 and 31: "halt code 1 only"
abbrev pub refuse : ℕ → State → Said
refuse r s = say r (halted s)

-- as a plan: no octabyte is read, none is stored
unfoldable pub tell : Said → Plan State
tell d = answer d.reply d.state 0 []
