-- What the contracts of a line's functions cite: how a line leaves the machine and the buffer.
use Rattle.std.specs.Prelude.{ℕ, ◌≡◌, Bool, false, true, List}
use Rattle.std.specs.declared.ops.ControlFlow.{ControlFlow}
use Rattle.std.specs.declared.ops.ControlFlow.TheVariants.{Continue, Break}
use Rattle.model.specs.Memory.{Windows}
use Rattle.model.specs.declared.State.{State}
use Rattle.text.specs.Writing.{Wrote}
use Rattle.script.specs.Script.{Turn}

-- where the text of a turn ends, and whether the script goes on
abbrev pub end_of : ControlFlow ℕ ℕ → ℕ
end_of (Continue end) = end
end_of (Break end) = end

abbrev pub goes_on : ControlFlow ℕ ℕ → Bool
goes_on (Continue end) = true
goes_on (Break end) = false

-- a turn's text stands in the buffer, and the rest of it is what is handed on
pub record TurnWritten (t : Turn) (b : List ℕ) (at : ℕ) (c : List ℕ) (r : ControlFlow ℕ ℕ) (s : State) (w : Windows) : Type 0 where
  pub text_is : Wrote b at t.text c (end_of r)
  pub goes_on_is : goes_on r ≡ t.goes_on
  pub state_is : s ≡ t.state
  pub windows_are : w ≡ t.windows
