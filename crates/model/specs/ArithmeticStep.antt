-- Change 3: an operation's place in a step.
use Rattle.std.specs.Prelude.{ℕ, cond, ◌==◌}
use Rattle.model.specs.Registers.{r_d, r_h, r_r, sp, next, with_special, set_register}
use Rattle.model.specs.NoMemory.{Said, say}
use Rattle.model.specs.Trips.{raised}
use Rattle.model.specs.Arithmetic.{results_of}
use Rattle.model.specs.declared.State.{State}
use Rattle.model.specs.declared.Operation.{Operation}
use Rattle.model.specs.declared.Operands.{Operands}
use Rattle.model.specs.declared.Results.{Results}

-- what an operation takes: the operands u and v, read before the claim, and rD, rH, rR
abbrev pub operands_of : State → ℕ → ℕ → Operands
operands_of s u v = record { y = u; z = v; rd = sp s r_d; rh = sp s r_h; rr = sp s r_r }

abbrev pub results_in : State → Operation → ℕ → ℕ → Results
results_in s f u v = results_of f (operands_of s u v)

-- $X is written first (which claims), and rH and rR
unfoldable pub with_results : State → ℕ → Results → State
with_results s x r = with_special (with_special (set_register s x r.x) r_h r.rh) r_r r.rr

-- then D or V is raised through the exception step with the operand values from before
unfoldable pub arithmetic_says : State → Operation → ℕ → ℕ → ℕ → ℕ → Said
arithmetic_says s f x u v word =
    cond ((results_in s f u v).flags == 0) (say 0 (next (with_results s x (results_in s f u v))))
    (raised (with_results s x (results_in s f u v)) (results_in s f u v).flags word u v)
