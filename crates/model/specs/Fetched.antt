-- Theorem. A fetched instruction by the step: once 1, 2, 22 and 24 have passed it is the step that the tetra at PC says, on the claimed state, and a
-- refusal by any number but 19 takes the claim back.
use Rattle.std.specs.Prelude.{◌≡◌, ℕ, true, false}
use Rattle.model.specs.Memory.{Windows, shapes_of, inside}
use Rattle.model.specs.Plan.{Outcome}
use Rattle.model.specs.Registers.{Sized, claim_local}
use Rattle.model.specs.Step.{step_of, claims, opcode_in, x_in, y_in, z_in, settled_by, fetched_of, tetra_of, claimed_at}
use Rattle.model.specs.Order.{Passes}
use Rattle.model.specs.declared.State.{State}

-- the step that a tetra says, on a state
abbrev pub step_said : Windows → ℕ → State → Outcome State Windows
step_said w t s = step_of w s (opcode_in t) (x_in t) (y_in t) (z_in t)

-- 1, 2, 22 and 24 pass
pub record Fetches (w : Windows) (s : State) : Type 0 where
  pub passes : Passes w s
  pub there : inside (shapes_of w) s.pc ≡ true

-- an outcome with its claim taken back where it was refused
abbrev pub settled : State → Outcome State Windows → Outcome State Windows
settled s o = record { reply = o.reply; state = settled_by s o.reply o.state; memory = o.memory }

pub record FetchedIsStep : Type 0 where
  -- done: the step on the claimed state
  pub by_step : (w : Windows) (s : State) → Sized s → (fetched_of w s).reply ≡ 0 → fetched_of w s ≡ step_said w (tetra_of w s) (claimed_at w s)
  -- whatever its reply
  pub claiming : (w : Windows) (s : State) → Sized s → Fetches w s → claims (opcode_in (tetra_of w s)) ≡ true
      → fetched_of w s ≡ settled s (step_said w (tetra_of w s) (claim_local s (x_in (tetra_of w s))))
  pub unclaiming : (w : Windows) (s : State) → Fetches w s → claims (opcode_in (tetra_of w s)) ≡ false → fetched_of w s ≡ step_said w (tetra_of w s) s
