-- What a fetched instruction comes to that the contracts cite by name, once 1, 2, 22 and 24 have passed.
use Rattle.std.specs.Prelude.{ℕ}
use Rattle.model.specs.Memory.{Windows}
use Rattle.model.specs.Plan.{Outcome}
use Rattle.model.specs.Registers.{claim_local}
use Rattle.model.specs.Step.{step_of, tetra_plan}
use Rattle.model.specs.Fetched.{settled}
use Rattle.model.specs.declared.State.{State}
use Rattle.arms.specs.Arms.{carried_out}

-- one that claims $x before its arm; "An instruction refused by any number but 19 takes its claim back"
abbrev pub claimed_of : Windows → State → ℕ → ℕ → ℕ → ℕ → Outcome State Windows
claimed_of w s op x y z = settled s (step_of w (claim_local s x) op x y z)

-- the one that a tetra says
abbrev pub said_by : Windows → State → ℕ → Outcome State Windows
said_by w s t = carried_out w s (tetra_plan s t)
