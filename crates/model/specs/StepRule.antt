-- Knuth's whole step, `step_rule`, from the rule of each arm, under 01's order of judging. Departures says where step and rule are equal.
use Rattle.std.specs.Prelude.{ℕ, cond}
use Rattle.model.specs.Registers.{spilled}
use Rattle.model.specs.Memory.{Windows, shapes_of, both}
use Rattle.model.specs.Plan.{Plan, Outcome, map_plan, perform}
use Rattle.model.specs.Opcodes.{Arm, arm_of}
use Rattle.model.specs.Rules.{After, goes_on, interrupts}
use Rattle.model.specs.Row.{rule_in, spills_in}
use Rattle.model.specs.Rows.{row_of}
use Rattle.model.specs.Step.{refusing, guarded}
use Rattle.model.specs.declared.State.{State}

-- the rule of an arm
unfoldable pub rule_of : State → Arm → ℕ → ℕ → ℕ → ℕ → Plan After
rule_of s a op x y z = rule_in (row_of a) s op x y z

-- KNUTH'S step
unfoldable pub step_rule : Windows → State → ℕ → ℕ → ℕ → ℕ → Outcome After Windows
step_rule w s op x y z = perform both (refusing (shapes_of w)) (goes_on s) (guarded (goes_on s) s (shapes_of w) (rule_of s (arm_of op) op x y z)) w

-- the same with rS moved with rO by PUSH and POP
abbrev pub spilled_after : After → After
spilled_after (goes_on t) = goes_on (spilled t)
spilled_after interrupts = interrupts

unfoldable pub spilled_by : Arm → After → After
spilled_by a t = cond (spills_in (row_of a)) (spilled_after t) t

unfoldable pub settled_rule : Windows → State → ℕ → ℕ → ℕ → ℕ → Outcome After Windows
settled_rule w s op x y z =
    perform both (refusing (shapes_of w)) (goes_on s) (guarded (goes_on s) s (shapes_of w) (map_plan (spilled_by (arm_of op)) (rule_of s (arm_of op) op x y z))) w
