-- Whole-number arithmetic: one family for all operations. Arithmetic has what each operation leaves.
use Rattle.std.specs.Prelude.{ℕ, ◌++◌}
use Rattle.model.specs.Plan.{Plan}
use Rattle.model.specs.Opcodes.{Operand}
use Rattle.model.specs.NoMemory.{tell}
use Rattle.model.specs.Control.{operand_of}
use Rattle.model.specs.Trips.{word_of}
use Rattle.model.specs.ArithmeticStep.{results_in, with_results, arithmetic_says}
use Rattle.model.specs.Rules.{operand_rule, done, arithmetic_rule}
use Rattle.model.specs.Row.{Of, Row, quiet, Raise, raises, begun, raised_if, operand_read}
use Rattle.model.specs.declared.State.{State}
use Rattle.model.specs.declared.Operation.{Operation}
use Rattle.model.specs.declared.Results.{Results}

-- what an operation gives
abbrev pub given_by : Operation → Operand → Operand → State → ℕ → ℕ → Results
given_by f p q s y z = results_in s f (operand_of s p y) (operand_of s q z)

-- the same over an exception step
abbrev pub arithmetic_by : Operation → Operand → Operand → Raise → Of (Plan State)
arithmetic_by f p q e s op x y z =
    tell (raised_if e (with_results s x (given_by f p q s y z)) (given_by f p q s y z).flags (word_of op x y z) (operand_of s p y) (operand_of s q z))

abbrev pub arithmetic_row : Operation → Operand → Operand → Row
arithmetic_row f p q = quiet (record {
  refusal = begun;
  says = λ s op x y z. arithmetic_says s f x (operand_of s p y) (operand_of s q z) (word_of op x y z);
  rule = λ s op x y z. done (arithmetic_rule s f x (operand_rule s p y) (operand_rule s q z) (word_of op x y z));
  reads = λ s x y z. operand_read p y ++ operand_read q z;
  flags = raises (λ s x y z. (given_by f p q s y z).flags) (arithmetic_by f p q);
})
