-- The laws of ArithmeticRows.
use Rattle.model.proofs.Logic.{ℕ, refl}
use Rattle.model.specs.Plan.{All, map_plan}
use Rattle.model.specs.Opcodes.{Operand, arithmetic}
use Rattle.model.specs.NoMemory.{tell}
use Rattle.model.specs.Control.{operand_of}
use Rattle.model.specs.Trips.{word_of}
use Rattle.model.specs.ArithmeticStep.{operands_of, results_in, with_results, arithmetic_says}
use Rattle.model.specs.Row.{operand_read}
use Rattle.model.specs.ArithmeticRows.{given_by, arithmetic_row}
use Rattle.model.specs.Step.{refusal_of, plan_of, from_three}
use Rattle.model.specs.StepRule.{rule_of, spilled_by}
use Rattle.model.specs.Departures.{ReadsZero, ReadsAlike}
use Rattle.model.specs.OneRaised.{OneFlag}
use Rattle.model.specs.declared.State.{State}
use Rattle.model.specs.declared.Operation.{Operation}
use Rattle.model.proofs.ArithmeticWords.{flags_one}
use Rattle.model.proofs.ArmAnswers.{operand_is, arithmetic_meets}
use Rattle.model.proofs.SeenArms.{arithmetic_seen, operand_same}
use Rattle.model.proofs.Plan.{All_left, All_right}
use Rattle.model.proofs.ArmRules.{by_plans, operand_read_law, arithmetic_says_law}
use Rattle.model.proofs.RowLaws.{Laws}

arithmetic_one : (s : State) (f : Operation) (u v : ℕ) → OneFlag (results_in s f u v).flags
arithmetic_one s f u v = flags_one f (operands_of s u v)

pub arithmetic_laws : (f : Operation) (p q : Operand) → Laws (arithmetic f p q) (arithmetic_row f p q)
unfolding rule_of plan_of refusal_of from_three map_plan spilled_by tell ReadsAlike All
arithmetic_laws f p q = record {
  meets = λ s W Read R m op x y z wy wz mi. arithmetic_meets s W Read R m f x (operand_of s p y) (operand_of s q z) (word_of op x y z)
      (operand_is s W Read R m p y wy) (operand_is s W Read R m q z wz) (mi.computes f p q refl);
  seen = λ m s t op x y z h. arithmetic_seen m s t f x _ _ _ _ (word_of op x y z) (operand_same m s t p y h) (operand_same m s t q z h) h;
  same = λ w s op x y z h. by_plans w s (arithmetic f p q) op x y z
      (rw (
        ← operand_read_law s p y (All_left (ReadsZero s) (operand_read p y) (operand_read q z) h.reads),
        ← operand_read_law s q z (All_right (ReadsZero s) (operand_read p y) (operand_read q z) h.reads),
        arithmetic_says_law s f x (operand_of s p y) (operand_of s q z) (word_of op x y z) (h.arithmetic_loaded f p q refl),
      ));
  flags = record {
    one = λ s x y z. arithmetic_one s f (operand_of s p y) (operand_of s q z);
    alike = λ e h k s op x y z. rw (k (with_results s x (given_by f p q s y z)) (given_by f p q s y z).flags (word_of op x y z)
        (operand_of s p y) (operand_of s q z) (arithmetic_one s f (operand_of s p y) (operand_of s q z)));
    by_raised = λ s op x y z. unfold arithmetic_says in refl;
  };
}
