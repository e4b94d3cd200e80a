-- A property of the replies alone, of every answer that an arm may give: 0, 3 to 5, 7 to 18, 29, 31, 19, and 20 of TRAP.
use Rattle.model.proofs.Logic.{ℕ, ◌≤◌, ◌≢◌, refl, ◌≡◌, arith, eqb, eqb-false}
use Rattle.model.specs.Opcodes.{Arm, trap, system}
use Rattle.model.specs.Row.{Refusal, begins, no_arm, named_trap, no_special, refusal_number, Row, quiet, touching, refusal_in}
use Rattle.model.specs.Rows.{row_of}
use Rattle.model.specs.NoMemory.{tell}
use Rattle.model.specs.Step.{refusal_of, plan_of, from_three}
use Rattle.model.specs.Numbers.{Halting}
use Rattle.model.specs.declared.State.{State}
use Rattle.model.proofs.Bools.{on}
use Rattle.model.proofs.ArmAnswers.{Answers, MeetsTrip, MeetsRaise}
use Rattle.model.proofs.StepAnswers.{refusal_most}
use Rattle.model.proofs.ArmLaws.{plan_meets}

number_least : (r : Refusal) → refusal_number r ≢ 0 → 3 ≤ refusal_number r
number_least begins n = absurd (n refl)
number_least no_arm n = omega arith
number_least named_trap n = omega arith
number_least no_special n = omega arith

pub refusal_least : (a : Arm) (x y z : ℕ) → refusal_of a x y z ≢ 0 → 3 ≤ refusal_of a x y z
unfolding refusal_of
refusal_least a x y z = least (row_of a)
  where
    least : (r : Row) → refusal_in r x y z ≢ 0 → 3 ≤ refusal_in r x y z
    least (quiet q) n = number_least (q.refusal x y z) n
    least (touching t) n = absurd (n refl)

pub plan_replies : (Q : ℕ → Type 0) → Q 0 → Q 3 → ((n : ℕ) → Halting n → Q n) → Q 19
    → (s : State) (a : Arm) (op x y z : ℕ) → (a ≡ system trap → Q 20) → Answers (λ vs. Unit {0}) (λ r t vs. Q r) (plan_of s a op x y z)
plan_replies Q done three halts nineteen s a op x y z twenty =
    plan_meets s (λ n. Unit {0}) (λ vs. Unit {0}) (λ r t vs. Q r) (record {
      word = λ n b. tt;
      general_is = λ i. tt;
      special_is = λ k. tt;
      refuses = three;
      halts = halts;
      moves = λ a w. done;
      writes = λ x v a w u. done;
      locals = λ v a w u. done;
      globals = λ v a b c d w. done;
      status = λ v a b w. done;
      other = λ k v a b c d w u. done;
      pushes = λ h t w. done;
      pops = λ x t h ls w r. done;
      saves = λ x t b w. done;
      unsaves = λ o g a l vs t u w b c d f r. done;
      stores = λ v a w. done;
      computes = λ f x u v a wu wv w. done;
    }) a op x y z tt tt (record { trips = λ m. trips; traps = twenty; stores = λ d o m v. raises; computes = λ f p q m. raises })
  where
    trips : {t : State} {n u v : ℕ} → MeetsTrip t (λ n. Unit {0}) (λ r t. Q r) n u v
    trips = record { trips = λ a w. done; trips_not = nineteen }

    raises : {t : State} {f n u v : ℕ} → MeetsRaise t (λ n. Unit {0}) (λ r t. Q r) f n u v
    raises = record { adds = λ a w. done; takes = trips }

-- from 3 on
pub three_replies : (Q : ℕ → Type 0) → Q 0 → ((n : ℕ) → 3 ≤ n → n ≤ 5 → Q n) → ((n : ℕ) → Halting n → Q n) → Q 19
    → (s : State) (a : Arm) (op x y z : ℕ) → (a ≡ system trap → Q 20) → Answers (λ vs. Unit {0}) (λ r t vs. Q r) (from_three s a op x y z)
unfolding from_three
three_replies Q done three halts nineteen s a op x y z twenty =
    on (Answers (λ vs. Unit {0}) (λ r t vs. Q r)) (eqb (refusal_of a x y z) 0)
    (λ e. plan_replies Q done (three 3 (omega arith) (omega arith)) halts nineteen s a op x y z twenty)
    (λ e. unfold tell Answers in (three _ (refusal_least a x y z (eqb-false _ _ e)) (refusal_most a x y z)))
