-- What a step and an exception answer, from what their arm's plan does: what 1 to 5 refuse, and what a plan comes to when it is performed. The arms: ArmAnswers.
use Rattle.model.proofs.Logic.{max, suc, zero, ℕ, ◌+◌, ◌<◌, ◌^◌, ◌≤◌, Bool, cond, false, true, List, [], inl, inr, ◌≢◌, ◌⊎◌, ⊎_elim, ap, refl, ◌∙◌}
use Rattle.model.proofs.Logic.{◌≡◌, arith, eqb, length, eqb-false, eqb-true}
use Rattle.model.specs.Registers.{admissible}
use Rattle.model.specs.Memory.{Windows, Shapes, shapes_of, ruled, shares, inside, both}
use Rattle.model.specs.Plan.{Plan, answer, read, Outcome, perform, worst, clear, looks, puts, named}
use Rattle.model.specs.Opcodes.{Arm, arm_of}
use Rattle.model.specs.Row.{Refusal, begins, no_arm, named_trap, no_special, refusal_number, Row, quiet, touching, refusal_in}
use Rattle.model.specs.Rows.{row_of}
use Rattle.model.specs.NoMemory.{say, Said, tell}
use Rattle.model.specs.Trips.{word_of}
use Rattle.model.specs.Step.{refusal_of, unruled_by, judged, refusing, plan_of, guarded, from_three, step_plan, exception_of}
use Rattle.model.specs.Numbers.{Early, Lost}
use Rattle.model.specs.declared.State.{State}
use Rattle.model.proofs.Bools.{on}
use Rattle.model.proofs.ArmAnswers.{Answers, MeetsRaise, Tells, raised_meets}

-- ---- 3 to 5

number_most : (r : Refusal) → refusal_number r ≤ 5
number_most begins = omega arith
number_most no_arm = omega arith
number_most named_trap = omega arith
number_most no_special = omega arith

pub refusal_most : (a : Arm) (x y z : ℕ) → refusal_of a x y z ≤ 5
unfolding refusal_of
refusal_most a x y z = most (row_of a)
  where
    most : (r : Row) → refusal_in r x y z ≤ 5
    most (quiet q) = number_most (q.refusal x y z)
    most (touching t) = omega arith

-- 0, or one of 1 to 5 and 22
Judged : ℕ → Type 0
Judged n = (n ≡ 0) ⊎ Early n

up_to_five : (n : ℕ) → n ≤ 5 → Judged n
unfolding Judged
up_to_five n l = go (eqb n 0) refl
  where
    go : (b : Bool) → eqb n 0 ≡ b → (n ≡ 0) ⊎ Early n
    go true e = inl (eqb-true _ _ e)
    go false e = let f : n ≢ 0 = eqb-false _ _ e in inr (inl (omega arith, l))

unruled_judged : (w : Shapes) → Judged (unruled_by w)
unfolding Judged unruled_by
unruled_judged w =
    on (λ (n : ℕ). (n ≡ 0) ⊎ Early n) (ruled w)
    (λ e. on (λ (n : ℕ). (n ≡ 0) ⊎ Early n) (shares w) (λ f. inr (inr refl)) (λ f. inl refl))
    (λ e. inr (inl (omega arith, omega arith)))

pub judged_early : (s : State) (w : Shapes) (a : Arm) (x y z : ℕ) → eqb (judged s w a x y z) 0 ≡ false → Early (judged s w a x y z)
judged_early s w a x y z e = pick (judged s w a x y z) (eqb-false _ _ e) all
  where
    all : Judged (judged s w a x y z)
    all = unfold judged in
        (on Judged (admissible s) (λ e. on Judged (eqb (unruled_by w) 0) (λ f. up_to_five _ (refusal_most a x y z)) (λ f. unruled_judged w)) (λ e. up_to_five 1 (omega arith)))

    pick : (n : ℕ) → n ≢ 0 → Judged n → Early n
    pick n f h = ⊎_elim (λ z. absurd (f z)) (λ g. g) (unfold Judged in h)

-- the step by the number that judging gives
pub step_judged : (s : State) (w : Shapes) (op x y z : ℕ)
    → step_plan s w op x y z ≡ cond (eqb (judged s w (arm_of op) x y z) 0) (plan_of s (arm_of op) op x y z) (tell (say (judged s w (arm_of op) x y z) s))
unfolding step_plan guarded from_three judged tell
step_judged s w op x y z = go (admissible s) (eqb (unruled_by w) 0) refl
  where
    n : ℕ
    n = unruled_by w

    r : ℕ
    r = refusal_of (arm_of op) x y z

    p : Plan State
    p = plan_of s (arm_of op) op x y z

    go : (b c : Bool) → eqb n 0 ≡ c
        → cond b (cond c (cond (eqb r 0) p (answer r s 0 [])) (answer n s 0 [])) (answer 1 s 0 [])
        ≡ cond (eqb (cond b (cond c r n) 1) 0) p (answer (cond b (cond c r n) 1) s 0 [])
    go false c e = refl
    go true true e = refl
    go true false e = rw e

-- 1 to 5 and 22 in order, then the arm; the arm is met only where the state was admissible
pub step_meets : (s : State) (w : Shapes) (Read : List ℕ → Type 0) (R : ℕ → State → List ℕ → Type 0) → ((n : ℕ) → Early n → R n s [])
    → (op x y z : ℕ) → (admissible s ≡ true → Answers Read R (plan_of s (arm_of op) op x y z)) → Answers Read R (step_plan s w op x y z)
unfolding tell Answers
step_meets s w Read R refuses op x y z met =
    rw (step_judged s w op x y z) (on (Answers Read R) (eqb (judged s w (arm_of op) x y z) 0) (λ e. met (passed (eqb-true _ _ e)))
    (λ e. refuses _ (judged_early s w (arm_of op) x y z e)))
  where
    passed : judged s w (arm_of op) x y z ≡ 0 → admissible s ≡ true
    passed = unfold judged in (go (admissible s))
      where
        go : (b : Bool) → cond b (cond (eqb (unruled_by w) 0) (refusal_of (arm_of op) x y z) (unruled_by w)) 1 ≡ 0 → b ≡ true
        go true e = refl
        go false e = absurd (omega arith)

-- an exception: 1, or what is raised
pub exception_meets : (s : State) (W : ℕ → Type 0) (R : ℕ → State → Type 0) (f op x y z u v : ℕ) → ((n : ℕ) → n < 2 ^ 64 → W n) → R 1 s
    → (admissible s ≡ true → MeetsRaise s W R f (word_of op x y z) u v) → Tells R (exception_of s f op x y z u v)
unfolding exception_of
exception_meets s W R f op x y z u v word refused met =
    on {A = Said} (Tells R) (admissible s) (λ e. raised_meets s W R word f (word_of op x y z) u v (met e)) (λ e. refused)

-- ---- what a plan comes to

six_head : (w : Shapes) (a : ℕ) → (refusing w a ≡ 0) ⊎ Lost (refusing w a)
unfolding refusing
six_head w a = on (λ (n : ℕ). (n ≡ 0) ⊎ Lost n) (inside w a) (λ e. inl refl) (λ e. inr refl)

six_both : (p q : ℕ) → (p ≡ 0) ⊎ Lost p → (q ≡ 0) ⊎ Lost q → (max p q ≡ 0) ⊎ Lost (max p q)
six_both p q (inl f) (inl g) = inl (omega arith)
six_both p q (inl f) (inr g) = inr (omega arith)
six_both p q (inr f) (inl g) = inr (omega arith)
six_both p q (inr f) (inr g) = inr (omega arith)

six_run : (w : Shapes) (n a : ℕ) → (worst (refusing w) a n ≡ 0) ⊎ Lost (worst (refusing w) a n)
unfolding worst
six_run w zero a = inl refl
six_run w (suc n) a = six_both (refusing w a) (worst (refusing w) (a + 8) n) (six_head w a) (six_run w n (a + 8))

-- a run that does not pass is refused by 6
pub worst_six : (w : Shapes) (n a : ℕ) → eqb (worst (refusing w) a n) 0 ≡ false → Lost (worst (refusing w) a n)
worst_six w n a e = pick (worst (refusing w) a n) (eqb-false _ _ e) (six_run w n a)
  where
    pick : (r : ℕ) → (r ≡ 0 → ⊥) → (r ≡ 0) ⊎ Lost r → Lost r
    pick r f (inl g) = absurd (f g)
    pick r f (inr g) = g

-- an outcome is 6 with nothing changed, or an answer that was met
module _ {S : Type 0} (w : Windows) (s : S) (Read : List ℕ → Type 0) (R : ℕ → S → List ℕ → Type 0) (Q : Outcome S Windows → Type 0)
    (six : Q (record { reply = 6; state = s; memory = w })) (met : (r : ℕ) (t : S) (a : ℕ) (vs : List ℕ) → R r t vs → Q (record { reply = r; state = t; memory = puts both w a vs }))
    (reads : (a n : ℕ) → Read (looks both w a n)) where
  missed : (r : ℕ) → Lost r → Q (record { reply = r; state = s; memory = w })
  missed r e = rw e six

  pub perform_meets : (p : Plan S) → Answers Read R p → Q (perform both (refusing (shapes_of w)) s p w)
  unfolding perform Answers
  perform_meets (answer r t a vs) h =
      on Q (clear (refusing (shapes_of w)) a (length vs)) (λ e. met r t a vs h) (λ e. missed (worst (refusing (shapes_of w)) a (length vs)) (worst_six (shapes_of w) (length vs) a e))
  perform_meets (read q a n k) h =
      on Q (clear (refusing (shapes_of w)) a n) (λ e. perform_meets (k (looks both w a n)) (h.1 (looks both w a n) (reads a n)))
      (λ e. missed (named q (worst (refusing (shapes_of w)) a n)) (ap (λ (c : ℕ). named q c) (worst_six (shapes_of w) n a e) ∙ (unfold named in h.0)))
