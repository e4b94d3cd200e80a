-- GET and TRAP, which judge 5 and 4: the step, from what the arm's code gives. The other arms: ArmSteps.
use Rattle.model.proofs.Prelude.{ℕ, true, ◌&&◌, ◌≡◌, arith, eqb, ltb, shapes_of, Windows, Said, arm_of, get, system, trap, admissible, reg, is_named, plan_of}
use Rattle.model.proofs.Prelude.{refusal_of, step_of, unruled_by, get_special, trap_of, word_of, on, step_refused, step_told}
use Rattle.arms.proofs.Prelude.{Reply, State, Told}
use Rattle.exceptions.specs.Interrupts.{trap_step}
use Rattle.arms.specs.NoMemoryArms.{get_of}
use Rattle.arms.specs.Replied.{Replied}
use Rattle.arms.specs.Arms.{telling}
use Rattle.arms.proofs.ArmSteps.{tells}

module _ (w : Windows) (s : State) (a : admissible s ≡ true) (v : unruled_by (shapes_of w) ≡ 0) (op x y z : ℕ) where
  get_told : arm_of op ≡ system get → step_of w s op x y z ≡ telling w (get_of s x z)
  unfolding get_of plan_of refusal_of
  get_told k =
      on (λ (d : Said). step_of w s op x y z ≡ telling w d) (ltb 31 z)
      (λ e. step_refused w s a v op x y z 5 (rw (k, e)) (omega arith))
      (λ e. step_told w s a v op x y z (get_special s x z) (rw (k, e)) (rw k))

  trap_told : arm_of op ≡ system trap → step_of w s op x y z ≡ telling w (trap_step s op x y z)
  unfolding trap_step plan_of refusal_of
  trap_told k =
      on (λ (d : Said). step_of w s op x y z ≡ telling w d) (eqb x 0 && is_named y)
      (λ e. step_refused w s a v op x y z 4 (rw (k, e)) (omega arith))
      (λ e. step_told w s a v op x y z (trap_of s (word_of op x y z) (reg s y) (reg s z)) (rw (k, e)) (rw k))

module _ (w : Windows) (s : State) (a : admissible s ≡ true) (v : unruled_by (shapes_of w) ≡ 0) (op x y z : ℕ) (r : Reply) (t : State) where
  pub get_step : arm_of op ≡ system get → Told (get_of s x z) r t → Replied (step_of w s op x y z) r t w
  get_step k h = rw (get_told w s a v op x y z k) (tells w (get_of s x z) r t h)

  pub trap_step' : arm_of op ≡ system trap → Told (trap_step s op x y z) r t → Replied (step_of w s op x y z) r t w
  trap_step' k h = rw (trap_told w s a v op x y z k) (tells w (trap_step s op x y z) r t h)
