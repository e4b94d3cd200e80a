-- A step of an admissible state in windows that pass, from the outcome that its arm's code gives: one law for the rows that touch no memory, one for
-- those that do. GET and TRAP, which judge 5 and 4: RefusableArms. Steps that are refused with 1, 2 or 22: EarlyRefusals.
use Rattle.model.proofs.Prelude.{ℕ, Bool, true, ap, refl, ◌∙◌, ◌≡◌, shapes_of, Windows, Said, Arm, arm_of, Plan, admissible, plan_in, Quiet, quiet, refusal_in}
use Rattle.model.proofs.Prelude.{refusal_number, Row, Touching, touching, row_of, plan_of, refusal_of, step_of, unruled_by, perform_on, step_open, told}
use Rattle.arms.proofs.Prelude.{Reply, State, only_if, Told}
use Rattle.stack.proofs.Judged.{only_open}
use Rattle.arms.specs.Arms.{telling}
use Rattle.arms.specs.Replied.{Replied}

-- what is said, with the windows as they were
pub tells : (w : Windows) (d : Said) (r : Reply) (t : State) → Told d r t → Replied (telling w d) r t w
tells w d r t h = record { reply_is = h.reply_is; state_is = h.state_is; window_is = refl }

module _ (w : Windows) (s : State) (a : admissible s ≡ true) (u : unruled_by (shapes_of w) ≡ 0) (op x y z : ℕ) (r : Reply) (t : State) (m : Arm) (e : arm_of op ≡ m) where
  -- the plan of a row
  row_step : (k : Row) → row_of m ≡ k → refusal_in k x y z ≡ 0 → (v : Windows) → Replied (perform_on w s (plan_in k s op x y z)) r t v → Replied (step_of w s op x y z) r t v
  unfolding refusal_of plan_of
  row_step k f n v h =
      rw (step_open w s op x y z a u (ap (λ (i : Arm). refusal_in (row_of i) x y z) e ∙ ap (λ (i : Row). refusal_in i x y z) f ∙ n)
      ∙ ap (λ (i : Arm). perform_on w s (plan_in (row_of i) s op x y z)) e ∙ ap (λ (i : Row). perform_on w s (plan_in i s op x y z)) f) h

  -- an arm that touches no memory
  pub said_step : (q : Quiet) → row_of m ≡ quiet q → refusal_number (q.refusal x y z) ≡ 0 → (v : Windows) → Replied (telling w (q.says s op x y z)) r t v
      → Replied (step_of w s op x y z) r t v
  said_step q f n v h = row_step (quiet q) f n v (rw (told w s (q.says s op x y z)) h)

  pub quiet_step : (q : Quiet) → row_of m ≡ quiet q → refusal_number (q.refusal x y z) ≡ 0 → Told (q.says s op x y z) r t → Replied (step_of w s op x y z) r t w
  quiet_step q f n h = said_step q f n w (tells w (q.says s op x y z) r t h)

  -- an arm that does
  pub touching_step : (q : Touching) → row_of m ≡ touching q → (v : Windows) → Replied (perform_on w s (q.plan s op x y z)) r t v → Replied (step_of w s op x y z) r t v
  touching_step q f v h = row_step (touching q) f refl v h

  -- one that asks for what an admissible state has
  pub only_step : (q : Touching) → row_of m ≡ touching q → (v : Windows) (b : Bool) → b ≡ true → (p : Plan State) → q.plan s op x y z ≡ p → Replied (only_if b w s p) r t v
      → Replied (step_of w s op x y z) r t v
  only_step q f v b d p g h = touching_step q f v (rw (ap (perform_on w s) g) (rw (only_open w s b p d) at h))
