-- 1, 2 and 22 as a step answers them, by their number: nothing is changed; and a step's outcome by the number of its reply. 3: `ranged_step` of LoadStoreArms.
-- 4 and 5 are judged by their arms: SystemArms.
use Rattle.model.proofs.Prelude.{ℕ, ◌≤◌, true, ⊎_elim, ap, refl, ◌∙◌, ◌≡◌, arith, shapes_of, Windows, say, number_of, among, arm_of}
use Rattle.model.proofs.Prelude.{first_branch, last_branch, admissible, from_three, step_of, step_plan, unruled_by, plan_replies, Any, perform_meets}
use Rattle.model.proofs.Prelude.{step_meets}
use Rattle.instruction.proofs.Prelude.{State, branch_arm, guarded_on, refusal_on, refused_guarded, branch_of, quiet_step}
use Rattle.model.specs.declared.Reply.{Reply}
use Rattle.exceptions.specs.Told.{Told}
use Rattle.arms.specs.Replied.{Replied}
use Rattle.instruction.specs.StepAnswer.{Numbered}
use Rattle.model.proofs.Numbers.{numbered as numbers}

pub refused_step : (w : Windows) (s : State) (op x y z n : ℕ) → n ≡ refusal_on w s → (n ≡ 0 → ⊥) → Numbered (step_of w s op x y z) n s w
refused_step w s op x y z n e f = rw refused (record { reply_is = refl; state_is = refl; window_is = refl })
  where
    refused : step_of w s op x y z ≡ record { reply = n; state = s; memory = w }
    refused = unfold step_of step_plan guarded_on in (refused_guarded w s (from_three s (arm_of op) op x y z) n e f)

-- a step's reply, of any state, is 31 at most
step_most : (w : Windows) (s : State) (op x y z : ℕ) → (step_of w s op x y z).reply ≤ 31
unfolding step_of
step_most w s op x y z =
    perform_meets w s Any (λ r t vs. r ≤ 31) (λ o. o.reply ≤ 31) (omega arith) (λ r t a vs h. h) (λ a n. tt) (step_plan s (shapes_of w) op x y z)
    (step_meets s (shapes_of w) Any (λ r t vs. r ≤ 31) (λ n e. ⊎_elim (λ l. omega arith) (λ q. omega arith) e) op x y z
    (λ a. plan_replies (λ r. r ≤ 31) (omega arith) (omega arith) (λ n e. ⊎_elim (λ l. omega arith) (⊎_elim (λ q. omega arith) (λ q. omega arith)) e) (omega arith) s (arm_of op) op x y z (λ q. omega arith)))

-- so the number of the reply that it names is its own
pub numbered : (w : Windows) (s : State) (op x y z : ℕ) (r : Reply) (t : State) (v : Windows) → Replied (step_of w s op x y z) r t v → Numbered (step_of w s op x y z) (number_of r) t v
numbered w s op x y z r t v h =
    let most : (step_of w s op x y z).reply ≤ 31 = step_most w s op x y z in
    record { reply_is = ap number_of h.reply_is ∙ numbers.number_reply (step_of w s op x y z).reply (omega arith); state_is = h.state_is; window_is = h.window_is }

-- a branch is done
pub done_numbered : (w : Windows) (s : State) (op x y z : ℕ) (r : Reply) (t : State) → admissible s ≡ true → unruled_by (shapes_of w) ≡ 0 → among first_branch last_branch op ≡ true
    → Told (say 0 (branch_of s op x y z)) r t → Numbered (step_of w s op x y z) (number_of r) t w
unfolding branch_of
done_numbered w s op x y z r t a u b h = numbered w s op x y z r t w (quiet_step w s a u op x y z r t _ (branch_arm op b) _ refl refl h)
