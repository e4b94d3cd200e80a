-- Laws of control.rs's arms, over plain variables: the sum and the branch. Their steps: ArmSteps.
use Rattle.model.proofs.Prelude.{ℕ, ◌%◌, ◌+◌, ◌^◌, Bool, cond, false, true, ap, sym, ◌∙◌, ◌≡◌, eq-eqb, ne_eqb, holds, near, sum_of, condition_of, direction_of}
use Rattle.model.proofs.Prelude.{immediate, last_of, register, following, goes, next, reg}
use Rattle.arms.proofs.Prelude.{State}
use Rattle.arms.specs.Arms.{branch_of}

module _ (s : State) (op y z r : ℕ) where
  pub sum_register : op % 2 ≡ 0 → r ≡ (reg s y + reg s z) % 2 ^ 64 → r ≡ sum_of s (last_of op) y z
  sum_register h e = e ∙ sym (ap (λ (t : Bool). sum_of s (cond t register immediate) y z) (eq-eqb (op % 2) 0 h))

  pub sum_immediate : (op % 2 ≡ 0 → ⊥) → r ≡ (reg s y + z) % 2 ^ 64 → r ≡ sum_of s (last_of op) y z
  sum_immediate h e = e ∙ sym (ap (λ (t : Bool). sum_of s (cond t register immediate) y z) (ne_eqb (op % 2) 0 h))

module _ (s : State) (op x y z n : ℕ) (b : Bool) (e : b ≡ holds (condition_of op) (reg s x)) where
  pub branch_taken : b ≡ true → n ≡ near s (direction_of op) y z → goes s n ≡ branch_of s op x y z
  unfolding branch_of
  branch_taken h q = ap (goes s) q ∙ sym (ap (λ (t : Bool). cond t (goes s (near s (direction_of op) y z)) (next s)) (sym e ∙ h))

  pub branch_not : b ≡ false → n ≡ following s → goes s n ≡ branch_of s op x y z
  unfolding branch_of
  branch_not h q = ap (goes s) q ∙ sym (ap (λ (t : Bool). cond t (goes s (near s (direction_of op) y z)) (next s)) (sym e ∙ h))
