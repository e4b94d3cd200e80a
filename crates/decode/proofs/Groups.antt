-- Which arm the opcodes of a range have.
use Rattle.model.proofs.Prelude.{ℕ, ◌<◌, ◌≤◌, Bool, false, true, ◌&&◌, ap, refl, ◌∙◌, ◌≡◌, arith, leb, leb-true, lt-leb, among, arithmetic, arm_of, branch}
use Rattle.model.proofs.Prelude.{condition_of, control, direction_of, first_arithmetic, first_branch, first_load, first_of, first_store, last_arithmetic, last_branch}
use Rattle.model.proofs.Prelude.{last_load, last_of, last_store, load, memory, operation_of, sign_of, store, width_of, and_left, and_right}

module _ (op : ℕ) where
  -- two ranges of which one ends before the other begins
  above : (a b c d : ℕ) → b < c → among c d op ≡ true → among a b op ≡ false
  above a b c d l h = let k : c ≤ op = leb-true c op (and_left (leb c op) _ h) in ap (λ (t : Bool). leb a op && t) (lt-leb op b (omega arith)) ∙ off (leb a op)
    where
      off : (t : Bool) → (t && false) ≡ false
      off true = refl
      off false = refl

  below : (a b c d : ℕ) → d < a → among c d op ≡ true → among a b op ≡ false
  below a b c d l h = let k : op ≤ d = leb-true op d (and_right (leb c op) _ h) in ap (λ (t : Bool). t && leb op b) (lt-leb a op (omega arith))

  pub branch_arm : among first_branch last_branch op ≡ true → arm_of op ≡ control (branch (condition_of op) (direction_of op))
  unfolding arm_of
  branch_arm h = rw h

  pub load_arm : among first_load last_load op ≡ true → arm_of op ≡ memory (load (width_of op) (sign_of op) (last_of op))
  unfolding arm_of
  load_arm h = rw (above first_branch last_branch first_load last_load (omega arith) h, h)

  pub store_arm : among first_store last_store op ≡ true → arm_of op ≡ memory (store (width_of op) (sign_of op) (last_of op))
  unfolding arm_of
  store_arm h = rw (above first_branch last_branch first_store last_store (omega arith) h, above first_load last_load first_store last_store (omega arith) h, h)

  -- it ends before the others begin
  pub arithmetic_arm : among first_arithmetic last_arithmetic op ≡ true → arm_of op ≡ arithmetic (operation_of op) (first_of op) (last_of op)
  unfolding arm_of
  arithmetic_arm h = rw (below first_branch last_branch first_arithmetic last_arithmetic (omega arith) h, below first_load last_load first_arithmetic last_arithmetic (omega arith) h, below first_store last_store first_arithmetic last_arithmetic (omega arith) h, h)
