-- Which arm PUT and PUTI have, a range of two; an opcode outside a range. The other ranges: Groups of crate decode.
use Rattle.model.proofs.Prelude.{ℕ, ◌≤◌, Bool, false, true, ⊎_elim, ap, refl, sym, ◌∙◌, ◌≡◌, arith, eqb, leb, eqb-true, leb-true, among, arm_of, last_of, op_put}
use Rattle.model.proofs.Prelude.{op_puti, put, system, and_left, and_right, lt_or_le}

module _ (op : ℕ) where
  -- an opcode outside a range is none of it
  pub outside : (a b k : ℕ) → among a b k ≡ true → among a b op ≡ false → eqb op k ≡ false
  outside a b k i f = go (eqb op k) refl
    where
      go : (t : Bool) → eqb op k ≡ t → t ≡ false
      go true e = sym (ap (among a b) (eqb-true op k e) ∙ i) ∙ f
      go false e = refl

  pub put_arm : among op_put op_puti op ≡ true → arm_of op ≡ system (put (last_of op))
  unfolding arm_of
  put_arm h =
      let l : op_put ≤ op = leb-true op_put op (and_left (leb op_put op) _ h) in
      let u : op ≤ op_puti = leb-true op op_puti (and_right (leb op_put op) _ h) in
      ⊎_elim (λ i. let e : op ≡ op_put = omega arith in rw e) (λ i. let e : op ≡ op_puti = omega arith in rw e) (lt_or_le op op_puti)
