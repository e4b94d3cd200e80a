-- Laws of whole-number operations in a step, over plain variables: the operands by the opcode; then what is left without a flag and
-- with one. The step of their opcodes: `ranged_step` of LoadStoreArms.
use Rattle.model.proofs.Prelude.{ℕ, ◌%◌, ◌+◌, ◌^◌, cond, false, true, List, ap, refl, subst, sym, ◌∙◌, ◌≡◌, eqb, set, eq-eqb, ne_eqb, arithmetic_says, results_in}
use Rattle.model.proofs.Prelude.{with_results, operand_of, Said, reply_of, among, first_negation, first_of, last_negation, last_of, operation_of, made, reg, r_h, r_r}
use Rattle.model.proofs.Prelude.{set_register, with_parts, with_special, raised, word_of}
use Rattle.arms.proofs.Prelude.{Reply, Done, State, Told, next_is}
use Rattle.model.specs.declared.Operation.{Operation}
use Rattle.model.specs.declared.Results.{Results}
use Rattle.arms.specs.NoMemoryArms.{arithmetic_of}

-- ---- the operands

module _ (s : State) (op k : ℕ) where
  pub first_constant : among first_negation last_negation op ≡ true → k ≡ operand_of s (first_of op) k
  unfolding first_of
  first_constant h = rw h

  pub first_register : among first_negation last_negation op ≡ false → reg s k ≡ operand_of s (first_of op) k
  unfolding first_of
  first_register h = rw h

  pub last_register : op % 2 ≡ 0 → reg s k ≡ operand_of s (last_of op) k
  last_register h = rw (eq-eqb (op % 2) 0 h)

  pub last_constant : (op % 2 ≡ 0 → ⊥) → k ≡ operand_of s (last_of op) k
  last_constant h = rw (ne_eqb (op % 2) 0 h)

-- ---- what is left

module _ (s : State) (op x y z u v : ℕ) (o : Operation) (r : Results) (g l : List ℕ)
    (eu : u ≡ operand_of s (first_of op) y) (ev : v ≡ operand_of s (last_of op) z) (eo : o ≡ operation_of op) (er : r ≡ results_in s o u v)
    (e : with_parts s g l ≡ set_register s x r.x) where
  abbrev after : State
  after = with_parts s g (set (set l r_h r.rh) r_r r.rr)

  written : after ≡ with_results s x (results_in s o u v)
  unfolding with_results with_special
  written = ap (λ (t : State). with_special (with_special t r_h r.rh) r_r r.rr) e ∙ ap (λ (q : Results). with_results s x q) er

  says : arithmetic_of s op x y z ≡ arithmetic_says s o x u v (word_of op x y z)
  says = rw (eu, ev, eo)

  pub computed_done : (n : ℕ) → r.flags ≡ 0 → n ≡ (s.pc + 4) % 2 ^ 64 → Told (arithmetic_of s op x y z) Done (made g (set (set l r_h r.rh) r_r r.rr) n s.halt s.marks s.mask)
  unfolding arithmetic_says reply_of
  computed_done n h f =
      let k : (results_in s o u v).flags ≡ 0 = ap (λ (q : Results). q.flags) (sym er) ∙ h in
      subst (λ (d : Said). Told d Done (made g (set (set l r_h r.rh) r_r r.rr) n s.halt s.marks s.mask)) (sym (says ∙ pick (results_in s o u v).flags k _ _))
      (record { reply_is = refl; state_is = next_is after _ written n f })
    where
      pick : (m : ℕ) → m ≡ 0 → (d c : Said) → cond (eqb m 0) d c ≡ d
      pick m q d c = rw q

  pub computed_raised : (word : ℕ) (k : Reply) (t : State) → (r.flags ≡ 0 → ⊥) → word ≡ word_of op x y z → Told (raised after r.flags word u v) k t → Told (arithmetic_of s op x y z) k t
  unfolding arithmetic_says
  computed_raised word k t h w q = rw (says, ← written, ← er, ne_eqb r.flags 0 h, ← w) q
