-- A fetched instruction that passes 1, 2 and 22 is refused by none of them, nor by 25: these are the numbers of a run that is refused whole.
use Rattle.model.proofs.Prelude.{ℕ, Bool, false, true, inl, inr, ◌≢◌, ⊎_elim, refl, subst, sym, ◌≡◌, arith, inside, shapes_of, Windows, arm_of, Passes, Outcome}
use Rattle.model.proofs.Prelude.{admissible, claim_local, Sized, claims, fetched_of, from_three, opcode_in, step_of, step_plan, tetra_of, unruled_by, x_in}
use Rattle.model.proofs.Prelude.{three_replies, guarded_open, perform_on, claim_admissible, fetched_claims, fetched_free, fetched_missing, passing, Any}
use Rattle.model.proofs.Prelude.{unhalting, perform_meets}
use Rattle.claims.proofs.Prelude.{State}
use Rattle.claims.specs.CallsLeave.{OfCall}

abbrev Own : ℕ → Type 0
Own r = OfCall r → ⊥

none : (n : ℕ) → n ≢ 1 → n ≢ 2 → n ≢ 22 → n ≢ 25 → Own n
none n a b c d h = ⊎_elim a (⊎_elim b (⊎_elim c d)) h

three_own : (w : Windows) (s : State) (op x y z : ℕ) → Own (perform_on w s (from_three s (arm_of op) op x y z)).reply
three_own w s op x y z =
    perform_meets w s Any (λ r t vs. Own r) (λ o. Own o.reply) (none 6 (λ e. omega arith) (λ e. omega arith) (λ e. omega arith) (λ e. omega arith)) (λ r t a vs h. h) (λ a n. tt)
    (from_three s (arm_of op) op x y z)
    (three_replies Own (none 0 (λ e. omega arith) (λ e. omega arith) (λ e. omega arith) (λ e. omega arith))
    (λ n a b. none n (λ e. omega arith) (λ e. omega arith) (λ e. omega arith) (λ e. omega arith))
    (λ n h. none n (λ e. unhalting n (inl (omega arith)) h) (λ e. unhalting n (inl (omega arith)) h) (λ e. unhalting n (inr (omega arith, omega arith)) h) (λ e. unhalting n (inr (omega arith, omega arith)) h))
    (none 19 (λ e. omega arith) (λ e. omega arith) (λ e. omega arith) (λ e. omega arith)) s (arm_of op) op x y z
    (λ e. none 20 (λ e. omega arith) (λ e. omega arith) (λ e. omega arith) (λ e. omega arith)))

step_own : (w : Windows) (s : State) (op x y z : ℕ) → admissible s ≡ true → unruled_by (shapes_of w) ≡ 0 → Own (step_of w s op x y z).reply
unfolding step_of step_plan
step_own w s op x y z a r = subst (λ (o : Outcome State Windows). Own o.reply) (sym (guarded_open w s s (from_three s (arm_of op) op x y z) a r)) (three_own w s op x y z)

pub fetched_own : (w : Windows) (s : State) → Sized s → Passes w s → OfCall (fetched_of w s).reply → ⊥
fetched_own w s n h = lies (inside (shapes_of w) s.pc) refl
  where
    r : unruled_by (shapes_of w) ≡ 0
    r = passing w s h

    tetra : inside (shapes_of w) s.pc ≡ true → (b : Bool) → claims (opcode_in (tetra_of w s)) ≡ b → Own (fetched_of w s).reply
    tetra i true e =
        subst (λ (o : Outcome State Windows). Own o.reply) (sym (fetched_claims w s h.admitted r i n e))
        (step_own w (claim_local s (x_in (tetra_of w s))) _ _ _ _ (claim_admissible s (x_in (tetra_of w s)) n h.admitted) r)
    tetra i false e = subst (λ (o : Outcome State Windows). Own o.reply) (sym (fetched_free w s h.admitted r i e)) (step_own w s _ _ _ _ h.admitted r)

    lies : (b : Bool) → inside (shapes_of w) s.pc ≡ b → Own (fetched_of w s).reply
    lies true i = tetra i (claims (opcode_in (tetra_of w s))) refl
    lies false i =
        subst (λ (o : Outcome State Windows). Own o.reply) (sym (fetched_missing w s h.admitted r i))
        (none 24 (λ e. omega arith) (λ e. omega arith) (λ e. omega arith) (λ e. omega arith))
