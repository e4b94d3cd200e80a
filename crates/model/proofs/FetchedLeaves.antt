-- What a fetched instruction leaves, from what the step leaves: the claim is taken back; and what a run leaves, from its last instruction.
use Rattle.model.proofs.Logic.{ℕ, ◌<◌, ◌≤◌, Bool, cond, false, not, true, ◌&&◌, inl, inr, ◌≢◌, ◌⊎◌, ⊎_elim, ap, refl, subst, sym, ◌∙◌, ◌≡◌, arith, eqb}
use Rattle.model.proofs.Logic.{eqb-false}
use Rattle.model.specs.Registers.{with_parts, Sized, admissible, halted, with_special, cleared, claim_local, is_marginal}
use Rattle.model.specs.Memory.{Windows, shapes_of, inside, both}
use Rattle.model.specs.Plan.{Outcome}
use Rattle.model.specs.Opcodes.{trap, operation_of, first_of, width_of, sign_of, condition_of, arm_of, system}
use Rattle.model.specs.Step.{refusal_of, unruled_by, from_three, step_of, claims, opcode_in, x_in, y_in, z_in, settled_by, claimed_by, fetched_of, tetra_of, claimed_at, fetched, mmix}
use Rattle.model.specs.Run.{Stopped, run_for, run_of, grant_most}
use Rattle.model.specs.RunMeant.{CallPasses}
use Rattle.model.specs.Numbers.{Early}
use Rattle.model.specs.Order.{Passes, refused_by}
use Rattle.model.specs.Invariants.{InstructionFits}
use Rattle.model.specs.Fetched.{step_said, settled}
use Rattle.model.specs.Leaves.{Sharing, StepLeaves, TetraLeaves, FetchedLeaves, LastLeaves, RunLeaves}
use Rattle.model.specs.declared.State.{State}
use Rattle.model.proofs.Bools.{on, each, at_each}
use Rattle.model.proofs.AdmissibleKept.{adm, claim_good}
use Rattle.model.proofs.ItemInvariant.{Any}
use Rattle.model.proofs.StepAnswers.{perform_meets}
use Rattle.model.proofs.ArmReplies.{three_replies}
use Rattle.model.proofs.Numbers.{unhalting, step_fetched}
use Rattle.model.proofs.Entry.{unruled_none, unruled_is, shared_only}
use Rattle.model.proofs.Fetched.{tetra_fits, claim_back, claim_halted, settled_refused, settled_done, settled_nineteen, step_three, claim_admissible, fetched_by, fetched_claims, fetched_free}
use Rattle.model.proofs.RunLaws.{run_by, run_stops, Last, run_last}
use Rattle.model.proofs.RunMeant.{fetched_on, Ready, fetched_ready, run_ready, run_open, call_by}

-- ---- TRAP claims nothing

-- of the arms at X, Y and Z 0, TRAP alone is refused by 4
claims_no_trap : each 256 (λ op. not (claims op && eqb (refusal_of (arm_of op) 0 0 0) 4)) ≡ true
unfolding each claims refusal_of arm_of operation_of first_of width_of sign_of condition_of
claims_no_trap = refl

pub no_trap : (op : ℕ) → op < 256 → claims op ≡ true → arm_of op ≡ system trap → ⊥
no_trap op l c e = differ (at_each 256 (λ k. not (claims k && eqb (refusal_of (arm_of k) 0 0 0) 4)) claims_no_trap op l)
  where
    four : refusal_of (arm_of op) 0 0 0 ≡ 4
    four = rw e (unfold refusal_of in refl)

    differ : not (claims op && eqb (refusal_of (arm_of op) 0 0 0) 4) ≡ true → ⊥
    differ = rw (c, four) (λ q. never q)
      where
        never : false ≡ true → ⊥
        never q = eqb-false 0 0 (sym q) refl

-- ---- the step with its claim taken back

claim_halt : (s : State) (x : ℕ) → (claim_local s x).halt ≡ s.halt
unfolding claim_local with_special cleared
claim_halt s x = on (λ (t : State). t.halt ≡ s.halt) (is_marginal s x) (λ e. refl) (λ e. refl)

late : (n k : ℕ) → (k ≡ 0) ⊎ (k ≡ 19) → Early n → n ≢ k
late n k (inl z) (inl l) q = omega arith
late n k (inl z) (inr l) q = let e : n ≡ 22 = l in omega arith
late n k (inr z) (inl l) q = omega arith
late n k (inr z) (inr l) q = let e : n ≡ 22 = l in omega arith

module _ (w : Windows) (s : State) (t : ℕ) (a : admissible s ≡ true) (b : InstructionFits (opcode_in t) (x_in t) (y_in t) (z_in t))
    (step_leaves : (c : State) → Sized c → StepLeaves w c (opcode_in t) (x_in t) (y_in t) (z_in t) (step_said w t c)) where
  -- an opcode that claims
  module _ (n : Sized s) (r : unruled_by (shapes_of w) ≡ 0) (k : claims (opcode_in t) ≡ true) where
    abbrev c : State
    c = claim_local s (x_in t)

    abbrev o : Outcome State Windows
    o = step_said w t c

    no_twenty : o.reply ≢ 20
    no_twenty =
        rw (step_three w c (opcode_in t) (x_in t) (y_in t) (z_in t) (claim_admissible s (x_in t) n a) r)
        (perform_meets w c Any (λ r t vs. r ≢ 20) (λ o. o.reply ≢ 20) (λ e. omega arith) (λ r t a vs h. h) (λ a n. tt) (from_three c (arm_of (opcode_in t)) (opcode_in t) (x_in t) (y_in t) (z_in t))
        (three_replies (λ r. r ≢ 20) (λ e. omega arith) (λ n p q e. omega arith) (λ n p e. unhalting n (inr (omega arith, omega arith)) p) (λ e. omega arith) c (arm_of (opcode_in t)) (opcode_in t) (x_in t) (y_in t) (z_in t)
        (λ m. absurd (no_trap (opcode_in t) b.op_byte k m))))

    l : StepLeaves w c (opcode_in t) (x_in t) (y_in t) (z_in t) o
    l = step_leaves c (claim_good s (x_in t) (record { size = n; admits = adm s a })).size

    back : o.reply ≢ 0 → o.reply ≢ 19 → (u : State) → o.state ≡ u → settled_by s o.reply o.state ≡ with_parts u s.general s.special
    back p q u e = settled_refused s o.state o.reply p q ∙ ap (λ (u : State). with_parts u s.general s.special) e

    pub claimed_leaves : TetraLeaves w s c t (settled s o)
    claimed_leaves = record {
      most = ⊎_elim (λ m. inl m) (⊎_elim (λ m. inr (inl m)) (λ m. inr (inr (inr m)))) l.most;
      early = λ e. (back (late _ 0 (inl refl) e) (late _ 19 (inr refl) e) c (l.early e).0 ∙ claim_back s (x_in t), (l.early e).1);
      missed = ⊎_elim
          (λ e. (back (λ q. omega arith) (λ q. omega arith) c (l.lost e).0 ∙ claim_back s (x_in t), (l.lost e).1))
          (λ e. absurd (step_fetched o.reply l.most e));
      halting = λ e. (back (λ q. unhalting _ (inl (omega arith)) e) (λ q. unhalting _ (inr (omega arith, omega arith)) e) (halted c) (l.halting e).0 ∙ claim_halted s (x_in t), (l.halting e).1);
      nineteen = λ e. rw (settled_nineteen s o e) (l.nineteen e);
      twenty = λ e. absurd (no_twenty e);
      shared = λ e. (a, (l.shared e).1);
      unfetched = λ e. absurd (step_fetched o.reply l.most e);
      done = λ e. ap (λ (o : Outcome State Windows). o.state.halt) (settled_done s o e) ∙ l.done e ∙ claim_halt s (x_in t);
    }

  pub free_leaves : Sized s → TetraLeaves w s s t (step_said w t s)
  free_leaves n =
      let l : StepLeaves w s (opcode_in t) (x_in t) (y_in t) (z_in t) (step_said w t s) = step_leaves s n in
      record {
        most = ⊎_elim (λ m. inl m) (⊎_elim (λ m. inr (inl m)) (λ m. inr (inr (inr m)))) l.most;
        early = l.early;
        missed = ⊎_elim l.lost (λ e. absurd (step_fetched (step_said w t s).reply l.most e));
        halting = l.halting;
        nineteen = l.nineteen;
        twenty = l.twenty;
        shared = l.shared;
        unfetched = λ e. absurd (step_fetched (step_said w t s).reply l.most e);
        done = l.done;
      }

-- ---- 1, 2, 22, 24

-- refused before an instruction is looked at
refused_leaves : (w : Windows) (s c : State) (t n : ℕ) → Early n ⊎ (n ≡ 24) → (n ≡ 22 → (admissible s ≡ true) × Sharing (shapes_of w))
    → (n ≡ 24 → Passes w s × (inside (shapes_of w) s.pc ≡ false)) → TetraLeaves w s c t (refused_by n w s)
refused_leaves w s c t n k sh un = record {
  most = ⊎_elim (⊎_elim (λ l. inl (omega arith)) (λ e. inr (inl e))) (λ e. inr (inr (inl e))) k;
  early = λ e. (refl, refl);
  missed = λ e. (refl, refl);
  halting = λ e. absurd (unhalting n (⊎_elim (⊎_elim (λ l. inl (omega arith)) (λ q. let f : n ≡ 22 = q in inr (omega arith, omega arith))) (λ q. let f : n ≡ 24 = q in inr (omega arith, omega arith)) k) e);
  nineteen = λ e. absurd (⊎_elim (⊎_elim (λ l. omega arith) (λ q. let f : n ≡ 22 = q in omega arith)) (λ q. let f : n ≡ 24 = q in omega arith) k);
  twenty = λ e. absurd (⊎_elim (⊎_elim (λ l. omega arith) (λ q. let f : n ≡ 22 = q in omega arith)) (λ q. let f : n ≡ 24 = q in omega arith) k);
  shared = sh;
  unfetched = un;
  done = λ e. refl;
}

pub fetched_leaves : ((w : Windows) (s : State) (op x y z : ℕ) → Sized s → StepLeaves w s op x y z (step_of w s op x y z))
    → (w : Windows) (s : State) → Sized s → FetchedLeaves w s (fetched_of w s)
unfolding claimed_by
fetched_leaves step_leaves w s n =
    fetched_by (λ o. TetraLeaves w s (claimed_at w s) t o) w s
    (λ a. refused_leaves w s _ t 1 (inl (inl (omega arith, omega arith))) (λ e. absurd (omega arith)) (λ e. absurd (omega arith)))
    (λ a m. rules a m)
    (λ a r i. refused_leaves w s _ t 24 (inr refl) (λ e. absurd (omega arith))
    (λ e. (record { admitted = a; windowed = (unruled_none (shapes_of w) r).0; apart = (unruled_none (shapes_of w) r).1 }, i)))
    (λ a r i. there a r i (claims (opcode_in t)) refl)
  where
    t : ℕ
    t = tetra_of w s

    rules : admissible s ≡ true → unruled_by (shapes_of w) ≢ 0 → TetraLeaves w s (claimed_at w s) (tetra_of w s) (refused_by (unruled_by (shapes_of w)) w s)
    rules a m =
        refused_leaves w s _ (tetra_of w s) (unruled_by (shapes_of w))
        (inl (⊎_elim (λ e. absurd (m e)) (⊎_elim (λ e. let f : unruled_by (shapes_of w) ≡ 2 = e in inl (omega arith, omega arith)) (λ e. inr e)) (unruled_is (shapes_of w))))
        (λ e. (a, shared_only (shapes_of w) e))
        (λ e. absurd (⊎_elim (λ q. m q) (⊎_elim (λ q. let f : unruled_by (shapes_of w) ≡ 2 = q in omega arith) (λ q. let f : unruled_by (shapes_of w) ≡ 22 = q in omega arith)) (unruled_is (shapes_of w))))

    there : admissible s ≡ true → unruled_by (shapes_of w) ≡ 0 → inside (shapes_of w) s.pc ≡ true → (b : Bool) → claims (opcode_in (tetra_of w s)) ≡ b
        → TetraLeaves w s (cond (claims (opcode_in (tetra_of w s))) (claim_local s (x_in (tetra_of w s))) s) (tetra_of w s) (fetched_of w s)
    there a r i true e =
        rw (fetched_claims w s a r i n e, e) (claimed_leaves w s (tetra_of w s) a (tetra_fits s _) (λ c. step_leaves w c _ _ _ _) n r e)
    there a r i false e = rw (fetched_free w s a r i e, e) (free_leaves w s (tetra_of w s) a (tetra_fits s _) (λ c. step_leaves w c _ _ _ _) n)

-- ---- a run

module _ (leaves : (w : Windows) (s : State) → Sized s → FetchedLeaves w s (fetched_of w s)) where
  abbrev running : ℕ → State → Windows → Stopped State Windows
  running = run_for both mmix fetched

  -- what is done leaves the halt code
  halt_kept : (g : ℕ) (w : Windows) (s : State) (h : ℕ) → Ready w s → s.halt ≡ h → (running g s w).reply ≡ 0 → (running g s w).state.halt ≡ h
  halt_kept g w s h q e =
      run_by both mmix fetched (λ t m. Ready m t × (t.halt ≡ h)) (λ r. r.reply ≡ 0 → r.state.halt ≡ h) (λ n r k. k) (λ t m k d. k.1)
      (λ t m k n d. absurd (n d))
      (λ t m k d. rw (fetched_on m t) (fetched_ready m t k.0, (leaves m t k.0.sized).done (rw (fetched_on m t) at d) ∙ k.1)) g s w (q, e)

  last_leaves : (w : Windows) (s : State) (grant : ℕ) → Sized s → CallPasses w s grant → (running grant s w).reply ≢ 0 → (running grant s w).done ≤ grant → LastLeaves w s (running grant s w)
  last_leaves w s grant n c f d =
      let q : Ready w s = record { sized = n; passes = c.passes } in
      let r : Stopped State Windows = running grant s w in
      let l : Last both mmix fetched s w r = run_last both mmix fetched grant s w f in
      let m : grant ≤ grant_most = c.granted in
      let e : running r.done s w ≡ record { done = r.done; reply = 0; state = l.reached; memory = l.lent } = l.reached_is in
      let g : Ready l.lent l.reached = subst (λ (p : Stopped State Windows). Ready p.memory p.state) e (run_ready r.done w s q) in
      let k : fetched_of l.lent l.reached ≡ record { reply = r.reply; state = r.state; memory = r.memory } = sym (fetched_on l.lent l.reached) ∙ l.last_is in
      record {
        reached = l.reached;
        lent = l.lent;
        reached_is = run_open w s r.done (record { passes = c.passes; granted = omega arith }) ∙ e;
        last_is = k;
        leaves = subst (λ (o : Outcome State Windows). FetchedLeaves l.lent l.reached o) k (leaves l.lent l.reached g.sized);
        halt_kept = subst (λ (p : Stopped State Windows). p.reply ≡ 0 → p.state.halt ≡ s.halt) e (halt_kept r.done w s s.halt q refl) refl;
      }

  Most : ℕ → Type 0
  Most n = (n ≤ 20) ⊎ ((n ≡ 22) ⊎ ((n ≡ 24) ⊎ ((n ≡ 25) ⊎ ((n ≡ 29) ⊎ (n ≡ 31)))))

  unruled_most : (w : Windows) → Most (unruled_by (shapes_of w))
  unfolding Most
  unruled_most w =
      ⊎_elim (λ e. let f : unruled_by (shapes_of w) ≡ 0 = e in inl (omega arith)) (⊎_elim (λ e. let f : unruled_by (shapes_of w) ≡ 2 = e in inl (omega arith)) (λ e. inr (inl e)))
      (unruled_is (shapes_of w))

  running_most : (g : ℕ) (w : Windows) (s : State) → Ready w s → Most (running g s w).reply
  unfolding Most
  running_most g w s q =
      run_by both mmix fetched (λ t m. Ready m t) (λ r. (r.reply ≤ 20) ⊎ ((r.reply ≡ 22) ⊎ ((r.reply ≡ 24) ⊎ ((r.reply ≡ 25) ⊎ ((r.reply ≡ 29) ⊎ (r.reply ≡ 31)))))) (λ n r k. k) (λ t m k. inl (omega arith))
      (λ t m k n. rw (fetched_on m t) (⊎_elim (λ l. inl l) (⊎_elim (λ e. inr (inl e)) (⊎_elim (λ e. inr (inr (inl e))) (λ e. inr (inr (inr (inr e)))))) (leaves m t k.sized).most))
      (λ t m k d. rw (fetched_on m t) (fetched_ready m t k)) g s w q

  pub run_leaves : (w : Windows) (s : State) (grant : ℕ) → Sized s → RunLeaves w s grant (run_of w s grant)
  run_leaves w s grant n = record {
    most = unfold Most in most;
    refused = λ c. rw (run_open w s grant c) (λ f. let d : (running grant s w).done < grant = run_stops both mmix fetched grant s w f in last_leaves w s grant n c f (omega arith));
    spent = call_by (λ r. r.reply ≡ 0 → r.state.halt ≡ s.halt) w s grant (λ a e. refl) (λ a m e. refl) (λ h l e. refl)
        (λ c. halt_kept grant w s s.halt (record { sized = n; passes = c.passes }) refl);
  }
    where
      most : Most (run_of w s grant).reply
      most = call_by (λ r. Most r.reply) w s grant (λ a. unfold Most in inl (omega arith)) (λ a m. unruled_most w) (λ h l. unfold Most in inr (inr (inr (inl refl))))
          (λ c. running_most grant w s (record { sized = n; passes = c.passes }))
