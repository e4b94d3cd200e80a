-- Demand 3 of a call that is itself fetched: its plan is the call's on the claimed state, and states alike stay alike under the claim.
-- `fetched_private` is that of the four calls, in any machine with a caller.
use Rattle.model.proofs.Logic.{ℕ, ◌+◌, ◌<◌, ◌≤◌, Bool, cond, false, true, ◌&&◌, List, ⊎_elim, ap, refl, subst, sym, ◌∙◌, ◌≡◌, arith, eqb, leb, ltb, get_or}
use Rattle.model.proofs.Logic.{length, get_or_eq_default, set, le-ltb, leb-true, ltb-true}
use Rattle.model.specs.Fill.{over}
use Rattle.model.specs.Registers.{r_o, r_g, r_l, sp, reg, Sized, admissible, with_special, cleared, claim_local, is_marginal}
use Rattle.model.specs.Memory.{Windows, Shapes, shapes_of, both}
use Rattle.model.specs.Plan.{Plan, read, Outcome, perform, worst, All, Off, look, looks}
use Rattle.model.specs.Opcodes.{tetra}
use Rattle.model.specs.LoadStore.{operand_in}
use Rattle.model.specs.Frames.{hole, push_frame}
use Rattle.model.specs.Lists.{Machine, step_on}
use Rattle.model.specs.Step.{unruled_by, claims, opcode_in, x_in, y_in, z_in, tetra_at, keeps_claim, settled_by, taken_back, from_three, instruction_plan, tetra_plan, fetched_plan, fetched_of, tetra_of, fetched, item_plan, mmix}
use Rattle.model.specs.Demand.{Within, Call, PUSHJ, PUSHJB, PUSHGO, PUSHGOI, opcode_of, Alike, x_at, Demand3Fetched, Demand3FetchedWider, ClaimKeeps}
use Rattle.model.specs.declared.State.{State}
use Rattle.model.proofs.Bools.{on, and_right}
use Rattle.model.proofs.Fill.{length_over, over_in, over_after, over_before, lt_or_le}
use Rattle.model.proofs.Memory.{both_lawful}
use Rattle.model.proofs.Runs.{perform_read, read_done}
use Rattle.model.proofs.Lists.{run_touches_off, run_wider_off}
use Rattle.model.proofs.Entry.{guarded_is, guarded_done}
use Rattle.model.proofs.AdmissibleKept.{Good, adm, spec_other, claim_good}
use Rattle.model.proofs.WordsKept.{claim_words}
use Rattle.model.proofs.DemandCore.{Caller, Passed, Calls, push_fits, Paired, PrivateIn, touched_by, reply_of', call_private}
use Rattle.model.proofs.Demand.{target_of_call, call_plan, call_arm, hole_le, hole_alike, admissible_alike, mmix_caller, private_is}

-- ---- the claim

-- it moves no special but rL
pub claim_other : (s : State) (x k : ℕ) → eqb k r_l ≡ false → sp (claim_local s x) k ≡ sp s k
unfolding claim_local with_special cleared
claim_other s x k e = on (λ (t : State). sp t k ≡ sp s k) (is_marginal s x) (λ m. spec_other s.special r_l k (x + 1) e) (λ m. refl)

-- a global X is not claimed
pub claim_global : (s : State) (x : ℕ) → sp s r_g ≤ x → claim_local s x ≡ s
unfolding claim_local
claim_global s x l = rw (no (leb (sp s r_l) x))
  where
    no : (b : Bool) → (b && ltb x (sp s r_g)) ≡ false
    no true = le-ltb _ _ l
    no false = refl

pub claim_hole : (s : State) (x : ℕ) → hole (claim_local s x) x ≡ hole s x
unfolding hole
claim_hole s x = go (leb (sp s r_g) x) refl
  where
    g : sp (claim_local s x) r_g ≡ sp s r_g
    g = claim_other s x r_g refl

    go : (b : Bool) → leb (sp s r_g) x ≡ b → cond (leb (sp (claim_local s x) r_g) x) (sp (claim_local s x) r_l) x ≡ cond (leb (sp s r_g) x) (sp s r_l) x
    go true e = rw (g, e) (ap (λ (t : State). sp t r_l) (claim_global s x (leb-true _ _ e)))
    go false e = rw (g, e)

-- a range made zero, in two lists that are equal at i
zero_alike : (a b i : ℕ) (k l : List ℕ) → length k ≡ length l → get_or k i 0 ≡ get_or l i 0 → get_or (over (λ n. 0) a b k) i 0 ≡ get_or (over (λ n. 0) a b l) i 0
zero_alike a b i k l n e =
    ⊎_elim (λ lo. over_before (λ n. 0) a b k i lo ∙ e ∙ sym (over_before (λ n. 0) a b l i lo))
    (λ hi. ⊎_elim (λ m. ⊎_elim (λ q. over_in (λ n. 0) a b k i hi m q ∙ sym (over_in (λ n. 0) a b l i hi m (omega arith)))
    (λ q. get_or_eq_default (over (λ n. 0) a b k) 0 (omega (arith, length_over (λ n. 0) a b k)) ∙ sym (get_or_eq_default (over (λ n. 0) a b l) 0 (omega (arith, length_over (λ n. 0) a b l))))
    (lt_or_le i (length k)))
    (λ m. over_after (λ n. 0) a b k i m ∙ e ∙ sym (over_after (λ n. 0) a b l i m)) (lt_or_le i b)) (lt_or_le i a)

pub claim_alike : (s t : State) (h x : ℕ) → Sized s → Sized t → Alike h s t → Alike h (claim_local s x) (claim_local t x)
claim_alike s t h x ns nt a = go (is_marginal s x) refl
  where
    m : is_marginal s x ≡ is_marginal t x
    m = rw a.special_same

    l : sp s r_l ≡ sp t r_l
    l = ap (λ (k : List ℕ). get_or k r_l 0) a.special_same

    go : (b : Bool) → is_marginal s x ≡ b → Alike h (claim_local s x) (claim_local t x)
    go true e = unfold claim_local with_special cleared in (rw (e, sym m ∙ e) (record {
      special_same = ap (λ (k : List ℕ). set k r_l (x + 1)) a.special_same;
      pc_same = a.pc_same;
      halt_same = a.halt_same;
      marks_same = a.marks_same;
      mask_same = a.mask_same;
      rest_same = λ i b. rw (← l) (zero_alike (sp s r_l) (x + 1) i s.general t.general (ns.generals ∙ sym nt.generals) (a.rest_same i b));
    }))
    go false e = unfold claim_local in (rw (e, sym m ∙ e) a)

pub claim_keeps : ClaimKeeps
unfolding claim_local with_special cleared
claim_keeps s x i z =
    on (λ (t : State). reg t i ≡ reg s i) (is_marginal s x)
    (λ e. let l : x < sp s r_g = ltb-true _ _ (and_right (leb (sp s r_l) x) _ e) in
    ⊎_elim (λ lo. over_before (λ n. 0) (sp s r_l) (x + 1) s.general i lo)
    (λ hi. ⊎_elim (λ m. ⊎_elim (λ q. over_in (λ n. 0) (sp s r_l) (x + 1) s.general i hi m q ∙ sym (z.zero_at i hi (omega arith)))
    (λ q. get_or_eq_default (over (λ n. 0) (sp s r_l) (x + 1) s.general) 0 (omega (arith, length_over (λ n. 0) (sp s r_l) (x + 1) s.general)) ∙ sym (get_or_eq_default s.general 0 q))
    (lt_or_le i (length s.general)))
    (λ m. over_after (λ n. 0) (sp s r_l) (x + 1) s.general i m) (lt_or_le i (x + 1))) (lt_or_le i (sp s r_l)))
    (λ e. refl)

-- ---- the call

call_claims : (c : Call) → claims (opcode_of c) ≡ true
unfolding claims
call_claims PUSHJ = refl
call_claims PUSHJB = refl
call_claims PUSHGO = refl
call_claims PUSHGOI = refl

pub tetra_alike : (w : Windows) (s t : State) → s.pc ≡ t.pc → tetra_of w s ≡ tetra_of w t
unfolding tetra_at
tetra_alike w s t e = ap (λ (p : ℕ). operand_in tetra p (look both w p)) e

-- a call's answer is 0, by which no claim is taken back
push_settles : (b s : State) (h u : ℕ) → taken_back b (push_frame s h u) ≡ push_frame s h u
unfolding taken_back push_frame settled_by keeps_claim
push_settles b s h u = refl

instruction_calls : (c : Call) (s : State) (x y z : ℕ) → instruction_plan s (opcode_of c) x y z ≡ push_frame (claim_local s x) (hole s x) (target_of_call c (claim_local s x) y z)
unfolding instruction_plan from_three
instruction_calls c s x y z =
    rw (call_claims c, call_arm c x y z)
    (ap (taken_back s) (call_plan c (claim_local s x) x y z) ∙ push_settles s (claim_local s x) (hole (claim_local s x) x) (target_of_call c (claim_local s x) y z)
    ∙ ap (λ (h : ℕ). push_frame (claim_local s x) h (target_of_call c (claim_local s x) y z)) (claim_hole s x))

-- a fetched call whose tetra is known
pub fetched_calls : (c : Call) (j : ℕ → ℕ) (w : Windows) (s : State) (u : ℕ) → admissible s ≡ true → unruled_by (shapes_of w) ≡ 0 → worst j s.pc 1 ≡ 0
    → tetra_of w s ≡ u → opcode_in u ≡ opcode_of c
    → Calls j w s fetched (claim_local s (x_in u)) (hole s (x_in u)) (target_of_call c (claim_local s (x_in u)) (y_in u) (z_in u))
unfolding item_plan fetched_plan tetra_plan looks
fetched_calls c j w s u a r there e f =
    ap (λ (p : Plan State). perform both j s p w) (guarded_is s s (shapes_of w) (read 24 s.pc 1 (λ v. tetra_plan s (tetra_at s (get_or v 0 0)))) a r)
    ∙ perform_read both both_lawful j s 24 s.pc 1 (λ v. tetra_plan s (tetra_at s (get_or v 0 0))) w there
    ∙ ap (λ (t : ℕ). perform both j s (tetra_plan s t) w) e
    ∙ ap (λ (p : Plan State). perform both j s p w) (ap (λ (op : ℕ). instruction_plan s op (x_in u) (y_in u) (z_in u)) f ∙ instruction_calls c s (x_in u) (y_in u) (z_in u))

-- one that is done: 1, 2 and 22, the fetch, and room for the frame
pub record WasCalled (j : ℕ → ℕ) (w : Windows) (s : State) : Type 0 where
  pub passed : Passed j w s (hole s (x_at w s))
  pub there : worst j s.pc 1 ≡ 0

pub fetched_passed : (c : Call) (j : ℕ → ℕ) (w : Windows) (s : State) → opcode_in (tetra_of w s) ≡ opcode_of c
    → (perform both j s (item_plan s (shapes_of w) fetched) w).reply ≡ 0 → WasCalled j w s
unfolding item_plan fetched_plan
fetched_passed c j w s op d =
    let p : Plan State = read 24 s.pc 1 (λ v. tetra_plan s (tetra_at s (get_or v 0 0))) in
    let met : (admissible s ≡ true) × (unruled_by (shapes_of w) ≡ 0) = guarded_done j w s s p d in
    let there : worst j s.pc 1 ≡ 0
    = read_done both both_lawful j s 24 s.pc 1 (λ v. tetra_plan s (tetra_at s (get_or v 0 0))) w (λ q. omega arith)
    (ap (λ (q : Plan State). (perform both j s q w).reply) (sym (guarded_is s s (shapes_of w) p met.0 met.1)) ∙ d) in
    let x : ℕ = x_at w s in
    let fits : worst j (sp (claim_local s x) r_o) (hole s x + 1) ≡ 0
    = push_fits j w s (claim_local s x) (hole s x) (target_of_call c (claim_local s x) (y_in (tetra_of w s)) (z_in (tetra_of w s)))
    (ap (λ (o : Outcome State Windows). o.reply) (sym (fetched_calls c j w s (tetra_of w s) met.0 met.1 there refl op)) ∙ d) in
    record {
      passed = record { admitted = met.0; fine = met.1; fits = subst (λ (o : ℕ). worst j o (hole s x + 1) ≡ 0) (claim_other s x r_o refl) fits };
      there = there;
    }

module _ {S I : Type 0} (mc : Machine S I Shapes) (k : Caller mc) where
  pub fetched_private : (w : Windows) (ss ts : S) (c : Call) (is : List I) → Paired mc k ss ts
      → opcode_in (tetra_of w (k.get ss)) ≡ opcode_of c
      → Alike (hole (k.get ss) (x_at w (k.get ss))) (k.get ss) (k.get ts)
      → (step_on both mc ss w (k.does fetched)).reply ≡ 0
      → (k.get (step_on both mc ss w (k.does fetched)).state).pc ≡ (k.get (step_on both mc ts w (k.does fetched)).state).pc
      → All (Off (Within (sp (k.get ss) r_o) (hole (k.get ss) (x_at w (k.get ss)) + 1))) (touched_by mc k (step_on both mc ss w (k.does fetched)) is)
      → PrivateIn mc k (hole (k.get ss) (x_at w (k.get ss))) (claim_local (k.get ss) (x_at w (k.get ss))) (claim_local (k.get ts) (x_at w (k.get ss)))
      (step_on both mc ss w (k.does fetched)) (step_on both mc ts w (k.does fetched)) is
  fetched_private w ss ts c is two op alike done pcs off =
      let s : State = k.get ss in
      let t : State = k.get ts in
      let u : ℕ = tetra_of w s in
      let x : ℕ = x_in u in
      let h : ℕ = hole s x in
      let cs : State = claim_local s x in
      let ct : State = claim_local t x in
      let j : ℕ → ℕ = k.judge (shapes_of w) in
      let was : WasCalled j w s = fetched_passed c j w s op (sym (reply_of' mc k ss w fetched) ∙ done) in
      let met : Passed j w s h = was.passed in
      let at : admissible t ≡ true = sym (admissible_alike s t alike.special_same alike.marks_same alike.mask_same) ∙ met.admitted in
      let it : worst j t.pc 1 ≡ 0 = ap (λ (p : ℕ). worst j p 1) (sym alike.pc_same) ∙ was.there in
      let gs : Good cs = claim_good s x (record { size = two.sized; admits = adm s met.admitted }) in
      let gt : Good ct = claim_good t x (record { size = two.sized_too; admits = adm t at }) in
      let hg : h ≤ sp cs r_g = subst (λ (n : ℕ). n ≤ sp cs r_g) (claim_hole s x) (hole_le cs x gs.admits) in
      let ca : Alike h cs ct = claim_alike s t h x two.sized two.sized_too alike in
      let os : sp cs r_o ≡ sp s r_o = claim_other s x r_o refl in
      let fits : worst j (sp cs r_o) (h + 1) ≡ 0 = subst (λ (o : ℕ). worst j o (h + 1) ≡ 0) (sym os) met.fits in
      call_private mc k w ss ts cs ct h (target_of_call c cs (y_in u) (z_in u)) is two (claim_words s x two.words) (claim_words t x two.words_too) gs gt hg ca met.fine fits
      fetched (target_of_call c ct (y_in u) (z_in u)) (fetched_calls c j w s u met.admitted met.fine was.there refl op)
      (fetched_calls c j w t u at met.fine it (sym (tetra_alike w s t alike.pc_same)) op
      ∙ ap (λ (n : ℕ). perform both j t (push_frame ct n (target_of_call c ct (y_in u) (z_in u))) w) (sym (hole_alike s t x alike.special_same)))
      pcs (subst (λ (o : ℕ). All (Off (Within o (h + 1))) (touched_by mc k (step_on both mc ss w (k.does fetched)) is)) (sym os) off)

-- ---- the machine of 01

pub demand3_fetched : Demand3Fetched
unfolding fetched_of step_on mmix both item_plan
demand3_fetched w s t c is ns nt ws wt op alike done pcs off =
    private_is (hole s (x_at w s)) (claim_local s (x_at w s)) (claim_local t (x_at w s)) (fetched_of w s) (fetched_of w t) is
    (fetched_private mmix mmix_caller w s t c is
    (record { there = tt; there_too = tt; put_same = λ q. refl; sized = ns; sized_too = nt; words = ws; words_too = wt }) op alike done pcs
    (run_touches_off both both_lawful mmix (Off (Within (sp s r_o) (hole s (x_at w s) + 1))) is (fetched_of w s).state (fetched_of w s).memory off))

pub demand3_fetched_wider : Demand3FetchedWider
demand3_fetched_wider w s t c is ns nt ws wt op alike done pcs off =
    demand3_fetched w s t c is ns nt ws wt op alike done pcs
    (run_wider_off both both_lawful mmix (Off (Within (sp s r_o) (hole s (x_at w s) + 1))) is (fetched_of w s).state (fetched_of w s).memory off)
