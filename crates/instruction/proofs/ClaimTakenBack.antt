-- A claim as code makes it and takes it back, over plain variables: rL alone where what is cleared is zero, and else all general registers too. What a
-- refusal leaves of the registers; then the instruction that a tetra says, with a claim and without.
use Rattle.model.proofs.Prelude.{ℕ, ◌+◌, ◌<◌, ◌^◌, ◌≤◌, Bool, false, not, true, ◌&&◌, List, inl, inr, ◌≢◌, ⊎_elim, ap, refl, sym, ◌∙◌, ◌≡◌, arith, eqb, get_or}
use Rattle.model.proofs.Prelude.{length, set, ext_get_or, set-get_or, set-set, eqb-false, over, StepLeaves, shapes_of, Windows, among, arm_of, first_branch}
use Rattle.model.proofs.Prelude.{last_branch, made, Outcome, admissible, claim_local, cleared, halted, is_marginal, r_l, Sized, sp, with_parts, with_special, claims}
use Rattle.model.proofs.Prelude.{from_three, keeps_claim, opcode_in, settled_by, step_of, tetra_plan, unruled_by, x_in, y_in, z_in, adm, claim_good, three_replies}
use Rattle.model.proofs.Prelude.{at_each, each, on, or_left, or_right, claim_admissible, instruction_claims, instruction_free, step_three, length_over}
use Rattle.model.proofs.Prelude.{lt_or_le, over_above, over_below, over_in, Any, unhalting, replies_leave, perform_meets}
use Rattle.instruction.proofs.Prelude.{State}
use Rattle.model.specs.Fetched.{settled}
use Rattle.model.proofs.FetchedLeaves.{no_trap}
use Rattle.instruction.specs.StepAnswer.{Numbered}
use Rattle.instruction.specs.FetchedArms.{claimed_of, said_by}

-- ---- a claim made

-- where what it clears is zero
zeros_stay : (l : List ℕ) (a b : ℕ) → ((k : ℕ) → a ≤ k → k < b → get_or l k 0 ≡ 0) → over (λ k. 0) a b l ≡ l
zeros_stay l a b z =
    ext_get_or 0 (over (λ k. 0) a b l) l (length_over (λ k. 0) a b l)
    (λ k n. let m : k < length l = omega (arith, length_over (λ k. 0) a b l) in
    ⊎_elim (λ lo. over_below (λ k. 0) a b l k lo m)
    (λ hi. ⊎_elim (λ q. over_in (λ k. 0) a b l k hi q m ∙ sym (z k hi q)) (λ q. over_above (λ k. 0) a b l k q m) (lt_or_le k b))
    (lt_or_le k a))

pub claim_clear : (s : State) (x : ℕ) → is_marginal s x ≡ true → ((k : ℕ) → sp s r_l ≤ k → k ≤ x → get_or s.general k 0 ≡ 0)
    → made s.general (set s.special r_l (x + 1)) s.pc s.halt s.marks s.mask ≡ claim_local s x
unfolding claim_local with_special cleared
claim_clear s x m z =
    rw m (ap (λ (g : List ℕ). made g (set s.special r_l (x + 1)) s.pc s.halt s.marks s.mask)
    (sym (zeros_stay s.general (sp s r_l) (x + 1) (λ k a b. z k a (omega arith)))))

-- a claim's special registers, with rL put back
special_back : (s : State) (x : ℕ) → set (claim_local s x).special r_l (sp s r_l) ≡ s.special
unfolding claim_local with_special cleared
special_back s x =
    on (λ (t : State). set t.special r_l (sp s r_l) ≡ s.special) (is_marginal s x)
    (λ m. set-set s.special r_l (x + 1) (sp s r_l) ∙ set-get_or s.special r_l 0)
    (λ m. set-get_or s.special r_l 0)

-- ---- what a refusal leaves

module _ (w : Windows) (c : State) (op x y z : ℕ) (n : Sized c) (a : admissible c ≡ true) (u : unruled_by (shapes_of w) ≡ 0) (b : op < 256) (k : claims op ≡ true) where
  abbrev o : Outcome State Windows
  o = step_of w c op x y z

  l : StepLeaves w c op x y z o
  l = replies_leave.by_step w c op x y z n

  no_twenty : o.reply ≢ 20
  no_twenty =
      rw (step_three w c op x y z a u)
      (perform_meets w c Any (λ r t vs. r ≢ 20) (λ o. o.reply ≢ 20) (λ e. omega arith) (λ r t a vs h. h) (λ a n. tt) (from_three c (arm_of op) op x y z)
      (three_replies (λ r. r ≢ 20) (λ e. omega arith) (λ n p q e. omega arith) (λ n p e. unhalting n (inr (omega arith, omega arith)) p) (λ e. omega arith) c (arm_of op) op x y z
      (λ m. absurd (no_trap op b k m))))

  -- an instruction that claims, and is refused, leaves its registers
  registers_left : o.reply ≢ 0 → o.reply ≢ 19 → with_parts o.state c.general c.special ≡ o.state
  registers_left p q = ⊎_elim low (⊎_elim (λ e. same (l.early (inr e)).0) (λ e. halts (l.halting (inr e)).0)) l.most
    where
      same : o.state ≡ c → with_parts o.state c.general c.special ≡ o.state
      same e = rw e

      halts : o.state ≡ halted c → with_parts o.state c.general c.special ≡ o.state
      halts e = rw e (unfold halted in refl)

      low : o.reply ≤ 20 → with_parts o.state c.general c.special ≡ o.state
      low m =
          ⊎_elim (λ e. same (l.early (inl (let f : o.reply ≡ 0 → ⊥ = p in (omega arith, omega arith)))).0)
          (λ e. ⊎_elim (λ f. same (l.lost (omega arith)).0)
          (λ f. let g : o.reply ≡ 19 → ⊥ = q in let h : o.reply ≡ 20 → ⊥ = no_twenty in halts (l.halting (inl (omega arith, omega arith))).0)
          (lt_or_le o.reply 7))
          (lt_or_le o.reply 6)

  -- as code has it: the reply is r
  module _ (r : ℕ) (t : State) (v : Windows) (h : Numbered o r t v) where
    refused : keeps_claim (r) ≡ false → (o.reply ≢ 0) × (o.reply ≢ 19)
    unfolding keeps_claim
    refused e = (λ q. eqb-false _ _ (or_left (eqb (r) 0) _ e) (h.reply_is ∙ q), λ q. eqb-false _ _ (or_right (eqb (r) 0) _ e) (h.reply_is ∙ q))

    pub general_left : keeps_claim (r) ≡ false → t.general ≡ c.general
    general_left e = ap (λ (s : State). s.general) (h.state_is ∙ sym (registers_left (refused e).0 (refused e).1))

    pub special_left : keeps_claim (r) ≡ false → t.special ≡ c.special
    special_left e = ap (λ (s : State). s.special) (h.state_is ∙ sym (registers_left (refused e).0 (refused e).1))

    -- the claim is kept
    pub keeps : (s : State) → keeps_claim (r) ≡ true → Numbered (settled s o) r t v
    unfolding settled_by
    keeps s e = record {
      reply_is = h.reply_is;
      state_is = h.state_is ∙ rw (ap keeps_claim (sym h.reply_is) ∙ e);
      window_is = h.window_is;
    }

    -- it is taken back
    pub takes_back : (s : State) → keeps_claim (r) ≡ false → (g m : List ℕ) → g ≡ s.general → m ≡ s.special
        → Numbered (settled s o) r (made g m t.pc t.halt t.marks t.mask) v
    unfolding settled_by
    takes_back s e g m p q = record {
      reply_is = h.reply_is;
      state_is = ap (λ (i : List ℕ). made i m t.pc t.halt t.marks t.mask) p ∙ ap (λ (i : List ℕ). made s.general i t.pc t.halt t.marks t.mask) q
          ∙ ap (λ (u : State). with_parts u s.general s.special) h.state_is ∙ rw (ap keeps_claim (sym h.reply_is) ∙ e);
      window_is = h.window_is;
    }

-- ---- the two claims in code, c the state that the arm works on

module _ (w : Windows) (s c : State) (op x y z : ℕ) (n : Sized s) (a : admissible s ≡ true) (u : unruled_by (shapes_of w) ≡ 0) (b : op < 256) (k : claims op ≡ true)
    (e : c ≡ claim_local s x) where
  pub claim_judged : admissible c ≡ true
  claim_judged = ap admissible e ∙ claim_admissible s x n a

  m : Sized (claim_local s x)
  m = (claim_good s x (record { size = n; admits = adm s a })).size

  module _ (r : ℕ) (t : State) (v : Windows) (h : Numbered (step_of w c op x y z) r t v) where
    claimed_whole : Numbered (step_of w (claim_local s x) op x y z) r t v
    claimed_whole = rw e at h

    pub claim_kept : keeps_claim (r) ≡ true → Numbered (claimed_of w s op x y z) r t v
    claim_kept q = keeps w (claim_local s x) op x y z m (claim_admissible s x n a) u b k r t v claimed_whole s q

    pub claim_gone : keeps_claim (r) ≡ false → Numbered (claimed_of w s op x y z) r (made s.general (set t.special r_l (sp s r_l)) t.pc t.halt t.marks t.mask) v
    claim_gone q =
        takes_back w (claim_local s x) op x y z m (claim_admissible s x n a) u b k r t v claimed_whole s q s.general (set t.special r_l (sp s r_l)) refl
        (ap (λ (i : List ℕ). set i r_l (sp s r_l)) (special_left w (claim_local s x) op x y z m (claim_admissible s x n a) u b k r t v claimed_whole q) ∙ special_back s x)

    -- where the general registers were left alone
    pub claim_gone_clear : keeps_claim (r) ≡ false → c.general ≡ s.general
        → Numbered (claimed_of w s op x y z) r (made t.general (set t.special r_l (sp s r_l)) t.pc t.halt t.marks t.mask) v
    claim_gone_clear q f =
        takes_back w (claim_local s x) op x y z m (claim_admissible s x n a) u b k r t v claimed_whole s q t.general (set t.special r_l (sp s r_l))
        (general_left w (claim_local s x) op x y z m (claim_admissible s x n a) u b k r t v claimed_whole q ∙ sym (ap (λ (i : State). i.general) e) ∙ f)
        (ap (λ (i : List ℕ). set i r_l (sp s r_l)) (special_left w (claim_local s x) op x y z m (claim_admissible s x n a) u b k r t v claimed_whole q) ∙ special_back s x)

-- ---- the instruction that a tetra says

-- a branch claims nothing
branches_free : each 256 (λ op. not (among first_branch last_branch op && claims op)) ≡ true
unfolding each claims
branches_free = refl

branch_free : (op : ℕ) → op < 256 → among first_branch last_branch op ≡ true → claims op ≡ false
branch_free op l h = go (among first_branch last_branch op) (claims op) h (at_each 256 (λ k. not (among first_branch last_branch k && claims k)) branches_free op l)
  where
    go : (p q : Bool) → p ≡ true → not (p && q) ≡ true → q ≡ false
    go true true e f = sym f
    go true false e f = refl
    go false q e f = (cc)

module _ (w : Windows) (s : State) (n : Sized s) (a : admissible s ≡ true) (u : unruled_by (shapes_of w) ≡ 0) (tetra : ℕ) (b : tetra < 2 ^ 32) (r : ℕ) (t : State) (v : Windows) where
  pub tetra_claims : claims (opcode_in tetra) ≡ true → Numbered (claimed_of w s (opcode_in tetra) (x_in tetra) (y_in tetra) (z_in tetra)) r t v
      → Numbered (said_by w s tetra) r t v
  unfolding tetra_plan
  tetra_claims k h =
      rw (
        instruction_claims w s (opcode_in tetra) (x_in tetra) (y_in tetra) (z_in tetra) k,
        ← step_three w (claim_local s (x_in tetra)) (opcode_in tetra) (x_in tetra) (y_in tetra) (z_in tetra) (claim_admissible s (x_in tetra) n a) u,
      ) h

  -- an opcode that claims nothing, or a claim that changes nothing
  pub tetra_plain : (is_marginal s (x_in tetra) && claims (opcode_in tetra)) ≡ false → Numbered (step_of w s (opcode_in tetra) (x_in tetra) (y_in tetra) (z_in tetra)) r t v
      → Numbered (said_by w s tetra) r t v
  tetra_plain e h = go (claims (opcode_in tetra)) refl
    where
      local : (p q : Bool) → (p && q) ≡ false → q ≡ true → p ≡ false
      local true q f g = sym g ∙ f
      local false q f g = refl

      go : (p : Bool) → claims (opcode_in tetra) ≡ p → Numbered (said_by w s tetra) r t v
      go false k =
          unfold tetra_plan in (rw (instruction_free w s (opcode_in tetra) (x_in tetra) (y_in tetra) (z_in tetra) k, ← step_three w s (opcode_in tetra) (x_in tetra) (y_in tetra) (z_in tetra) a u) h)
      go true k = tetra_claims k (rw same (settles (keeps_claim (r)) refl))
        where
          same : claim_local s (x_in tetra) ≡ s
          same = unfold claim_local in (rw (local (is_marginal s (x_in tetra)) (claims (opcode_in tetra)) e k))

          settles : (q : Bool) → keeps_claim (r) ≡ q → Numbered (settled s (step_of w s (opcode_in tetra) (x_in tetra) (y_in tetra) (z_in tetra))) r t v
          settles true f = keeps w s (opcode_in tetra) (x_in tetra) (y_in tetra) (z_in tetra) n a u (omega arith) k r t v h s f
          settles false f =
              takes_back w s (opcode_in tetra) (x_in tetra) (y_in tetra) (z_in tetra) n a u (omega arith) k r t v h s f t.general t.special
              (general_left w s (opcode_in tetra) (x_in tetra) (y_in tetra) (z_in tetra) n a u (omega arith) k r t v h f)
              (special_left w s (opcode_in tetra) (x_in tetra) (y_in tetra) (z_in tetra) n a u (omega arith) k r t v h f)

  pub tetra_branch : among first_branch last_branch (opcode_in tetra) ≡ true → Numbered (step_of w s (opcode_in tetra) (x_in tetra) (y_in tetra) (z_in tetra)) r t v → Numbered (said_by w s tetra) r t v
  tetra_branch e h = tetra_plain (none (is_marginal s (x_in tetra)) (claims (opcode_in tetra)) (branch_free (opcode_in tetra) (omega arith) e)) h
    where
      none : (p q : Bool) → q ≡ false → (p && q) ≡ false
      none true q f = f
      none false q f = refl
