-- The fetched instruction by the step: 1, 2, 22 and 24 in order; then the step on the claimed state, and the claim taken back.
use Rattle.model.proofs.Logic.{max, ℕ, ◌<◌, ◌^◌, ◌≤◌, Bool, cond, false, true, ◌≢◌, ap, refl, sym, ◌∙◌, ◌≡◌, arith, eqb, length, eqb-false, eqb-true}
use Rattle.model.proofs.Logic.{ne_eqb}
use Rattle.model.specs.Registers.{with_parts, Sized, admissible, halted, with_special, cleared, claim_local, is_marginal}
use Rattle.model.specs.Memory.{Windows, Shapes, shapes_of, ruled, shares, inside, both}
use Rattle.model.specs.Plan.{Plan, answer, read, Outcome, perform, worst, clear, named, looks}
use Rattle.model.specs.Opcodes.{tetra, arm_of}
use Rattle.model.specs.NoMemory.{tell}
use Rattle.model.specs.LoadStore.{bytes_in, operand_in}
use Rattle.model.specs.Step.{refusal_of, unruled_by, refusing, from_three, step_plan, step_of, claims, opcode_in, x_in, y_in, z_in, tetra_at, keeps_claim, settled_by, taken_back, claimed_by, instruction_plan, tetra_plan, fetched_plan, fetched_of, tetra_of, claimed_at}
use Rattle.model.specs.Numbers.{Lost}
use Rattle.model.specs.Order.{Passes, refused_by, FetchedInOrder}
use Rattle.model.specs.Invariants.{InstructionFits}
use Rattle.model.specs.Fetched.{step_said, settled, FetchedIsStep}
use Rattle.model.specs.declared.State.{State}
use Rattle.model.proofs.Bools.{on, on_both}
use Rattle.model.proofs.LoadStore.{operand_small}
use Rattle.model.proofs.AdmissibleKept.{adm, adm_of, claim_good}
use Rattle.model.proofs.ItemInvariant.{Any}
use Rattle.model.proofs.ArmAnswers.{Answers}
use Rattle.model.proofs.StepAnswers.{refusal_most, worst_six}
use Rattle.model.proofs.ArmReplies.{three_replies}
use Rattle.model.proofs.Entry.{perform_on, said, guarded_one, guarded_unruled, guarded_open, none_unruled, unruled_two, unruled_shared}

-- ---- the bytes of a tetra are bytes

pub tetra_fits : (s : State) (v : ℕ) → InstructionFits (opcode_in (tetra_at s v)) (x_in (tetra_at s v)) (y_in (tetra_at s v)) (z_in (tetra_at s v))
unfolding tetra_at
tetra_fits s v =
    let b : operand_in tetra s.pc v < 256 ^ bytes_in tetra = operand_small tetra s.pc v in
    let c : operand_in tetra s.pc v < 2 ^ 32 = unfold bytes_in in b in
    record { op_byte = omega arith; x_byte = omega arith; y_byte = omega arith; z_byte = omega arith }

-- ---- the claim taken back

-- a claim leaves all but the registers
pub claim_back : (s : State) (x : ℕ) → with_parts (claim_local s x) s.general s.special ≡ s
unfolding claim_local with_special cleared
claim_back s x = on (λ (t : State). with_parts t s.general s.special ≡ s) (is_marginal s x) (λ e. refl) (λ e. refl)

pub claim_halted : (s : State) (x : ℕ) → with_parts (halted (claim_local s x)) s.general s.special ≡ halted s
unfolding halted claim_local with_special cleared
claim_halted s x = on (λ (t : State). with_parts (halted t) s.general s.special ≡ halted s) (is_marginal s x) (λ e. refl) (λ e. refl)

-- refused by a number that is neither 0 nor 19
pub settled_refused : (s t : State) (r : ℕ) → r ≢ 0 → r ≢ 19 → settled_by s r t ≡ with_parts t s.general s.special
unfolding settled_by keeps_claim
settled_refused s t r a b = rw (ne_eqb r 0 a, ne_eqb r 19 b)

pub settled_done : (s : State) (o : Outcome State Windows) → o.reply ≡ 0 → settled s o ≡ o
unfolding settled_by
settled_done s o e = λ i. record { reply = o.reply; state = kept i; memory = o.memory }
  where
    kept : cond (keeps_claim o.reply) o.state (with_parts o.state s.general s.special) ≡ o.state
    kept = unfold keeps_claim in (rw e)

pub settled_nineteen : (s : State) (o : Outcome State Windows) → o.reply ≡ 19 → settled s o ≡ o
unfolding settled_by
settled_nineteen s o e = λ i. record { reply = o.reply; state = kept i; memory = o.memory }
  where
    kept : cond (keeps_claim o.reply) o.state (with_parts o.state s.general s.special) ≡ o.state
    kept = unfold keeps_claim in (rw e)

module _ (w : Windows) (s : State) (x : ℕ) where
  lost_back : (n : ℕ) → Lost n → record { reply = n; state = s; memory = w } ≡ settled s (record { reply = n; state = claim_local s x; memory = w })
  lost_back n e = λ i. record { reply = n; state = back i; memory = w }
    where
      back : s ≡ settled_by s n (claim_local s x)
      back = sym (settled_refused s (claim_local s x) n (λ q. omega arith) (λ q. omega arith) ∙ claim_back s x)

  -- a plan on the claimed state
  took : (p : Plan State) → Answers Any (λ r t vs. Unit {0}) p → perform_on w s (taken_back s p) ≡ settled s (perform_on w (claim_local s x) p)
  unfolding perform taken_back Answers
  took (answer r t a vs) h =
      on_both (λ (o q : Outcome State Windows). o ≡ settled s q) (clear (refusing (shapes_of w)) a (length vs)) (λ e. refl)
      (λ e. lost_back (worst (refusing (shapes_of w)) a (length vs)) (worst_six (shapes_of w) (length vs) a e))
  took (read q a n k) h =
      on_both (λ (o q : Outcome State Windows). o ≡ settled s q) (clear (refusing (shapes_of w)) a n) (λ e. took (k (looks both w a n)) (h.1 (looks both w a n) tt))
      (λ e. lost_back (named q (worst (refusing (shapes_of w)) a n)) (ap (named q) (worst_six (shapes_of w) n a e) ∙ (unfold named in h.0)))

-- from 3 on, and the step
pub instruction_claims : (w : Windows) (s : State) (op x y z : ℕ) → claims op ≡ true
    → perform_on w s (instruction_plan s op x y z) ≡ settled s (perform_on w (claim_local s x) (from_three (claim_local s x) (arm_of op) op x y z))
unfolding instruction_plan
instruction_claims w s op x y z e =
    rw e (took w s x (from_three (claim_local s x) (arm_of op) op x y z)
    (three_replies (λ r. Unit {0}) tt (λ n a b. tt) (λ n a. tt) tt (claim_local s x) (arm_of op) op x y z (λ m. tt)))

pub instruction_free : (w : Windows) (s : State) (op x y z : ℕ) → claims op ≡ false
    → perform_on w s (instruction_plan s op x y z) ≡ perform_on w s (from_three s (arm_of op) op x y z)
unfolding instruction_plan
instruction_free w s op x y z e = rw e

pub step_three : (w : Windows) (s : State) (op x y z : ℕ) → admissible s ≡ true → unruled_by (shapes_of w) ≡ 0
    → step_of w s op x y z ≡ perform_on w s (from_three s (arm_of op) op x y z)
unfolding step_of step_plan
step_three w s op x y z a r = guarded_open w s s (from_three s (arm_of op) op x y z) a r

pub claim_admissible : (s : State) (x : ℕ) → Sized s → admissible s ≡ true → admissible (claim_local s x) ≡ true
claim_admissible s x n a = adm_of (claim_local s x) (claim_good s x (record { size = n; admits = adm s a })).admits

-- ---- 1, 2, 22, 24

pub fetched_inadmissible : (w : Windows) (s : State) → admissible s ≡ false → fetched_of w s ≡ refused_by 1 w s
unfolding fetched_of fetched_plan
fetched_inadmissible w s a = guarded_one w s s _ a

pub fetched_unruled : (w : Windows) (s : State) → admissible s ≡ true → unruled_by (shapes_of w) ≢ 0 → fetched_of w s ≡ refused_by (unruled_by (shapes_of w)) w s
unfolding fetched_of fetched_plan
fetched_unruled w s a n = guarded_unruled w s s _ a n

-- a fetch of one octabyte
fetch_judged : (w : Shapes) (a : ℕ) → worst (refusing w) a 1 ≡ cond (inside w a) 0 6
unfolding worst refusing
fetch_judged w a = go (inside w a)
  where
    go : (b : Bool) → max (cond b 0 6) 0 ≡ cond b 0 6
    go true = refl
    go false = refl

pub fetched_missing : (w : Windows) (s : State) → admissible s ≡ true → unruled_by (shapes_of w) ≡ 0 → inside (shapes_of w) s.pc ≡ false → fetched_of w s ≡ refused_by 24 w s
unfolding fetched_of fetched_plan
fetched_missing w s a r e = guarded_open w s s _ a r ∙ (unfold perform named in (rw (fetch_judged (shapes_of w) s.pc, e)))

pub fetched_there : (w : Windows) (s : State) → admissible s ≡ true → unruled_by (shapes_of w) ≡ 0 → inside (shapes_of w) s.pc ≡ true
    → fetched_of w s ≡ perform_on w s (tetra_plan s (tetra_of w s))
unfolding fetched_of fetched_plan
fetched_there w s a r e = guarded_open w s s _ a r ∙ (unfold perform looks in (rw (fetch_judged (shapes_of w) s.pc, e)))

-- what holds of the four refusals and of the instruction holds of the outcome
pub fetched_by : (Q : Outcome State Windows → Type 0) (w : Windows) (s : State)
    → (admissible s ≡ false → Q (refused_by 1 w s))
    → (admissible s ≡ true → unruled_by (shapes_of w) ≢ 0 → Q (refused_by (unruled_by (shapes_of w)) w s))
    → (admissible s ≡ true → unruled_by (shapes_of w) ≡ 0 → inside (shapes_of w) s.pc ≡ false → Q (refused_by 24 w s))
    → (admissible s ≡ true → unruled_by (shapes_of w) ≡ 0 → inside (shapes_of w) s.pc ≡ true → Q (fetched_of w s))
    → Q (fetched_of w s)
fetched_by Q w s one unruled missing there = go (admissible s) refl
  where
    within : (b : Bool) → inside (shapes_of w) s.pc ≡ b → admissible s ≡ true → unruled_by (shapes_of w) ≡ 0 → Q (fetched_of w s)
    within true i a r = there a r i
    within false i a r = rw (fetched_missing w s a r i) (missing a r i)

    rules : (b : Bool) → eqb (unruled_by (shapes_of w)) 0 ≡ b → admissible s ≡ true → Q (fetched_of w s)
    rules true e a = within (inside (shapes_of w) s.pc) refl a (eqb-true _ _ e)
    rules false e a = rw (fetched_unruled w s a (eqb-false _ _ e)) (unruled a (eqb-false _ _ e))

    go : (b : Bool) → admissible s ≡ b → Q (fetched_of w s)
    go true a = rules (eqb (unruled_by (shapes_of w)) 0) refl a
    go false a = rw (fetched_inadmissible w s a) (one a)

-- ---- by the step

pub passing : (w : Windows) (s : State) → Passes w s → unruled_by (shapes_of w) ≡ 0
passing w s h = none_unruled (shapes_of w) h.windowed h.apart

module _ (w : Windows) (s : State) (a : admissible s ≡ true) (r : unruled_by (shapes_of w) ≡ 0) (i : inside (shapes_of w) s.pc ≡ true) where
  pub fetched_claims : Sized s → claims (opcode_in (tetra_of w s)) ≡ true → fetched_of w s ≡ settled s (step_said w (tetra_of w s) (claim_local s (x_in (tetra_of w s))))
  unfolding tetra_plan
  fetched_claims n c =
      let t : ℕ = tetra_of w s in
      fetched_there w s a r i ∙ instruction_claims w s (opcode_in t) (x_in t) (y_in t) (z_in t) c
      ∙ ap (settled s) (sym (step_three w (claim_local s (x_in t)) (opcode_in t) (x_in t) (y_in t) (z_in t) (claim_admissible s (x_in t) n a) r))

  pub fetched_free : claims (opcode_in (tetra_of w s)) ≡ false → fetched_of w s ≡ step_said w (tetra_of w s) s
  unfolding tetra_plan
  fetched_free c =
      let t : ℕ = tetra_of w s in
      fetched_there w s a r i ∙ instruction_free w s (opcode_in t) (x_in t) (y_in t) (z_in t) c
      ∙ sym (step_three w s (opcode_in t) (x_in t) (y_in t) (z_in t) a r)

  pub fetched_done : Sized s → (fetched_of w s).reply ≡ 0 → fetched_of w s ≡ step_said w (tetra_of w s) (claimed_at w s)
  unfolding claimed_by
  fetched_done n d = go (claims (opcode_in (tetra_of w s))) refl
    where
      go : (b : Bool) → claims (opcode_in (tetra_of w s)) ≡ b → fetched_of w s ≡ step_said w (tetra_of w s) (cond b (claim_local s (x_in (tetra_of w s))) s)
      go true c = let f : fetched_of w s ≡ settled s (step_said w (tetra_of w s) (claim_local s (x_in (tetra_of w s)))) = fetched_claims n c in
          f ∙ settled_done s _ (sym (ap (λ (o : Outcome State Windows). o.reply) f) ∙ d)
      go false c = fetched_free c

-- one that is done met none of 1, 2, 22 and 24
pub record WasFetched (w : Windows) (s : State) : Type 0 where
  pub admitted : admissible s ≡ true
  pub fine : unruled_by (shapes_of w) ≡ 0
  pub there : inside (shapes_of w) s.pc ≡ true

pub done_fetched : (w : Windows) (s : State) → (fetched_of w s).reply ≡ 0 → WasFetched w s
done_fetched w s = fetched_by (λ o. o.reply ≡ 0 → WasFetched w s) w s
    (λ a d. absurd (omega arith)) (λ a n d. absurd (n d)) (λ a r i d. absurd (omega arith)) (λ a r i d. record { admitted = a; fine = r; there = i })

pub fetched_is_step : FetchedIsStep
fetched_is_step = record {
  by_step = λ w s n d. let f : WasFetched w s = done_fetched w s d in fetched_done w s f.admitted f.fine f.there n d;
  claiming = λ w s n f c. fetched_claims w s f.passes.admitted (passing w s f.passes) f.there n c;
  unclaiming = λ w s f c. fetched_free w s f.passes.admitted (passing w s f.passes) f.there c;
}

-- ---- in order

-- 3 to 5, with a claim and without
three_refused : (w : Windows) (s : State) (op x y z : ℕ) → refusal_of (arm_of op) x y z ≢ 0 → perform_on w s (from_three s (arm_of op) op x y z) ≡ refused_by (refusal_of (arm_of op) x y z) w s
unfolding from_three tell
three_refused w s op x y z n = rw (ne_eqb (refusal_of (arm_of op) x y z) 0 n) (said w s s (refusal_of (arm_of op) x y z))

instruction_refused : (w : Windows) (s : State) (op x y z : ℕ) → refusal_of (arm_of op) x y z ≢ 0
    → perform_on w s (instruction_plan s op x y z) ≡ refused_by (refusal_of (arm_of op) x y z) w s
instruction_refused w s op x y z n = go (claims op) refl
  where
    m : refusal_of (arm_of op) x y z ≤ 5
    m = refusal_most (arm_of op) x y z

    back : settled_by s (refusal_of (arm_of op) x y z) (claim_local s x) ≡ s
    back = settled_refused s (claim_local s x) (refusal_of (arm_of op) x y z) n (λ q. omega (arith, m)) ∙ claim_back s x

    go : (b : Bool) → claims op ≡ b → perform_on w s (instruction_plan s op x y z) ≡ refused_by (refusal_of (arm_of op) x y z) w s
    go true e =
        instruction_claims w s op x y z e ∙ ap (settled s) (three_refused w (claim_local s x) op x y z n)
        ∙ (λ i. record { reply = refusal_of (arm_of op) x y z; state = back i; memory = w })
    go false e = instruction_free w s op x y z e ∙ three_refused w s op x y z n

two_next : (w : Windows) (s : State) → admissible s ≡ true → ruled (shapes_of w) ≡ false → fetched_of w s ≡ refused_by 2 w s
two_next w s a r =
    let e : unruled_by (shapes_of w) ≡ 2 = unruled_two (shapes_of w) r in
    fetched_unruled w s a (λ q. omega arith) ∙ ap (λ (n : ℕ). refused_by n w s) e

twenty_two : (w : Windows) (s : State) → admissible s ≡ true → ruled (shapes_of w) ≡ true → shares (shapes_of w) ≡ true → fetched_of w s ≡ refused_by 22 w s
twenty_two w s a r n =
    let e : unruled_by (shapes_of w) ≡ 22 = unruled_shared (shapes_of w) r n in
    fetched_unruled w s a (λ q. omega arith) ∙ ap (λ (n : ℕ). refused_by n w s) e

pub fetched_in_order : FetchedInOrder
unfolding tetra_plan
fetched_in_order = record {
  one_first = fetched_inadmissible;
  two_next = two_next;
  twenty_two = twenty_two;
  twenty_four = λ w s h i. fetched_missing w s h.admitted (passing w s h) i;
  three_to_five = λ w s h i n. fetched_there w s h.admitted (passing w s h) i ∙ instruction_refused w s _ _ _ _ n;
}
