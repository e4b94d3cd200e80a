-- Theorem 4: the needs of every arm, by equations; bytes that an arm does not use.
use Rattle.model.proofs.Logic.{ℕ, ◌+◌, ◌-◌, Bool, cond, false, true, ◌&&◌, List, [], ◌++◌, ◌∷◌, ap, refl, sym, ◌∙◌, ◌≡◌, arith, eqb, ltb, get_or}
use Rattle.model.specs.Fill.{tab}
use Rattle.model.specs.Registers.{r_o, r_g, r_l, sp, admissible, goes, next, claim_local}
use Rattle.model.specs.Memory.{Windows, shapes_of, inside, both}
use Rattle.model.specs.Plan.{Plan, answer, read, Outcome, perform, ups, worst, clear, missing, looks, needs}
use Rattle.model.specs.Opcodes.{forward, backward, register, immediate, arm_of}
use Rattle.model.specs.NoMemory.{Said, say, refuse, tell}
use Rattle.model.specs.Control.{near, sum_of}
use Rattle.model.specs.Frames.{hole, framed, pushed, push_frame}
use Rattle.model.specs.Contexts.{extent, saved, saved_state, save_context}
use Rattle.model.specs.Lists.{needs_of}
use Rattle.model.specs.Step.{refusal_of, unruled_by, judged, refusing, plan_of, guarded, from_three, step_plan, step_of, step_needs, claims, opcode_in, x_in, y_in, z_in, tetra_at, taken_back, claimed_by, instruction_plan, tetra_plan, fetched_plan, tetra_of, claimed_at, fetched_needs, exception_of, item_plan, mmix}
use Rattle.model.specs.StepNeeds.{arm_needs, tetra_needs, NeedsAre, BytesUnused}
use Rattle.model.specs.declared.State.{State}
use Rattle.model.proofs.Bools.{on, on_both}
use Rattle.model.proofs.Runs.{length_tab}
use Rattle.model.proofs.StepAnswers.{step_judged, worst_six}
use Rattle.model.proofs.Entry.{step_open, step_done}
use Rattle.model.proofs.ArmNeeds.{by, tell_none, by_cond, run_one}
use Rattle.model.proofs.ArmLaws.{arm_needs_law}

step_needs_law : (w : Windows) (s : State) (op x y z : ℕ)
    → step_needs w s op x y z ≡ cond (eqb (judged s (shapes_of w) (arm_of op) x y z) 0) (arm_needs w s (arm_of op) x y z) []
unfolding step_needs
step_needs_law w s op x y z =
    ap (λ (p : Plan State). needs both (refusing (shapes_of w)) p w) (step_judged s (shapes_of w) op x y z)
    ∙ by_cond w (eqb (judged s (shapes_of w) (arm_of op) x y z) 0) (plan_of s (arm_of op) op x y z) (tell (say (judged s (shapes_of w) (arm_of op) x y z) s))
    ∙ rw (arm_needs_law w s (arm_of op) op x y z, tell_none w (say (judged s (shapes_of w) (arm_of op) x y z) s))

-- ---- a fetched instruction

-- taking a claim back needs nothing
back_needs : (w : Windows) (s : State) (p : Plan State) → by w (taken_back s p) ≡ by w p
unfolding needs taken_back
back_needs w s (answer r t a vs) = refl
back_needs w s (read q a n k) = ap (λ (l : List ℕ). cond (clear (refusing (shapes_of w)) a n) (ups a n ++ l) (missing (refusing (shapes_of w)) a n)) (back_needs w s (k (looks both w a n)))

three_needs : (w : Windows) (s : State) (op x y z : ℕ) → by w (from_three s (arm_of op) op x y z) ≡ cond (eqb (refusal_of (arm_of op) x y z) 0) (arm_needs w s (arm_of op) x y z) []
unfolding from_three
three_needs w s op x y z =
    by_cond w (eqb (refusal_of (arm_of op) x y z) 0) (plan_of s (arm_of op) op x y z) (tell (say (refusal_of (arm_of op) x y z) s))
    ∙ rw (arm_needs_law w s (arm_of op) op x y z, tell_none w (say (refusal_of (arm_of op) x y z) s))

tetra_needs_law : (w : Windows) (s : State) (t : ℕ) → by w (tetra_plan s t) ≡ tetra_needs w t (claimed_by s (opcode_in t) (x_in t))
unfolding tetra_plan instruction_plan tetra_needs claimed_by
tetra_needs_law w s t = go (claims (opcode_in t))
  where
    go : (b : Bool)
        → by w (cond b (taken_back s (from_three (claim_local s (x_in t)) (arm_of (opcode_in t)) (opcode_in t) (x_in t) (y_in t) (z_in t))) (from_three s (arm_of (opcode_in t)) (opcode_in t) (x_in t) (y_in t) (z_in t)))
        ≡ cond (eqb (refusal_of (arm_of (opcode_in t)) (x_in t) (y_in t) (z_in t)) 0) (arm_needs w (cond b (claim_local s (x_in t)) s) (arm_of (opcode_in t)) (x_in t) (y_in t) (z_in t)) []
    go true = back_needs w s _ ∙ three_needs w (claim_local s (x_in t)) (opcode_in t) (x_in t) (y_in t) (z_in t)
    go false = three_needs w s (opcode_in t) (x_in t) (y_in t) (z_in t)

fetched_needs_law : (w : Windows) (s : State)
    → fetched_needs w s ≡ cond (admissible s && eqb (unruled_by (shapes_of w)) 0) (s.pc ∷ cond (inside (shapes_of w) s.pc) (tetra_needs w (tetra_of w s) (claimed_at w s)) []) []
unfolding fetched_needs fetched_plan guarded
fetched_needs_law w s = go (admissible s) (eqb (unruled_by (shapes_of w)) 0)
  where
    fetches : by w (read 24 s.pc 1 (λ v. tetra_plan s (tetra_at s (get_or v 0 0)))) ≡ s.pc ∷ cond (inside (shapes_of w) s.pc) (tetra_needs w (tetra_of w s) (claimed_at w s)) []
    fetches = unfold needs looks in
        (run_one w s.pc (by w (tetra_plan s (tetra_of w s)))
        ∙ on_both (λ (k l : List ℕ). k ≡ l) (inside (shapes_of w) s.pc) (λ e. ap (λ (l : List ℕ). s.pc ∷ l) (tetra_needs_law w s (tetra_of w s))) (λ e. refl)
        ∙ conses (inside (shapes_of w) s.pc))
      where
        conses : (b : Bool) → cond b (s.pc ∷ tetra_needs w (tetra_of w s) (claimed_at w s)) (s.pc ∷ []) ≡ s.pc ∷ cond b (tetra_needs w (tetra_of w s) (claimed_at w s)) []
        conses true = refl
        conses false = refl

    none_needed : (n : ℕ) → by w (answer n s 0 []) ≡ []
    none_needed n = unfold needs worst ups in refl

    go : (a r : Bool) → by w (cond a (cond r (read 24 s.pc 1 (λ v. tetra_plan s (tetra_at s (get_or v 0 0)))) (answer (unruled_by (shapes_of w)) s 0 [])) (answer 1 s 0 []))
        ≡ cond (a && r) (s.pc ∷ cond (inside (shapes_of w) s.pc) (tetra_needs w (tetra_of w s) (claimed_at w s)) []) []
    go true true = fetches
    go true false = none_needed (unruled_by (shapes_of w))
    go false r = none_needed 1

-- a plan that stores and is done: its run passed
stored_done : (w : Windows) (s t : State) (a n : ℕ) (f : ℕ → ℕ) → (perform both (refusing (shapes_of w)) s (answer 0 t a (tab 0 n f)) w).reply ≡ 0
    → needs both (refusing (shapes_of w)) (answer 0 t a (tab 0 n f)) w ≡ ups a n
unfolding perform needs
stored_done w s t a n f =
    rw (length_tab n 0 f) (on_both {A = Outcome State Windows} (λ o xs. o.reply ≡ 0 → xs ≡ ups a n) (clear (refusing (shapes_of w)) a n)
    (λ e d. refl) (λ e d. absurd (let z : worst (refusing (shapes_of w)) a n ≡ 6 = worst_six (shapes_of w) n a e in omega arith)))

-- at the entry, for an arm that does nothing but store
entry_stored : (w : Windows) (s t : State) (op x y z a n : ℕ) (f : ℕ → ℕ) → refusal_of (arm_of op) x y z ≡ 0
    → (admissible s ≡ true → (step_of w s op x y z).reply ≡ 0 → plan_of s (arm_of op) op x y z ≡ answer 0 t a (tab 0 n f))
    → (step_of w s op x y z).reply ≡ 0 → step_needs w s op x y z ≡ ups a n
unfolding step_needs step_plan guarded from_three
entry_stored w s t op x y z a n f e p d =
    let j : (admissible s ≡ true) × (unruled_by (shapes_of w) ≡ 0) = step_done w s op x y z d in
    let q : plan_of s (arm_of op) op x y z ≡ answer 0 t a (tab 0 n f) = p j.0 d in
    rw (j.0, j.1, e, q) (stored_done w s t a n f
    (ap (λ (k : Plan State). (perform both (refusing (shapes_of w)) s k w).reply) (sym q) ∙ sym (ap (λ (o : Outcome State Windows). o.reply) (step_open w s op x y z j.0 j.1 e)) ∙ d))

-- the four calls have one plan
push_done : (w : Windows) (s : State) (op x y z t : ℕ) → refusal_of (arm_of op) x y z ≡ 0 → plan_of s (arm_of op) op x y z ≡ push_frame s (hole s x) t
    → (step_of w s op x y z).reply ≡ 0 → step_needs w s op x y z ≡ ups (sp s r_o) (hole s x + 1)
unfolding push_frame
push_done w s op x y z t e p d = entry_stored w s (goes (pushed s (hole s x)) t) op x y z (sp s r_o) _ (framed s (hole s x)) e (λ a b. p) d

-- a SAVE that is done was not refused by 13
pub save_global : (w : Windows) (s : State) (x : ℕ) → (perform both (refusing (shapes_of w)) s (save_context s x) w).reply ≡ 0
    → save_context s x ≡ answer 0 (next (saved_state s x)) (sp s r_o) (tab 0 (extent s) (saved s))
unfolding save_context
save_global w s x =
    on (λ (p : Plan State). (perform both (refusing (shapes_of w)) s p w).reply ≡ 0 → p ≡ answer 0 (next (saved_state s x)) (sp s r_o) (tab 0 (extent s) (saved s))) (ltb x (sp s r_g))
    (λ e d. absurd (let z : ◌≡◌ {A = ℕ} 13 0 = sym (told w s (refuse 13 s)) ∙ d in omega arith)) (λ e d. refl)
  where
    told : (w : Windows) (s : State) (d : Said) → (perform both (refusing (shapes_of w)) s (tell d) w).reply ≡ d.reply
    told w s d = unfold tell perform worst in refl

save_done : (w : Windows) (s : State) (x y z : ℕ) → (step_of w s 0xFA x y z).reply ≡ 0 → step_needs w s 0xFA x y z ≡ ups (sp s r_o) (sp s r_l + 270 - sp s r_g)
unfolding plan_of arm_of refusal_of
save_done w s x y z d =
    let j : (admissible s ≡ true) × (unruled_by (shapes_of w) ≡ 0) = step_done w s 0xFA x y z d in
    entry_stored w s (next (saved_state s x)) 0xFA x y z (sp s r_o) (extent s) (saved s) refl
    (λ a b. save_global w s x (ap (λ (o : Outcome State Windows). o.reply) (sym (step_open w s 0xFA x y z j.0 j.1 refl)) ∙ d)) d

pub needs_are : NeedsAre
unfolding needs_of mmix item_plan plan_of arm_of refusal_of both
needs_are = record {
  by_step = step_needs_law;
  by_fetched = fetched_needs_law;
  by_exception = λ w s f op x y z u v. tell_none w (exception_of s f op x y z u v);
  push_done = λ w s x y z. push_done w s 0xF2 x y z (near s forward y z) refl refl;
  push_back_done = λ w s x y z. push_done w s 0xF3 x y z (near s backward y z) refl refl;
  push_go_done = λ w s x y z. push_done w s 0xBE x y z (sum_of s register y z) refl refl;
  push_go_immediate_done = λ w s x y z. push_done w s 0xBF x y z (sum_of s immediate y z) refl refl;
  save_done = save_done;
}

pub bytes_unused : BytesUnused
unfolding step_of step_needs step_plan guarded from_three refusal_of plan_of arm_of
bytes_unused = record {
  save_yz = λ w s x y z y' z'. record { outcome_same = refl; needs_same = refl };
  unsave_xy = λ w s x y z x' y'. record { outcome_same = refl; needs_same = refl };
  put_y = λ w s x y z y'. record { outcome_same = refl; needs_same = refl };
  puti_y = λ w s x y z y'. record { outcome_same = refl; needs_same = refl };
  get_y = λ w s x y z y'. record { outcome_same = refl; needs_same = refl };
  swym_xyz = λ w s x y z x' y' z'. record { outcome_same = refl; needs_same = refl };
}
