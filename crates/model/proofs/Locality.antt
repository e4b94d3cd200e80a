-- Theorem 3: a step, and a fetched instruction, sees and changes what it needs, and nothing else of the windows; 6 is given just where a need lies outside,
-- or 24 where it is the fetch.
-- The first by the laws of plans, with F the octabytes that are not needed.
use Rattle.model.proofs.Logic.{max, suc, zero, ℕ, ◌+◌, Bool, cond, false, not, true, ◌||◌, List, [], ◌++◌, ◌∷◌, inl, inr, ◌≢◌, ◌⊎◌, ⊎_elim, ap, refl}
use Rattle.model.proofs.Logic.{subst, sym, ◌∙◌, ◌≡◌, ℕ_discrete, arith, eqb, get_or, length, eq-eqb, eqb-false, eqb-true, ne_eqb}
use Rattle.model.specs.Octa.{octa}
use Rattle.model.specs.Memory.{Windows, Shapes, shapes_of, inside, octa_at, both}
use Rattle.model.specs.Plan.{Plan, answer, read, Outcome, perform, needs, ups, worst, clear, missing, named, looks, All, Off, Agree}
use Rattle.model.specs.Opcodes.{arm_of}
use Rattle.model.specs.Step.{unruled_by, refusing, guarded, from_three, step_plan, step_of, step_needs, claims, opcode_in, x_in, y_in, z_in, tetra_at, taken_back, instruction_plan, tetra_plan, fetched_plan, fetched_of, fetched_needs}
use Rattle.model.specs.Registers.{admissible, claim_local}
use Rattle.model.specs.Locality.{SameAt, SameStep, SameFetched, all_inside, StepIsLocal, FetchedIsLocal}
use Rattle.model.specs.declared.State.{State}
use Rattle.model.proofs.Bools.{and_left, and_right, on, on_both}
use Rattle.model.proofs.ItemInvariant.{Any}
use Rattle.model.proofs.Memory.{raw_octa, both_lawful}
use Rattle.model.proofs.Plan.{All_map, Same, worst_head, worst_tail, touches, touches_off, perform_agree, needs_agree, perform_kept, perform_shape}
use Rattle.model.proofs.ArmAnswers.{Answers}
use Rattle.model.proofs.StepAnswers.{worst_six, step_meets, perform_meets}
use Rattle.model.proofs.ArmReplies.{plan_replies, three_replies}
use Rattle.model.proofs.Numbers.{unhalting}
use Rattle.model.proofs.Entry.{perform_on, sound_at, judged_inside, inside_judged, unruled_is}

-- ---- octabytes among the needs

-- no address of the list names the octabyte o
abbrev Unneeded : List ℕ → ℕ → Type 0
Unneeded l o = All (λ b. octa b ≢ o) l

-- what agrees at the addresses of a list agrees at every address that names one of their octabytes
same_among : (l : List ℕ) (v w : Windows) (a : ℕ) → SameAt l v w → Off (Unneeded l) a → octa_at v a ≡ octa_at w a
unfolding All
same_among [] v w a h f = absurd (f tt)
same_among (b ∷ rest) v w a h f = go (ℕ_discrete (octa b) (octa a)) (λ g. same_among rest v w a h.1 g)
  where
    go : Dec (octa b ≡ octa a) → (Off (Unneeded rest) a → octa_at v a ≡ octa_at w a) → octa_at v a ≡ octa_at w a
    go (yes e) r = sym (raw_octa v b a e) ∙ h.0 ∙ raw_octa w b a e
    go (no n) r = r (λ u. f (n, u))

-- each address of a list names an octabyte of the list
needed_off : (l k : List ℕ) → ((o : ℕ) → Unneeded k o → Unneeded l o) → All (Off (Unneeded k)) l
unfolding All
needed_off [] k f = tt
needed_off (a ∷ rest) k f = (λ u. (f (octa a) u).0 refl, needed_off rest k (λ o u. (f o u).1))

at_off : (F : ℕ → Type 0) (v w : Windows) (l : List ℕ) → Agree both F v w → All (Off F) l → SameAt l v w
unfolding both
at_off F v w l g h = All_map (Off F) (λ a. octa_at v a ≡ octa_at w a) l g.rest_same h

agree_among : (l : List ℕ) (v w : Windows) → shapes_of v ≡ shapes_of w → SameAt l v w → Agree both (Unneeded l) v w
unfolding both
agree_among l v w e h = record { shape_same = e; rest_same = λ a f. same_among l v w a h f }

-- ---- a plan that knows the shapes alone

module _ (s : State) (plan : Shapes → Plan State) where
  abbrev outcome : Windows → Outcome State Windows
  outcome w = perform both (refusing (shapes_of w)) s (plan (shapes_of w)) w

  abbrev needed : Windows → List ℕ
  needed w = needs both (refusing (shapes_of w)) (plan (shapes_of w)) w

  record SamePlan (v w : Windows) : Type 0 where
    reply_same : (outcome v).reply ≡ (outcome w).reply
    state_same : (outcome v).state ≡ (outcome w).state
    needs_same : needed v ≡ needed w
    stored_same : SameAt (needed v) (outcome v).memory (outcome w).memory

  plan_alike : (v w : Windows) → shapes_of v ≡ shapes_of w → SameAt (needed v) v w → SamePlan v w
  plan_alike v w e h =
      let p : Plan State = plan (shapes_of v) in
      let j : (ℕ → ℕ) = refusing (shapes_of v) in
      let l : List ℕ = needs both j p v in
      let off : All (Off (Unneeded l)) l = needed_off l l (λ o u. u) in
      let t : All (Off (Unneeded l)) (touches both j p v) = touches_off both both_lawful (Off (Unneeded l)) j p v off in
      let g : Agree both (Unneeded l) v w = agree_among l v w e h in
      let a : Same both (Unneeded l) (perform both j s p v) (perform both j s p w) = perform_agree both both_lawful (Unneeded l) j s p v w (sound_at v) g t in
      let n : needs both j p v ≡ needs both j p w = needs_agree both both_lawful (Unneeded l) j s p v w g t in
      let b : perform both j s p w ≡ outcome w = ap (λ (h : Shapes). perform both (refusing h) s (plan h) w) e in
      record {
        reply_same = a.reply_same ∙ ap (λ (o : Outcome State Windows). o.reply) b;
        state_same = a.state_same ∙ ap (λ (o : Outcome State Windows). o.state) b;
        needs_same = n ∙ ap (λ (h : Shapes). needs both (refusing h) (plan h) w) e;
        stored_same = subst (λ (o : Outcome State Windows). SameAt l (perform both j s p v).memory o.memory) b (at_off (Unneeded l) _ _ l a.memory_same off);
      }

  plan_shape : (w : Windows) → shapes_of (outcome w).memory ≡ shapes_of w
  unfolding both
  plan_shape w = perform_shape both both_lawful (refusing (shapes_of w)) s (plan (shapes_of w)) w

  plan_octa : (w : Windows) (a : ℕ) → Unneeded (needed w) (octa a) → octa_at (outcome w).memory a ≡ octa_at w a
  unfolding both
  plan_octa w a h =
      (perform_kept both both_lawful (λ o. o ≡ octa a) (refusing (shapes_of w)) s (plan (shapes_of w)) w
      (touches_off both both_lawful (Off (λ o. o ≡ octa a)) (refusing (shapes_of w)) (plan (shapes_of w)) w h)).octa_kept a refl

alike : (v w : Windows) (s : State) (op x y z : ℕ) → shapes_of v ≡ shapes_of w → SameAt (step_needs v s op x y z) v w → SameStep v w s op x y z
unfolding step_of step_needs
alike v w s op x y z e h =
    let k : SamePlan s (λ sh. step_plan s sh op x y z) v w = plan_alike s (λ sh. step_plan s sh op x y z) v w e h in
    record { reply_same = k.reply_same; state_same = k.state_same; needs_same = k.needs_same; stored_same = k.stored_same }

fetched_alike : (v w : Windows) (s : State) → shapes_of v ≡ shapes_of w → SameAt (fetched_needs v s) v w → SameFetched v w s
unfolding fetched_of fetched_needs
fetched_alike v w s e h =
    let k : SamePlan s (fetched_plan s) v w = plan_alike s (fetched_plan s) v w e h in
    record { reply_same = k.reply_same; state_same = k.state_same; needs_same = k.needs_same; stored_same = k.stored_same }

-- ---- 6

step_never_six : (s : State) (w : Shapes) (op x y z : ℕ) → Answers Any (λ r t vs. r ≢ 6) (step_plan s w op x y z)
step_never_six s w op x y z =
    step_meets s w Any (λ r t vs. r ≢ 6) (λ n a e. ⊎_elim (λ l. omega arith) (λ q. let z : n ≡ 22 = q in omega arith) a) op x y z
    (λ e. plan_replies (λ r. r ≢ 6) (λ e. omega arith) (λ e. omega arith) (λ n a e. unhalting n (inl (omega arith)) a) (λ e. omega arith) s (arm_of op) op x y z (λ m e. omega arith))

inside_front : (w : Shapes) (xs ys : List ℕ) → all_inside w xs ≡ true → all_inside w (xs ++ ys) ≡ all_inside w ys
unfolding all_inside
inside_front w [] ys e = refl
inside_front w (x ∷ xs) ys e = rw (and_left (inside w x) _ e) (inside_front w xs ys (and_right (inside w x) _ e))

-- a run that passes lies inside; of one that does not, what is missing lies outside
run_inside : (w : Shapes) (n a : ℕ) → worst (refusing w) a n ≡ 0 → all_inside w (ups a n) ≡ true
unfolding all_inside ups
run_inside w zero a e = refl
run_inside w (suc n) a e = rw (judged_inside w a (worst_head (refusing w) a n e)) (run_inside w n (a + 8) (worst_tail (refusing w) a n e))

missing_outside : (w : Shapes) (n a : ℕ) → eqb (worst (refusing w) a n) 0 ≡ false → all_inside w (missing (refusing w) a n) ≡ false
unfolding worst missing all_inside
missing_outside w zero a e = absurd (eqb-false 0 0 e refl)
missing_outside w (suc n) a e = go (ℕ_discrete (refusing w a) 0) (λ f. missing_outside w n (a + 8) f)
  where
    outside : refusing w a ≢ 0 → (b : Bool) → inside w a ≡ b → b ≡ false
    outside n true h = absurd (n (inside_judged w a h))
    outside n false h = refl

    go : Dec (refusing w a ≡ 0) → (eqb (worst (refusing w) (a + 8) n) 0 ≡ false → all_inside w (missing (refusing w) (a + 8) n) ≡ false)
        → all_inside w (cond (eqb (refusing w a) 0) [] (a ∷ []) ++ missing (refusing w) (a + 8) n) ≡ false
    go (yes q) r = rw (eq-eqb _ _ q) (r (ne_eqb _ _ (λ z. eqb-false (max (refusing w a) (worst (refusing w) (a + 8) n)) 0 e (let y : worst (refusing w) (a + 8) n ≡ 0 = z in omega arith))))
    go (no q) r = rw (ne_eqb _ _ q, outside q (inside w a) refl)

module _ (w : Windows) (s : State) where
  abbrev judge : ℕ → ℕ
  judge = refusing (shapes_of w)

  six_plan : (p : Plan State) → Answers Any (λ r t vs. r ≢ 6) p → eqb (perform both judge s p w).reply 6 ≡ not (all_inside (shapes_of w) (needs both judge p w))
  unfolding perform needs Answers named
  six_plan (answer r t a vs) h =
      on_both {A = Outcome State Windows} (λ o xs. eqb o.reply 6 ≡ not (all_inside (shapes_of w) xs)) (clear judge a (length vs))
      (λ e. ne_eqb _ _ h ∙ sym (ap not (run_inside (shapes_of w) (length vs) a (eqb-true _ _ e))))
      (λ e. eq-eqb _ _ (worst_six (shapes_of w) (length vs) a e) ∙ sym (ap not (missing_outside (shapes_of w) (length vs) a e)))
  six_plan (read q a n k) h =
      on_both {A = Outcome State Windows} (λ o xs. eqb o.reply 6 ≡ not (all_inside (shapes_of w) xs)) (clear judge a n)
      (λ e. six_plan (k (looks both w a n)) (h.1 (looks both w a n) tt)
      ∙ ap not (sym (inside_front (shapes_of w) (ups a n) _ (run_inside (shapes_of w) n a (eqb-true _ _ e)))))
      (λ e. eq-eqb _ _ (ap (named q) (worst_six (shapes_of w) n a e) ∙ h.0) ∙ sym (ap not (missing_outside (shapes_of w) n a e)))

pub step_is_local : StepIsLocal
unfolding step_of step_needs
step_is_local = record {
  alike = alike;
  shape_kept = λ w s op x y z. plan_shape s (λ sh. step_plan s sh op x y z) w;
  octa_kept = λ w s op x y z a h. plan_octa s (λ sh. step_plan s sh op x y z) w a h;
  six = λ w s op x y z. six_plan w s (step_plan s (shapes_of w) op x y z) (step_never_six s (shapes_of w) op x y z);
}

-- ---- 6 or 24 of a fetched instruction

-- replies are not changed by taking a claim back
back_answers : (Q : ℕ → Type 0) (s : State) (p : Plan State) → Answers Any (λ r t vs. Q r) p → Answers Any (λ r t vs. Q r) (taken_back s p)
unfolding taken_back Answers
back_answers Q s (answer r t a vs) h = h
back_answers Q s (read q a n k) h = (h.0, λ vs u. back_answers Q s (k vs) (h.1 vs u))

-- an instruction answers with neither 6 nor 24
abbrev There : ℕ → Type 0
There r = (r ≢ 6) × (r ≢ 24)

instruction_there : (s : State) (op x y z : ℕ) → Answers Any (λ r t vs. There r) (instruction_plan s op x y z)
unfolding instruction_plan
instruction_there s op x y z =
    on (Answers Any (λ r t vs. There r)) (claims op) (λ e. back_answers There s _ (three (claim_local s x))) (λ e. three s)
  where
    three : (t : State) → Answers Any (λ r t vs. There r) (from_three t (arm_of op) op x y z)
    three t = three_replies There (λ e. omega arith, λ e. omega arith) (λ n a b. (λ e. omega arith, λ e. omega arith)) (λ n a. (λ e. unhalting n (inl (omega arith)) a, λ e. unhalting n (inr (omega arith, omega arith)) a))
        (λ e. omega arith, λ e. omega arith) t (arm_of op) op x y z (λ m. (λ e. omega arith, λ e. omega arith))

answers_map : (P Q : ℕ → Type 0) → ((r : ℕ) → P r → Q r) → (p : Plan State) → Answers Any (λ r t vs. P r) p → Answers Any (λ r t vs. Q r) p
unfolding Answers
answers_map P Q f (answer r t a vs) h = f r h
answers_map P Q f (read q a n k) h = (h.0, λ vs u. answers_map P Q f (k vs) (h.1 vs u))

module _ (w : Windows) (s : State) where
  Missed : Outcome State Windows → List ℕ → Type 0
  Missed o l = (eqb o.reply 6 || eqb o.reply 24) ≡ not (all_inside (shapes_of w) l)

  tetra_missed : (t : ℕ) → Missed (perform_on w s (tetra_plan s t)) (needs both (refusing (shapes_of w)) (tetra_plan s t) w)
  unfolding Missed tetra_plan
  tetra_missed t =
      let p : Plan State = instruction_plan s (opcode_in t) (x_in t) (y_in t) (z_in t) in
      let k : Answers Any (λ r t vs. There r) p = instruction_there s (opcode_in t) (x_in t) (y_in t) (z_in t) in
      let n : (perform_on w s p).reply ≢ 24
      = perform_meets w s Any (λ r t vs. There r) (λ o. o.reply ≢ 24) (λ e. omega arith) (λ r t a vs h. h.1) (λ a n. tt) p k in
      rw (ne_eqb (perform_on w s p).reply 24 n) (or_none (eqb (perform_on w s p).reply 6) ∙ six_plan w s p (answers_map There (λ r. r ≢ 6) (λ r h. h.0) p k))
    where
      or_none : (b : Bool) → (b || false) ≡ b
      or_none true = refl
      or_none false = refl

  fetched_missed : Missed (fetched_of w s) (fetched_needs w s)
  unfolding fetched_of fetched_needs fetched_plan guarded Missed
  fetched_missed =
      on (λ (p : Plan State). Missed (perform_on w s p) (needs both (refusing (shapes_of w)) p w)) (admissible s)
      (λ a. on (λ (p : Plan State). Missed (perform_on w s p) (needs both (refusing (shapes_of w)) p w)) (eqb (unruled_by (shapes_of w)) 0)
      (λ r. fetch) (λ r. refused (unruled_by (shapes_of w)) (rules (unruled_is (shapes_of w)))))
      (λ a. refused 1 (λ e. omega arith, λ e. omega arith))
    where
      rules : (unruled_by (shapes_of w) ≡ 0) ⊎ ((unruled_by (shapes_of w) ≡ 2) ⊎ (unruled_by (shapes_of w) ≡ 22)) → There (unruled_by (shapes_of w))
      rules (inl e) = (λ q. omega arith, λ q. omega arith)
      rules (inr (inl e)) = (λ q. omega arith, λ q. omega arith)
      rules (inr (inr e)) = (λ q. omega arith, λ q. omega arith)

      refused : (n : ℕ) → There n → Missed (perform_on w s (answer n s 0 [])) (needs both (refusing (shapes_of w)) (answer n s 0 []) w)
      refused n h = unfold Missed perform needs worst ups all_inside in (rw (ne_eqb n 6 h.0, ne_eqb n 24 h.1))

      fetch : Missed (perform_on w s (read 24 s.pc 1 (λ v. tetra_plan s (tetra_at s (get_or v 0 0))))) (needs both (refusing (shapes_of w)) (read 24 s.pc 1 (λ v. tetra_plan s (tetra_at s (get_or v 0 0)))) w)
      fetch = unfold Missed perform needs named in
          (on_both {A = Outcome State Windows} (λ o xs. (eqb o.reply 6 || eqb o.reply 24) ≡ not (all_inside (shapes_of w) xs)) (clear (refusing (shapes_of w)) s.pc 1)
          (λ e. (unfold Missed in (tetra_missed (tetra_at s (get_or (looks both w s.pc 1) 0 0))))
          ∙ ap not (sym (inside_front (shapes_of w) (ups s.pc 1) _ (run_inside (shapes_of w) 1 s.pc (eqb-true _ _ e)))))
          (λ e. rw (worst_six (shapes_of w) 1 s.pc e) (sym (ap not (missing_outside (shapes_of w) 1 s.pc e)))))

pub fetched_is_local : FetchedIsLocal
unfolding fetched_of fetched_needs
fetched_is_local = record {
  alike = fetched_alike;
  shape_kept = λ w s. plan_shape s (fetched_plan s) w;
  octa_kept = λ w s a h. plan_octa s (fetched_plan s) w a h;
  missed = λ w s. unfold Missed in (fetched_missed w s);
}
