-- Laws of lists of steps, over any lawful store and any machine: each carries a law of plans through a list.
use Rattle.model.proofs.Logic.{ℕ, List, [], ◌++◌, ◌∷◌, ap, refl, ◌≡◌}
use Rattle.model.specs.Memory.{Store}
use Rattle.model.specs.Plan.{All, Off, Agree}
use Rattle.model.specs.Lists.{Machine, Ran, step_on, needs_of, wider_needs_of, runs, run_needs_by}
use Rattle.model.proofs.Memory.{Lawful}
use Rattle.model.proofs.Plan.{touches, touches_off, touches_agree, wider_off, All_left, All_right, All_both, Kept, Same, Sound, kept_refl, kept_trans, perform_agree, perform_kept, Always, perform_always}

module _ {M Sh S I : Type 0} (st : Store M Sh) (mc : Machine S I Sh) where
  -- the octabytes that a step comes to read or write
  unfoldable pub touches_of : S → M → I → List ℕ
  touches_of s m i = touches st (mc.judge s (st.shape m) i) (mc.plan s (st.shape m) i) m

  abbrev pub run_touches : S → M → List I → List ℕ
  run_touches = run_needs_by st mc touches_of

  pub record SameRun (F : ℕ → Type 0) (o p : Ran S M) : Type 0 where
    pub answers_same : o.answers ≡ p.answers
    pub state_same : o.state ≡ p.state
    pub memory_same : Agree st F o.memory p.memory

  -- one list after another
  pub runs_append : (is js : List I) (s : S) (m : M) → runs st mc s m (is ++ js)
      ≡ (let r : Ran S M = runs st mc s m is in
      let t : Ran S M = runs st mc r.state r.memory js in
      record { answers = r.answers ++ t.answers; state = t.state; memory = t.memory })
  unfolding runs
  runs_append [] js s m = refl
  runs_append (i ∷ is) js s m =
      ap (λ (r : Ran S M). record { answers = (step_on st mc s m i).reply ∷ r.answers; state = r.state; memory = r.memory })
      (runs_append is js (step_on st mc s m i).state (step_on st mc s m i).memory)

  -- what holds of one reading of the needs holds of another, step by step and so for a list
  pub by_reading : (P : ℕ → Type 0) (f g : S → M → I → List ℕ) → ((s : S) (m : M) (i : I) → All P (f s m i) → All P (g s m i))
      → (is : List I) (s : S) (m : M) → All P (run_needs_by st mc f s m is) → All P (run_needs_by st mc g s m is)
  unfolding run_needs_by All
  by_reading P f g e [] s m h = tt
  by_reading P f g e (i ∷ is) s m h =
      All_both P (g s m i) _ (e s m i (All_left P (f s m i) _ h))
      (by_reading P f g e is (step_on st mc s m i).state (step_on st mc s m i).memory (All_right P (f s m i) _ h))

module _ {M Sh S I : Type 0} (st : Store M Sh) (law : Lawful st) (mc : Machine S I Sh) where
  pub run_touches_off : (P : ℕ → Type 0) (is : List I) (s : S) (m : M) → All P (run_needs_by st mc (needs_of st mc) s m is) → All P (run_touches st mc s m is)
  unfolding needs_of touches_of
  run_touches_off P = by_reading st mc P (needs_of st mc) (touches_of st mc) (λ s m i h. touches_off st law P (mc.judge s (st.shape m) i) (mc.plan s (st.shape m) i) m h)

  pub run_wider_off : (P : ℕ → Type 0) (is : List I) (s : S) (m : M) → All P (run_needs_by st mc (wider_needs_of st mc) s m is) → All P (run_needs_by st mc (needs_of st mc) s m is)
  unfolding needs_of wider_needs_of
  run_wider_off P = by_reading st mc P (wider_needs_of st mc) (needs_of st mc) (λ s m i h. wider_off st law P (mc.judge s (st.shape m) i) (mc.plan s (st.shape m) i) m h)

  module _ (F : ℕ → Type 0) (sound : (s : S) (sh : Sh) (i : I) → Sound st (mc.judge s sh i) sh) where
    pub step_agree : (s : S) (v w : M) (i : I) → Agree st F v w → All (Off F) (touches_of st mc s v i) → Same st F (step_on st mc s v i) (step_on st mc s w i)
    unfolding step_on touches_of
    step_agree s v w i g f = rw (← g.shape_same) (perform_agree st law F (mc.judge s (st.shape v) i) s (mc.plan s (st.shape v) i) v w (sound s (st.shape v) i) g f)

    pub step_kept : (s : S) (v : M) (i : I) → All (Off F) (touches_of st mc s v i) → Kept st F v (step_on st mc s v i).memory
    unfolding step_on touches_of
    step_kept s v i f = perform_kept st law F (mc.judge s (st.shape v) i) s (mc.plan s (st.shape v) i) v f

    pub runs_agree : (is : List I) (s : S) (v w : M) → Agree st F v w → All (Off F) (run_touches st mc s v is) → SameRun st mc F (runs st mc s v is) (runs st mc s w is)
    unfolding runs run_needs_by
    runs_agree [] s v w g f = record { answers_same = refl; state_same = refl; memory_same = g }
    runs_agree (i ∷ is) s v w g f =
        let a : Same st F (step_on st mc s v i) (step_on st mc s w i) = step_agree s v w i g (All_left (Off F) (touches_of st mc s v i) _ f) in
        let h : SameRun st mc F (runs st mc (step_on st mc s v i).state (step_on st mc s v i).memory is) (runs st mc (step_on st mc s v i).state (step_on st mc s w i).memory is)
        = runs_agree is (step_on st mc s v i).state (step_on st mc s v i).memory (step_on st mc s w i).memory a.memory_same (All_right (Off F) (touches_of st mc s v i) _ f) in
        rw (← a.reply_same, ← a.state_same) (record {
          answers_same = ap (λ (l : List ℕ). (step_on st mc s v i).reply ∷ l) h.answers_same;
          state_same = h.state_same;
          memory_same = h.memory_same;
        })

    pub run_touches_agree : (is : List I) (s : S) (v w : M) → Agree st F v w → All (Off F) (run_touches st mc s v is) → run_touches st mc s v is ≡ run_touches st mc s w is
    unfolding run_needs_by touches_of
    run_touches_agree [] s v w g f = refl
    run_touches_agree (i ∷ is) s v w g f =
        let a : Same st F (step_on st mc s v i) (step_on st mc s w i) = step_agree s v w i g (All_left (Off F) (touches_of st mc s v i) _ f) in
        let n : touches_of st mc s v i ≡ touches_of st mc s w i = rw (← g.shape_same) (touches_agree st law F (mc.judge s (st.shape v) i) s (mc.plan s (st.shape v) i) v w g (All_left (Off F) (touches_of st mc s v i) _ f)) in
        rw (← a.state_same, ← n)
        (ap (λ (l : List ℕ). touches_of st mc s v i ++ l) (run_touches_agree is (step_on st mc s v i).state (step_on st mc s v i).memory (step_on st mc s w i).memory a.memory_same (All_right (Off F) (touches_of st mc s v i) _ f)))

    pub runs_kept : (is : List I) (s : S) (v : M) → All (Off F) (run_touches st mc s v is) → Kept st F v (runs st mc s v is).memory
    unfolding runs run_needs_by
    runs_kept [] s v f = kept_refl st law F v
    runs_kept (i ∷ is) s v f =
        kept_trans st law F v (step_on st mc s v i).memory _ (step_kept s v i (All_left (Off F) (touches_of st mc s v i) _ f))
        (runs_kept is (step_on st mc s v i).state (step_on st mc s v i).memory (All_right (Off F) (touches_of st mc s v i) _ f))

  pub runs_always : (P : S → Type 0) → ((s : S) (sh : Sh) (i : I) → P s → Always P (mc.plan s sh i)) → (is : List I) (s : S) (m : M) → P s → P (runs st mc s m is).state
  unfolding runs step_on
  runs_always P keeps [] s m h = h
  runs_always P keeps (i ∷ is) s m h =
      runs_always P keeps is (step_on st mc s m i).state (step_on st mc s m i).memory
      (perform_always st law P (mc.judge s (st.shape m) i) s (mc.plan s (st.shape m) i) m h (keeps s (st.shape m) i h))
