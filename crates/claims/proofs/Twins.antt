-- Two lists that have the same answers: a run that ends alike; and items of one state, which stays admissible or not.
use Rattle.model.proofs.Prelude.{suc, zero, ℕ, ◌+◌, Bool, cond, false, true, head-eq_of_cons-eq, List, tail-eq_of_cons-eq, [], ◌++◌, ◌∷◌, ap, refl, subst}
use Rattle.model.proofs.Prelude.{sym, ◌∙◌, ◌≡◌, arith, eqb, length, replicate, eqb-false, eqb-true, Machine, Ran, runs, step_on, both, Shapes, shapes_of, Windows}
use Rattle.model.proofs.Prelude.{tell, Outcome, admissible, Sized, more, run_for, Stopped, stopped_by, tried, exception, exception_of, fetched, fetched_of, Item}
use Rattle.model.proofs.Prelude.{item_plan, mmix, step, step_of, on, said_by_law, fetched_inadmissible, items_keep, runs_append, run_done, run_refused, splits}
use Rattle.model.proofs.Prelude.{step_inadmissible}
use Rattle.claims.proofs.Prelude.{State, mmix_shape}
use Rattle.claims.proofs.Tried.{Twins}

-- ---- lists

append_both : {A : Type 0} (xs us ys vs : List A) → length xs ≡ length us → xs ++ ys ≡ us ++ vs → (xs ≡ us) × (ys ≡ vs)
append_both [] [] ys vs n e = (refl, e)
append_both [] (u ∷ us) ys vs n e = absurd (omega arith)
append_both (x ∷ xs) [] ys vs n e = absurd (omega arith)
append_both {A} (x ∷ xs) (u ∷ us) ys vs n e =
    let r : (xs ≡ us) × (ys ≡ vs) = append_both xs us ys vs (omega arith) (tail-eq_of_cons-eq e) in
    let h : x ≡ u = head-eq_of_cons-eq e in
    (λ i. h i ∷ r.0 i, r.1)

module _ {S I : Type 0} (mc : Machine S I Shapes) where
  -- two lists of the same items that are answered alike: so are their beginnings, and what follows
  pub answers_both : (is js : List I) (s t : S) (v u : Windows) → (runs both mc s v (is ++ js)).answers ≡ (runs both mc t u (is ++ js)).answers
      → ((runs both mc s v is).answers ≡ (runs both mc t u is).answers)
      × ((runs both mc (runs both mc s v is).state (runs both mc s v is).memory js).answers ≡ (runs both mc (runs both mc t u is).state (runs both mc t u is).memory js).answers)
  answers_both is js s t v u e =
      append_both (runs both mc s v is).answers (runs both mc t u is).answers _ _
      ((splits both mc).answers_many s v is ∙ sym ((splits both mc).answers_many t u is))
      (sym (ap (λ (r : Ran S Windows). r.answers) (runs_append both mc is js s v)) ∙ e ∙ ap (λ (r : Ran S Windows). r.answers) (runs_append both mc is js t u))

  -- ---- a run

  pub record SameEnds (a b : Stopped S Windows) : Type 0 where
    pub done_same : a.done ≡ b.done
    pub reply_same : a.reply ≡ b.reply

  module _ (i : I) where
    abbrev run : ℕ → S → Windows → Stopped S Windows
    run = run_for both mc i

    -- the items that were tried have the same answers
    abbrev Alike : S → Windows → S → Windows → ℕ → Type 0
    Alike s v t u n = (runs both mc s v (replicate n i)).answers ≡ (runs both mc t u (replicate n i)).answers

    first : (n : ℕ) (s : S) (v : Windows) (t : S) (u : Windows) → Alike s v t u (suc n)
        → ((step_on both mc s v i).reply ≡ (step_on both mc t u i).reply)
        × Alike (step_on both mc s v i).state (step_on both mc s v i).memory (step_on both mc t u i).state (step_on both mc t u i).memory n
    unfolding runs
    first n s v t u e = (head-eq_of_cons-eq e, tail-eq_of_cons-eq e)

    pub run_twins : (g : ℕ) (s : S) (v : Windows) (t : S) (u : Windows) → Alike s v t u (tried (run g s v)) → SameEnds (run g s v) (run g t u)
    unfolding run_for
    run_twins zero s v t u = λ h. record { done_same = refl; reply_same = refl }
    run_twins (suc g) s v t u =
        on {A = Stopped S Windows} (λ r. Alike s v t u (tried r) → SameEnds r (run (suc g) t u)) (eqb (step_on both mc s v i).reply 0)
        (λ b h. again (run g (step_on both mc s v i).state (step_on both mc s v i).memory) (eqb-true _ _ b)
        (run_twins g (step_on both mc s v i).state (step_on both mc s v i).memory (step_on both mc t u i).state (step_on both mc t u i).memory) h)
        (λ b h. ended b h)
      where
        again : (r : Stopped S Windows) → (step_on both mc s v i).reply ≡ 0
            → (Alike (step_on both mc s v i).state (step_on both mc s v i).memory (step_on both mc t u i).state (step_on both mc t u i).memory (tried r)
            → SameEnds r (run g (step_on both mc t u i).state (step_on both mc t u i).memory))
            → Alike s v t u (tried (more 1 r)) → SameEnds (more 1 r) (run (suc g) t u)
        again r d same h =
            let k : tried (more 1 r) ≡ suc (tried r) = tries (eqb r.reply 0) in
            let p = first (tried r) s v t u (subst (Alike s v t u) k h) in
            let e : SameEnds r (run g (step_on both mc t u i).state (step_on both mc t u i).memory) = same p.1 in
            rw (run_done both mc i g t u (sym p.0 ∙ d)) (record { done_same = ap (λ (m : ℕ). 1 + m) e.done_same; reply_same = e.reply_same })
          where
            tries : (b : Bool) → cond b (1 + r.done) (suc (1 + r.done)) ≡ suc (cond b r.done (suc r.done))
            tries true = omega arith
            tries false = omega arith

        ended : eqb (step_on both mc s v i).reply 0 ≡ false → Alike s v t u (tried (stopped_by (step_on both mc s v i)))
            → SameEnds (stopped_by (step_on both mc s v i)) (run (suc g) t u)
        ended b h =
            let e : (step_on both mc s v i).reply ≡ (step_on both mc t u i).reply = (first 0 s v t u (subst (λ (c : Bool). Alike s v t u (cond c 0 1)) b h)).0 in
            rw (run_refused both mc i g t u (λ q. eqb-false _ _ b (e ∙ q))) (record { done_same = refl; reply_same = e })

-- ---- what is admissible stays so, and what is not too

-- a state that is not is left as it was
not_admitted : (w : Windows) (s : State) (i : Item) → admissible s ≡ false → (step_on both mmix s w i).state ≡ s
unfolding step_on mmix both item_plan
not_admitted w s (step op x y z) a = (unfold step_of in (ap (λ (o : Outcome State Windows). o.state) (step_inadmissible w s op x y z a)))
not_admitted w s (exception f op x y z u v) a = unfold tell exception_of in (rw a (ap (λ (o : Outcome State Windows). o.state) (said_by_law _ w s s 1)))
not_admitted w s fetched a = (unfold fetched_of in (ap (λ (o : Outcome State Windows). o.state) (fetched_inadmissible w s a)))

pub admits_same : (w : Windows) (s : State) (i : Item) → Sized s → admissible (step_on both mmix s w i).state ≡ admissible s
admits_same w s i n = go (admissible s) refl
  where
    go : (b : Bool) → admissible s ≡ b → admissible (step_on both mmix s w i).state ≡ admissible s
    go true e = items_keep.admitted w s i n e ∙ sym e
    go false e = ap admissible (not_admitted w s i e)

-- ---- items of one state

pub twins_of : (is : List Item) (s : State) (v : Windows) (t : State) (u : Windows) → Sized s → Sized t → admissible s ≡ admissible t → shapes_of v ≡ shapes_of u
    → (runs both mmix s v is).answers ≡ (runs both mmix t u is).answers → Twins s v t u is
unfolding Twins runs
twins_of [] s v t u ns nt a h e = (a, h)
twins_of (i ∷ is) s v t u ns nt a h e = (
  (a, h),
  head-eq_of_cons-eq e,
  twins_of is (step_on both mmix s v i).state (step_on both mmix s v i).memory (step_on both mmix t u i).state (step_on both mmix t u i).memory
      (items_keep.sized v s i ns) (items_keep.sized u t i nt) (admits_same v s i ns ∙ a ∙ sym (admits_same u t i nt)) (mmix_shape s v i ∙ h ∙ sym (mmix_shape t u i)) (tail-eq_of_cons-eq e),
)
