-- Two plans with the same accesses and replies whose answers' states are related: over any store. So are the outcomes of a step, of a list and of a run.
use Rattle.model.proofs.Logic.{suc, zero, ℕ, ◌+◌, List, [], ◌∷◌, ap, refl, ◌≡◌, eqb, length}
use Rattle.model.specs.Memory.{Store}
use Rattle.model.specs.Plan.{Plan, answer, read, Outcome, map_plan, perform, clear, looks}
use Rattle.model.specs.Lists.{Machine, Ran, step_on, runs}
use Rattle.model.specs.Run.{Stopped, run_for}
use Rattle.model.proofs.Bools.{on_both}

unfoldable pub Related : {S : Type 0} → (S → S → Type 0) → Plan S → Plan S → Type 0
Related R (answer r s a vs) (answer r' t a' vs') = (r ≡ r') × R s t × (a ≡ a') × (vs ≡ vs')
Related R (answer r s a vs) (read q b n k) = ⊥
Related R (read q b n k) (answer r s a vs) = ⊥
Related R (read q a n k) (read q' a' n' k') = (q ≡ q') × (a ≡ a') × (n ≡ n') × ((vs : List ℕ) → Related R (k vs) (k' vs))

-- under two maps that lead related states to related ones
pub related_map : {S T : Type 0} (R : S → S → Type 0) (Q : T → T → Type 0) (f g : S → T) → ((s t : S) → R s t → Q (f s) (g t))
    → (p q : Plan S) → Related R p q → Related Q (map_plan f p) (map_plan g q)
unfolding Related map_plan
related_map R Q f g h (answer r s a vs) (answer r' t a' vs') x = (x.0, h s t x.1, x.2, x.3)
related_map R Q f g h (answer r s a vs) (read q b n k) x = absurd x
related_map R Q f g h (read q b n k) (answer r s a vs) x = absurd x
related_map R Q f g h (read q a n k) (read q' a' n' k') x = (x.0, x.1, x.2, λ vs. related_map R Q f g h (k vs) (k' vs) (x.3 vs))

module _ {M Sh S : Type 0} (st : Store M Sh) (R : S → S → Type 0) where
  pub record RelatedOutcome (o p : Outcome S M) : Type 0 where
    pub reply_same : o.reply ≡ p.reply
    pub states : R o.state p.state
    pub memory_same : o.memory ≡ p.memory

  pub record RelatedRan (o p : Ran S M) : Type 0 where
    pub answers_same : o.answers ≡ p.answers
    pub states : R o.state p.state
    pub memory_same : o.memory ≡ p.memory

  pub record RelatedStopped (o p : Stopped S M) : Type 0 where
    pub done_same : o.done ≡ p.done
    pub reply_same : o.reply ≡ p.reply
    pub states : R o.state p.state
    pub memory_same : o.memory ≡ p.memory

  pub perform_related : (j : ℕ → ℕ) (s t : S) (p q : Plan S) (m : M) → R s t → Related R p q → RelatedOutcome (perform st j s p m) (perform st j t q m)
  unfolding perform Related
  perform_related j s t (answer r u a vs) (answer r' u' a' vs') m h x =
      rw (← x.0, ← x.2, ← x.3) (on_both RelatedOutcome (clear j a (length vs))
      (λ e. record { reply_same = refl; states = x.1; memory_same = refl }) (λ e. record { reply_same = refl; states = h; memory_same = refl }))
  perform_related j s t (answer r u a vs) (read q b n k) m h x = absurd x
  perform_related j s t (read q b n k) (answer r u a vs) m h x = absurd x
  perform_related j s t (read q a n k) (read q' a' n' k') m h x =
      rw (← x.0, ← x.1, ← x.2) (on_both RelatedOutcome (clear j a n)
      (λ e. perform_related j s t (k (looks st m a n)) (k' (looks st m a n)) m h (x.3 (looks st m a n))) (λ e. record { reply_same = refl; states = h; memory_same = refl }))

  module _ {I : Type 0} (mc : Machine S I Sh) (judges : (s t : S) (sh : Sh) (i : I) → mc.judge s sh i ≡ mc.judge t sh i)
      (plans : (s t : S) (sh : Sh) (i : I) → R s t → Related R (mc.plan s sh i) (mc.plan t sh i)) where
    step_related : (s t : S) (m : M) (i : I) → R s t → RelatedOutcome (step_on st mc s m i) (step_on st mc t m i)
    unfolding step_on
    step_related s t m i h = rw (judges s t (st.shape m) i) (perform_related (mc.judge t (st.shape m) i) s t _ _ m h (plans s t (st.shape m) i h))

    pub runs_related : (is : List I) (s t : S) (m : M) → R s t → RelatedRan (runs st mc s m is) (runs st mc t m is)
    unfolding runs
    runs_related [] s t m h = record { answers_same = refl; states = h; memory_same = refl }
    runs_related (i ∷ is) s t m h =
        let a : RelatedOutcome (step_on st mc s m i) (step_on st mc t m i) = step_related s t m i h in
        let b : RelatedRan (runs st mc (step_on st mc s m i).state (step_on st mc s m i).memory is) (runs st mc (step_on st mc t m i).state (step_on st mc s m i).memory is)
        = runs_related is (step_on st mc s m i).state (step_on st mc t m i).state (step_on st mc s m i).memory a.states in
        rw (← a.reply_same, ← a.memory_same) (record {
          answers_same = ap (λ (l : List ℕ). (step_on st mc s m i).reply ∷ l) b.answers_same;
          states = b.states;
          memory_same = b.memory_same;
        })

    pub run_related : (g : ℕ) (i : I) (s t : S) (m : M) → R s t → RelatedStopped (run_for st mc i g s m) (run_for st mc i g t m)
    unfolding run_for
    run_related zero i s t m h = record { done_same = refl; reply_same = refl; states = h; memory_same = refl }
    run_related (suc g) i s t m h =
        let a : RelatedOutcome (step_on st mc s m i) (step_on st mc t m i) = step_related s t m i h in
        let b : RelatedStopped (run_for st mc i g (step_on st mc s m i).state (step_on st mc s m i).memory) (run_for st mc i g (step_on st mc t m i).state (step_on st mc s m i).memory)
        = run_related g i (step_on st mc s m i).state (step_on st mc t m i).state (step_on st mc s m i).memory a.states in
        rw (← a.reply_same, ← a.memory_same) (on_both RelatedStopped (eqb (step_on st mc s m i).reply 0)
        (λ e. record { done_same = ap (λ (n : ℕ). 1 + n) b.done_same; reply_same = b.reply_same; states = b.states; memory_same = b.memory_same })
        (λ e. record { done_same = refl; reply_same = refl; states = a.states; memory_same = refl }))
