-- Two memories that agree outside F: a run of one item, and items of one task, that touch nothing of F do the same on both.
use Rattle.model.proofs.Prelude.{suc, zero, ℕ, ◌+◌, Bool, cond, false, true, List, [], ◌∷◌, ap, refl, subst, sym, ◌∙◌, ◌≡◌, arith, eqb, replicate}
use Rattle.model.proofs.Prelude.{eqb-false, eqb-true, Machine, run_needs_by, step_on, both, Shapes, Windows, Agree, All, Off, more, run_for, Stopped, stopped_by}
use Rattle.model.proofs.Prelude.{tried, Item, mmix, on, mmix_sound, run_touches, step_agree, touches_of, both_lawful, All_left, All_right, Same, Sound, run_done}
use Rattle.model.proofs.Prelude.{run_refused}
use Rattle.claims.proofs.Prelude.{State}
use Rattle.claims.proofs.Tried.{Twins}

module _ {S I : Type 0} (mc : Machine S I Shapes) (F : ℕ → Type 0) (sound : (s : S) (w : Shapes) (i : I) → Sound both (mc.judge s w i) w) where
  pub record SameStopped (a b : Stopped S Windows) : Type 0 where
    pub done_same : a.done ≡ b.done
    pub reply_same : a.reply ≡ b.reply
    pub state_same : a.state ≡ b.state
    pub memory_same : Agree both F a.memory b.memory

  module _ (i : I) where
    abbrev run : ℕ → S → Windows → Stopped S Windows
    run = run_for both mc i

    -- what the items touch that were tried
    abbrev touched : S → Windows → Stopped S Windows → List ℕ
    touched s v r = run_touches both mc s v (replicate (tried r) i)

    pub run_agree : (g : ℕ) (s : S) (v u : Windows) → Agree both F v u → All (Off F) (touched s v (run g s v)) → SameStopped (run g s v) (run g s u)
    unfolding run_for run_needs_by
    run_agree zero s v u a = λ h. record { done_same = refl; reply_same = refl; state_same = refl; memory_same = a }
    run_agree (suc g) s v u a =
        on {A = Stopped S Windows} (λ r. All (Off F) (touched s v r) → SameStopped r (run (suc g) s u)) (eqb (step_on both mc s v i).reply 0)
        (λ b h. again (run g (step_on both mc s v i).state (step_on both mc s v i).memory) (eqb-true _ _ b)
        (run_agree g (step_on both mc s v i).state (step_on both mc s v i).memory (step_on both mc s u i).memory) h)
        (λ b h. ended (eqb-false _ _ b) (rw b at h))
      where
        one : (n : ℕ) → All (Off F) (run_touches both mc s v (replicate (suc n) i)) → Same both F (step_on both mc s v i) (step_on both mc s u i)
        one n h = step_agree both both_lawful mc F sound s v u i a (All_left (Off F) (touches_of both mc s v i) _ h)

        again : (r : Stopped S Windows) → (step_on both mc s v i).reply ≡ 0
            → (Agree both F (step_on both mc s v i).memory (step_on both mc s u i).memory → All (Off F) (touched (step_on both mc s v i).state (step_on both mc s v i).memory r)
            → SameStopped r (run g (step_on both mc s v i).state (step_on both mc s u i).memory))
            → All (Off F) (touched s v (more 1 r)) → SameStopped (more 1 r) (run (suc g) s u)
        again r d same h =
            let k : tried (more 1 r) ≡ suc (tried r) = tries (eqb r.reply 0) in
            let t : All (Off F) (run_touches both mc s v (replicate (suc (tried r)) i)) = subst (λ (n : ℕ). All (Off F) (run_touches both mc s v (replicate n i))) k h in
            let o : Same both F (step_on both mc s v i) (step_on both mc s u i) = one (tried r) t in
            let e : SameStopped r (run g (step_on both mc s u i).state (step_on both mc s u i).memory)
            = subst (λ (p : S). SameStopped r (run g p (step_on both mc s u i).memory)) o.state_same
            (same o.memory_same (All_right (Off F) (touches_of both mc s v i) _ t)) in
            rw (run_done both mc i g s u (sym o.reply_same ∙ d)) (record {
              done_same = ap (λ (n : ℕ). 1 + n) e.done_same;
              reply_same = e.reply_same;
              state_same = e.state_same;
              memory_same = e.memory_same;
            })
          where
            tries : (b : Bool) → cond b (1 + r.done) (suc (1 + r.done)) ≡ suc (cond b r.done (suc r.done))
            tries true = omega arith
            tries false = omega arith

        ended : ((step_on both mc s v i).reply ≡ 0 → ⊥) → All (Off F) (run_touches both mc s v (replicate 1 i)) → SameStopped (stopped_by (step_on both mc s v i)) (run (suc g) s u)
        ended n h =
            let o : Same both F (step_on both mc s v i) (step_on both mc s u i) = one 0 h in
            rw (run_refused both mc i g s u (λ q. n (o.reply_same ∙ q)))
            (record { done_same = refl; reply_same = o.reply_same; state_same = o.state_same; memory_same = o.memory_same })

-- ---- items of one task

pub twins_agree : (F : ℕ → Type 0) (is : List Item) (s : State) (v u : Windows) → Agree both F v u → All (Off F) (run_touches both mmix s v is) → Twins s v s u is
unfolding Twins run_needs_by
twins_agree F [] s v u a h = (refl, unfold both in a.shape_same)
twins_agree F (i ∷ is) s v u a h =
    let o : Same both F (step_on both mmix s v i) (step_on both mmix s u i)
    = step_agree both both_lawful mmix F mmix_sound s v u i a (All_left (Off F) (touches_of both mmix s v i) _ h) in (
      (refl, unfold both in a.shape_same),
      o.reply_same,
      subst (λ (t : State). Twins (step_on both mmix s v i).state (step_on both mmix s v i).memory t (step_on both mmix s u i).memory is) o.state_same
          (twins_agree F is (step_on both mmix s v i).state (step_on both mmix s v i).memory (step_on both mmix s u i).memory o.memory_same
          (All_right (Off F) (touches_of both mmix s v i) _ h)),
    )
