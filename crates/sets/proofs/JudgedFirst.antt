-- Judging a set by rL alone and then putting all of it is the set; and what its outcome is, case by case.
use Rattle.model.proofs.Prelude.{suc, ℕ, ◌<◌, ◌≤◌, false, true, List, [], ◌∷◌, ap, refl, sym, ◌∙◌, ◌≡◌, eqb, length, length-set, eqb-false, eqb-true, le-ltb}
use Rattle.model.proofs.Prelude.{lt-ltb, ne_eqb, admissible, cleared, fresh, halted, put_globals, put_locals, r_g, r_l, Sized, sp, with_special, put_refusal}
use Rattle.model.proofs.Prelude.{put_state, spec_other, spec_same, eqb_swap, on, on_both, length_over}
use Rattle.model.specs.declared.State.{State}
use Rattle.sets.specs.Sets.{Pair, SetOutcome, set_says, put_pairs, all_or_none, pairs_max, put_set_of}
use Rattle.sets.specs.Judged.{refusal_at, locals_after, Judgement, judge_pairs, put_all, judged_then_put, JudgedFirst}

pub refusal_same : (s : State) (p : Pair) → put_refusal s p.register p.value ≡ refusal_at (sp s r_l) p
unfolding put_refusal refusal_at with_special fresh
refusal_same s p = refl

pub sized_put : (s : State) (x v : ℕ) → Sized s → Sized (put_state s x v)
unfolding put_state put_locals put_globals with_special cleared
sized_put s x v n =
    on Sized (eqb x r_l) (λ e. record { generals = length_over (λ k. 0) _ _ s.general ∙ n.generals; specials = length-set s.special r_l _ ∙ n.specials })
    (λ e. on Sized (eqb x r_g) (λ f. record { generals = length_over (λ k. 0) _ _ s.general ∙ n.generals; specials = length-set s.special r_g _ ∙ n.specials })
    (λ f. record { generals = n.generals; specials = length-set s.special x _ ∙ n.specials }))

locals_put : (s : State) (p : Pair) → Sized s → sp (put_state s p.register p.value) r_l ≡ locals_after (sp s r_l) p
unfolding put_state put_locals put_globals with_special cleared locals_after
locals_put s p n =
    on_both (λ (t : State) (l : ℕ). sp t r_l ≡ l) (eqb p.register r_l) (λ e. spec_same s.special r_l _ n.specials refl)
    (λ e. on (λ (t : State). sp t r_l ≡ sp s r_l) (eqb p.register r_g) (λ f. spec_other s.special r_g r_l _ refl) (λ f. spec_other s.special p.register r_l _ (eqb_swap p.register r_l e)))

-- what judging says is what putting one after another says; where it passes, all are put
record Same (o : SetOutcome) (j : Judgement) (t : State) : Type 0 where
  reply_same : o.reply ≡ j.reply
  place_same : o.place ≡ j.place
  state_same : o.reply ≡ 0 → (o.state ≡ t) × (o.place ≡ 0)

pairs_same : (ps : List Pair) (s : State) (i : ℕ) → Sized s → Same (put_pairs s i ps) (judge_pairs (sp s r_l) i ps) (put_all s ps)
unfolding put_pairs judge_pairs put_all
pairs_same [] s i n = record { reply_same = refl; place_same = refl; state_same = λ e. (refl, refl) }
pairs_same (p ∷ ps) s i n =
    let t : State = put_state s p.register p.value in
    let h : Same (put_pairs t (suc i) ps) (judge_pairs (sp t r_l) (suc i) ps) (put_all t ps) = pairs_same ps t (suc i) (sized_put s p.register p.value n) in
    let g : Same (put_pairs t (suc i) ps) (judge_pairs (locals_after (sp s r_l) p) (suc i) ps) (put_all t ps) = rw (locals_put s p n) at h in
    rw (refusal_same s p)
    (on_both (λ (o : SetOutcome) (j : Judgement). Same o j (put_all t ps)) (eqb (refusal_at (sp s r_l) p) 0)
    (λ e. g)
    (λ e. record { reply_same = refl; place_same = refl; state_same = λ f. absurd (eqb-false _ _ e f) }))

pub judged_first : JudgedFirst
judged_first s ps n = join (put_pairs s 0 ps) (judge_pairs (sp s r_l) 0 ps) (pairs_same ps s 0 n)
  where
    join : (o : SetOutcome) (j : Judgement) → Same o j (put_all s ps) → all_or_none s o ≡ judged_then_put s ps j
    join o j h = unfold all_or_none judged_then_put in (rw (← h.reply_same, ← h.place_same) (on_both (λ (a b : SetOutcome). a ≡ b) (eqb o.reply 0)
        (λ e. let r : o.reply ≡ 0 = eqb-true _ _ e in let q : (o.state ≡ put_all s ps) × (o.place ≡ 0) = h.state_same r in λ i. record { reply = r i; place = q.1 i; state = q.0 i })
        (λ e. refl)))

-- ---- the outcome, by what is judged: 1, 30, then the pairs

module _ (s : State) (ps : List Pair) where
  pub set_one : admissible s ≡ false → put_set_of s ps ≡ set_says 1 0 s
  unfolding put_set_of
  set_one e = rw e

  pub set_thirty : admissible s ≡ true → pairs_max < length ps → put_set_of s ps ≡ set_says 30 0 s
  unfolding put_set_of
  set_thirty e h = rw (e, lt-ltb pairs_max (length ps) h)

  pub set_open : admissible s ≡ true → length ps ≤ pairs_max → put_set_of s ps ≡ all_or_none s (put_pairs s 0 ps)
  unfolding put_set_of
  set_open e h = rw (e, le-ltb pairs_max (length ps) h)

  module _ (n : Sized s) (e : admissible s ≡ true) (h : length ps ≤ pairs_max) (j : Judgement) (f : j ≡ judge_pairs (sp s r_l) 0 ps) where
    judged : put_set_of s ps ≡ judged_then_put s ps j
    judged = set_open e h ∙ judged_first s ps n ∙ ap (judged_then_put s ps) (sym f)

    pub set_done : j.reply ≡ 0 → put_set_of s ps ≡ set_says 0 0 (put_all s ps)
    unfolding judged_then_put
    set_done z = judged ∙ rw z

    pub set_refused : (j.reply ≡ 0 → ⊥) → put_set_of s ps ≡ set_says j.reply j.place (halted s)
    unfolding judged_then_put
    set_refused z = judged ∙ rw (ne_eqb j.reply 0 z)
