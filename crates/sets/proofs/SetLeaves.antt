-- What each number of a set leaves, that no mask moves it, and what every set keeps.
use Rattle.model.proofs.Prelude.{suc, ℕ, ◌+◌, ◌<◌, ◌^◌, ◌≤◌, true, List, [], ◌∷◌, inl, inr, ◌≢◌, ⊎_elim, ap, refl, ◌∙◌, ◌≡◌, arith, eqb, ltb, length}
use Rattle.model.proofs.Prelude.{eqb-false, eqb-true, admissible, cleared, halted, MarginalZero, masked, put_globals, put_locals, r_g, r_l, Sized, sp, with_special}
use Rattle.model.proofs.Prelude.{Words, put_refusal, put_state, adm_of, Good, put_bound, put_global, Range, on, on_both, good_keeps, Keeps, globals_words}
use Rattle.model.proofs.Prelude.{halted_words, locals_words, special_words}
use Rattle.model.specs.declared.State.{State}
use Rattle.model.proofs.MarginalKept.{Calm, calm_keeps}
use Rattle.sets.specs.Sets.{Pair, SetOutcome, set_says, put_pairs, all_or_none, pairs_max, put_set_of}
use Rattle.sets.specs.SetMeant.{IgnoresMask, SetLeaves, SetsLeave, EmptySucceeds, ValueWords, SetsKeep}
use Rattle.sets.specs.Judged.{refusal_at}
use Rattle.sets.proofs.JudgedFirst.{refusal_same, set_open, sized_put}
use Rattle.sets.proofs.SetMeant.{RestSame, put_rest, put_kept, good_of, set_cases}

-- ---- what each number leaves

-- of pairs whose first has the place i
record PairsLeave (s : State) (ps : List Pair) (i : ℕ) (o : SetOutcome) : Type 0 where
  among : Range o.reply
  fails_at : o.reply ≢ 0 → o.place < i + length ps
  done_at : o.reply ≡ 0 → o.place ≡ 0
  rest : RestSame s o.state

joined : (s t u : State) → RestSame s t → RestSame t u → RestSame s u
joined s t u a b = record { pc_same = b.pc_same ∙ a.pc_same; halt_same = b.halt_same ∙ a.halt_same; marks_same = b.marks_same ∙ a.marks_same; mask_same = b.mask_same ∙ a.mask_same }

pairs_leave : (ps : List Pair) (s : State) (i : ℕ) → PairsLeave s ps i (put_pairs s i ps)
unfolding put_pairs
pairs_leave [] s i = record {
  among = inl refl;
  fails_at = λ d. absurd (d refl);
  done_at = λ e. refl;
  rest = record { pc_same = refl; halt_same = refl; marks_same = refl; mask_same = refl };
}
pairs_leave (p ∷ ps) s i =
    let t : State = put_state s p.register p.value in
    let h : PairsLeave t ps (suc i) (put_pairs t (suc i) ps) = pairs_leave ps t (suc i) in
    on (PairsLeave s (p ∷ ps) i) (eqb (put_refusal s p.register p.value) 0)
    (λ z. record {
      among = h.among;
      fails_at = λ d. let l = h.fails_at d in omega arith;
      done_at = h.done_at;
      rest = joined s t _ (put_rest s p.register p.value) h.rest;
    })
    (λ z. record {
      among = put_bound s p.register p.value;
      fails_at = λ d. omega arith;
      done_at = λ e. absurd (eqb-false _ _ z e);
      rest = record { pc_same = refl; halt_same = refl; marks_same = refl; mask_same = refl };
    })

pub sets_leave : SetsLeave
unfolding halted
sets_leave s ps =
    let h : PairsLeave s ps 0 (put_pairs s 0 ps) = pairs_leave ps s 0 in
    set_cases (SetLeaves s ps) s ps
    (λ a. record {
      among = inr (inl refl);
      one = λ e. (a, refl, refl);
      thirty = λ e. absurd (omega arith);
      seven_to_eleven = λ l m. absurd (omega arith);
      done = λ e. absurd (omega arith);
      pc_unmoved = refl;
      marks_same = refl;
      mask_same = refl;
    })
    (λ a m. record {
      among = inr (inr (inr refl));
      one = λ e. absurd (omega arith);
      thirty = λ e. (a, m, refl, refl);
      seven_to_eleven = λ l n. absurd (omega arith);
      done = λ e. absurd (omega arith);
      pc_unmoved = refl;
      marks_same = refl;
      mask_same = refl;
    })
    (λ a z. record {
      among = inl z;
      one = λ e. absurd (omega arith);
      thirty = λ e. absurd (omega arith);
      seven_to_eleven = λ l m. absurd (omega arith);
      done = λ e. (h.done_at z, h.rest.halt_same);
      pc_unmoved = h.rest.pc_same;
      marks_same = h.rest.marks_same;
      mask_same = h.rest.mask_same;
    })
    (λ a d.
    let r : (7 ≤ (put_pairs s 0 ps).reply) × ((put_pairs s 0 ps).reply ≤ 11) = ⊎_elim (λ e. absurd (d e)) (λ q. q) h.among in
    let l = r.0 in
    let m = r.1 in
    record {
      among = inr (inr (inl r));
      one = λ e. absurd (omega arith);
      thirty = λ e. absurd (omega arith);
      seven_to_eleven = λ _ _. (let q = h.fails_at d in omega arith, refl);
      done = λ e. absurd (d e);
      pc_unmoved = refl;
      marks_same = refl;
      mask_same = refl;
    })

pub empty_succeeds : EmptySucceeds
empty_succeeds s e = set_open s [] e (omega arith) ∙ unfold all_or_none put_pairs in refl

-- ---- the mask is not looked at

-- an outcome under the mask m
abbrev under : ℕ → SetOutcome → SetOutcome
under m o = set_says o.reply o.place (masked o.state m)

put_masked : (s : State) (m x v : ℕ) → put_state (masked s m) x v ≡ masked (put_state s x v) m
unfolding put_state put_locals put_globals with_special cleared
put_masked s m x v =
    on_both (λ (t u : State). t ≡ masked u m) (eqb x r_l) (λ e. refl) (λ e. on_both (λ (t u : State). t ≡ masked u m) (eqb x r_g) (λ f. refl) (λ f. refl))

pairs_masked : (ps : List Pair) (s : State) (m i : ℕ) → put_pairs (masked s m) i ps ≡ under m (put_pairs s i ps)
unfolding put_pairs
pairs_masked [] s m i = refl
pairs_masked (p ∷ ps) s m i =
    rw (refusal_same (masked s m) p, refusal_same s p)
    (on_both (λ (a b : SetOutcome). a ≡ under m b) (eqb (refusal_at (sp s r_l) p) 0)
    (λ z. ap (λ (t : State). put_pairs t (suc i) ps) (put_masked s m p.register p.value) ∙ pairs_masked ps (put_state s p.register p.value) m (suc i))
    (λ z. refl))

all_masked : (s : State) (m : ℕ) (o : SetOutcome) → all_or_none (masked s m) (under m o) ≡ under m (all_or_none s o)
unfolding all_or_none halted
all_masked s m o = on_both (λ (a b : SetOutcome). a ≡ under m b) (eqb o.reply 0) (λ z. refl) (λ z. refl)

pub ignores_mask : IgnoresMask
unfolding put_set_of
ignores_mask s m ps e f =
    rw (e, f)
    (on_both (λ (a b : SetOutcome). a ≡ under m b) (ltb pairs_max (length ps)) (λ z. refl)
    (λ z. ap (all_or_none (masked s m)) (pairs_masked ps s m 0) ∙ all_masked s m (put_pairs s 0 ps)))

-- ---- what every set keeps

-- what PUT keeps, pairs do
pairs_kept : (P : State → Type 0) → Keeps P → (ps : List Pair) (s : State) (i : ℕ) → P s → P (put_pairs s i ps).state
unfolding put_pairs
pairs_kept P k [] s i h = h
pairs_kept P k (p ∷ ps) s i h =
    on (λ (o : SetOutcome). P o.state) (eqb (put_refusal s p.register p.value) 0)
    (λ z. pairs_kept P k ps _ (suc i) (put_kept P k s p.register p.value (eqb-true _ _ z) h)) (λ z. h)

pairs_sized : (ps : List Pair) (s : State) (i : ℕ) → Sized s → Sized (put_pairs s i ps).state
unfolding put_pairs
pairs_sized [] s i h = h
pairs_sized (p ∷ ps) s i h =
    on (λ (o : SetOutcome). Sized o.state) (eqb (put_refusal s p.register p.value) 0)
    (λ z. pairs_sized ps _ (suc i) (sized_put s p.register p.value h)) (λ z. h)

put_words : (s : State) (x v : ℕ) → put_refusal s x v ≡ 0 → v < 2 ^ 64 → Words s → Words (put_state s x v)
unfolding put_state
put_words s x v p b h =
    on Words (eqb x r_l) (λ l. locals_words s v h)
    (λ l. on Words (eqb x r_g) (λ g. globals_words s v (put_global s v (rw (eqb-true x r_g g) at p)).2 h) (λ g. special_words s x v b h))

pairs_words : (ps : List Pair) (s : State) (i : ℕ) → ValueWords ps → Words s → Words (put_pairs s i ps).state
unfolding put_pairs ValueWords
pairs_words [] s i b h = h
pairs_words (p ∷ ps) s i b h =
    on (λ (o : SetOutcome). Words o.state) (eqb (put_refusal s p.register p.value) 0)
    (λ z. pairs_words ps _ (suc i) b.1 (put_words s p.register p.value (eqb-true _ _ z) b.0 h)) (λ z. h)

halted_sized : (s : State) → Sized s → Sized (halted s)
unfolding halted
halted_sized s n = record { generals = n.generals; specials = n.specials }

calm_zero : (s : State) → Calm s → MarginalZero s
calm_zero s c = record { zero_at = c.zero_at }

pub sets_keep : SetsKeep
sets_keep = record {
  sized = λ s ps n. set_cases (λ o. Sized o.state) s ps (λ a. n) (λ a m. n) (λ a z. pairs_sized ps s 0 n) (λ a d. halted_sized s n);
  admitted = λ s ps n e. set_cases (λ o. admissible o.state ≡ true) s ps (λ a. e) (λ a m. e)
      (λ a z. adm_of _ (pairs_kept Good good_keeps ps s 0 (good_of s n a)).admits) (λ a d. adm_of _ (good_keeps.at_halt' s (good_of s n a)).admits);
  marginal = λ s ps n m. set_cases (λ o. MarginalZero o.state) s ps (λ a. m) (λ a l. m)
      (λ a z. calm_zero _ (pairs_kept Calm calm_keeps ps s 0 (record { good = good_of s n a; zero_at = m.zero_at })))
      (λ a d. calm_zero _ (calm_keeps.at_halt' s (record { good = good_of s n a; zero_at = m.zero_at })));
  words = λ s ps b h. set_cases (λ o. Words o.state) s ps (λ a. h) (λ a m. h) (λ a z. pairs_words ps s 0 b h) (λ a d. halted_words s h);
}
