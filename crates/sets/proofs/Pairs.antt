-- The pairs of a list of octabytes, one after another from the front; what judging and putting come to, pair by pair.
use Rattle.model.proofs.Prelude.{suc, ◌≢◌, ℕ, ◌*◌, ◌+◌, ◌/◌, ◌<◌, ◌≤◌, List, [], ◌∷◌, ap, refl, sym, ◌∙◌, ◌≡◌, arith, eqb, drop, get_or, length, length-drop}
use Rattle.model.proofs.Prelude.{drop-cons, ne_eqb, reply_of, fresh, r_l, sp, with_special, put_refusal, put_state, put_most, on, number_zero, refused_not_zero}
use Rattle.model.specs.declared.State.{State}
use Rattle.model.specs.declared.Reply.{Reply}
use Rattle.model.specs.declared.Reply.TheVariants.{Done}
use Rattle.std.specs.Prelude.{Err}
use Rattle.sets.specs.declared.Failed.{Failed}
use Rattle.sets.specs.Answer.{Judged}
use Rattle.sets.specs.Sets.{Pair, pair, pairs_of}
use Rattle.sets.specs.Judged.{refusal_at, locals_after, Judgement, judges, judge_pairs, put_all}

-- ---- the pairs from the i-th on

abbrev pub pairs_from : ℕ → List ℕ → List Pair
pairs_from i l = pairs_of (drop (2 * i) l)

abbrev pub pair_at : ℕ → List ℕ → Pair
pair_at i l = pair (get_or l (2 * i) 0) (get_or l (2 * i + 1) 0)

pub pairs_next : (l : List ℕ) (i : ℕ) → i < length l / 2 → pairs_from i l ≡ pair_at i l ∷ pairs_from (i + 1) l
pairs_next l i h =
    let a : suc (2 * i) ≡ 2 * i + 1 = omega arith in
    let b : suc (2 * i + 1) ≡ 2 * (i + 1) = omega arith in
    ap pairs_of
    (drop-cons l (2 * i) 0 (omega arith)
    ∙ ap (λ (n : ℕ). get_or l (2 * i) 0 ∷ drop n l) a
    ∙ ap (λ (r : List ℕ). get_or l (2 * i) 0 ∷ r) (drop-cons l (2 * i + 1) 0 (omega arith) ∙ ap (λ (n : ℕ). get_or l (2 * i + 1) 0 ∷ drop n l) b))
    ∙ unfold pairs_of in refl

short : (l : List ℕ) → length l ≤ 1 → pairs_of l ≡ []
unfolding pairs_of
short [] h = refl
short (x ∷ []) h = refl
short (x ∷ (y ∷ l)) h = absurd (omega arith)

pub pairs_end : (l : List ℕ) (i : ℕ) → length l / 2 ≤ i → pairs_from i l ≡ []
pairs_end l i h = short (drop (2 * i) l) (let e = length-drop (2 * i) l in omega arith)

pub pairs_count : (l : List ℕ) → length (pairs_of l) ≡ length l / 2
unfolding pairs_of
pairs_count [] = refl
pairs_count (x ∷ []) = refl
pairs_count (x ∷ (y ∷ l)) = let e = pairs_count l in omega arith

-- ---- judging

-- what PUT answers where rL is l
pub judged_at : (l : ℕ) (p : Pair) (r : Reply) → ((s : State) → sp s r_l ≡ l → r ≡ reply_of (put_refusal s p.register p.value)) → r ≡ reply_of (refusal_at l p)
unfolding refusal_at with_special fresh
judged_at l p r f = f (with_special fresh r_l l) refl

module _ (l : ℕ) (p : Pair) (r : Reply) (e : r ≡ reply_of (refusal_at l p)) where
  at_most : refusal_at l p ≤ 33
  unfolding refusal_at
  at_most = let h = put_most (with_special fresh r_l l) p.register p.value in omega arith

  pub fails : (r ≡ Done → ⊥) → refusal_at l p ≢ 0
  fails = refused_not_zero (refusal_at l p) r e

  module _ (i : ℕ) (ps : List Pair) where
    pub judge_on : r ≡ Done → (m : ℕ) → m ≡ locals_after l p → judge_pairs l i (p ∷ ps) ≡ judge_pairs m (i + 1) ps
    unfolding judge_pairs
    judge_on z m q = let k : suc i ≡ i + 1 = omega arith in rw (number_zero (refusal_at l p) r at_most e z, k, q)

    pub judge_stops : (r ≡ Done → ⊥) → judge_pairs l i (p ∷ ps) ≡ judges (refusal_at l p) i
    unfolding judge_pairs
    judge_stops z = rw (ne_eqb (refusal_at l p) 0 (fails z))

pub judge_none : (l i : ℕ) (ps : List Pair) → ps ≡ [] → judge_pairs l i ps ≡ judges 0 0
unfolding judge_pairs
judge_none l i ps e = rw e

-- its number is PUT's, or 0
pub judge_most : (ps : List Pair) (l i : ℕ) → (judge_pairs l i ps).reply ≤ 11
unfolding judge_pairs refusal_at
judge_most [] l i = omega arith
judge_most (p ∷ ps) l i =
    on (λ (j : Judgement). j.reply ≤ 11) (eqb (refusal_at l p) 0) (λ z. judge_most ps (locals_after l p) (suc i)) (λ z. put_most (with_special fresh r_l l) p.register p.value)

-- what is told of a pair that fails, and where none does
pub told_fails : (j k : Judgement) (f : Failed) → j ≡ k → f.reply ≡ reply_of k.reply → k.reply ≢ 0 → f.place ≡ k.place → Judged j (Err f)
told_fails j k f e r z i = rw e (r, z, i)

pub told_passes : (j k : Judgement) → j ≡ k → k.reply ≡ 0 → j.reply ≡ 0
told_passes j k e z = rw e z

-- ---- putting

pub put_next : (s : State) (p : Pair) (ps : List Pair) (t : State) → t ≡ put_state s p.register p.value → put_all s (p ∷ ps) ≡ put_all t ps
unfolding put_all
put_next s p ps t e = ap (λ (u : State). put_all u ps) (sym e)

pub put_none : (s : State) (ps : List Pair) → ps ≡ [] → put_all s ps ≡ s
unfolding put_all
put_none s ps e = rw e
