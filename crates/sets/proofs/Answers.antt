-- What put_set answers, from what its tests and calls tell; and that of a long list its first 33 pairs tell as much as all.
use Rattle.model.proofs.Prelude.{◌≢◌, min, ℕ, ◌*◌, ◌+◌, ◌/◌, ◌<◌, ◌≤◌, false, true, List, ⊎_elim, ap, refl, sym, ◌∙◌, ◌≡◌, arith, length, le-leb, lt-ltb}
use Rattle.model.proofs.Prelude.{number_of, admissible, halted, r_l, Sized, sp, lt_or_le, numbered}
use Rattle.model.specs.declared.State.{State}
use Rattle.model.specs.declared.Reply.TheVariants.{NotAdmissible, TooManyPairs}
use Rattle.machine.specs.Octabytes.{octas, loaded_octas}
use Rattle.machine.proofs.OctabyteRuns.{length_octas}
use Rattle.sets.specs.Sets.{Pair, SetOutcome, set_says, pairs_max, put_set_of, pairs_of, pairs_in, PutSet}
use Rattle.std.specs.Prelude.{Err}
use Rattle.sets.specs.declared.Failed.{Failed}
use Rattle.sets.specs.Answer.{Judged}
use Rattle.sets.specs.Judged.{Judgement, judge_pairs, put_all}
use Rattle.sets.proofs.JudgedFirst.{set_one, set_thirty, set_done, set_refused}
use Rattle.sets.proofs.Pairs.{judge_most, pairs_count}

by : (s : State) (ps : List Pair) (o : SetOutcome) → put_set_of s ps ≡ o → PutSet s ps o.reply o.place o.state
by s ps o e = record {
  reply_is = ap (λ (u : SetOutcome). u.reply) (sym e);
  place_is = ap (λ (u : SetOutcome). u.place) (sym e);
  state_is = ap (λ (u : SetOutcome). u.state) (sym e);
}

module _ (s : State) (ps : List Pair) where
  pub not_admissible : admissible s ≡ false → PutSet s ps (number_of NotAdmissible) 0 s
  unfolding number_of
  not_admissible e = by s ps (set_says 1 0 s) (set_one s ps e)

  pub too_many : admissible s ≡ true → pairs_max < length ps → PutSet s ps (number_of TooManyPairs) 0 s
  unfolding number_of
  too_many e h = by s ps (set_says 30 0 s) (set_thirty s ps e h)

  module _ (n : Sized s) (e : admissible s ≡ true) (h : length ps ≤ pairs_max) where
    abbrev judgement : Judgement
    judgement = judge_pairs (sp s r_l) 0 ps

    pub all_put : judgement.reply ≡ 0 → (t : State) → t ≡ put_all s ps → PutSet s ps 0 0 t
    all_put z t q = rw q (by s ps (set_says 0 0 (put_all s ps)) (set_done s ps n e h _ refl z))

    pub none_put : (f : Failed) → Judged judgement (Err f) → PutSet s ps (number_of f.reply) f.place (halted s)
    none_put f j =
        let m : judgement.reply ≤ 33 = (let k = judge_most ps (sp s r_l) 0 in omega arith) in
        let number : number_of f.reply ≡ judgement.reply = ap number_of j.0 ∙ numbered.number_reply _ m in
        rw (number, j.2) (by s ps _ (set_refused s ps n e h _ refl j.1))

-- a pair that fails is refused by a number that is not 0
pub fails_by : (l : ℕ) (ps : List Pair) (f : Failed) → length ps ≤ pairs_max → Judged (judge_pairs l 0 ps) (Err f) → number_of f.reply ≢ 0
fails_by l ps f h j z =
    let m : (judge_pairs l 0 ps).reply ≤ 33 = (let k = judge_most ps l 0 in omega arith) in
    j.1 (sym (numbered.number_reply _ m) ∙ ap number_of (sym j.0) ∙ z)

-- ---- the pairs of a list of bytes

-- two lists of more than 32 pairs are refused alike
both_long : (s : State) (ps qs : List Pair) → pairs_max < length ps → pairs_max < length qs → put_set_of s ps ≡ put_set_of s qs
unfolding put_set_of
both_long s ps qs h k = rw (lt-ltb pairs_max (length ps) h, lt-ltb pairs_max (length qs) k)

-- as many octabytes as there is room for are read, of which there are 66 at most
read_all : (l vs : List ℕ) (n : ℕ) → length vs ≡ n → n ≡ min (length l / 8) 66 → loaded_octas l 0 vs ≡ octas l 0 n
unfolding loaded_octas
read_all l vs n e f = rw (e, le-leb (0 + 8 * n) (length l) (omega arith))

cut_same : (s : State) (l : List ℕ) (n : ℕ) → n ≡ min (length l / 8) 66 → put_set_of s (pairs_of (octas l 0 n)) ≡ put_set_of s (pairs_in l)
unfolding pairs_in
cut_same s l n f = ⊎_elim
    (λ few. let e : n ≡ length l / 8 = omega arith in rw e)
    (λ many. let e : n ≡ 66 = omega arith in
    both_long s _ _ (omega (arith, pairs_count (octas l 0 n), length_octas l 0 n)) (omega (arith, pairs_count (octas l 0 (length l / 8)), length_octas l 0 (length l / 8))))
    (lt_or_le (length l / 8) 66)

pub read_same : (s : State) (l vs : List ℕ) (n : ℕ) → length vs ≡ n → n ≡ min (length l / 8) 66 → (r i : ℕ) (t : State)
    → PutSet s (pairs_of (loaded_octas l 0 vs)) r i t → PutSet s (pairs_in l) r i t
read_same s l vs n e f r i t g =
    let q : put_set_of s (pairs_of (loaded_octas l 0 vs)) ≡ put_set_of s (pairs_in l) = ap (λ (o : List ℕ). put_set_of s (pairs_of o)) (read_all l vs n e f) ∙ cut_same s l n f in
    record {
      reply_is = g.reply_is ∙ ap (λ (o : SetOutcome). o.reply) q;
      place_is = g.place_is ∙ ap (λ (o : SetOutcome). o.place) q;
      state_is = g.state_is ∙ ap (λ (o : SetOutcome). o.state) q;
    }
