-- What a set is: one pair and PUT; its pairs one after another; the first that fails.
use Rattle.model.proofs.Prelude.{suc, ℕ, ◌+◌, ◌<◌, ◌≤◌, Bool, false, true, List, [], ◌++◌, ◌∷◌, ◌≢◌, ap, refl, sym, ◌∙◌, ◌≡◌, arith, eqb, ltb, length}
use Rattle.model.proofs.Prelude.{eqb-false, eqb-true, ltb-true, ne_eqb, Windows, tell, arm_of, op_put, op_puti, admissible, cleared, goes, halted, hides, next}
use Rattle.model.proofs.Prelude.{put_globals, put_locals, r_a, reg, r_g, r_l, Sized, sp, with_special, plan_of, refusal_of, step_of, put_refusal, put_special, put_state}
use Rattle.model.proofs.Prelude.{unless_hidden, adm, adm_of, Good, put_global, put_status, eqb_swap, on, perform_on, said, step_open, good_keeps, Keeps}
use Rattle.model.specs.declared.State.{State}
use Rattle.model.proofs.StepByArm.{passing}
use Rattle.sets.specs.Sets.{Pair, pair, SetOutcome, set_says, put_pairs, all_or_none, pairs_max, put_set_of}
use Rattle.sets.specs.SetMeant.{ButPc, OnePair, OneByOne, FirstFails, InTurn}
use Rattle.sets.proofs.JudgedFirst.{set_open}

-- ---- PUT that is not refused keeps what every state builder keeps

pub put_kept : (P : State → Type 0) → Keeps P → (s : State) (x v : ℕ) → put_refusal s x v ≡ 0 → P s → P (put_state s x v)
unfolding put_state
put_kept P k s x v p h =
    on P (eqb x r_l) (λ el. k.locals s v h)
    (λ el. on P (eqb x r_g)
    (λ eg. let b : (32 ≤ v) × (sp s r_l ≤ v) × (v ≤ 255) = put_global s v (rw (eqb-true x r_g eg) at p) in k.globals s v b.0 b.2 b.1 h)
    (λ eg. last el eg (eqb x r_a) refl))
  where
    last : eqb x r_l ≡ false → eqb x r_g ≡ false → (b : Bool) → eqb x r_a ≡ b → P (with_special s x v)
    last el eg true ea = rw (eqb-true x r_a ea) (k.status s v (put_status s v (rw (eqb-true x r_a ea) at p)) h)
    last el eg false ea = k.other s x v (eqb_swap x r_g eg) (eqb_swap x r_l el) (eqb_swap x r_a ea) h

-- PUT itself moves neither PC nor halt code, marks nor mask
pub record RestSame (s t : State) : Type 0 where
  pub pc_same : t.pc ≡ s.pc
  pub halt_same : t.halt ≡ s.halt
  pub marks_same : t.marks ≡ s.marks
  pub mask_same : t.mask ≡ s.mask

pub put_rest : (s : State) (x v : ℕ) → RestSame s (put_state s x v)
unfolding put_state put_locals put_globals with_special cleared
put_rest s x v =
    on (RestSame s) (eqb x r_l) (λ e. record { pc_same = refl; halt_same = refl; marks_same = refl; mask_same = refl })
    (λ e. on (RestSame s) (eqb x r_g) (λ f. record { pc_same = refl; halt_same = refl; marks_same = refl; mask_same = refl }) (λ f. record { pc_same = refl; halt_same = refl; marks_same = refl; mask_same = refl }))

-- ---- one pair

-- PUT's number for a pair, and what it does
abbrev number : State → Pair → ℕ
number s p = put_refusal s p.register p.value

abbrev put_one : State → Pair → State
put_one s p = put_state s p.register p.value

module _ (s : State) (i : ℕ) (p : Pair) (ps : List Pair) where
  pairs_on : number s p ≡ 0 → put_pairs s i (p ∷ ps) ≡ put_pairs (put_one s p) (suc i) ps
  unfolding put_pairs
  pairs_on z = rw z

  pairs_stop : eqb (number s p) 0 ≡ false → put_pairs s i (p ∷ ps) ≡ set_says (number s p) i s
  unfolding put_pairs
  pairs_stop z = rw z

module _ (s : State) (p : Pair) (e : admissible s ≡ true) where
  single_done : number s p ≡ 0 → put_set_of s (p ∷ []) ≡ set_says 0 0 (put_one s p)
  unfolding put_pairs all_or_none
  single_done z = set_open s (p ∷ []) e (omega arith) ∙ rw z

  single_refused : eqb (number s p) 0 ≡ false → put_set_of s (p ∷ []) ≡ set_says (number s p) 0 (halted s)
  unfolding put_pairs all_or_none
  single_refused z = set_open s (p ∷ []) e (omega arith) ∙ simp z

  single_reply : (put_set_of s (p ∷ [])).reply ≡ number s p
  single_reply = go (eqb (number s p) 0) refl
    where
      go : (b : Bool) → eqb (number s p) 0 ≡ b → (put_set_of s (p ∷ [])).reply ≡ number s p
      go true z = let n : number s p ≡ 0 = eqb-true _ _ z in ap (λ (o : SetOutcome). o.reply) (single_done n) ∙ sym n
      go false z = ap (λ (o : SetOutcome). o.reply) (single_refused z)

-- PUT of a value that is v
put_but : (w : Windows) (s : State) (op x y z v : ℕ) → admissible s ≡ true → hides s.mask x ≡ false → step_of w s op x y z ≡ perform_on w s (tell (put_special s x v))
    → ButPc w s (put_set_of s (pair x v ∷ [])) (step_of w s op x y z)
put_but w s op x y z v e u f = rw f (go (eqb (put_refusal s x v) 0) refl)
  where
    go : (b : Bool) → eqb (put_refusal s x v) 0 ≡ b → ButPc w s (put_set_of s (pair x v ∷ [])) (perform_on w s (tell (put_special s x v)))
    go true z = unfold put_special unless_hidden tell in
        (rw (u, z, single_done s (pair x v) e (eqb-true _ _ z), said w s (next (put_state s x v)) 0)
        (record { reply_is = refl; place_is = refl; state_is = unfold goes in (λ i. goes (put_state s x v) ((put_rest s x v).pc_same i)); memory_is = refl }))
    go false z = unfold put_special unless_hidden tell in
        (rw (u, z, single_refused s (pair x v) e z, said w s (halted s) (put_refusal s x v))
        (unfold goes halted in record { reply_is = refl; place_is = refl; state_is = refl; memory_is = refl }))

pub one_pair : OnePair
unfolding plan_of refusal_of arm_of
one_pair = record {
  put = λ w s x y z h u. put_but w s op_put x y z (reg s z) h.admitted u (step_open w s op_put x y z h.admitted (passing w s h) refl);
  put_immediate = λ w s x y z h u. put_but w s op_puti x y z z h.admitted u (step_open w s op_puti x y z h.admitted (passing w s h) refl);
}

-- ---- one after another

pub good_put : (s : State) (p : Pair) → number s p ≡ 0 → Good s → Good (put_one s p)
good_put s p = put_kept Good good_keeps s p.register p.value

pub good_of : (s : State) → Sized s → admissible s ≡ true → Good s
good_of s n e = record { size = n; admits = adm s e }

admits : (s : State) → Good s → admissible s ≡ true
admits s h = adm_of s h.admits

turn_none : (s : State) → OneByOne s [] s
unfolding OneByOne
turn_none s = refl

turn_one : (s : State) (p : Pair) (ps : List Pair) (t : State) → Good s → number s p ≡ 0 → OneByOne (put_one s p) ps t → OneByOne s (p ∷ ps) t
unfolding OneByOne
turn_one s p ps t h n o = rw (single_done s p (admits s h) n) (refl, o)

in_turn : (ps : List Pair) (s : State) (i : ℕ) → Good s → (put_pairs s i ps).reply ≡ 0 → OneByOne s ps (put_pairs s i ps).state
in_turn [] s i h e = unfold put_pairs in (turn_none s)
in_turn (p ∷ ps) s i h e = go (eqb (number s p) 0) refl (λ z. in_turn ps (put_one s p) (suc i) (good_put s p z h))
  where
    go : (b : Bool) → eqb (number s p) 0 ≡ b
        → (number s p ≡ 0 → (put_pairs (put_one s p) (suc i) ps).reply ≡ 0 → OneByOne (put_one s p) ps (put_pairs (put_one s p) (suc i) ps).state)
        → OneByOne s (p ∷ ps) (put_pairs s i (p ∷ ps)).state
    go true z r = let n : number s p ≡ 0 = eqb-true _ _ z in rw (pairs_on s i p ps n) (turn_one s p ps _ h n (r n (rw (pairs_on s i p ps n) at e)))
    go false z r = absurd (eqb-false _ _ z (rw (pairs_stop s i p ps z) at e))

turn_passes : (ps : List Pair) (s : State) (i : ℕ) (t : State) → Good s → OneByOne s ps t → put_pairs s i ps ≡ set_says 0 0 t
unfolding OneByOne
turn_passes [] s i t h o = unfold put_pairs in (λ k. set_says 0 0 (sym o k))
turn_passes (p ∷ ps) s i t h o =
    let n : number s p ≡ 0 = sym (single_reply s p (admits s h)) ∙ o.0 in
    pairs_on s i p ps n ∙ turn_passes ps (put_one s p) (suc i) t (good_put s p n h) (rw (single_done s p (admits s h) n) at o.1)

-- the first pair that fails, of those whose first has the place i
record FailsFrom (s : State) (ps : List Pair) (i : ℕ) (o : SetOutcome) : Type 0 where
  at : ℕ
  first : FirstFails s ps o.reply at
  place_at : o.place ≡ i + at

fails_from : (ps : List Pair) (s : State) (i : ℕ) → Good s → (put_pairs s i ps).reply ≢ 0 → FailsFrom s ps i (put_pairs s i ps)
fails_from [] s i h d = absurd (d (unfold put_pairs in refl))
fails_from (p ∷ ps) s i h d = go (eqb (number s p) 0) refl (λ z. fails_from ps (put_one s p) (suc i) (good_put s p z h))
  where
    go : (b : Bool) → eqb (number s p) 0 ≡ b
        → (number s p ≡ 0 → (put_pairs (put_one s p) (suc i) ps).reply ≢ 0 → FailsFrom (put_one s p) ps (suc i) (put_pairs (put_one s p) (suc i) ps))
        → FailsFrom s (p ∷ ps) i (put_pairs s i (p ∷ ps))
    go true z r =
        let n : number s p ≡ 0 = eqb-true _ _ z in
        let f = r n (λ e. d (ap (λ (o : SetOutcome). o.reply) (pairs_on s i p ps n) ∙ e)) in
        let q = f.place_at in
        rw (pairs_on s i p ps n) (record {
          at = suc f.at;
          first = record {
            before = p ∷ f.first.before;
            failing = f.first.failing;
            after = f.first.after;
            reached = f.first.reached;
            pairs_are = ap (λ (l : List Pair). p ∷ l) f.first.pairs_are;
            earlier_pass = turn_one s p _ _ h n f.first.earlier_pass;
            number_is = f.first.number_is;
            place_is = ap suc f.first.place_is;
          };
          place_at = omega arith;
        })
    go false z r = rw (pairs_stop s i p ps z) (record {
      at = 0;
      first = record {
        before = [];
        failing = p;
        after = ps;
        reached = s;
        pairs_are = refl;
        earlier_pass = turn_none s;
        number_is = sym (single_reply s p (admits s h));
        place_is = refl;
      };
      place_at = omega arith;
    })

turn_fails : (before : List Pair) (s : State) (i : ℕ) (t : State) (p : Pair) (after : List Pair) → Good s → OneByOne s before t → (put_set_of t (p ∷ [])).reply ≢ 0
    → put_pairs s i (before ++ (p ∷ after)) ≡ set_says (put_set_of t (p ∷ [])).reply (i + length before) t
unfolding OneByOne
turn_fails [] s i t p after h o d =
    let e : (put_set_of t (p ∷ [])).reply ≡ number s p = ap (λ (u : State). (put_set_of u (p ∷ [])).reply) o ∙ single_reply s p (admits s h) in
    let z : eqb (number s p) 0 ≡ false = ne_eqb _ 0 (λ q. d (e ∙ q)) in
    let k : i ≡ i + 0 = omega arith in
    pairs_stop s i p after z ∙ (λ j. set_says (sym e j) (k j) (sym o j))
turn_fails (q ∷ before) s i t p after h o d =
    let n : number s q ≡ 0 = sym (single_reply s q (admits s h)) ∙ o.0 in
    let k : suc i + length before ≡ i + suc (length before) = omega arith in
    pairs_on s i q (before ++ (p ∷ after)) n
    ∙ turn_fails before (put_one s q) (suc i) t p after (good_put s q n h) (rw (single_done s q (admits s h) n) at o.1) d
    ∙ ap (λ (m : ℕ). set_says (put_set_of t (p ∷ [])).reply m t) k

-- ---- the four outcomes of a set

pub set_cases : (P : SetOutcome → Type 0) (s : State) (ps : List Pair)
    → (admissible s ≡ false → P (set_says 1 0 s))
    → (admissible s ≡ true → pairs_max < length ps → P (set_says 30 0 s))
    → (admissible s ≡ true → (put_pairs s 0 ps).reply ≡ 0 → P (put_pairs s 0 ps))
    → (admissible s ≡ true → (put_pairs s 0 ps).reply ≢ 0 → P (set_says (put_pairs s 0 ps).reply (put_pairs s 0 ps).place (halted s)))
    → P (put_set_of s ps)
unfolding put_set_of all_or_none
set_cases P s ps one thirty done refused =
    on P (admissible s)
    (λ a. on P (ltb pairs_max (length ps)) (λ m. thirty a (ltb-true _ _ m))
    (λ m. on P (eqb (put_pairs s 0 ps).reply 0) (λ z. done a (eqb-true _ _ z)) (λ z. refused a (eqb-false _ _ z))))
    one

all_done : (s : State) (o : SetOutcome) (t : State) → o ≡ set_says 0 0 t → all_or_none s o ≡ set_says 0 0 t
unfolding all_or_none
all_done s o t e = rw e

all_refused : (s : State) (o : SetOutcome) (n i : ℕ) (t : State) → o ≡ set_says n i t → n ≢ 0 → all_or_none s o ≡ set_says n i (halted s)
unfolding all_or_none
all_refused s o n i t e d = rw (e, ne_eqb n 0 d)

pub in_turns : InTurn
in_turns = record {
  done = λ s ps n. set_cases (λ o. o.reply ≡ 0 → OneByOne s ps o.state) s ps (λ a e. absurd (omega arith)) (λ a m e. absurd (omega arith))
      (λ a z e. in_turn ps s 0 (good_of s n a) z) (λ a d e. absurd (d e));
  passed = λ s ps t n a m o. set_open s ps a m ∙ all_done s _ t (turn_passes ps s 0 t (good_of s n a) o);
  refused = λ s ps n. set_cases (λ o. 7 ≤ o.reply → o.reply ≤ 11 → FirstFails s ps o.reply o.place) s ps (λ a l h. absurd (omega arith)) (λ a m l h. absurd (omega arith))
      (λ a z l h. absurd (omega arith))
      (λ a d l h. let f = fails_from ps s 0 (good_of s n a) d in
      let k : (put_pairs s 0 ps).place ≡ f.at = omega (arith, f.place_at) in rw k f.first);
  failed = λ s before p after t n a m o d.
      let k : 0 + length before ≡ length before = omega arith in
      set_open s (before ++ (p ∷ after)) a m
      ∙ all_refused s _ (put_set_of t (p ∷ [])).reply (length before) t (rw k at (turn_fails before s 0 t p after (good_of s n a) o d)) d;
}
