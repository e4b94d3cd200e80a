-- Parts that do not overlap have no byte in common; in a call that 33 does not refuse no two overlap.
use Rattle.model.proofs.Prelude.{suc, zero, ℕ, ◌%◌, ◌+◌, ◌<◌, ◌≤◌, Bool, false, not, true, ◌&&◌, ◌||◌, List, [], ◌++◌, ◌∷◌, inl, inr, ◌≢◌, ◌⊎◌, refl, sym, ◌∙◌}
use Rattle.model.proofs.Prelude.{◌≡◌, dec_lt, arith, eqb, leb, ltb, length, eqb-true, le-leb, leb-true, lt-ltb, ltb-true, not-true, Windows, fetched, and_left}
use Rattle.model.proofs.Prelude.{and_right, at_each, each, or_left, or_right}
use Rattle.task_model.proofs.Prelude.{State}
use Rattle.task_model.specs.Tasks.{Own, owns, Turn, turn}
use Rattle.task_model.specs.Call.{tasks_in, part_at, each_below, part_ruled, overlaps, part_clear, turn_most, tasks_ruled, call_of}
use Rattle.task_model.specs.TaskDemand.{Disjoint, PartsApart}
use Rattle.task_model.specs.TasksMeant.{tried_turns, PartsMeant}
use Rattle.task_model.proofs.Tried.{tried_by}

-- ---- a test at each number below n

each_is : (n : ℕ) (P : ℕ → Bool) → each_below n P ≡ each n P
unfolding each_below each
each_is zero P = refl
each_is (suc n) P = rw (each_is n P)

pub at_below : (n : ℕ) (P : ℕ → Bool) → each_below n P ≡ true → (k : ℕ) → k < n → P k ≡ true
at_below n P e = at_each n P (sym (each_is n P) ∙ e)

pub each_below_law : (n : ℕ) (P : ℕ → Bool) → ((k : ℕ) → k < n → P k ≡ true) → each_below n P ≡ true
unfolding each_below
each_below_law zero P h = refl
each_below_law (suc n) P h = rw (h n (omega arith), each_below_law n P (λ k l. h k (omega arith)))

-- ---- parts

pub owns_is : (p : Own) (d : ℕ) → owns p d ≡ true → (p.start ≤ d) × (d < p.start + p.size)
unfolding owns
owns_is p d e = (leb-true _ _ (and_left (leb p.start d) _ e), ltb-true _ _ (and_right (leb p.start d) _ e))

pub is_owned : (p : Own) (d : ℕ) → p.start ≤ d → d < p.start + p.size → owns p d ≡ true
unfolding owns
is_owned p d a b = rw (le-leb _ _ a, lt-ltb _ _ b)

-- r is not empty, and its first byte lies in p
abbrev begins : Own → Own → Bool
begins p r = ltb 0 r.size && owns p r.start

begins_not : (p r : Own) → begins p r ≡ false → p.start ≤ r.start → r.start < p.start + p.size → 0 < r.size → ⊥
begins_not p r e a b c = let o : ◌≡◌ {A = ℕ} 0 1 = cc (is_owned p r.start a b, lt-ltb 0 r.size c, e) in omega arith

pub apart : (p r : Own) → overlaps p r ≡ false → (d : ℕ) → owns p d ≡ true → owns r d ≡ true → ⊥
unfolding overlaps
apart p r e d f g = go (dec_lt p.start r.start)
  where
    a : (p.start ≤ d) × (d < p.start + p.size)
    a = owns_is p d f

    b : (r.start ≤ d) × (d < r.start + r.size)
    b = owns_is r d g

    go : Dec (p.start < r.start) → ⊥
    go (yes l) = begins_not p r (or_left (begins p r) (begins r p) e) (omega arith) (omega (arith, a.1, b.0)) (omega (arith, b.0, b.1))
    go (no l) = begins_not r p (or_right (begins p r) (begins r p) e) (omega arith) (omega (arith, a.0, b.1)) (omega (arith, a.0, a.1))

first_in : (p r : Own) → begins p r ≡ true → (owns p r.start ≡ true) × (owns r r.start ≡ true)
first_in p r e =
    let l : 0 < r.size = ltb-true _ _ (and_left (ltb 0 r.size) _ e) in
    (and_right (ltb 0 r.size) _ e, is_owned r r.start (omega arith) (omega arith))

pub common : (p r : Own) → overlaps p r ≡ true → ((owns p r.start ≡ true) × (owns r r.start ≡ true)) ⊎ ((owns p p.start ≡ true) × (owns r p.start ≡ true))
unfolding overlaps
common p r = go (begins p r) refl
  where
    go : (b : Bool) → begins p r ≡ b → (b || begins r p) ≡ true
        → ((owns p r.start ≡ true) × (owns r r.start ≡ true)) ⊎ ((owns p p.start ≡ true) × (owns r p.start ≡ true))
    go true e h = inl (first_in p r e)
    go false e h = let f : (owns r p.start ≡ true) × (owns p p.start ≡ true) = first_in r p h in inr (f.1, f.0)

overlaps_swap : (p r : Own) → overlaps p r ≡ false → overlaps r p ≡ false
unfolding overlaps
overlaps_swap p r e = rw (or_left (begins p r) _ e, or_right (begins p r) _ e)

-- ---- a call that 33 does not refuse

pub record CallRuled (ns : List ℕ) (q : ℕ) : Type 0 where
  pub tasks_some : 1 ≤ tasks_in ns
  pub tasks_few : tasks_in ns ≤ 8
  pub turn_some : 1 ≤ q
  pub whole_octas : (k : ℕ) → k < tasks_in ns → (part_at ns k).start % 8 ≡ 0
  pub clear : (k : ℕ) → k < tasks_in ns → part_clear ns k ≡ true

ruled_start : (b : ℕ) (p : Own) → part_ruled b p ≡ true → p.start % 8 ≡ 0
unfolding part_ruled
ruled_start b p e = eqb-true _ _ (and_left (eqb (p.start % 8) 0) _ e)

pub call_ruled : (b : ℕ) (ns : List ℕ) (q : ℕ) → tasks_ruled b ns q ≡ true → CallRuled ns q
unfolding tasks_ruled
call_ruled b ns q e =
    let r : ((leb 1 (tasks_in ns) && leb (tasks_in ns) 8) && ((leb 1 q && leb q turn_most)
    && (each_below (tasks_in ns) (λ k. part_ruled b (part_at ns k)) && each_below (tasks_in ns) (part_clear ns)))) ≡ true = and_right (eqb (length ns % 2) 0) _ e in
    let t : ((leb 1 q && leb q turn_most) && (each_below (tasks_in ns) (λ k. part_ruled b (part_at ns k)) && each_below (tasks_in ns) (part_clear ns))) ≡ true
    = and_right (leb 1 (tasks_in ns) && leb (tasks_in ns) 8) _ r in
    let u : (each_below (tasks_in ns) (λ k. part_ruled b (part_at ns k)) && each_below (tasks_in ns) (part_clear ns)) ≡ true = and_right (leb 1 q && leb q turn_most) _ t in
    record {
      tasks_some = leb-true _ _ (and_left (leb 1 (tasks_in ns)) _ (and_left _ _ r));
      tasks_few = leb-true _ _ (and_right (leb 1 (tasks_in ns)) _ (and_left _ _ r));
      turn_some = leb-true _ _ (and_left (leb 1 q) _ (and_left _ _ t));
      whole_octas = λ k l. ruled_start b (part_at ns k) (at_below (tasks_in ns) (λ k. part_ruled b (part_at ns k)) (and_left _ _ u) k l);
      clear = at_below (tasks_in ns) (part_clear ns) (and_right (each_below (tasks_in ns) (λ k. part_ruled b (part_at ns k))) _ u);
    }

-- part k overlaps none before it
before : (b : ℕ) (ns : List ℕ) (q : ℕ) → tasks_ruled b ns q ≡ true → (j k : ℕ) → j < k → k < tasks_in ns → overlaps (part_at ns j) (part_at ns k) ≡ false
unfolding part_clear
before b ns q e j k l m = not-true _ (at_below k (λ j. not (overlaps (part_at ns j) (part_at ns k))) ((call_ruled b ns q e).clear k m) j l)

pub each_apart : (b : ℕ) (ns : List ℕ) (q : ℕ) → tasks_ruled b ns q ≡ true → (j k : ℕ) → j < tasks_in ns → k < tasks_in ns → j ≢ k
    → overlaps (part_at ns j) (part_at ns k) ≡ false
each_apart b ns q e j k l m n = go (dec_lt j k)
  where
    go : Dec (j < k) → overlaps (part_at ns j) (part_at ns k) ≡ false
    go (yes h) = before b ns q e j k h m
    go (no h) = overlaps_swap (part_at ns k) (part_at ns j) (before b ns q e k j (omega (arith, n)) l)

-- ---- parts that do not overlap, as turns have them

clear_disjoint : (p r : Own) → overlaps p r ≡ false → Disjoint p r
clear_disjoint p r e = go (dec_lt 0 p.size) (dec_lt 0 r.size) (dec_lt r.start (p.start + p.size)) (dec_lt p.start (r.start + r.size)) (dec_lt p.start r.start)
  where
    go : Dec (0 < p.size) → Dec (0 < r.size) → Dec (r.start < p.start + p.size) → Dec (p.start < r.start + r.size) → Dec (p.start < r.start) → Disjoint p r
    go (no a) b c d f = inr (inr (inl (omega arith)))
    go (yes a) (no b) c d f = inr (inr (inr (omega arith)))
    go (yes a) (yes b) (no c) d f = inl (omega arith)
    go (yes a) (yes b) (yes c) (no d) f = inr (inl (omega arith))
    go (yes a) (yes b) (yes c) (yes d) (yes f) = absurd (apart p r e r.start (is_owned p r.start (omega arith) c) (is_owned r r.start (omega arith) (omega arith)))
    go (yes a) (yes b) (yes c) (yes d) (no f) = absurd (apart p r e p.start (is_owned p p.start (omega arith) (omega arith)) (is_owned r p.start (omega arith) d))

disjoint : (b : ℕ) (ns : List ℕ) (q : ℕ) → tasks_ruled b ns q ≡ true → (j k : ℕ) → j < tasks_in ns → k < tasks_in ns → j ≢ k → Disjoint (part_at ns j) (part_at ns k)
disjoint b ns q e j k l m n = clear_disjoint (part_at ns j) (part_at ns k) (each_apart b ns q e j k l m n)

module _ (p : Own) (c : ℕ) where
  pub apart_append : (is js : List Turn) → PartsApart p c is → PartsApart p c js → PartsApart p c (is ++ js)
  unfolding PartsApart
  apart_append [] js f g = g
  apart_append (turn k r i ∷ is) js f g = (f.0, apart_append is js f.1 g)

turns_apart : (b : ℕ) (ns : List ℕ) (q : ℕ) → tasks_ruled b ns q ≡ true → (w : Windows) (ss : List State) (grant c : ℕ) → c < tasks_in ns
    → PartsApart (part_at ns c) c (tried_turns ns (call_of w ss ns q grant).given)
unfolding PartsApart
turns_apart b ns q e w ss grant c l =
    tried_by (PartsApart (part_at ns c) c) ns tt
    (λ is k m h. apart_append (part_at ns c) c is (turn k (part_at ns k) fetched ∷ []) h (λ n. disjoint b ns q e c k l m (λ i. n (sym i)), tt)) w ss q grant

pub parts_meant : PartsMeant
parts_meant = record { apart = apart; common = common; each_apart = each_apart; disjoint = disjoint; turns_apart = turns_apart }
