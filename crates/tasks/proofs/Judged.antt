-- What the tests of a call come to: tests at each number so far, parts, 33, and what refuses the call.
use Rattle.model.proofs.Prelude.{suc, zero, ℕ, ◌%◌, ◌+◌, ◌<◌, ◌≤◌, Bool, false, not, true, ◌&&◌, List, ap, refl, sym, ◌∙◌, ◌≡◌, ℕ_discrete, add-one, arith, eqb}
use Rattle.model.proofs.Prelude.{leb, length, eq-eqb, le-ltb, leb-true, lt-ltb, ne_eqb, Shapes, grant_most, unruled_by, and_left, and_right}
use Rattle.model.proofs.Prelude.{denied, granted}
use Rattle.tasks.proofs.Prelude.{State, all_admissible, call_refusal, each_below, overlaps, part_at, part_clear, part_ruled, tasks_in, tasks_ruled, turn_most}
use Rattle.tasks.proofs.Prelude.{Own, at_below}

pub and_false : (t : Bool) → (t && false) ≡ false
and_false true = refl
and_false false = refl

-- ---- a test at each number below n

pub below_none : (P : ℕ → Bool) → each_below 0 P ≡ true
unfolding each_below
below_none P = refl

pub below_more : (k : ℕ) (P : ℕ → Bool) → each_below k P ≡ true → P k ≡ true → each_below (k + 1) P ≡ true
unfolding each_below
below_more k P e f = rw (add-one k, f, e)

pub below_fails : (n : ℕ) (P : ℕ → Bool) (k : ℕ) → k < n → P k ≡ false → each_below n P ≡ false
unfolding each_below
below_fails zero P k l e = absurd (omega arith)
below_fails (suc n) P k l e = go (ℕ_discrete k n) (below_fails n P k)
  where
    go : Dec (k ≡ n) → (k < n → P k ≡ false → each_below n P ≡ false) → (P n && each_below n P) ≡ false
    go (yes q) f = rw (← q, e)
    go (no q) f = rw (f (omega (arith, q)) e, and_false)

pub below_all : (n k : ℕ) (P : ℕ → Bool) → k ≡ n → each_below k P ≡ true → true ≡ each_below n P
below_all n k P q e = sym (ap (λ (i : ℕ). each_below i P) (sym q) ∙ e)

-- ---- parts

-- part k overlaps none of the first j
abbrev pub clear_so : List ℕ → ℕ → ℕ → Bool
clear_so ns k j = each_below j (λ i. not (overlaps (part_at ns i) (part_at ns k)))

-- part k against one before it, as code holds them
module _ (ns : List ℕ) (k j : ℕ) (p r : Own) (e : p ≡ part_at ns j) (f : r ≡ part_at ns k) (t : Bool) (h : t ≡ overlaps p r) where
  same : t ≡ overlaps (part_at ns j) (part_at ns k)
  same = h ∙ (λ i. overlaps (e i) (f i))

  pub clear_fails : j < k → t ≡ true → false ≡ part_clear ns k
  unfolding part_clear
  clear_fails l g = sym (below_fails k (λ i. not (overlaps (part_at ns i) (part_at ns k))) j l (ap not (sym same ∙ g)))

  pub clear_more : t ≡ false → clear_so ns k j ≡ true → clear_so ns k (j + 1) ≡ true
  clear_more g c = below_more j (λ i. not (overlaps (part_at ns i) (part_at ns k))) c (ap not (sym same ∙ g))

pub clear_all : (ns : List ℕ) (k j : ℕ) → j ≡ k → clear_so ns k j ≡ true → true ≡ part_clear ns k
unfolding part_clear
clear_all ns k j e c = below_all k j (λ i. not (overlaps (part_at ns i) (part_at ns k))) e c

-- the first k parts obey their rule
abbrev pub ruled_so : ℕ → List ℕ → ℕ → Bool
ruled_so b ns k = each_below k (λ j. part_ruled b (part_at ns j))

-- part k by its rule, as code holds it and tests it by `!t`
module _ (b : ℕ) (ns : List ℕ) (k : ℕ) (p : Own) (e : p ≡ part_at ns k) (t : Bool) (h : t ≡ part_ruled b p) where
  pub ruled_fails : (n : ℕ) → k < n → not t ≡ true → false ≡ ruled_so b ns n
  ruled_fails n l g = sym (below_fails n (λ j. part_ruled b (part_at ns j)) k l (denied t _ (h ∙ ap (part_ruled b) e) g))

  pub ruled_more : not t ≡ false → ruled_so b ns k ≡ true → ruled_so b ns (k + 1) ≡ true
  ruled_more g c = below_more k (λ j. part_ruled b (part_at ns j)) c (granted t _ (h ∙ ap (part_ruled b) e) g)

pub ruled_all : (b : ℕ) (ns : List ℕ) (n k : ℕ) → k ≡ n → ruled_so b ns k ≡ true → true ≡ ruled_so b ns n
ruled_all b ns n k e c = below_all n k (λ j. part_ruled b (part_at ns j)) e c

-- ---- 33

-- what a call that 33 does not refuse has, beside the laws of task_model
pub record Ruled (b : ℕ) (ns : List ℕ) (q : ℕ) : Type 0 where
  pub tasks_some : 1 ≤ tasks_in ns
  pub tasks_few : tasks_in ns ≤ 8
  pub turn_most' : q ≤ turn_most
  pub part_ruled_law : (k : ℕ) → k < tasks_in ns → part_ruled b (part_at ns k) ≡ true

pub ruled_so_law : (b : ℕ) (ns : List ℕ) (q : ℕ) → tasks_ruled b ns q ≡ true → Ruled b ns q
unfolding tasks_ruled
ruled_so_law b ns q e =
    let r = and_right (eqb (length ns % 2) 0) _ e in
    let n = and_left (leb 1 (tasks_in ns) && leb (tasks_in ns) 8) _ r in
    let t = and_right (leb 1 (tasks_in ns) && leb (tasks_in ns) 8) _ r in
    record {
      tasks_some = leb-true _ _ (and_left (leb 1 (tasks_in ns)) _ n);
      tasks_few = leb-true _ _ (and_right (leb 1 (tasks_in ns)) _ n);
      turn_most' = leb-true _ _ (and_right (leb 1 q) _ (and_left (leb 1 q && leb q turn_most) _ t));
      part_ruled_law = at_below (tasks_in ns) (λ k. part_ruled b (part_at ns k)) (and_left (ruled_so b ns (tasks_in ns)) _ (and_right (leb 1 q && leb q turn_most) _ t));
    }

-- ---- the call

module _ (w : Shapes) (ss : List State) (ns : List ℕ) (q grant : ℕ) (m : ℕ) (e : m ≡ unruled_by w) where
  pub call_unruled : (m ≡ 0 → ⊥) → m ≡ call_refusal w ss ns q grant
  unfolding call_refusal
  call_unruled d = rw (ne_eqb (unruled_by w) 0 (λ z. d (e ∙ z))) e

  module _ (z : m ≡ 0) where
    pub call_granted : grant_most < grant → 25 ≡ call_refusal w ss ns q grant
    unfolding call_refusal
    call_granted l = rw (eq-eqb (unruled_by w) 0 (sym e ∙ z), lt-ltb grant_most grant l)

    pub call_ruled : grant ≤ grant_most → tasks_ruled w.b.size ns q ≡ false → 33 ≡ call_refusal w ss ns q grant
    unfolding call_refusal
    call_ruled l t = rw (eq-eqb (unruled_by w) 0 (sym e ∙ z), le-ltb grant_most grant l, t)

    module _ (l : grant ≤ grant_most) (t : tasks_ruled w.b.size ns q ≡ true) where
      pub call_inadmissible : all_admissible (tasks_in ns) ss ≡ false → 1 ≡ call_refusal w ss ns q grant
      unfolding call_refusal
      call_inadmissible a = rw (eq-eqb (unruled_by w) 0 (sym e ∙ z), le-ltb grant_most grant l, t, a)

      pub call_open : all_admissible (tasks_in ns) ss ≡ true → 0 ≡ call_refusal w ss ns q grant
      unfolding call_refusal
      call_open a = rw (eq-eqb (unruled_by w) 0 (sym e ∙ z), le-ltb grant_most grant l, t, a)
