-- By which number a run of octabytes is refused, and the windows themselves: 6, 2 and 22. One octabyte: RunTest.
use Rattle.model.proofs.Prelude.{suc, zero, ℕ, ◌%◌, ◌*◌, ◌+◌, ◌-◌, ◌<◌, ◌^◌, ◌≤◌, Bool, false, true, ◌&&◌, ◌||◌, inl, inr, ◌≢◌, ◌⊎◌, ⊎_elim, ap, refl, sym, ◌∙◌}
use Rattle.model.proofs.Prelude.{◌≡◌, mod-eq_of_lt, arith, eqb, ltb, le-leb, le-ltb, lt-leb, ne_eqb, has, holder, offset, ruled, ruled_one, Shapes, shares, octa}
use Rattle.model.proofs.Prelude.{worst, refusing, lt_or_le, of_worst, worst_of, refusing_mod, worst_six}
use Rattle.machine.specs.Octas.{room_in}
use Rattle.machine.specs.Pieces.{PieceIs}
use Rattle.machine.proofs.RunTest.{held_inside, held_outside, piece_b}

-- ---- a run of octabytes

-- a run of one
pub run_one : (w : Shapes) (a : ℕ) → worst (refusing w) a 1 ≡ refusing w a
unfolding worst
run_one w a = omega arith

worst_least : (w : Shapes) (n x i : ℕ) → i < n → refusing w (x + 8 * i) ≤ worst (refusing w) x n
unfolding worst
worst_least w zero x i l = absurd (omega arith)
worst_least w (suc n) x zero l = let z : x + 8 * 0 ≡ x = omega arith in rw z (omega arith)
worst_least w (suc n) x (suc i) l =
    let z : x + 8 * suc i ≡ x + 8 + 8 * i = omega arith in
    let r : refusing w (x + 8 + 8 * i) ≤ worst (refusing w) (x + 8) n = worst_least w n (x + 8) i (omega arith) in
    rw z (omega arith)

module _ (w : Shapes) (x : ℕ) where
  abbrev Passed : ℕ → Type 0
  Passed i = worst (refusing w) x i ≡ 0

  -- a further piece, or its first octabytes
  pub more : (i k p : ℕ) → Passed i → p ≡ (x + 8 * i) % 2 ^ 64 → ((l : ℕ) → l < k → refusing w (p + 8 * l) ≡ 0) → Passed (i + k)
  more i k p e q f = of_worst (refusing w) (i + k) x (λ l h. ⊎_elim (λ lo. worst_of (refusing w) i x l e lo) (λ hi. far l hi h) (lt_or_le l i))
    where
      far : (l : ℕ) → i ≤ l → l < i + k → refusing w (x + 8 * l) ≡ 0
      far l a b = refusing_mod w (x + 8 * l) (p + 8 * (l - i)) (omega arith) ∙ f (l - i) (omega arith)

  -- none
  pub lacks : (i n p k h : ℕ) → i < n → p ≡ (x + 8 * i) % 2 ^ 64 → PieceIs w p h k → h ≡ 2 → worst (refusing w) x n ≡ 6
  lacks i n p k h l q z two =
      let first : p ≡ p + 8 * 0 = omega arith in
      let here : refusing w p ≡ 6 = held_outside w p (ap (holder w) first ∙ z.held 0 z.some ∙ two) in
      let at : refusing w (x + 8 * i) ≡ 6 = refusing_mod w (x + 8 * i) p (omega arith) ∙ here in
      worst_six w n x (lacking n (omega (arith, worst_least w n x i l, at)))
    where
      lacking : (n : ℕ) → 6 ≤ worst (refusing w) x n → eqb (worst (refusing w) x n) 0 ≡ false
      lacking n b = ne_eqb (worst (refusing w) x n) 0 (omega arith)

  pub passes : (i k n p h : ℕ) → Passed i → p ≡ (x + 8 * i) % 2 ^ 64 → PieceIs w p h k → h ≢ 2 → n ≤ k → Passed (i + n)
  passes i k n p h e q z m b = more i n p e q (λ l o. held_inside w (p + 8 * l) (λ two. m (sym (z.held l (omega arith)) ∙ two)))

  pub enough : (i k n p h : ℕ) → Passed i → p ≡ (x + 8 * i) % 2 ^ 64 → PieceIs w p h k → h ≢ 2 → n ≤ i + k → i ≤ n → worst (refusing w) x n ≡ 0
  enough i k n p h e q z m l o =
      let c : i + (n - i) ≡ n = omega arith in
      rw c at (passes i k (n - i) p h e q z m (omega arith))

  -- B has them all
  pub within_b : (n k : ℕ) → x < 2 ^ 64 → w.b.size < 2 ^ 64 → k ≡ room_in w.b x → 8 * k < 2 ^ 64 → n ≤ k → worst (refusing w) x n ≡ 0
  unfolding worst
  within_b zero k b s e f l = refl
  within_b (suc n) k b s e f l = enough 0 k (suc n) x 1 refl (omega arith) (piece_b w x k s (λ z. omega arith) e f) (λ z. omega arith) (omega arith) (omega arith)

-- ---- 2 and 22

aligned_octa : (a : ℕ) → a < 2 ^ 64 → a % 8 ≡ 0 → octa a ≡ a
unfolding octa
aligned_octa a h e = omega arith

-- how far one base lies above another
module _ (base other d : ℕ) (b : base < 2 ^ 64) (o : other < 2 ^ 64) (p : base % 8 ≡ 0) (q : other % 8 ≡ 0) (e : d ≡ (other + (2 ^ 64 - base)) % 2 ^ 64) where
  apart_by : offset base other ≡ d
  unfolding offset
  apart_by =
      let whole : base % 2 ^ 64 ≡ base = mod-eq_of_lt b in
      rw (aligned_octa other o q, whole) (sym e)

  pub reached : (len : ℕ) → len % 8 ≡ 0 → d < len → has (record { from = base; size = len }) other ≡ true
  unfolding has
  reached len m l = rw apart_by (le-leb (d + 8) len (omega arith))

  pub unreached : (len : ℕ) → len ≤ d → has (record { from = base; size = len }) other ≡ false
  unfolding has
  unreached len l = rw apart_by (lt-leb (d + 8) len (omega arith))

pub and_none : (t u : Bool) → u ≡ false → (t && u) ≡ false
and_none true u e = e
and_none false u e = refl

-- the way back from one base to the other
way_back : (a b d : ℕ) → a < 2 ^ 64 → b < 2 ^ 64 → d ≡ (b + (2 ^ 64 - a)) % 2 ^ 64 → 0 < d → (a + (2 ^ 64 - b)) % 2 ^ 64 ≡ 2 ^ 64 - d
way_back a b d p q e l = omega arith

-- two windows, each base behind the other one's end
module _ (a b m n d r : ℕ) (p : a < 2 ^ 64) (q : b < 2 ^ 64) (ea : a % 8 ≡ 0) (eb : b % 8 ≡ 0) (e : d ≡ (b + (2 ^ 64 - a)) % 2 ^ 64) (f : r ≡ (d + (2 ^ 64 - m)) % 2 ^ 64)
    (lm : m < 2 ^ 60) (ln : n < 2 ^ 60) (l : r ≤ 2 ^ 64 - 1 - (m + n)) where
  past : (m ≤ d) × (d + n < 2 ^ 64)
  past = (omega arith, omega arith)

  pub are_apart : shares (record { a = record { from = a; size = m }; b = record { from = b; size = n } }) ≡ false
  unfolding shares
  are_apart = rw (and_none (ltb 0 n) _ (unreached a b d p q ea eb e m past.0)) (no_second (lt_or_le 0 m))
    where
      no_second : (0 < m) ⊎ (m ≤ 0) → (ltb 0 m && has (record { from = b; size = n }) a) ≡ false
      no_second (inl some) = and_none (ltb 0 m) _ (unreached b a (2 ^ 64 - d) q p eb ea (sym (way_back a b d p q e (omega (arith, past)))) n (omega (arith, past)))
      no_second (inr none) = rw (le-ltb 0 m none)

module _ (w : Shapes) where
  pub first_unruled : ruled_one w.a ≡ false → ruled w ≡ false
  unfolding ruled
  first_unruled e = rw e

  pub second_unruled : ruled_one w.a ≡ true → ruled_one w.b ≡ false → ruled w ≡ false
  unfolding ruled
  second_unruled e f = rw (e, f)

  pub both_ruled : ruled_one w.a ≡ true → ruled_one w.b ≡ true → ruled w ≡ true
  unfolding ruled
  both_ruled e f = rw (e, f)

  -- 22: B's first octabyte in A, or A's in B
  abbrev b_in_a : Bool
  b_in_a = ltb 0 w.b.size && has w.a w.b.from

  abbrev a_in_b : Bool
  a_in_b = ltb 0 w.a.size && has w.b w.a.from

  pub shared_first : (r : Bool) → r ≡ b_in_a → r ≡ true → true ≡ shares w
  unfolding shares
  shared_first r e t = sym (ap (λ (u : Bool). u || a_in_b) (sym e ∙ t))

  pub shared_second : (r q : Bool) → r ≡ b_in_a → r ≡ false → q ≡ a_in_b → q ≡ shares w
  unfolding shares
  shared_second r q e f z = z ∙ sym (ap (λ (u : Bool). u || a_in_b) (sym e ∙ f))
