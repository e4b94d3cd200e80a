-- Laws of `over`, a list with a range of its elements replaced.
-- Assumes nothing.
use Rattle.model.proofs.Logic.{max, suc, zero, ℕ, ◌+◌, ◌<◌, ◌≤◌, Bool, cond, false, true, ◌&&◌, List, map, [], ◌∷◌, inl, inr, ◌⊎◌, ⊎_elim, ap, refl, sym}
use Rattle.model.proofs.Logic.{◌∙◌, ◌≡◌, eq-or-lt_of_le, le_of_suc-le-suc, not-suc-le-zero, arith, ltb, get_or, length, length-set, get_or_eq_default}
use Rattle.model.proofs.Logic.{set, ext_get_or, get_or-set_other, get_or-set_same, le-leb, le-ltb, lt-leb, lt-ltb, ltb-false, ltb-true}
use Rattle.model.specs.Fill.{within, indexed, over}

pub flag : (t : Bool) → (t ≡ true) ⊎ (t ≡ false)
flag true = inl refl
flag false = inr refl

pub lt_or_le : (a b : ℕ) → (a < b) ⊎ (b ≤ a)
lt_or_le a b = ⊎_elim (λ e. inl (ltb-true a b e)) (λ e. inr (ltb-false a b e)) (flag (ltb a b))

pub within_yes : (a b k : ℕ) → a ≤ k → k < b → within a b k ≡ true
unfolding within
within_yes a b k h l = simp (le-leb a k h, lt-ltb k b l)

pub within_below : (a b k : ℕ) → k < a → within a b k ≡ false
unfolding within
within_below a b k h = simp (lt-leb a k h)

and_false : (t : Bool) → (t && false) ≡ false
and_false true = refl
and_false false = refl

pub within_above : (a b k : ℕ) → b ≤ k → within a b k ≡ false
unfolding within
within_above a b k h = simp (le-ltb k b h, and_false)

length_indexed : (g : ℕ → ℕ → ℕ) (i : ℕ) (l : List ℕ) → length (indexed g i l) ≡ length l
unfolding indexed
length_indexed g i [] = refl
length_indexed g i (x ∷ xs) = ap suc (length_indexed g (suc i) xs)

get_d_indexed : (g : ℕ → ℕ → ℕ) (i : ℕ) (l : List ℕ) (k : ℕ) → k < length l → get_or (indexed g i l) k 0 ≡ g (i + k) (get_or l k 0)
unfolding indexed
get_d_indexed g i [] k h = absurd (not-suc-le-zero h)
get_d_indexed g i (x ∷ xs) zero h = ap (λ (n : ℕ). g n x) (omega arith)
get_d_indexed g i (x ∷ xs) (suc k) h =
    get_d_indexed g (suc i) xs k (le_of_suc-le-suc h) ∙ ap (λ (n : ℕ). g n (get_or xs k 0)) (omega arith)

module _ (f : ℕ → ℕ) (a b : ℕ) (l : List ℕ) where
  pub length_over : length (over f a b l) ≡ length l
  unfolding over
  length_over = length_indexed (λ k x. cond (within a b k) (f k) x) 0 l

  at : (k : ℕ) → k < length l → get_or (over f a b l) k 0 ≡ cond (within a b k) (f k) (get_or l k 0)
  unfolding over
  at k h =
      get_d_indexed (λ k x. cond (within a b k) (f k) x) 0 l k h
      ∙ ap (λ (n : ℕ). cond (within a b n) (f n) (get_or l k 0)) (omega arith)

  pub over_in : (k : ℕ) → a ≤ k → k < b → k < length l → get_or (over f a b l) k 0 ≡ f k
  over_in k h m n = at k n ∙ simp (within_yes a b k h m)

  pub over_below : (k : ℕ) → k < a → k < length l → get_or (over f a b l) k 0 ≡ get_or l k 0
  over_below k h n = at k n ∙ simp (within_below a b k h)

  pub over_above : (k : ℕ) → b ≤ k → k < length l → get_or (over f a b l) k 0 ≡ get_or l k 0
  over_above k h n = at k n ∙ simp (within_above a b k h)

  -- what lies out of a range, at any index
  past : (k : ℕ) → length l ≤ k → get_or (over f a b l) k 0 ≡ get_or l k 0
  past k h = get_or_eq_default (over f a b l) 0 (omega (arith, length_over)) ∙ sym (get_or_eq_default l 0 h)

  pub over_after : (k : ℕ) → b ≤ k → get_or (over f a b l) k 0 ≡ get_or l k 0
  over_after k h = ⊎_elim (over_above k h) (past k) (lt_or_le k (length l))

  pub over_before : (k : ℕ) → k < a → get_or (over f a b l) k 0 ≡ get_or l k 0
  over_before k h = ⊎_elim (over_below k h) (past k) (lt_or_le k (length l))

-- an empty range
pub over_none : (f : ℕ → ℕ) (a b : ℕ) (l : List ℕ) → b ≤ a → over f a b l ≡ l
over_none f a b l h =
    ext_get_or 0 (over f a b l) l (length_over f a b l)
    (λ k n. let m : k < length l = omega (arith, length_over f a b l) in
    ⊎_elim (λ below. over_below f a b l k below m) (λ above. over_above f a b l k (omega arith) m) (lt_or_le k a))

-- one element more: what a loop that goes up does in a turn
pub over_more : (f : ℕ → ℕ) (a i : ℕ) (l : List ℕ) (v : ℕ) → a ≤ i → i < length l → v ≡ f i → set (over f a i l) i v ≡ over f a (i + 1) l
over_more f a i l v h n e =
    ext_get_or 0 (set (over f a i l) i v) (over f a (i + 1) l) (simp (length-set, length_over))
    (λ k m. let z : k < length l = omega (arith, length-set (over f a i l) i v, length_over f a i l) in
    ⊎_elim
    (λ below. get_or-set_other (over f a i l) i k v 0 (λ q. let w : k ≡ i = q in omega arith)
    ∙ ⊎_elim (λ lo. over_below f a i l k lo z ∙ sym (over_below f a (i + 1) l k lo z))
    (λ hi. over_in f a i l k hi below z ∙ sym (over_in f a (i + 1) l k hi (omega arith) z))
    (lt_or_le k a))
    (λ ge. ⊎_elim
    (λ here. ap (λ (j : ℕ). get_or (set (over f a i l) i v) j 0) (sym here)
    ∙ get_or-set_same (over f a i l) i v 0 (omega (arith, length_over f a i l))
    ∙ e ∙ ap f here ∙ sym (over_in f a (i + 1) l k (omega arith) (omega arith) z))
    (λ past. get_or-set_other (over f a i l) i k v 0 (λ q. let w : k ≡ i = q in omega arith)
    ∙ over_above f a i l k (omega arith) z ∙ sym (over_above f a (i + 1) l k (omega arith) z))
    (eq-or-lt_of_le ge))
    (lt_or_le k i))

-- where the loop over the range from a to b ends
pub over_end : (f : ℕ → ℕ) (a b i : ℕ) (l : List ℕ) → a ≤ i → b ≤ i → i ≤ max a b → over f a i l ≡ over f a b l
over_end f a b i l h m n =
    ⊎_elim
    (λ lt. ap (λ (k : ℕ). over f a k l) (omega arith))
    (λ ge. over_none f a i l (omega arith) ∙ sym (over_none f a b l ge))
    (lt_or_le a b)

pub get_d_map : (f : ℕ → ℕ) (l : List ℕ) (i : ℕ) → i < length l → get_or (map f l) i 0 ≡ f (get_or l i 0)
get_d_map f [] i h = absurd (not-suc-le-zero h)
get_d_map f (x ∷ xs) zero h = refl
get_d_map f (x ∷ xs) (suc i) h = get_d_map f xs i (le_of_suc-le-suc h)

-- two lists with the same first b elements put in, alike from there on
pub over_cong : (f g : ℕ → ℕ) (b : ℕ) (k l : List ℕ) → length k ≡ length l → ((i : ℕ) → f i ≡ g i) → ((i : ℕ) → b ≤ i → get_or k i 0 ≡ get_or l i 0)
    → over f 0 b k ≡ over g 0 b l
over_cong f g b k l e p q =
    ext_get_or 0 (over f 0 b k) (over g 0 b l) (length_over f 0 b k ∙ e ∙ sym (length_over g 0 b l))
    (λ i n. let m : i < length k = omega (arith, length_over f 0 b k) in
    ⊎_elim (λ lo. over_in f 0 b k i (omega arith) lo m ∙ p i ∙ sym (over_in g 0 b l i (omega arith) lo (omega arith)))
    (λ hi. over_above f 0 b k i hi m ∙ q i hi ∙ sym (over_above g 0 b l i hi (omega arith)))
    (lt_or_le i b))
