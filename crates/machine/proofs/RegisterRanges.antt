-- Laws of a range of registers, `over`, at lists of any length: two ranges alike, a loop's turn, also past the end, a range cut to
-- the list, and one after another. Those for loops that go down are in SlidRanges; the first ones in model, Fill.
use borrow.Rule.Slice.PartMut.{put_mid}
use Rattle.std.proofs.lemmas.List.{places}
use Rattle.model.proofs.Prelude.{min, ℕ, ◌+◌, ◌-◌, ◌<◌, ◌≤◌, List, ⊎_elim, ap, sym, ◌∙◌, ◌≡◌, arith, get_or, length, ext_get_or, over, length_over, lt_or_le}
use Rattle.model.proofs.Prelude.{over_above, over_below, over_in, over_more, set, set_out}

-- two ranges that hold the same elements of the list
pub over_same : (f : ℕ → ℕ) (a b c : ℕ) (l : List ℕ) → ((k : ℕ) → k < length l → k < b → k < c) → ((k : ℕ) → k < length l → k < c → k < b)
    → over f a b l ≡ over f a c l
over_same f a b c l up down =
    ext_get_or 0 (over f a b l) (over f a c l) (length_over f a b l ∙ sym (length_over f a c l))
    (λ k n. let m : k < length l = omega (arith, length_over f a b l) in
    ⊎_elim (λ lo. over_below f a b l k lo m ∙ sym (over_below f a c l k lo m))
    (λ hi. ⊎_elim (λ in_b. over_in f a b l k hi in_b m ∙ sym (over_in f a c l k hi (up k m in_b) m))
    (λ out. over_above f a b l k out m
    ∙ sym (⊎_elim (λ in_c. let z : k < b = down k m in_c in absurd (omega arith)) (λ past. over_above f a c l k past m) (lt_or_le k c)))
    (lt_or_le k b))
    (lt_or_le k a))

-- one element more, wherever it lies
pub over_next : (f : ℕ → ℕ) (a i : ℕ) (l : List ℕ) (v : ℕ) → a ≤ i → v ≡ f i → set (over f a i l) i v ≡ over f a (i + 1) l
over_next f a i l v h e =
    ⊎_elim (λ n. over_more f a i l v h n e)
    (λ past. set_out (over f a i l) i v (omega (arith, length_over f a i l))
    ∙ over_same f a i (i + 1) l (λ k n m. omega arith) (λ k n m. omega arith))
    (lt_or_le i (length l))

-- a range cut to the list
pub over_cut : (f : ℕ → ℕ) (a b n : ℕ) (l : List ℕ) → length l ≤ n → over f a (min b n) l ≡ over f a b l
over_cut f a b n l h = over_same f a (min b n) b l (λ k m p. omega arith) (λ k m p. omega arith)

-- two functions alike in a range
pub over_alike : (f g : ℕ → ℕ) (a b : ℕ) (l : List ℕ) → ((k : ℕ) → a ≤ k → k < b → f k ≡ g k) → over f a b l ≡ over g a b l
over_alike f g a b l e =
    ext_get_or 0 (over f a b l) (over g a b l) (length_over f a b l ∙ sym (length_over g a b l))
    (λ k n. let m : k < length l = omega (arith, length_over f a b l) in
    ⊎_elim (λ lo. over_below f a b l k lo m ∙ sym (over_below g a b l k lo m))
    (λ hi. ⊎_elim (λ in_b. over_in f a b l k hi in_b m ∙ e k hi in_b ∙ sym (over_in g a b l k hi in_b m))
    (λ out. over_above f a b l k out m ∙ sym (over_above g a b l k out m))
    (lt_or_le k b))
    (lt_or_le k a))

-- a range after a range: both are one
pub over_joined : (f g : ℕ → ℕ) (a i b : ℕ) (l : List ℕ) → a ≤ i → i ≤ b → ((k : ℕ) → i ≤ k → k < b → g k ≡ f k) → over g i b (over f a i l) ≡ over f a b l
over_joined f g a i b l p q e =
    ext_get_or 0 (over g i b (over f a i l)) (over f a b l) (length_over g i b (over f a i l) ∙ length_over f a i l ∙ sym (length_over f a b l))
    (λ k n. let m : k < length l = omega (arith, length_over g i b (over f a i l), length_over f a i l) in
    let z : k < length (over f a i l) = omega (arith, length_over f a i l) in
    ⊎_elim
    (λ lo. over_below g i b (over f a i l) k lo z
    ∙ ⊎_elim (λ before. over_below f a i l k before m ∙ sym (over_below f a b l k before m))
    (λ from. over_in f a i l k from lo m ∙ sym (over_in f a b l k from (omega arith) m))
    (lt_or_le k a))
    (λ hi. ⊎_elim
    (λ in_b. over_in g i b (over f a i l) k hi in_b z ∙ e k hi in_b ∙ sym (over_in f a b l k (omega arith) in_b m))
    (λ out. over_above g i b (over f a i l) k out z ∙ over_above f a i l k hi m ∙ sym (over_above f a b l k out m))
    (lt_or_le k b))
    (lt_or_le k i))

-- a part of the list written: its elements from number a up to b become ys
pub over_part : (f : ℕ → ℕ) (a b : ℕ) (l ys : List ℕ) → a ≤ b → b ≤ length l → length ys ≡ b - a → ((i : ℕ) → i < b - a → get_or ys i 0 ≡ f (a + i))
    → put_mid a (b - a) l ys ≡ over f a b l
over_part f a b l ys g h n e =
    let long : length (put_mid a (b - a) l ys) ≡ length l = grind (arith, places) in
    ext_get_or 0 (put_mid a (b - a) l ys) (over f a b l) (long ∙ sym (length_over f a b l))
    (λ i p. let m : i < length l = omega (arith, long) in
    ⊎_elim (λ lo. let same : get_or (put_mid a (b - a) l ys) i 0 ≡ get_or l i 0 = grind (arith, places) in same ∙ sym (over_below f a b l i lo m))
    (λ hi. ⊎_elim
    (λ in_b. let here : get_or (put_mid a (b - a) l ys) i 0 ≡ get_or ys (i - a) 0 = grind (arith, places) in
    here ∙ e (i - a) (omega arith) ∙ ap f (omega arith) ∙ sym (over_in f a b l i hi in_b m))
    (λ out. let same : get_or (put_mid a (b - a) l ys) i 0 ≡ get_or l i 0 = grind (arith, places) in same ∙ sym (over_above f a b l i out m))
    (lt_or_le i b))
    (lt_or_le i a))
