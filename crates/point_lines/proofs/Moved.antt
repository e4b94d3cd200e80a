-- Laws of digits 0 put into the line that is held: bytes moved up from the last one on, digits put in their place, and what stands there then.
use Rattle.model.proofs.Prelude.{suc, zero, ℕ, ◌+◌, ◌-◌, ◌<◌, ◌≤◌, List, [], ◌++◌, ◌∷◌, ap, refl, sym, ◌∙◌, ◌≡◌, arith, drop, get_or}
use Rattle.model.proofs.Prelude.{length, length-append, length-drop, length-replicate, take, drop-drop, get_or-take}
use Rattle.model.proofs.Prelude.{length-take-le, take-take, written, written_above, written_below, written_inside, written_nil, length_written, lt_or_le, ext_get_or, get_or-drop, ⊎_elim}
use Rattle.model.proofs.Prelude.{suc-add, drop_of_length-le, set, drop-cons}
use Rattle.std.specs.List.{CopiedTo, SameBelow, SameFrom}
use Rattle.text.specs.Writing.{Wrote}
use Rattle.point_lines.specs.Line.{zeros, padded}
use Rattle.point_lines.proofs.Held.{take_written}
use Rattle.point_lines.proofs.Padded.{padded_none}

-- ---- bytes moved up

-- a byte before a text
set_before : (l : List ℕ) (o v : ℕ) (vs : List ℕ) → set (written l (suc o) vs) o v ≡ written l o (v ∷ vs)
unfolding written
set_before [] o v vs = refl
set_before (x ∷ xs) zero v vs = refl
set_before (x ∷ xs) (suc o) v vs = ap (λ (r : List ℕ). x ∷ r) (set_before xs o v vs)

pub moved_none : (l : List ℕ) (len n : ℕ) → len ≤ length l → l ≡ written l (len + n) (drop len (take len l))
moved_none l len n h =
    let k : length (take len l) ≤ len = omega (arith, length-take-le len l h) in
    sym (ap (written l (len + n)) (drop_of_length-le (take len l) k) ∙ written_nil l (len + n))

pub moved_more : (l held : List ℕ) (len n i : ℕ) → i < len → len ≤ length l → held ≡ written l (suc i + n) (drop (suc i) (take len l))
    → set held (i + n) (get_or held i 0) ≡ written l (i + n) (drop i (take len l))
moved_more l held len n i g h e =
    let s : length (take len l) ≡ len = length-take-le len l h in
    let v : get_or held i 0 ≡ get_or (take len l) i 0 = ap (λ (k : List ℕ). get_or k i 0) e ∙ written_below l (suc i + n) _ i (omega arith) ∙ sym (get_or-take len l i 0 g) in
    ap (set held (i + n)) v
    ∙ ap (λ (k : List ℕ). set k (i + n) (get_or (take len l) i 0)) (e ∙ ap (λ (k : ℕ). written l k (drop (suc i) (take len l))) (suc-add i n))
    ∙ set_before l (i + n) (get_or (take len l) i 0) (drop (suc i) (take len l))
    ∙ ap (written l (i + n)) (sym (drop-cons (take len l) i 0 (omega arith)))

-- the same as a loop counts
pub moved_next : (l held : List ℕ) (len n i : ℕ) → 0 < i → i ≤ len → len ≤ length l → held ≡ written l (i + n) (drop i (take len l))
    → set held (i - 1 + n) (get_or held (i - 1) 0) ≡ written l (i - 1 + n) (drop (i - 1) (take len l))
moved_next l held len n zero g k h e = absurd (omega arith)
moved_next l held len n (suc i) g k h e =
    let j : suc i - 1 ≡ i = omega arith in
    rw j (moved_more l held len n i (omega arith) h e)

-- the bytes from index at to len, copied to n further on
pub moved : (l m : List ℕ) (len at n : ℕ) → at ≤ len → len + n ≤ length l → length m ≡ length l
    → CopiedTo l m at (at + n) (len - at) × SameBelow l m (at + n) × SameFrom l m (at + n + (len - at)) → m ≡ written l (at + n) (drop at (take len l))
moved l m len at n g h e c =
    let t : List ℕ = drop at (take len l) in
    let s : length t ≡ len - at = length-drop at (take len l) ∙ ap (λ (k : ℕ). k - at) (length-take-le len l (omega arith)) in
    ext_get_or 0 m (written l (at + n) t) (e ∙ sym (length_written l (at + n) t))
    (λ k p. ⊎_elim
    (λ lo. c.1 k 0 lo ∙ sym (written_below l (at + n) t k lo))
    (λ hi. ⊎_elim
    (λ within. let j : ℕ = k - (at + n) in
    c.0 k 0 hi within ∙ sym (get_or-take len l (at + j) 0 (omega arith)) ∙ sym (get_or-drop at (take len l) j 0)
    ∙ sym (written_inside l (at + n) t j (omega arith) (omega arith)) ∙ ap (λ (i : ℕ). get_or (written l (at + n) t) i 0) (omega arith))
    (λ out. c.2 k 0 out ∙ sym (written_above l (at + n) t k (omega arith)))
    (lt_or_le k (at + n + (len - at))))
    (lt_or_le k (at + n)))

-- ---- both

-- a text and what stands before it, put there after it
written_before : (l : List ℕ) (o : ℕ) (z t : List ℕ) (m : ℕ) → m ≡ o + length z → written (written l m t) o z ≡ written l o (z ++ t)
unfolding written
written_before l o [] t m e = written_nil (written l m t) o ∙ ap (λ (k : ℕ). written l k t) (e ∙ omega arith)
written_before [] o (v ∷ z) t m e = refl
written_before (x ∷ l) zero (v ∷ z) t zero e = absurd (omega arith)
written_before (x ∷ l) zero (v ∷ z) t (suc m) e = ap (λ (r : List ℕ). v ∷ r) (written_before l zero z t m (omega arith))
written_before (x ∷ l) (suc o) (v ∷ z) t zero e = absurd (omega arith)
written_before (x ∷ l) (suc o) (v ∷ z) t (suc m) e = ap (λ (r : List ℕ). x ∷ r) (written_before l o (v ∷ z) t m (omega arith))

-- what is behind a text stays
drop_written : (l : List ℕ) (o : ℕ) (vs : List ℕ) (m : ℕ) → o + length vs ≤ m → drop m (written l o vs) ≡ drop m l
unfolding written
drop_written l o [] m e = ap (drop m) (written_nil l o)
drop_written [] o (v ∷ vs) m e = refl
drop_written (x ∷ l) zero (v ∷ vs) zero e = absurd (omega arith)
drop_written (x ∷ l) zero (v ∷ vs) (suc m) e = drop_written l zero vs m (omega arith)
drop_written (x ∷ l) (suc o) (v ∷ vs) zero e = absurd (omega arith)
drop_written (x ∷ l) (suc o) (v ∷ vs) (suc m) e = drop_written l o (v ∷ vs) m (omega arith)

-- also further on
drop_further : (l k : List ℕ) (m n : ℕ) → m ≤ n → drop m l ≡ drop m k → drop n l ≡ drop n k
drop_further l k m n h e = ap (λ (i : ℕ). drop i l) its ∙ sym (drop-drop (n - m) m l) ∙ ap (drop (n - m)) e ∙ drop-drop (n - m) m k ∙ sym (ap (λ (i : ℕ). drop i k) its)
  where
    its : n ≡ m + (n - m)
    its = omega arith

pub wrote_behind : (b t c : List ℕ) (n : ℕ) → Wrote b 0 t c n → drop n c ≡ drop n b
wrote_behind b t c n w = ap (drop n) w.bytes_are ∙ drop_written b 0 t n (omega (arith, w.end_is))

-- of three that grow
pub three_behind : (l a b c : List ℕ) (i j k p q : ℕ) → j ≡ i + p → k ≡ j + q → drop i a ≡ drop i l → drop j b ≡ drop j a → drop k c ≡ drop k b → drop k c ≡ drop k l
three_behind l a b c i j k p q e f x y z = z ∙ drop_further b a j k (omega arith) y ∙ drop_further a l i k (omega arith) x

-- no digits
pub put_none : (at n : ℕ) (l : List ℕ) → n ≡ 0 → l ≡ padded at n l
put_none at n l e = sym (ap (λ (k : ℕ). padded at k l) e ∙ padded_none at l)

-- bytes moved up, and digits 0 in their place
pub put_in : (l moved left : List ℕ) (len at n : ℕ) → at ≤ len → len + n ≤ length l → moved ≡ written l (at + n) (drop at (take len l)) → left ≡ written moved at (zeros n)
    → take (len + n) left ≡ padded at n (take len l)
unfolding padded
put_in l moved left len at n g h e f =
    let t : List ℕ = drop at (take len l) in
    let z : length (zeros n) ≡ n = length-replicate {A = ℕ} n 0x30 in
    let s : length t ≡ len - at = length-drop at (take len l) ∙ ap (λ (k : ℕ). k - at) (length-take-le len l (omega arith)) in
    let k : length (zeros n ++ t) ≡ n + (len - at) = omega (arith, length-append (zeros n) t) in
    let m : len + n ≡ at + length (zeros n ++ t) = omega arith in
    ap (λ (j : ℕ). take j left) m
    ∙ ap (take (at + length (zeros n ++ t))) (f ∙ ap (λ (q : List ℕ). written q at (zeros n)) e ∙ written_before l at (zeros n) t (at + n) (omega arith))
    ∙ take_written l at (zeros n ++ t) (omega arith)
    ∙ ap (λ (q : List ℕ). q ++ (zeros n ++ t)) (sym (take-take at len l g))

pub put_behind : (l moved left : List ℕ) (len at n : ℕ) → at ≤ len → len ≤ length l → moved ≡ written l (at + n) (drop at (take len l)) → left ≡ written moved at (zeros n)
    → drop (len + n) left ≡ drop (len + n) l
put_behind l moved left len at n g h e f =
    let s : length (drop at (take len l)) ≡ len - at = length-drop at (take len l) ∙ ap (λ (k : ℕ). k - at) (length-take-le len l h) in
    ap (drop (len + n)) f ∙ drop_written moved at (zeros n) (len + n) (omega (arith, length-replicate {A = ℕ} n 0x30))
    ∙ ap (drop (len + n)) e ∙ drop_written l (at + n) (drop at (take len l)) (len + n) (omega arith)
