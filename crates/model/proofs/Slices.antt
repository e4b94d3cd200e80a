-- Laws of `part` and `written` beside each other: what a write leaves and gives back; parts of a lent slice; bytes copied one at a time, in and out.
use Rattle.model.proofs.Logic.{suc, zero, ℕ, ◌+◌, ◌-◌, ◌<◌, ◌≤◌, append_assoc, List, [], ◌++◌, ◌∷◌, inl, inr, ◌⊎◌, ap, refl, sym, ◌∙◌, ◌≡◌, add-one}
use Rattle.model.proofs.Logic.{arith, drop, get_or, length, length-drop, replicate, set, take, drop-drop, ext_get_or, get_or-drop, get_or-take, length-take-le}
use Rattle.model.proofs.Logic.{sets-eq, take_all, take-suc, take-suc-set}
use Rattle.model.specs.Octa.{part, written}
use Rattle.model.proofs.Fill.{lt_or_le}
use Rattle.model.proofs.Octa.{part_cong, length_written, written_below, written_above, part_written, written_nil, written_sets}
use Rattle.model.proofs.Bytes.{get_d_part, written_append}

-- ---- a part

pub length_part : (l : List ℕ) (o n : ℕ) → length (part l o n) ≡ n
unfolding part
length_part l o zero = refl
length_part l o (suc n) = ap suc (length_part l (suc o) n)

part_same : (n : ℕ) (k l : List ℕ) (p q : ℕ) → ((j : ℕ) → j < n → get_or k (p + j) 0 ≡ get_or l (q + j) 0) → part k p n ≡ part l q n
unfolding part
part_same zero k l p q h = refl
part_same (suc n) k l p q h =
    let p0 : p + 0 ≡ p = omega arith in
    let q0 : q + 0 ≡ q = omega arith in
    let e : get_or k p 0 ≡ get_or l q 0 = ap (λ (i : ℕ). get_or k i 0) (sym p0) ∙ h 0 (omega arith) ∙ ap (λ (i : ℕ). get_or l i 0) q0 in
    let r : part k (suc p) n ≡ part l (suc q) n = part_same n k l (suc p) (suc q) (λ j m.
    let pj : suc p + j ≡ p + suc j = omega arith in
    let qj : q + suc j ≡ suc q + j = omega arith in
    ap (λ (i : ℕ). get_or k i 0) pj ∙ h (suc j) (omega arith) ∙ ap (λ (i : ℕ). get_or l i 0) qj) in
    cc

part_cons : (x : ℕ) (l : List ℕ) (o n : ℕ) → part (x ∷ l) (suc o) n ≡ part l o n
unfolding part
part_cons x l o zero = refl
part_cons x l o (suc n) = ap (λ (r : List ℕ). get_or l o 0 ∷ r) (part_cons x l (suc o) n)

pub part_all : (l : List ℕ) → part l 0 (length l) ≡ l
unfolding part
part_all [] = refl
part_all (x ∷ l) = ap (λ (r : List ℕ). x ∷ r) (part_cons x l 0 (length l) ∙ part_all l)

-- a part of the front
pub part_within : (l : List ℕ) (m o n : ℕ) → o + n ≤ m → part (part l 0 m) o n ≡ part l o n
part_within l m o n h = part_cong n (part l 0 m) l o (λ j a b. get_d_part l 0 m j (omega arith) ∙ ap (λ (k : ℕ). get_or l k 0) (omega arith))

-- beyond its end a list is 0
part_none : (o n : ℕ) → part [] o n ≡ replicate n 0
unfolding part
part_none o zero = refl
part_none o (suc n) = ap (λ (r : List ℕ). 0 ∷ r) (part_none (suc o) n)

pub part_padded : (l : List ℕ) (n : ℕ) → part l 0 (length l + n) ≡ l ++ replicate n 0
unfolding part
part_padded [] n =
    let e : 0 + n ≡ n = omega arith in
    ap (part [] 0) e ∙ part_none 0 n
part_padded (x ∷ l) n =
    let e : suc (length l) + n ≡ suc (length l + n) = omega arith in
    ap (part (x ∷ l) 0) e ∙ ap (λ (r : List ℕ). x ∷ r) (part_cons x l 0 (length l + n) ∙ part_padded l n)

-- ---- of what was written

-- a part that a write keeps off
pub part_apart : (l : List ℕ) (o : ℕ) (vs : List ℕ) (p n : ℕ) → (p + n ≤ o) ⊎ (o + length vs ≤ p) → part (written l o vs) p n ≡ part l p n
part_apart l o vs p n (inl h) = part_cong n (written l o vs) l p (λ j a b. written_below l o vs j (omega arith))
part_apart l o vs p n (inr h) = part_cong n (written l o vs) l p (λ j a b. written_above l o vs j (omega arith))

pub written_inside : (l : List ℕ) (o : ℕ) (vs : List ℕ) (j : ℕ) → o + length vs ≤ length l → j < length vs → get_or (written l o vs) (o + j) 0 ≡ get_or vs j 0
written_inside l o vs j h m = sym (get_d_part (written l o vs) o (length vs) j m) ∙ ap (λ (k : List ℕ). get_or k j 0) (part_written l o vs h)

-- a part of it
pub part_inside : (l : List ℕ) (o : ℕ) (vs : List ℕ) (i n p : ℕ) → o + length vs ≤ length l → i + n ≤ length vs → p ≡ o + i → part (written l o vs) p n ≡ part vs i n
part_inside l o vs i n p h m e = part_same n (written l o vs) vs p i (λ j b.
    let q : p + j ≡ o + (i + j) = omega arith in
    ap (λ (k : ℕ). get_or (written l o vs) k 0) q ∙ written_inside l o vs (i + j) h (omega arith))

-- what stands there already changes nothing
pub written_again : (l : List ℕ) (o : ℕ) (vs : List ℕ) → o + length vs ≤ length l → part l o (length vs) ≡ vs → written l o vs ≡ l
written_again l o vs h e = ext_get_or 0 (written l o vs) l (length_written l o vs) (λ i m. at i (lt_or_le i o) (lt_or_le i (o + length vs)))
  where
    at : (i : ℕ) → (i < o) ⊎ (o ≤ i) → (i < o + length vs) ⊎ (o + length vs ≤ i) → get_or (written l o vs) i 0 ≡ get_or l i 0
    at i (inl a) b = written_below l o vs i a
    at i (inr a) (inr b) = written_above l o vs i b
    at i (inr a) (inl b) =
        let q : i ≡ o + (i - o) = omega arith in
        ap (λ (k : ℕ). get_or (written l o vs) k 0) q
        ∙ written_inside l o vs (i - o) h (omega arith)
        ∙ ap (λ (k : List ℕ). get_or k (i - o) 0) (sym e)
        ∙ get_d_part l o (length vs) (i - o) (omega arith)
        ∙ ap (λ (k : ℕ). get_or l k 0) (sym q)

-- ---- of a lent slice

pub part_lent : (l : List ℕ) (o n : ℕ) → o + n ≤ length l → take n (drop o l) ≡ part l o n
part_lent l o n h =
    let e : length (take n (drop o l)) ≡ n = length-take-le n (drop o l) (omega (arith, length-drop o l)) in
    ext_get_or 0 (take n (drop o l)) (part l o n) (e ∙ sym (length_part l o n))
    (λ i m. get_or-take n (drop o l) i 0 (omega arith) ∙ get_or-drop o l i 0 ∙ sym (get_d_part l o n i (omega arith)))

pub written_lent : (l vs : List ℕ) (o n : ℕ) → length vs ≡ n → o + n ≤ length l → take o l ++ (vs ++ drop n (drop o l)) ≡ written l o vs
written_lent l vs o n e h =
    ap (λ (r : List ℕ). take o l ++ (vs ++ r)) (drop-drop n o l ∙ ap (λ (k : ℕ). drop (o + k) l) (sym e))
    ∙ sym (append_assoc (take o l) vs (drop (o + length vs) l))
    ∙ sym (written_sets l o vs ∙ sets-eq vs l o (omega arith))

-- ---- copied one at a time: in, at o; out, from o. First one element, and the next one of a text

pub written_one : (l : List ℕ) (o v : ℕ) → written l o (v ∷ []) ≡ set l o v
unfolding written
written_one [] o v = refl
written_one (x ∷ xs) zero v = ap (λ (r : List ℕ). v ∷ r) (written_nil xs 0)
written_one (x ∷ xs) (suc o) v = ap (λ (r : List ℕ). x ∷ r) (written_one xs o v)

pub written_next : (l t : List ℕ) (o i : ℕ) → i < length t → written (written l o (take i t)) (o + i) (get_or t i 0 ∷ []) ≡ written l o (take (i + 1) t)
written_next l t o i h =
    let n : o + i ≡ o + length (take i t) = omega (arith, length-take-le i t (omega arith)) in
    written_append l o (take i t) (get_or t i 0 ∷ []) (o + i) n ∙ ap (written l o) (sym (ap (λ (k : ℕ). take k t) (add-one i) ∙ take-suc t i 0 h))

pub in_none : (l : List ℕ) (o : ℕ) (vs : List ℕ) → l ≡ written l o (take 0 vs)
in_none l o vs = sym (written_nil l o)

pub in_turn : (l k vs : List ℕ) (o i : ℕ) → i < length vs → l ≡ written k o (take i vs) → set l (o + i) (get_or vs i 0) ≡ written k o (take (i + 1) vs)
in_turn l k vs o i h e =
    ap (λ (r : List ℕ). set r (o + i) (get_or vs i 0)) e ∙ sym (written_one (written k o (take i vs)) (o + i) (get_or vs i 0)) ∙ written_next k vs o i h

pub in_all : (l k vs : List ℕ) (o i : ℕ) → length vs ≤ i → l ≡ written k o (take i vs) → l ≡ written k o vs
in_all l k vs o i h e = e ∙ ap (written k o) (take_all i vs h)

part_more : (l : List ℕ) (o n : ℕ) → part l o (suc n) ≡ part l o n ++ (get_or l (o + n) 0 ∷ [])
unfolding part
part_more l o zero = ap (λ (k : ℕ). get_or l k 0 ∷ []) (omega arith)
part_more l o (suc n) = ap (λ (r : List ℕ). get_or l o 0 ∷ r) (part_more l (suc o) n ∙ ap (λ (k : ℕ). part l (suc o) n ++ (get_or l k 0 ∷ [])) (omega arith))

pub out_none : (l k : List ℕ) (o : ℕ) → take 0 k ≡ part l o 0
unfolding part
out_none l k o = refl

pub out_turn : (l k : List ℕ) (o i : ℕ) → i < length k → take i k ≡ part l o i → take (i + 1) (set k i (get_or l (o + i) 0)) ≡ part l o (i + 1)
out_turn l k o i h e = rw (add-one i, part_more l o i, ← e) (take-suc-set k i (get_or l (o + i) 0) h)

pub out_all : (l k : List ℕ) (o i n : ℕ) → length k ≤ i → i ≡ n → take i k ≡ part l o i → k ≡ part l o n
out_all l k o i n h e f = sym (take_all i k h) ∙ f ∙ ap (part l o) e
