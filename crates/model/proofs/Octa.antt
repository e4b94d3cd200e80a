-- Laws of bytes: a part of a list, a part written, and that the eight bytes of an octabyte are its value.
use Rattle.model.proofs.Logic.{suc, zero, ℕ, ◌%◌, ◌*◌, ◌+◌, ◌/◌, ◌<◌, ◌^◌, ◌≤◌, List, [], ◌∷◌, ap, refl, sym, ◌∙◌, ◌≡◌, arith, get_or, length}
use Rattle.model.proofs.Logic.{length-set, set, get_or-set_other, get_or-set_same, length-sets, sets}
use Rattle.model.specs.Octa.{part, written, value_of, bytes_of}

-- ---- lists

pub part_cong : (n : ℕ) (k l : List ℕ) (o : ℕ) → ((j : ℕ) → o ≤ j → j < o + n → get_or k j 0 ≡ get_or l j 0) → part k o n ≡ part l o n
unfolding part
part_cong zero k l o h = refl
part_cong (suc n) k l o h =
    let e : get_or k o 0 ≡ get_or l o 0 = h o (omega arith) (omega arith) in
    let r : part k (suc o) n ≡ part l (suc o) n = part_cong n k l (suc o) (λ j p q. h j (omega arith) (omega arith)) in
    cc

sets_below : (vs l : List ℕ) (i j : ℕ) → j < i → get_or (sets l i vs) j 0 ≡ get_or l j 0
sets_below [] l i j h = refl
sets_below (a ∷ vs) l i j h = sets_below vs (set l i a) (suc i) j (omega arith) ∙ get_or-set_other l i j a 0 (omega arith)

sets_above : (vs l : List ℕ) (i j : ℕ) → i + length vs ≤ j → get_or (sets l i vs) j 0 ≡ get_or l j 0
sets_above [] l i j h = refl
sets_above (a ∷ vs) l i j h = sets_above vs (set l i a) (suc i) j (omega arith) ∙ get_or-set_other l i j a 0 (omega arith)

-- the stores of `written`, one after another
pub written_nil : (l : List ℕ) (o : ℕ) → written l o [] ≡ l
unfolding written
written_nil [] o = refl
written_nil (x ∷ xs) zero = refl
written_nil (x ∷ xs) (suc o) = ap (λ (r : List ℕ). x ∷ r) (written_nil xs o)

sets_cons : (vs : List ℕ) (x : ℕ) (xs : List ℕ) (o : ℕ) → sets (x ∷ xs) (suc o) vs ≡ x ∷ sets xs o vs
sets_cons [] x xs o = refl
sets_cons (v ∷ vs) x xs o = sets_cons vs x (set xs o v) (suc o)

sets_none : (vs : List ℕ) (o : ℕ) → sets [] o vs ≡ []
sets_none [] o = refl
sets_none (v ∷ vs) o = sets_none vs (suc o)

pub written_sets : (l : List ℕ) (o : ℕ) (vs : List ℕ) → written l o vs ≡ sets l o vs
unfolding written
written_sets [] o vs = sym (sets_none vs o)
written_sets (x ∷ xs) (suc o) vs = ap (λ (r : List ℕ). x ∷ r) (written_sets xs o vs) ∙ sym (sets_cons vs x xs o)
written_sets (x ∷ xs) zero [] = refl
written_sets (x ∷ xs) zero (v ∷ vs) = ap (λ (r : List ℕ). v ∷ r) (written_sets xs zero vs) ∙ sym (sets_cons vs v xs zero)

part_sets : (vs l : List ℕ) (i : ℕ) → i + length vs ≤ length l → part (sets l i vs) i (length vs) ≡ vs
unfolding part
part_sets [] l i h = refl
part_sets (a ∷ vs) l i h =
    let e : get_or (sets (set l i a) (suc i) vs) i 0 ≡ a = sets_below vs (set l i a) (suc i) i (omega arith) ∙ get_or-set_same l i a 0 (omega arith) in
    let r : part (sets (set l i a) (suc i) vs) (suc i) (length vs) ≡ vs = part_sets vs (set l i a) (suc i) (omega (arith, length-set l i a)) in
    cc

pub length_written : (l : List ℕ) (o : ℕ) (vs : List ℕ) → length (written l o vs) ≡ length l
length_written l o vs = ap length (written_sets l o vs) ∙ length-sets l o vs

pub written_below : (l : List ℕ) (o : ℕ) (vs : List ℕ) (j : ℕ) → j < o → get_or (written l o vs) j 0 ≡ get_or l j 0
written_below l o vs j h = rw (written_sets l o vs) (sets_below vs l o j h)

pub written_above : (l : List ℕ) (o : ℕ) (vs : List ℕ) (j : ℕ) → o + length vs ≤ j → get_or (written l o vs) j 0 ≡ get_or l j 0
written_above l o vs j h = rw (written_sets l o vs) (sets_above vs l o j h)

pub part_written : (l : List ℕ) (o : ℕ) (vs : List ℕ) → o + length vs ≤ length l → part (written l o vs) o (length vs) ≡ vs
part_written l o vs h = rw (written_sets l o vs) (part_sets vs l o h)

step48 : (v : ℕ) → v / 72057594037927936 * 256 + v / 281474976710656 % 256 ≡ v / 281474976710656
step48 v = omega arith

step40 : (v : ℕ) → v / 281474976710656 * 256 + v / 1099511627776 % 256 ≡ v / 1099511627776
step40 v = omega arith

step32 : (v : ℕ) → v / 1099511627776 * 256 + v / 4294967296 % 256 ≡ v / 4294967296
step32 v = omega arith

step24 : (v : ℕ) → v / 4294967296 * 256 + v / 16777216 % 256 ≡ v / 16777216
step24 v = omega arith

step16 : (v : ℕ) → v / 16777216 * 256 + v / 65536 % 256 ≡ v / 65536
step16 v = omega arith

step8 : (v : ℕ) → v / 65536 * 256 + v / 256 % 256 ≡ v / 256
step8 v = omega arith

step0 : (v : ℕ) → v / 256 * 256 + v % 256 ≡ v
step0 v = omega arith

-- Horner's step, one digit at a time
pub value_bytes : (v : ℕ) → v < 2 ^ 64 → value_of 0 (bytes_of v) ≡ v
unfolding value_of bytes_of
value_bytes v h =
    let z : 0 * 256 + v / 72057594037927936 % 256 ≡ v / 72057594037927936 = omega arith in
    let s48 : v / 72057594037927936 * 256 + v / 281474976710656 % 256 ≡ v / 281474976710656 = step48 v in
    let s40 : v / 281474976710656 * 256 + v / 1099511627776 % 256 ≡ v / 1099511627776 = step40 v in
    let s32 : v / 1099511627776 * 256 + v / 4294967296 % 256 ≡ v / 4294967296 = step32 v in
    let s24 : v / 4294967296 * 256 + v / 16777216 % 256 ≡ v / 16777216 = step24 v in
    let s16 : v / 16777216 * 256 + v / 65536 % 256 ≡ v / 65536 = step16 v in
    let s8 : v / 65536 * 256 + v / 256 % 256 ≡ v / 256 = step8 v in
    let s0 : v / 256 * 256 + v % 256 ≡ v = step0 v in
    rw (z, s48, s40, s32, s24, s16, s8, s0)
