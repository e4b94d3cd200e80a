-- Laws of numbers written in hexadecimal: digits that are a number are what is written of it, each number below 2^64 has such digits,
-- and so reading gives back what was written and writing what was read.
use Rattle.model.proofs.Prelude.{suc, zero, ℕ, ◌%◌, ◌*◌, ◌+◌, ◌-◌, ◌/◌, ◌<◌, ◌^◌, ◌≤◌, true, append_assoc, append-nil, List, map, [], ◌++◌, ◌∷◌, ap, refl, ◌∙◌}
use Rattle.model.proofs.Prelude.{◌≡◌, dec_lt, add-suc, add-zero, mod-eq_of_lt, pow-succ', suc-add, zero-add, arith, digits_div, digits_mod, drop, get_or, length}
use Rattle.model.proofs.Prelude.{length-append, length-map, get_or_append, drop_at, le-ltb, lt-ltb, All, All_both}
use Rattle.script.proofs.Prelude.{number_of, glyph, hexadecimal, numeral, Digits, number_below, number_snoc}
use Rattle.script.specs.Line.{digits_at, is_number}
use Rattle.script.proofs.Digits.{digits_below, glyphs_of, digits_of_glyphs, Number, number_facts, is_number_law}

-- ---- a number written as its digits

numeral_small : (k d : ℕ) → d < 16 → numeral 16 k d ≡ glyph d ∷ []
unfolding numeral
numeral_small zero d l = rw (mod-eq_of_lt l)
numeral_small (suc k) d l = rw (lt-ltb d 16 l)

numeral_more : (k h d : ℕ) → 0 < h → d < 16 → numeral 16 (suc k) (h * 16 + d) ≡ numeral 16 k h ++ (glyph d ∷ [])
unfolding numeral
numeral_more k h d p l = rw (le-ltb (h * 16 + d) 16 (omega arith), digits_div h l, digits_mod h l)

-- digits after a number that is not 0
numeral_number : (ds : List ℕ) (k h : ℕ) → 0 < h → Digits ds → numeral 16 (k + length ds) (number_of h ds) ≡ numeral 16 k h ++ map glyph ds
unfolding number_of All
numeral_number [] k h p a = rw (add-zero, append-nil)
numeral_number (d ∷ ds) k h p a =
    let r : numeral 16 (suc k + length ds) (number_of (h * 16 + d) ds) ≡ numeral 16 (suc k) (h * 16 + d) ++ map glyph ds
    = numeral_number ds (suc k) (h * 16 + d) (omega arith) a.1 in
    rw (add-suc, ← suc-add, r, numeral_more k h d p a.0, append_assoc)

pub hexadecimal_number : (ds : List ℕ) → Digits ds → Number ds → hexadecimal (number_of 0 ds) ≡ map glyph ds
unfolding number_of All
hexadecimal_number [] a n = absurd (omega (arith, n.some))
hexadecimal_number (d ∷ []) a n = rw zero-add (numeral_small 15 d a.0)
hexadecimal_number (d ∷ e ∷ ds) a n =
    let k : ℕ = 15 - suc (length ds) in
    let w : 15 ≡ k + suc (length ds) = omega (arith, n.few) in
    let p : 0 < d = n.lead (λ q. omega arith) in
    rw zero-add
    (ap (λ (j : ℕ). numeral 16 j (number_of d (e ∷ ds))) w ∙ numeral_number (e ∷ ds) k d p a.1 ∙ rw (numeral_small k d a.0))

-- the digits of a number below 16^(k+1)
pub record Spelt (k n : ℕ) : Type 0 where
  pub digits : List ℕ
  pub below : Digits digits
  pub some : 0 < length digits
  pub few : length digits ≤ suc k
  pub number : number_of 0 digits ≡ n
  pub lead : 0 < n → 0 < get_or digits 0 0
  pub alone : n < 16 → length digits ≡ 1

spelt_small : (k n : ℕ) → n < 16 → Spelt k n
unfolding number_of All
spelt_small k n l =
    record { digits = n ∷ []; below = (l, tt); some = omega arith; few = omega arith; number = zero-add n; lead = λ h. h; alone = λ _. refl }

spelt_more : (k n : ℕ) → 16 ≤ n → Spelt k (n / 16) → Spelt (suc k) n
unfolding All
spelt_more k n l s = record {
  digits = s.digits ++ (n % 16 ∷ []);
  below = All_both (λ (d : ℕ). d < 16) s.digits _ s.below (omega arith, tt);
  some = rw length-append (omega arith);
  few = rw length-append (omega (arith, s.few));
  number = let e : number_of 0 s.digits ≡ n / 16 = s.number in number_snoc 0 s.digits (n % 16) ∙ rw e (omega arith);
  lead = λ h. rw (get_or_append s.digits (n % 16 ∷ []) 0 0 s.some) (s.lead (omega arith));
  alone = λ h. absurd (omega arith);
}

spelt : (k n : ℕ) → n < 16 ^ suc k → Spelt k n
spelt zero n l = spelt_small zero n (omega arith)
spelt (suc k) n l = go (dec_lt n 16) (spelt k (n / 16) (omega (arith, pow-succ' 16 (suc k))))
  where
    go : Dec (n < 16) → Spelt k (n / 16) → Spelt (suc k) n
    go (yes h) s = spelt_small (suc k) n h
    go (no h) s = spelt_more k n (omega arith) s

spelt_number : (n : ℕ) (s : Spelt 15 n) → Number s.digits
spelt_number n s = record { some = s.some; few = s.few; lead = λ h. s.lead (go h (dec_lt n 16)) }
  where
    go : (length s.digits ≡ 1 → ⊥) → Dec (n < 16) → 0 < n
    go h (yes l) = absurd (h (s.alone l))
    go h (no l) = omega arith

-- ---- both at the front of a line

-- what is written before what is no digit is read
pub record Read (n : ℕ) (l t : List ℕ) : Type 0 where
  pub good : is_number (digits_at l) ≡ true
  pub value : number_of 0 (digits_at l) ≡ n
  pub tail : drop (length (digits_at l)) l ≡ t

glyphs_read : (ds t : List ℕ) → Digits ds → Number ds → digits_at t ≡ [] → Read (number_of 0 ds) (map glyph ds ++ t) t
glyphs_read ds t a n q =
    let e : digits_at (map glyph ds ++ t) ≡ ds = digits_of_glyphs ds t a q in
    record { good = rw e (is_number_law ds n); value = rw e; tail = rw e (drop_at (map glyph ds) t (length ds) (length-map ds glyph)) }

pub written_read : (n : ℕ) (t : List ℕ) → n < 2 ^ 64 → digits_at t ≡ [] → Read n (hexadecimal n ++ t) t
written_read n t l e =
    let s : Spelt 15 n = spelt 15 n (omega arith) in
    let w : hexadecimal n ≡ map glyph s.digits = rw s.number at (hexadecimal_number s.digits s.below (spelt_number n s)) in
    rw w (rw s.number at (glyphs_read s.digits t s.below (spelt_number n s) e))

-- what is read would be written
pub read_written : (l : List ℕ) → is_number (digits_at l) ≡ true → hexadecimal (number_of 0 (digits_at l)) ++ drop (length (digits_at l)) l ≡ l
read_written l h = rw (hexadecimal_number (digits_at l) (digits_below l) (number_facts _ h)) (glyphs_of l)

pub read_below : (l : List ℕ) → is_number (digits_at l) ≡ true → number_of 0 (digits_at l) < 2 ^ 64
read_below l h = number_below (digits_at l) (digits_below l) (number_facts _ h).few
