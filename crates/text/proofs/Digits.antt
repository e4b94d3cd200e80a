-- Laws of digits: one digit and its byte, and the number that digits are.
use Rattle.model.proofs.Prelude.{ℕ, ◌*◌, ◌+◌, ◌<◌, ◌^◌, ◌≤◌, Bool, cond, true, List, [], ◌++◌, ◌∷◌, refl, sym, ◌≡◌, dec_lt, mul_assoc, pow-le-pow_right, pow-succ'}
use Rattle.model.proofs.Prelude.{arith, digits_lt, eqb, ltb, get_or, length, eqb-true, le-leb, le-ltb, lt-ltb, within, All}
use Rattle.model.proofs.Prelude.{suc, map, take, take-suc, get_or-take, length-take, length-map, add-one, at_each, each}
use Rattle.model.proofs.Prelude.{leb, get_or_eq_default, ltb-true, and_right, on}
use Rattle.std.proofs.Common.{below_more}
use Rattle.std.proofs.lemmas.List.{map-append}
use Rattle.std.specs.Prelude.{Option, None, Some, SomeIff, is_some}
use Rattle.text.specs.Text.{glyph}
use Rattle.text.specs.Digits.{digit_of, number_of, value_of}

within_is : (a b k : ℕ) → within a b k ≡ true → k < b
unfolding within
within_is a b k e = ltb-true k b (and_right (leb a k) _ e)

abbrev pub Digits : List ℕ → Type 0
Digits ds = All (λ (d : ℕ). d < 16) ds

-- ---- one digit

pub digit_glyph : (d : ℕ) → d < 16 → digit_of (glyph d) ≡ d
unfolding each digit_of glyph within
digit_glyph d l = eqb-true _ _ (at_each 16 (λ (k : ℕ). eqb (digit_of (glyph k)) k) refl d l)

pub digit_most : (b : ℕ) → digit_of b ≤ 16
unfolding digit_of
digit_most b =
    on (λ (d : ℕ). d ≤ 16) (within 48 58 b) (λ e. omega (arith, within_is 48 58 b e))
    (λ e. on (λ (d : ℕ). d ≤ 16) (within 97 103 b) (λ f. omega (arith, within_is 97 103 b f)) (λ f. omega arith))

-- a byte that is a digit is the glyph of that digit: computed up to 'f'
abbrev kept : ℕ → Bool
kept b = cond (ltb (digit_of b) 16) (eqb (glyph (digit_of b)) b) true

kept_all : (b : ℕ) → kept b ≡ true
unfolding each digit_of glyph within
kept_all b = go (dec_lt b 103)
  where
    go : Dec (b < 103) → kept b ≡ true
    go (yes l) = at_each 103 kept refl b l
    go (no l) = simp (le-leb 48 b (omega arith), le-ltb b 58 (omega arith), le-leb 97 b (omega arith), le-ltb b 103 (omega arith))

pub glyph_digit : (b : ℕ) → digit_of b < 16 → glyph (digit_of b) ≡ b
glyph_digit b l = eqb-true _ _ (rw (lt-ltb (digit_of b) 16 l) at (kept_all b))

digit_zero : digit_of 0 ≡ 16
unfolding digit_of within
digit_zero = refl

-- past the end of a list stands 0, which is no digit
pub digit_past : (l : List ℕ) (at : ℕ) → length l ≤ at → digit_of (get_or l at 0) ≡ 16
digit_past l at h = rw (get_or_eq_default l 0 h) digit_zero

-- as `digit` answers
pub digit_some : (b : ℕ) (r : Option ℕ) → SomeIff r (digit_of b < 16) (digit_of b) → is_some r ≡ ltb (digit_of b) 16
digit_some b None h = sym (le-ltb (digit_of b) 16 (omega arith))
digit_some b (Some d) h = sym (lt-ltb (digit_of b) 16 h.0)

-- ---- the number of digits

-- number_of h ds is ds after the number h
pub number_above : (h : ℕ) (ds : List ℕ) → h ≤ number_of h ds
unfolding number_of
number_above h [] = omega arith
number_above h (d ∷ ds) = omega (arith, number_above (h * 16 + d) ds)

pub number_none : (h : ℕ) (ds : List ℕ) → length ds ≡ 0 → number_of h ds ≡ h
unfolding number_of
number_none h [] e = refl
number_none h (d ∷ ds) e = absurd (omega arith)

number_bound : (h m : ℕ) (ds : List ℕ) → h < m → Digits ds → number_of h ds < m * 16 ^ length ds
unfolding number_of All
number_bound h m [] l a = omega arith
number_bound h m (d ∷ ds) l a = rw (pow-succ', ← mul_assoc) (number_bound (h * 16 + d) (m * 16) ds (digits_lt l a.0) a.1)

pub number_below : (ds : List ℕ) → Digits ds → length ds ≤ 16 → number_of 0 ds < 2 ^ 64
number_below ds a l = omega (arith, number_bound 0 1 ds (omega arith) a, pow-le-pow_right {n = 16} (omega arith) l)

pub number_snoc : (h : ℕ) (ds : List ℕ) (d : ℕ) → number_of h (ds ++ (d ∷ [])) ≡ number_of h ds * 16 + d
unfolding number_of
number_snoc h [] d = refl
number_snoc h (e ∷ ds) d = number_snoc (h * 16 + e) ds d

-- ---- bytes that are digits, as they are read one by one

pub value_more : (bs : List ℕ) (i : ℕ) → i < length bs → value_of (take (i + 1) bs) ≡ value_of (take i bs) * 16 + digit_of (get_or bs i 0)
value_more bs i h = rw (add-one, take-suc bs i 0 h, map-append, number_snoc)

digits_map : (bs : List ℕ) → ((k : ℕ) → k < length bs → digit_of (get_or bs k 0) < 16) → Digits (map digit_of bs)
unfolding All
digits_map [] h = tt
digits_map (b ∷ bs) h = (h 0 (omega arith), digits_map bs (λ k l. h (suc k) (omega arith)))

pub value_fits : (bs : List ℕ) (i : ℕ) → i < length bs → length bs ≤ 16 → ((k : ℕ) → k < i → digit_of (get_or bs k 0) < 16) → digit_of (get_or bs i 0) < 16
    → value_of (take i bs) * 16 + digit_of (get_or bs i 0) < 2 ^ 64
value_fits bs i h n a d =
    let j : ℕ = i + 1 in
    rw (← value_more bs i h)
    (number_below (map digit_of (take j bs))
    (digits_map (take j bs) (λ k l. rw (get_or-take j bs k 0 (omega (arith, length-take j bs))) (below_more (λ (m : ℕ). digit_of (get_or bs m 0) < 16) i a d k (omega (arith, length-take j bs)))))
    (omega (arith, length-map (take j bs) digit_of, length-take j bs)))
