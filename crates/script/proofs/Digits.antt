-- Laws of the digits at the front of a line, of their number, and what makes digits a number. One digit
-- is in crate text, how a number is written in Numbers.
use Rattle.model.proofs.Prelude.{ℕ, ◌+◌, ◌<◌, ◌≤◌, Bool, false, not, true, ◌&&◌, ◌||◌, List, map, [], ◌++◌, ◌∷◌, ⊎_elim, ap, refl, sym, ◌∙◌, ◌≡◌, dec_lt}
use Rattle.model.proofs.Prelude.{suc, zero, cond, take, ltb-false, within, ◌⊎◌, inl, inr, ℕ_discrete, arith, eqb, leb, ltb, drop, get_or, length, eq-eqb, eqb-false}
use Rattle.model.proofs.Prelude.{le-leb, lt-leb, le-ltb, leb-true, lt-ltb, ltb-true, ne_eqb, not-true, All, and_left, and_right, on, flag}
use Rattle.script.proofs.Prelude.{digit_of, glyph, digit_glyph, Digits, glyph_digit}
use Rattle.std.specs.Prelude.{All as AllOf, Option, None, Some, SomeIff, is_none, position, unwrap_or}
use Rattle.std.proofs.lemmas.List.Recursion.{is_position_or_len}
use Rattle.script.specs.Line.{digits_at, is_number}

-- ---- the digits at the front

pub digits_cons : (b : ℕ) (l : List ℕ) → digit_of b < 16 → digits_at (b ∷ l) ≡ digit_of b ∷ digits_at l
unfolding digits_at
digits_cons b l h = rw (lt-ltb (digit_of b) 16 h)

pub digits_stop : (b : ℕ) (l : List ℕ) → 16 ≤ digit_of b → digits_at (b ∷ l) ≡ []
unfolding digits_at
digits_stop b l h = rw (le-ltb (digit_of b) 16 h)

pub digits_nil : digits_at [] ≡ []
unfolding digits_at
digits_nil = refl

pub digits_below : (l : List ℕ) → Digits (digits_at l)
unfolding digits_at All
digits_below [] = tt
digits_below (b ∷ l) = on Digits (ltb (digit_of b) 16) (λ h. (ltb-true _ _ h, digits_below l)) (λ h. tt)

pub digit_none : (b : ℕ) (r : Option ℕ) → SomeIff r (digit_of b < 16) (digit_of b) → is_none r ≡ leb 16 (digit_of b)
digit_none b None h = sym (le-leb 16 (digit_of b) (omega arith))
digit_none b (Some d) h = sym (lt-leb 16 (digit_of b) h.0)

pub length_digits : (l : List ℕ) → length (digits_at l) ≤ length l
unfolding digits_at
length_digits [] = omega arith
length_digits (b ∷ l) = let h = length_digits l in on (λ (ds : List ℕ). length ds ≤ suc (length l)) (ltb (digit_of b) 16) (λ e. omega arith) (λ e. omega arith)

-- they end at the first byte that is none
pub digits_position : (l : List ℕ) → unwrap_or (position (λ (b : ℕ). leb 16 (digit_of b)) l) (length l) ≡ length (digits_at l)
unfolding digits_at
digits_position l =
    let n : ℕ = length (digits_at l) in
    rw (← (is_position_or_len (λ (m : List ℕ). length (digits_at m)) (λ (b : ℕ). leb 16 (digit_of b)) refl step l))
    (found n (length_digits l))
  where
    found : (k : ℕ) → k ≤ length l → unwrap_or (cond (ltb k (length l)) (Some k) None) (length l) ≡ k
    found k h = on (λ (r : Option ℕ). unwrap_or r (length l) ≡ k) (ltb k (length l)) (λ e. refl) (λ e. omega (arith, ltb-false k (length l) e))

    step : (b : ℕ) (m : List ℕ) → length (digits_at (b ∷ m)) ≡ cond (leb 16 (digit_of b)) 0 (1 + length (digits_at m))
    step b m = go (dec_lt (digit_of b) 16)
      where
        go : Dec (digit_of b < 16) → length (cond (ltb (digit_of b) 16) (digit_of b ∷ digits_at m) []) ≡ cond (leb 16 (digit_of b)) 0 (1 + length (digits_at m))
        go (yes h) = rw (lt-ltb (digit_of b) 16 h, lt-leb 16 (digit_of b) h) (omega arith)
        go (no h) = rw (le-ltb (digit_of b) 16 (omega arith), le-leb 16 (digit_of b) (omega arith))

-- the bytes that they are
pub front_digits : (l : List ℕ) → map digit_of (take (length (digits_at l)) l) ≡ digits_at l
unfolding digits_at
front_digits [] = refl
front_digits (b ∷ l) = on (λ (ds : List ℕ). map digit_of (take (length ds) (b ∷ l)) ≡ ds) (ltb (digit_of b) 16) (λ h. rw (front_digits l)) (λ h. refl)

all_cons : (P : ℕ → Type 0) (b : ℕ) (l : List ℕ) → P b → AllOf P l → AllOf P (b ∷ l)
all_cons P b l h a zero d i = h
all_cons P b l h a (suc k) d i = a k d (omega arith)

pub front_below : (l : List ℕ) → AllOf (λ (b : ℕ). digit_of b < 16) (take (length (digits_at l)) l)
unfolding digits_at
front_below [] = λ k d h. absurd (omega arith)
front_below (b ∷ l) =
    let P : ℕ → Type 0 = λ (c : ℕ). digit_of c < 16 in
    on (λ (ds : List ℕ). AllOf P (take (length ds) (b ∷ l))) (ltb (digit_of b) 16) (λ e. all_cons P b _ (ltb-true _ _ e) (front_below l)) (λ e. λ k d h. absurd (omega arith))

-- the first
first_digit : (l : List ℕ) → 0 < length (digits_at l) → get_or (digits_at l) 0 0 ≡ digit_of (get_or l 0 0)
unfolding digits_at
first_digit [] h = absurd (omega arith)
first_digit (b ∷ l) h = go (dec_lt (digit_of b) 16)
  where
    go : Dec (digit_of b < 16) → get_or (cond (ltb (digit_of b) 16) (digit_of b ∷ digits_at l) []) 0 0 ≡ digit_of b
    go (yes d) = rw (lt-ltb _ 16 d)
    go (no d) = absurd (omega (arith, rw (digits_stop b l (omega arith)) at h))

-- the digits are the glyphs of a line's front
pub glyphs_of : (l : List ℕ) → map glyph (digits_at l) ++ drop (length (digits_at l)) l ≡ l
unfolding digits_at
glyphs_of [] = refl
glyphs_of (b ∷ l) =
    on (λ (ds : List ℕ). map glyph ds ++ drop (length ds) (b ∷ l) ≡ b ∷ l) (ltb (digit_of b) 16)
    (λ h. rw (glyph_digit b (ltb-true _ _ h), glyphs_of l)) (λ h. refl)

-- and glyphs before what is no digit are read as their digits
pub digits_of_glyphs : (ds l : List ℕ) → Digits ds → digits_at l ≡ [] → digits_at (map glyph ds ++ l) ≡ ds
unfolding All
digits_of_glyphs [] l h e = e
digits_of_glyphs (d ∷ ds) l h e =
    let g : digit_of (glyph d) ≡ d = digit_glyph d h.0 in
    digits_cons (glyph d) _ (omega arith) ∙ rw (g, digits_of_glyphs ds l h.1 e)

-- ---- what makes digits a number

-- `is_number` by parts
pub record Number (ds : List ℕ) : Type 0 where
  pub some : 0 < length ds
  pub few : length ds ≤ 16
  pub lead : (length ds ≡ 1 → ⊥) → 0 < get_or ds 0 0

or_else_law : (a b : Bool) → (a || b) ≡ true → a ≡ false → b ≡ true
or_else_law true b h e = cc
or_else_law false b h e = h

pub number_facts : (ds : List ℕ) → is_number ds ≡ true → Number ds
unfolding is_number
number_facts ds h =
    let r : (leb (length ds) 16 && (eqb (length ds) 1 || not (eqb (get_or ds 0 0) 0))) ≡ true = and_right (ltb 0 (length ds)) _ h in
    record {
      some = ltb-true _ _ (and_left (ltb 0 (length ds)) _ h);
      few = leb-true _ _ (and_left (leb (length ds) 16) _ r);
      lead = λ q. let z : get_or ds 0 0 ≡ 0 → ⊥ = eqb-false _ _ (not-true _ (or_else_law (eqb (length ds) 1) _ (and_right (leb (length ds) 16) _ r) (ne_eqb _ _ q))) in omega arith;
    }

pub is_number_law : (ds : List ℕ) → Number ds → is_number ds ≡ true
unfolding is_number
is_number_law ds h = rw (lt-ltb 0 (length ds) h.some, le-leb (length ds) 16 h.few) (go (ℕ_discrete (length ds) 1))
  where
    go : Dec (length ds ≡ 1) → (eqb (length ds) 1 || not (eqb (get_or ds 0 0) 0)) ≡ true
    go (yes q) = rw (eq-eqb (length ds) 1 q)
    go (no q) = let l : 0 < get_or ds 0 0 = h.lead q in rw (ne_eqb (length ds) 1 q, ne_eqb (get_or ds 0 0) 0 (λ z. omega arith))

pub no_number : (ds : List ℕ) → (Number ds → ⊥) → is_number ds ≡ false
no_number ds h = ⊎_elim (λ e. absurd (h (number_facts ds e))) (λ e. e) (flag (is_number ds))

-- of the digits at the front of a line
no_zero : digit_of 48 ≡ 0
unfolding digit_of within
no_zero = refl

module _ (l : List ℕ) where
  abbrev pub n : ℕ
  n = length (digits_at l)

  pub size_refused : (n ≡ 0) ⊎ (16 < n) → is_number (digits_at l) ≡ false
  size_refused (inl e) = no_number (digits_at l) (λ d. omega (arith, d.some))
  size_refused (inr h) = no_number (digits_at l) (λ d. omega (arith, d.few))

  pub zero_refused : 1 < n → get_or l 0 0 ≡ 48 → is_number (digits_at l) ≡ false
  zero_refused h e = no_number (digits_at l) (λ d. omega (arith, d.lead (λ q. omega arith), first_digit l (omega arith), ap digit_of e, no_zero))

  pub number_taken : 0 < n → n ≤ 16 → (1 < n → get_or l 0 0 ≡ 48 → ⊥) → is_number (digits_at l) ≡ true
  unfolding glyph
  number_taken h f z = is_number_law (digits_at l) (record { some = h; few = f; lead = λ q. go (z (omega arith)) (ℕ_discrete (digit_of (get_or l 0 0)) 0) })
    where
      go : (get_or l 0 0 ≡ 48 → ⊥) → Dec (digit_of (get_or l 0 0) ≡ 0) → 0 < get_or (digits_at l) 0 0
      go g (no d) = omega (arith, first_digit l h)
      go g (yes d) = absurd (g (sym (glyph_digit (get_or l 0 0) (omega arith)) ∙ ap glyph d))
