-- Laws of a line held against a form: a byte further, a part further, how long a line of a form is and one of its bytes; and of the numbers in it.
use Rattle.model.proofs.Prelude.{suc, zero, ℕ, ◌*◌, ◌+◌, ◌<◌, ◌≤◌, Bool, false, true, ◌&&◌, append-nil, List, [], ◌++◌, ◌∷◌, ap, refl, sym, ◌∙◌}
use Rattle.model.proofs.Prelude.{◌≡◌, add-one, arith, leb, drop, drop_of_length-le, get_or, length, length-append, length-replicate, drop-cons}
use Rattle.model.proofs.Prelude.{le-leb, lt-leb, lt-ltb, eqb, ne_eqb, ltb, ltb-true, map, take, drop-drop, get_or-drop, flag, ⊎_elim, ◌⊎◌, inl, inr, and_left, and_right}
use Rattle.point_lines.proofs.Prelude.{codes, digit_of, number_of}
use Rattle.point_lines.specs.Line.{mark, fits_byte, fits, head, bases, middle, close, marks, point_form, digits_at, hex_at, octas_a, octas_b, is_form}
use Rattle.std.specs.List.{All, list_all}
use Rattle.std.proofs.lemmas.List.Sums.{AllPass-from_list_all, list_all-from_AllPass}
use Rattle.std.specs.Prelude.{Option, None, Some}
use Rattle.std.specs.Borrow.{Bor}
use Rattle.text.specs.Digits.{value_of}
use Rattle.point_lines.specs.Met.{IsPast, IsFormEnd}

and_none : (t : Bool) → (t && false) ≡ false
and_none true = refl
and_none false = refl

-- ---- a part further: after i bytes of the part f, `rest` is left of the line l

pub record Along (f l : List ℕ) (i : ℕ) (rest : List ℕ) : Type 0 where
  pub fits_is : (p : List ℕ) → fits (f ++ p) l ≡ fits (drop i f ++ p) rest
  pub rest_is : rest ≡ drop i l

pub along_start : (f l : List ℕ) → Along f l 0 l
along_start f l = record { fits_is = λ p. refl; rest_is = refl }

module _ (f l : List ℕ) (i : ℕ) (rest : List ℕ) (h : i < length f) (a : Along f l i rest) where
  next : drop i f ≡ get_or f i 0 ∷ drop (i + 1) f
  next = rw (add-one, drop-cons f i 0)

  pub along_on : (b : ℕ) (t : List ℕ) → rest ≡ b ∷ t → fits_byte (get_or f i 0) b ≡ true → Along f l (i + 1) t
  unfolding fits
  along_on b t e g = record {
    fits_is = λ p. a.fits_is p ∙ rw (next, e, g);
    rest_is = ap (drop 1) (sym e ∙ a.rest_is) ∙ drop-drop 1 i l;
  }

  pub along_other : (b : ℕ) (t : List ℕ) → rest ≡ b ∷ t → fits_byte (get_or f i 0) b ≡ false → (p : List ℕ) → fits (f ++ p) l ≡ false
  unfolding fits
  along_other b t e g p = a.fits_is p ∙ rw (next, e, g)

  pub along_missing : length rest ≡ 0 → (p : List ℕ) → fits (f ++ p) l ≡ false
  unfolding fits
  along_missing e p = let g : rest ≡ [] = drop_of_length-le rest {i = 0} (omega arith) in a.fits_is p ∙ rw (next, g)

pub along_end : (f l : List ℕ) (i : ℕ) (rest : List ℕ) → length f ≤ i → i ≤ length f → Along f l i rest
    → ((p : List ℕ) → fits (f ++ p) l ≡ fits p rest) × (rest ≡ drop (length f) l)
along_end f l i rest h k a =
    let e : i ≡ length f = omega arith in
    (λ p. a.fits_is p ∙ ap (λ (q : List ℕ). fits (q ++ p) rest) (drop_of_length-le f h), a.rest_is ∙ ap (λ (j : ℕ). drop j l) e)

-- ---- n digits further

abbrev pub all_digits : List ℕ → Bool
all_digits l = list_all (λ (b : ℕ). ltb (digit_of b) 16) l

pub digits_further : (n : ℕ) (l : List ℕ) → n ≤ length l → (p : List ℕ) → fits (marks n ++ p) l ≡ (all_digits (take n l) && fits p (drop n l))
unfolding fits fits_byte
digits_further zero l h p = refl
digits_further (suc n) [] h p = absurd (omega arith)
digits_further (suc n) (b ∷ l) h p = go (ltb (digit_of b) 16) (digits_further n l (omega arith) p)
  where
    go : (t : Bool) → fits (marks n ++ p) l ≡ (all_digits (take n l) && fits p (drop n l))
        → (t && fits (marks n ++ p) l) ≡ ((t && all_digits (take n l)) && fits p (drop n l))
    go true e = e
    go false e = refl

pub digits_missing : (n : ℕ) (l : List ℕ) → length l < n → (p : List ℕ) → fits (marks n ++ p) l ≡ false
unfolding fits
digits_missing zero l h p = absurd (omega arith)
digits_missing (suc n) [] h p = refl
digits_missing (suc n) (b ∷ l) h p = ap (λ (t : Bool). fits_byte mark b && t) (digits_missing n l (omega arith) p) ∙ and_none (fits_byte mark b)

pub digits_good : (n : ℕ) (l : List ℕ) → n ≤ length l → all_digits (take n l) ≡ true → (p : List ℕ) → fits (marks n ++ p) l ≡ fits p (drop n l)
digits_good n l h e p = digits_further n l h p ∙ rw e

pub digits_other : (n : ℕ) (l : List ℕ) → n ≤ length l → all_digits (take n l) ≡ false → (p : List ℕ) → fits (marks n ++ p) l ≡ false
digits_other n l h e p = digits_further n l h p ∙ rw e

pub all_below : (l : List ℕ) → all_digits l ≡ true → All (λ (b : ℕ). digit_of b < 16) l
all_below l e = λ k d h. ltb-true _ _ (AllPass-from_list_all (λ (b : ℕ). ltb (digit_of b) 16) l e k d h)

pub below_all : (l : List ℕ) → All (λ (b : ℕ). digit_of b < 16) l → all_digits l ≡ true
below_all l a = list_all-from_AllPass (λ (b : ℕ). ltb (digit_of b) 16) l (λ k d h. lt-ltb _ _ (a k d h))

pub not_all : (l : List ℕ) → (All (λ (b : ℕ). digit_of b < 16) l → ⊥) → all_digits l ≡ false
not_all l h = ⊎_elim (λ e. absurd (h (all_below l e))) (λ e. e) (flag (all_digits l))

-- ---- how long a line of a form is

pub length_fits : (p l : List ℕ) → fits p l ≡ true → length l ≡ length p
unfolding fits
length_fits [] [] e = refl
length_fits [] (b ∷ l) e = cc
length_fits (c ∷ p) [] e = cc
length_fits (c ∷ p) (b ∷ l) e = ap suc (length_fits p l (and_right (fits_byte c b) _ e))

pub length_head : length head ≡ 23
unfolding head codes
length_head = refl

pub length_bases : length bases ≡ 51
unfolding bases codes
length_bases = refl

pub length_middle : length middle ≡ 11
unfolding middle codes
length_middle = refl

length_close : length close ≡ 2
unfolding close codes
length_close = refl

pub length_space : length (codes " ") ≡ 1
unfolding codes
length_space = refl

module _ (w d m : ℕ) where
  abbrev windows : List ℕ
  windows = marks (16 * m) ++ close

  abbrev state : List ℕ
  state = marks d ++ (middle ++ windows)

  pub length_form : length (point_form w d m) ≡ 88 + 2 * w + d + 16 * m
  unfolding point_form
  length_form =
      omega (
        arith,
        length-append head (marks w ++ (codes " " ++ (marks w ++ (bases ++ state)))),
        length-append (marks w) (codes " " ++ (marks w ++ (bases ++ state))),
        length-append (codes " ") (marks w ++ (bases ++ state)),
        length-append (marks w) (bases ++ state),
        length-append bases state,
        length-append (marks d) (middle ++ windows),
        length-append middle windows,
        length-append (marks (16 * m)) close,
        length-replicate {A = ℕ} w mark,
        length-replicate {A = ℕ} d mark,
        length-replicate {A = ℕ} (16 * m) mark,
        length_head,
        length_space,
        length_bases,
        length_middle,
        length_close,
      )

-- ---- numbers

digits_map : (l : List ℕ) (o n : ℕ) → o + n ≤ length l → digits_at l o n ≡ map digit_of (take n (drop o l))
unfolding digits_at
digits_map l o zero h = refl
digits_map l o (suc n) h = let k : o < length l = omega arith in rw (drop-cons l o 0, digits_map l (suc o) n (omega arith))

pub value_hex : (n : ℕ) (l : List ℕ) → n ≤ length l → value_of (take n l) ≡ hex_at l 0 n
unfolding hex_at
value_hex n l h = ap (number_of 0) (sym (digits_map l 0 n (omega arith)))

digits_shift : (l : List ℕ) (o p n : ℕ) → digits_at (drop o l) p n ≡ digits_at l (o + p) n
unfolding digits_at
digits_shift l o p zero = refl
digits_shift l o p (suc n) = let e : o + suc p ≡ suc (o + p) = omega arith in rw (get_or-drop o l p 0, digits_shift l o (suc p) n, e)

pub hex_shift : (l : List ℕ) (o n : ℕ) → hex_at (drop o l) 0 n ≡ hex_at l o n
unfolding hex_at
hex_shift l o n = let e : o + 0 ≡ o = omega arith in ap (number_of 0) (digits_shift l o 0 n ∙ ap (λ (k : ℕ). digits_at l k n) e)

-- ---- a point's line

module _ (w d k : ℕ) (l : List ℕ) where
  pub no_fit : fits (point_form w d (octas_a w l + octas_b w l)) l ≡ false → is_form w d k l ≡ false
  unfolding is_form
  no_fit e = rw e (ap (λ (t : Bool). leb (octas_a w l) k && t) (and_none (leb (octas_b w l) k)) ∙ and_none (leb (octas_a w l) k))

  -- where these are the lengths
  module _ (a b : ℕ) (e : octas_a w l ≡ a) (f : octas_b w l ≡ b) where
    pub too_large : (k < a) ⊎ ((a ≤ k) × (k < b)) → is_form w d k l ≡ false
    unfolding is_form
    too_large (inl h) = rw (e, lt-leb a k h)
    too_large (inr h) = rw (e, f, le-leb a k h.0, lt-leb b k h.1)

    pub no_fit_at : fits (point_form w d (a + b)) l ≡ false → is_form w d k l ≡ false
    no_fit_at g = no_fit (rw (e, f) g)

    pub fit_at : a ≤ k → b ≤ k → is_form w d k l ≡ fits (point_form w d (a + b)) l
    unfolding is_form
    fit_at g h = rw (e, f, le-leb a k g, le-leb b k h)

-- where the form ends
pub fits_end : (l : List ℕ) → eqb (length l) 0 ≡ fits [] l
unfolding fits
fits_end [] = refl
fits_end (b ∷ l) = ne_eqb (length (b ∷ l)) 0 (λ e. omega arith)

pub form_ends : (w d k : ℕ) (l q s : List ℕ) (r : Option (Bor (List ℕ))) → is_form w d k l ≡ fits q s → IsPast q s r → IsFormEnd w d k l r
form_ends w d k l q s None e h = e ∙ ap (λ (p : List ℕ). fits p s) (sym (append-nil q)) ∙ h []
form_ends w d k l q s (Some r) e h = e ∙ ap (λ (p : List ℕ). fits p s) (sym (append-nil q)) ∙ h.0 []

-- the windows' octabytes, as `form_end` has them
module _ (w : ℕ) (l r : List ℕ) (e : r ≡ drop 23 l) where
  pub first_octas : (a : ℕ) → a ≡ hex_at r 0 w → octas_a w l ≡ a
  unfolding octas_a
  first_octas a f = sym (f ∙ ap (λ (k : List ℕ). hex_at k 0 w) e ∙ hex_shift l 23 w)

  pub second_octas : (s t : List ℕ) (b : ℕ) → s ≡ drop w r → t ≡ drop 1 s → b ≡ hex_at t 0 w → octas_b w l ≡ b
  unfolding octas_b
  second_octas s t b f g h =
      let i : t ≡ drop (24 + w) l =
      g ∙ ap (drop 1) (f ∙ ap (drop w) e ∙ drop-drop w 23 l) ∙ drop-drop 1 (23 + w) l ∙ ap (λ (k : ℕ). drop k l) (omega arith) in
      sym (h ∙ ap (λ (k : List ℕ). hex_at k 0 w) i ∙ hex_shift l (24 + w) w)

-- how long a line of a form is by its own lengths
pub of_length : (w d k : ℕ) (l : List ℕ) → is_form w d k l ≡ true → length l ≡ 88 + 2 * w + d + 16 * (octas_a w l + octas_b w l)
unfolding is_form
of_length w d k l e =
    length_fits (point_form w d (octas_a w l + octas_b w l)) l (and_right (leb (octas_b w l) k) _ (and_right (leb (octas_a w l) k) _ e)) ∙ length_form w d (octas_a w l + octas_b w l)

-- ---- a byte of a line of a form

pub fits_at : (p l : List ℕ) (i : ℕ) → fits p l ≡ true → i < length p → fits_byte (get_or p i 0) (get_or l i 0) ≡ true
unfolding fits
fits_at [] l i e h = absurd (omega arith)
fits_at (c ∷ p) [] i e h = cc
fits_at (c ∷ p) (b ∷ l) zero e h = and_left (fits_byte c b) _ e
fits_at (c ∷ p) (b ∷ l) (suc i) e h = fits_at p l i (and_right (fits_byte c b) _ e) (omega arith)
