-- Which form a line has: one at most, and then its widths are that form's; none where its lengths' widths differ.
use Rattle.model.proofs.Prelude.{ℕ, ◌*◌, ◌+◌, ◌<◌, ◌^◌, ◌≤◌, Bool, false, true, ◌||◌, List, ◌++◌, inl, inr, ◌⊎◌, ⊎_elim, ap, refl, sym, ◌∙◌, ◌≡◌, arith, eqb}
use Rattle.model.proofs.Prelude.{leb, get_or, length, length-append, eqb-true, image_length, old_image_length, and_right, flag}
use Rattle.point_lines.proofs.Prelude.{codes, digit_of}
use Rattle.point_lines.specs.Line.{mark, fits_byte, fits, head, bases, middle, close, marks, point_form, octas_a, octas_b, is_form, length_digits, old_length_digits, state_digits, old_state_digits, octas_max, old_octas_max, is_new, is_old, is_short, is_short_old, is_point, widths, widths_of, mixed_form, MixedBad}
use Rattle.point_lines.proofs.Forms.{of_length, length_form, fits_at, length_head, length_bases}
use Rattle.model.specs.Fill as fill

-- ---- the widths by the tests of `widths_of`

module _ (l : List ℕ) where
  pub as_new : is_new l ≡ true → widths_of l ≡ widths length_digits state_digits
  unfolding widths_of
  as_new a = rw a

  module _ (a : is_new l ≡ false) where
    pub as_old : is_old l ≡ true → widths_of l ≡ widths length_digits old_state_digits
    unfolding widths_of
    as_old b = rw (a, b)

    module _ (b : is_old l ≡ false) where
      pub as_short : is_short l ≡ true → widths_of l ≡ widths old_length_digits state_digits
      unfolding widths_of
      as_short c = rw (a, b, c)

      module _ (c : is_short l ≡ false) where
        pub as_short_old : is_short_old l ≡ true → widths_of l ≡ widths old_length_digits old_state_digits
        unfolding widths_of
        as_short_old d = rw (a, b, c, d)

        pub as_none : is_short_old l ≡ false → widths_of l ≡ widths 0 0
        unfolding widths_of
        as_none d = rw (a, b, c, d)

        pub none_point : is_short_old l ≡ false → is_point l ≡ false
        unfolding is_point
        none_point d = rw (a, b, c, d)

or_true : (t : Bool) → (t || true) ≡ true
or_true true = refl
or_true false = refl

module _ (l : List ℕ) where
  pub point_new : is_new l ≡ true → is_point l ≡ true
  unfolding is_point
  point_new e = rw e

  pub point_old : is_old l ≡ true → is_point l ≡ true
  unfolding is_point
  point_old e = rw e (or_true (is_new l))

  pub point_short : is_short l ≡ true → is_point l ≡ true
  unfolding is_point
  point_short e = rw (e, or_true (is_old l)) (or_true (is_new l))

  pub point_short_old : is_short_old l ≡ true → is_point l ≡ true
  unfolding is_point
  point_short_old e = rw (e, or_true (is_short l), or_true (is_old l)) (or_true (is_new l))

pub differ : true ≡ false → ⊥
differ e = let z : ◌≡◌ {A = ℕ} 0 1 = cc in omega arith

-- ---- what a line of a form has

pub record Formed (l : List ℕ) : Type 0 where
  pub w : ℕ
  pub n : ℕ
  pub k : ℕ
  pub is : is_form w (2 * n) k l ≡ true
  pub is_point' : is_point l ≡ true
  pub widths_are : widths_of l ≡ widths w (2 * n)
  pub few : k ≤ octas_max
  pub told : k < 16 ^ w
  pub some : 0 < w
  pub most : w ≤ length_digits
  pub image_most : n ≤ image_length
  pub image_least : old_image_length ≤ n

by_form : (l : List ℕ) (w n k : ℕ) → is_form w (2 * n) k l ≡ true → is_point l ≡ true → widths_of l ≡ widths w (2 * n) → k ≤ octas_max → k < 16 ^ w → 0 < w → w ≤ length_digits → n ≤ image_length
    → old_image_length ≤ n → Formed l
by_form l w n k a q b c d e f g h = record { w = w; n = n; k = k; is = a; is_point' = q; widths_are = b; few = c; told = d; some = e; most = f; image_most = g; image_least = h }

module _ (l : List ℕ) where
  -- each of the four, or none
  either_form : Formed l ⊎ ((widths_of l ≡ widths 0 0) × (is_point l ≡ false))
  unfolding is_new is_old is_short is_short_old
  either_form =
      ⊎_elim (λ a. inl (by_form l length_digits image_length octas_max a (point_new l a) (as_new l a) (omega arith) (omega arith) (omega arith) (omega arith) (omega arith) (omega arith))) (λ a.
      ⊎_elim (λ b. inl (by_form l length_digits old_image_length octas_max b (point_old l b) (as_old l a b) (omega arith) (omega arith) (omega arith) (omega arith) (omega arith) (omega arith))) (λ b.
      ⊎_elim (λ c. inl (by_form l old_length_digits image_length old_octas_max c (point_short l c) (as_short l a b c) (omega arith) (omega arith) (omega arith) (omega arith) (omega arith) (omega arith))) (λ c.
      ⊎_elim (λ d. inl (by_form l old_length_digits old_image_length old_octas_max d (point_short_old l d) (as_short_old l a b c d) (omega arith) (omega arith) (omega arith) (omega arith) (omega arith) (omega arith)))
      (λ d. inr (as_none l a b c d, none_point l a b c d))
      (flag (is_short_old l))) (flag (is_short l))) (flag (is_old l))) (flag (is_new l))

  pub formed : is_point l ≡ true → Formed l
  formed e = ⊎_elim (λ f. f) (λ n. absurd (differ (sym e ∙ n.1))) either_form

-- ---- one form at most

-- a line is not of two forms of which one has a digit where the other has something else
clash : (p q l : List ℕ) (i c : ℕ) → fits p l ≡ true → fits q l ≡ true → i < length p → i < length q → get_or p i 0 ≡ mark → get_or q i 0 ≡ c → eqb c mark ≡ false
    → fits_byte mark c ≡ false → ⊥
unfolding fits_byte
clash p q l i c f g h k a b n d =
    let s : fits_byte c (get_or l i 0) ≡ true = ap (λ (x : ℕ). fits_byte x (get_or l i 0)) (sym b) ∙ fits_at q l i g k in
    let t : fits_byte mark (get_or l i 0) ≡ true = ap (λ (x : ℕ). fits_byte x (get_or l i 0)) (sym a) ∙ fits_at p l i f h in
    let e : get_or l i 0 ≡ c = eqb-true _ _ (rw n at s) in
    differ (sym t ∙ ap (fits_byte mark) e ∙ d)

space_at : (d m : ℕ) → get_or (point_form old_length_digits d m) 27 0 ≡ 0x20
unfolding point_form head codes
space_at d m = refl

mark_at : (d m : ℕ) → get_or (point_form length_digits d m) 27 0 ≡ mark
unfolding point_form head codes
mark_at d m = refl

no_space : fits_byte mark 0x20 ≡ false
unfolding fits_byte digit_of fill.within
no_space = refl

no_bracket : fits_byte mark 0x29 ≡ false
unfolding fits_byte digit_of fill.within
no_bracket = refl

module _ (l : List ℕ) where
  of_fits : (w d k : ℕ) → is_form w d k l ≡ true → fits (point_form w d (octas_a w l + octas_b w l)) l ≡ true
  unfolding is_form
  of_fits w d k e = and_right (leb (octas_b w l) k) _ (and_right (leb (octas_a w l) k) _ e)

  -- of one width, the longer image makes the longer line
  one_image : (w d e k : ℕ) → is_form w d k l ≡ true → is_form w e k l ≡ true → d ≡ e
  one_image w d e k f g = omega (arith, of_length w d k l f, of_length w e k l g)

  -- of two, the byte after four digits is a space in one and a digit in the other
  one_width : (d e j k : ℕ) → is_form length_digits d j l ≡ true → is_form old_length_digits e k l ≡ true → ⊥
  one_width d e j k f g =
      let m : ℕ = octas_a length_digits l + octas_b length_digits l in
      let o : ℕ = octas_a old_length_digits l + octas_b old_length_digits l in
      clash (point_form length_digits d m) (point_form old_length_digits e o) l 27 0x20 (of_fits length_digits d j f) (of_fits old_length_digits e k g)
      (omega (arith, length_form length_digits d m)) (omega (arith, length_form old_length_digits e o)) (mark_at d m) (space_at e o) refl no_space

  is_not : (t : Bool) → (t ≡ true → ⊥) → t ≡ false
  is_not true h = absurd (h refl)
  is_not false h = refl

  pub old_widths : is_old l ≡ true → widths_of l ≡ widths length_digits old_state_digits
  unfolding is_new is_old
  old_widths e = as_old l (is_not (is_new l) (λ n. absurd (omega (arith, one_image length_digits state_digits old_state_digits octas_max n e)))) e

  pub short_widths : is_short l ≡ true → widths_of l ≡ widths old_length_digits state_digits
  unfolding is_new is_old is_short
  short_widths e =
      as_short l (is_not (is_new l) (λ n. one_width state_digits state_digits octas_max old_octas_max n e))
      (is_not (is_old l) (λ n. one_width old_state_digits state_digits octas_max old_octas_max n e)) e

  pub short_old_widths : is_short_old l ≡ true → widths_of l ≡ widths old_length_digits old_state_digits
  unfolding is_new is_old is_short is_short_old
  short_old_widths e =
      as_short_old l (is_not (is_new l) (λ n. one_width state_digits old_state_digits octas_max old_octas_max n e))
      (is_not (is_old l) (λ n. one_width old_state_digits old_state_digits octas_max old_octas_max n e))
      (is_not (is_short l) (λ n. absurd (omega (arith, one_image old_length_digits state_digits old_state_digits old_octas_max n e)))) e

-- ---- mixed widths

module _ (d m : ℕ) where
  -- the byte after four digits of the first length, and that after four of the second
  short_space : get_or (mixed_form old_length_digits length_digits d m) 27 0 ≡ 0x20
  unfolding mixed_form head codes
  short_space = refl

  short_mark : get_or (mixed_form old_length_digits length_digits d m) 32 0 ≡ mark
  unfolding mixed_form head codes
  short_mark = refl

  long_mark : get_or (mixed_form length_digits old_length_digits d m) 27 0 ≡ mark
  unfolding mixed_form head codes
  long_mark = refl

  long_bracket : get_or (mixed_form length_digits old_length_digits d m) 36 0 ≡ 0x29
  unfolding mixed_form head bases codes
  long_bracket = refl

  -- so long that they have these bytes
  mixed_long : (v w : ℕ) → 36 < length (mixed_form v w d m)
  unfolding mixed_form
  mixed_long v w = omega (
    arith,
    length_head,
    length_bases,
    length-append head (marks v ++ (codes " " ++ (marks w ++ (bases ++ (marks d ++ (middle ++ (marks (16 * m) ++ close))))))),
    length-append (marks v) (codes " " ++ (marks w ++ (bases ++ (marks d ++ (middle ++ (marks (16 * m) ++ close)))))),
    length-append (codes " ") (marks w ++ (bases ++ (marks d ++ (middle ++ (marks (16 * m) ++ close))))),
    length-append (marks w) (bases ++ (marks d ++ (middle ++ (marks (16 * m) ++ close)))),
    length-append bases (marks d ++ (middle ++ (marks (16 * m) ++ close))),
  )

bracket_at : (d m : ℕ) → get_or (point_form old_length_digits d m) 32 0 ≡ 0x29
unfolding point_form head bases codes
bracket_at d m = refl

second_mark : (d m : ℕ) → get_or (point_form length_digits d m) 36 0 ≡ mark
unfolding point_form head codes
second_mark d m = refl

-- a line of one of the four forms has one of the two widths
module _ (l : List ℕ) (long : (d k : ℕ) → is_form length_digits d k l ≡ true → ⊥) (short : (d k : ℕ) → is_form old_length_digits d k l ≡ true → ⊥) where
  no_width : is_point l ≡ false
  unfolding is_new is_old is_short is_short_old
  no_width =
      none_point l (is_not l (is_new l) (long state_digits octas_max)) (is_not l (is_old l) (long old_state_digits octas_max))
      (is_not l (is_short l) (short state_digits old_octas_max)) (is_not l (is_short_old l) (short old_state_digits old_octas_max))

pub mixed_bad : MixedBad
mixed_bad = record {
  short_first = λ d m l f. no_width l
      (λ e k g. let o : ℕ = octas_a length_digits l + octas_b length_digits l in
      clash (point_form length_digits e o) (mixed_form old_length_digits length_digits d m) l 27 0x20 (of_fits l length_digits e k g) f
      (omega (arith, length_form length_digits e o)) (omega (arith, mixed_long d m old_length_digits length_digits)) (mark_at e o) (short_space d m) refl no_space)
      (λ e k g. let o : ℕ = octas_a old_length_digits l + octas_b old_length_digits l in
      clash (mixed_form old_length_digits length_digits d m) (point_form old_length_digits e o) l 32 0x29 f (of_fits l old_length_digits e k g)
      (omega (arith, mixed_long d m old_length_digits length_digits)) (omega (arith, length_form old_length_digits e o)) (short_mark d m) (bracket_at e o) refl no_bracket);
  short_second = λ d m l f. no_width l
      (λ e k g. let o : ℕ = octas_a length_digits l + octas_b length_digits l in
      clash (point_form length_digits e o) (mixed_form length_digits old_length_digits d m) l 36 0x29 (of_fits l length_digits e k g) f
      (omega (arith, length_form length_digits e o)) (mixed_long d m length_digits old_length_digits) (second_mark e o) (long_bracket d m) refl no_bracket)
      (λ e k g. let o : ℕ = octas_a old_length_digits l + octas_b old_length_digits l in
      clash (mixed_form length_digits old_length_digits d m) (point_form old_length_digits e o) l 27 0x20 f (of_fits l old_length_digits e k g)
      (omega (arith, mixed_long d m length_digits old_length_digits)) (omega (arith, length_form old_length_digits e o)) (long_mark d m) (space_at e o) refl no_space);
}
