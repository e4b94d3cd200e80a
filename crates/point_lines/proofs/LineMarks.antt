-- Where the digits of a point's line stand: seven places, the last one both windows'.
use Rattle.model.proofs.Prelude.{ℕ, ◌*◌, ◌+◌, append-nil, List, [], ◌++◌, ap, refl, ◌∙◌, ◌≡◌, arith, drop, length}
use Rattle.point_lines.proofs.Prelude.{codes}
use Rattle.point_lines.specs.Line.{head, bases, middle, close, marks, point_form, digits_at}
use Rattle.point_lines.proofs.Forms.{length_space, length_middle}
use Rattle.point_lines.proofs.Marks.{digits_in, marks_in, marks_append, marks_marks, after_plain}

-- what stands between its digits
module _ (l : List ℕ) where
  none_name : digits_in (codes "(point (name ") l ≡ []
  unfolding digits_in codes
  none_name = refl

  none_octas : digits_in (codes ") (octas ") l ≡ []
  unfolding digits_in codes
  none_octas = refl

  none_space : digits_in (codes " ") l ≡ []
  unfolding digits_in codes
  none_space = refl

  none_bases : digits_in (codes ") (bases ") l ≡ []
  unfolding digits_in codes
  none_bases = refl

  none_state : digits_in (codes ") (state ") l ≡ []
  unfolding digits_in codes
  none_state = refl

  none_windows : digits_in middle l ≡ []
  unfolding digits_in middle codes
  none_windows = refl

  none_close : digits_in close l ≡ []
  unfolding digits_in close codes
  none_close = refl

length_name : length (codes "(point (name ") ≡ 13
unfolding codes
length_name = refl

length_octas : length (codes ") (octas ") ≡ 9
unfolding codes
length_octas = refl

length_bases : length (codes ") (bases ") ≡ 9
unfolding codes
length_bases = refl

length_state : length (codes ") (state ") ≡ 9
unfolding codes
length_state = refl

plain_name : marks_in (codes "(point (name ") ≡ 0
unfolding marks_in codes
plain_name = refl

plain_octas : marks_in (codes ") (octas ") ≡ 0
unfolding marks_in codes
plain_octas = refl

plain_space : marks_in (codes " ") ≡ 0
unfolding marks_in codes
plain_space = refl

plain_bases : marks_in (codes ") (bases ") ≡ 0
unfolding marks_in codes
plain_bases = refl

plain_state : marks_in (codes ") (state ") ≡ 0
unfolding marks_in codes
plain_state = refl

plain_windows : marks_in middle ≡ 0
unfolding marks_in middle codes
plain_windows = refl

plain_close : marks_in close ≡ 0
unfolding marks_in close codes
plain_close = refl

module _ (w d m : ℕ) where
  abbrev from_windows : List ℕ
  from_windows = middle ++ (marks (16 * m) ++ close)

  abbrev from_state : List ℕ
  from_state = codes ") (state " ++ (marks d ++ from_windows)

  abbrev from_base : List ℕ
  from_base = codes " " ++ (marks 16 ++ from_state)

  abbrev from_bases : List ℕ
  from_bases = codes ") (bases " ++ (marks 16 ++ from_base)

  abbrev from_length : List ℕ
  from_length = codes " " ++ (marks w ++ from_bases)

  abbrev from_octas : List ℕ
  from_octas = codes ") (octas " ++ (marks w ++ from_length)

  by_digits : point_form w d m ≡ codes "(point (name " ++ (marks 1 ++ from_octas)
  unfolding point_form head bases codes
  by_digits = refl

  pub form_digits : (l : List ℕ) → digits_in (point_form w d m) l
      ≡ digits_at l 13 1 ++ (digits_at l 23 w ++ (digits_at l (24 + w) w ++ (digits_at l (33 + 2 * w) 16 ++ (digits_at l (50 + 2 * w) 16
      ++ (digits_at l (75 + 2 * w) d ++ digits_at l (86 + 2 * w + d) (16 * m))))))
  form_digits l =
      ap (λ (p : List ℕ). digits_in p l) by_digits
      ∙ after_plain (codes "(point (name ") none_name 1 from_octas l 0 13 14 (omega (arith, length_name)) refl
      ∙ ap (λ (k : List ℕ). digits_at l 13 1 ++ k) (after_plain (codes ") (octas ") none_octas w from_length l 14 23 (23 + w) (omega (arith, length_octas)) refl
      ∙ ap (λ (k : List ℕ). digits_at l 23 w ++ k) (after_plain (codes " ") none_space w from_bases l (23 + w) (24 + w) (24 + 2 * w) (omega (arith, length_space)) (omega arith)
      ∙ ap (λ (k : List ℕ). digits_at l (24 + w) w ++ k) (after_plain (codes ") (bases ") none_bases 16 from_base l (24 + 2 * w) (33 + 2 * w) (49 + 2 * w) (omega (arith, length_bases)) (omega arith)
      ∙ ap (λ (k : List ℕ). digits_at l (33 + 2 * w) 16 ++ k) (after_plain (codes " ") none_space 16 from_state l (49 + 2 * w) (50 + 2 * w) (66 + 2 * w) (omega (arith, length_space)) (omega arith)
      ∙ ap (λ (k : List ℕ). digits_at l (50 + 2 * w) 16 ++ k) (after_plain (codes ") (state ") none_state d from_windows l (66 + 2 * w) (75 + 2 * w) (75 + 2 * w + d) (omega (arith, length_state)) refl
      ∙ ap (λ (k : List ℕ). digits_at l (75 + 2 * w) d ++ k) (after_plain middle none_windows (16 * m) close l (75 + 2 * w + d) (86 + 2 * w + d) (86 + 2 * w + d + 16 * m) (omega (arith, length_middle)) refl
      ∙ ap (λ (k : List ℕ). digits_at l (86 + 2 * w + d) (16 * m) ++ k) (none_close (drop (86 + 2 * w + d + 16 * m) l)) ∙ append-nil (digits_at l (86 + 2 * w + d) (16 * m))))))))

  pub form_marks : marks_in (point_form w d m) ≡ 33 + 2 * w + d + 16 * m
  form_marks = omega (
    arith,
    ap marks_in by_digits,
    marks_append (codes "(point (name ") (marks 1 ++ from_octas),
    plain_name,
    marks_append (marks 1) from_octas,
    marks_marks 1,
    marks_append (codes ") (octas ") (marks w ++ from_length),
    plain_octas,
    marks_append (marks w) from_length,
    marks_marks w,
    marks_append (codes " ") (marks w ++ from_bases),
    plain_space,
    marks_append (marks w) from_bases,
    marks_append (codes ") (bases ") (marks 16 ++ from_base),
    plain_bases,
    marks_append (marks 16) from_base,
    marks_marks 16,
    marks_append (codes " ") (marks 16 ++ from_state),
    marks_append (marks 16) from_state,
    marks_append (codes ") (state ") (marks d ++ from_windows),
    plain_state,
    marks_append (marks d) from_windows,
    marks_marks d,
    marks_append middle (marks (16 * m) ++ close),
    plain_windows,
    marks_append (marks (16 * m)) close,
    marks_marks (16 * m),
    plain_close,
  )
