-- A point is the point of its line: its digits, put into the form, stand there part by part. With LinePoint, that each determines the other.
use Rattle.model.proofs.Prelude.{ℕ, ◌*◌, ◌+◌, ◌<◌, ◌^◌, ◌≤◌, true, List, ◌++◌, ap, sym, ◌∙◌, ◌≡◌, arith, length, length-append, le-leb, full, image_length}
use Rattle.model.proofs.Prelude.{octas_in, OfBytes, Point, point_count, PointFits, window_max, at_own, All_both}
use Rattle.point_lines.proofs.Prelude.{number_of, Digits}
use Rattle.point_lines.specs.Line.{fits, hex_at, octas_a, octas_b, is_form, is_new, length_digits, state_digits, octas_max, state_at}
use Rattle.point_lines.specs.PointLine.{hex_of, digits_of, point_digits, line_of, bytes_of_digits, name_at, base_a_at, base_b_at, windows_at, name_of, point_by, Told, EachOther}
use Rattle.point_lines.proofs.Formed.{point_new}
use Rattle.point_lines.proofs.Marks.{digits_in, marks_in, form_fits, digits_again}
use Rattle.point_lines.proofs.LineMarks.{form_marks}
use Rattle.point_lines.proofs.Hex.{length_hex, hex_digits, number_hex, length_digits_law, bytes_digits, bytes_of_digits_law, length_at, same_front, same_rest}
use Rattle.point_lines.proofs.LinePoint.{form, d_name, d_octas_a, d_octas_b, d_base_a, d_base_b, d_state, d_windows, d_a, d_b, line_digits, windows_digits}
use Rattle.point_lines.proofs.Renewed.{new_point, new_same, read, old, short, short_old}

both : (xs ys : List ℕ) → Digits xs → Digits ys → Digits (xs ++ ys)
both xs ys h k = All_both (λ (d : ℕ). d < 16) xs ys h k

module _ (name : ℕ) (p : Point) (n : name < point_count) (f : PointFits p) (o : OfBytes p) where
  abbrev m : ℕ
  m = octas_in p.a + octas_in p.b

  abbrev line : List ℕ
  line = line_of name p

  length_a : length (digits_of p.a) ≡ 16 * octas_in p.a
  length_a = omega (arith, length_digits_law p.a, f.whole_a)

  length_b : length (digits_of p.b) ≡ 16 * octas_in p.b
  length_b = omega (arith, length_digits_law p.b, f.whole_b)

  length_image : length (digits_of p.image) ≡ state_digits
  length_image = omega (arith, length_digits_law p.image, f.image_long)

  -- a point's digits, from each part on
  abbrev t₆ : List ℕ
  t₆ = digits_of p.a ++ digits_of p.b

  abbrev t₅ : List ℕ
  t₅ = digits_of p.image ++ t₆

  abbrev t₄ : List ℕ
  t₄ = hex_of 16 p.base_b ++ t₅

  abbrev t₃ : List ℕ
  t₃ = hex_of 16 p.base_a ++ t₄

  abbrev t₂ : List ℕ
  t₂ = hex_of length_digits (octas_in p.b) ++ t₃

  abbrev t₁ : List ℕ
  t₁ = hex_of length_digits (octas_in p.a) ++ t₂

  all_small : Digits (point_digits length_digits name p)
  unfolding point_digits
  all_small =
      both (hex_of 1 name) t₁ (hex_digits 1 name)
      (both (hex_of length_digits (octas_in p.a)) t₂ (hex_digits length_digits (octas_in p.a))
      (both (hex_of length_digits (octas_in p.b)) t₃ (hex_digits length_digits (octas_in p.b))
      (both (hex_of 16 p.base_a) t₄ (hex_digits 16 p.base_a)
      (both (hex_of 16 p.base_b) t₅ (hex_digits 16 p.base_b)
      (both (digits_of p.image) t₆ (bytes_digits p.image o.image_bytes)
      (both (digits_of p.a) (digits_of p.b) (bytes_digits p.a o.a_bytes) (bytes_digits p.b o.b_bytes)))))))

  length_all : length (point_digits length_digits name p) ≡ marks_in (form length_digits image_length m)
  unfolding point_digits
  length_all = omega (
    arith,
    form_marks length_digits state_digits m,
    length-append (hex_of 1 name) t₁,
    length_hex 1 name,
    length-append (hex_of length_digits (octas_in p.a)) t₂,
    length_hex length_digits (octas_in p.a),
    length-append (hex_of length_digits (octas_in p.b)) t₃,
    length_hex length_digits (octas_in p.b),
    length-append (hex_of 16 p.base_a) t₄,
    length_hex 16 p.base_a,
    length-append (hex_of 16 p.base_b) t₅,
    length_hex 16 p.base_b,
    length-append (digits_of p.image) t₆,
    length_image,
    length-append (digits_of p.a) (digits_of p.b),
    length_a,
    length_b,
  )

  its_form : fits (form length_digits image_length m) line ≡ true
  unfolding line_of
  its_form = form_fits (form length_digits image_length m) (point_digits length_digits name p) all_small length_all

  its_digits : digits_in (form length_digits image_length m) line ≡ point_digits length_digits name p
  unfolding line_of
  its_digits = digits_again (form length_digits image_length m) (point_digits length_digits name p) all_small length_all

  -- part by part
  e₀ : d_name length_digits image_length line ++ (d_octas_a length_digits image_length line ++ (d_octas_b length_digits image_length line ++ (d_base_a length_digits image_length line ++ (d_base_b length_digits image_length line ++ (d_state length_digits image_length line ++ d_windows length_digits image_length line m))))) ≡ hex_of 1 name ++ t₁
  unfolding point_digits
  e₀ = sym (line_digits length_digits image_length line m) ∙ its_digits

  at_name : length (d_name length_digits image_length line) ≡ 1
  at_name = length_at line name_at 1

  e₁ : d_octas_a length_digits image_length line ++ (d_octas_b length_digits image_length line ++ (d_base_a length_digits image_length line ++ (d_base_b length_digits image_length line ++ (d_state length_digits image_length line ++ d_windows length_digits image_length line m)))) ≡ t₁
  e₁ = same_rest 1 (d_name length_digits image_length line) _ (hex_of 1 name) t₁ at_name (length_hex 1 name) e₀

  at_octas_a : length (d_octas_a length_digits image_length line) ≡ length_digits
  at_octas_a = length_at line 23 length_digits

  e₂ : d_octas_b length_digits image_length line ++ (d_base_a length_digits image_length line ++ (d_base_b length_digits image_length line ++ (d_state length_digits image_length line ++ d_windows length_digits image_length line m))) ≡ t₂
  e₂ = same_rest length_digits (d_octas_a length_digits image_length line) _ (hex_of length_digits (octas_in p.a)) t₂ at_octas_a (length_hex length_digits (octas_in p.a)) e₁

  at_octas_b : length (d_octas_b length_digits image_length line) ≡ length_digits
  at_octas_b = length_at line (24 + length_digits) length_digits

  e₃ : d_base_a length_digits image_length line ++ (d_base_b length_digits image_length line ++ (d_state length_digits image_length line ++ d_windows length_digits image_length line m)) ≡ t₃
  e₃ = same_rest length_digits (d_octas_b length_digits image_length line) _ (hex_of length_digits (octas_in p.b)) t₃ at_octas_b (length_hex length_digits (octas_in p.b)) e₂

  at_base_a : length (d_base_a length_digits image_length line) ≡ 16
  at_base_a = length_at line (base_a_at length_digits) 16

  e₄ : d_base_b length_digits image_length line ++ (d_state length_digits image_length line ++ d_windows length_digits image_length line m) ≡ t₄
  e₄ = same_rest 16 (d_base_a length_digits image_length line) _ (hex_of 16 p.base_a) t₄ at_base_a (length_hex 16 p.base_a) e₃

  at_base_b : length (d_base_b length_digits image_length line) ≡ 16
  at_base_b = length_at line (base_b_at length_digits) 16

  e₅ : d_state length_digits image_length line ++ d_windows length_digits image_length line m ≡ t₅
  e₅ = same_rest 16 (d_base_b length_digits image_length line) _ (hex_of 16 p.base_b) t₅ at_base_b (length_hex 16 p.base_b) e₄

  at_state : length (d_state length_digits image_length line) ≡ state_digits
  at_state = length_at line (state_at length_digits) state_digits

  e₆ : d_a length_digits image_length line (octas_in p.a) ++ d_b length_digits image_length line (octas_in p.a) (octas_in p.b) ≡ t₆
  e₆ = sym (windows_digits length_digits image_length line (octas_in p.a) (octas_in p.b)) ∙ same_rest state_digits (d_state length_digits image_length line) _ (digits_of p.image) t₆ at_state length_image e₅

  at_a : length (d_a length_digits image_length line (octas_in p.a)) ≡ 16 * octas_in p.a
  at_a = length_at line (windows_at length_digits state_digits) (16 * octas_in p.a)

  -- each number, and each run of bytes
  few : (k : ℕ) → 8 * k ≤ window_max → k < 16 ^ length_digits
  few k h = omega arith

  is_name : name_of line ≡ name
  unfolding name_of hex_at
  is_name = ap (number_of 0) (same_front 1 (d_name length_digits image_length line) _ (hex_of 1 name) t₁ at_name (length_hex 1 name) e₀) ∙ number_hex 1 name (omega arith)

  is_octas_a : octas_a length_digits line ≡ octas_in p.a
  unfolding octas_a hex_at
  is_octas_a =
      ap (number_of 0) (same_front length_digits (d_octas_a length_digits image_length line) _ (hex_of length_digits (octas_in p.a)) t₂ at_octas_a (length_hex length_digits (octas_in p.a)) e₁)
      ∙ number_hex length_digits (octas_in p.a) (few (octas_in p.a) (omega (arith, f.whole_a, f.long_a)))

  is_octas_b : octas_b length_digits line ≡ octas_in p.b
  unfolding octas_b hex_at
  is_octas_b =
      ap (number_of 0) (same_front length_digits (d_octas_b length_digits image_length line) _ (hex_of length_digits (octas_in p.b)) t₃ at_octas_b (length_hex length_digits (octas_in p.b)) e₂)
      ∙ number_hex length_digits (octas_in p.b) (few (octas_in p.b) (omega (arith, f.whole_b, f.long_b)))

  is_base_a : hex_at line (base_a_at length_digits) 16 ≡ p.base_a
  unfolding hex_at
  is_base_a = ap (number_of 0) (same_front 16 (d_base_a length_digits image_length line) _ (hex_of 16 p.base_a) t₄ at_base_a (length_hex 16 p.base_a) e₃) ∙ number_hex 16 p.base_a f.base_a'

  is_base_b : hex_at line (base_b_at length_digits) 16 ≡ p.base_b
  unfolding hex_at
  is_base_b = ap (number_of 0) (same_front 16 (d_base_b length_digits image_length line) _ (hex_of 16 p.base_b) t₅ at_base_b (length_hex 16 p.base_b) e₄) ∙ number_hex 16 p.base_b f.base_b'

  is_image' : bytes_of_digits (d_state length_digits image_length line) ≡ p.image
  is_image' = ap bytes_of_digits (same_front state_digits (d_state length_digits image_length line) _ (digits_of p.image) t₆ at_state length_image e₅) ∙ bytes_of_digits_law p.image

  is_a : bytes_of_digits (d_a length_digits image_length line (octas_in p.a)) ≡ p.a
  is_a = ap bytes_of_digits (same_front (16 * octas_in p.a) (d_a length_digits image_length line (octas_in p.a)) _ (digits_of p.a) (digits_of p.b) at_a length_a e₆) ∙ bytes_of_digits_law p.a

  is_b : bytes_of_digits (d_b length_digits image_length line (octas_in p.a) (octas_in p.b)) ≡ p.b
  is_b = ap bytes_of_digits (same_rest (16 * octas_in p.a) (d_a length_digits image_length line (octas_in p.a)) _ (digits_of p.a) (digits_of p.b) at_a length_a e₆) ∙ bytes_of_digits_law p.b

  its_point : point_by length_digits state_digits line ≡ p
  unfolding point_by
  its_point = rw (is_octas_a, is_octas_b, is_base_a, is_base_b, is_image', is_a, is_b)

  is_new' : is_new line ≡ true
  unfolding is_new is_form
  is_new' = rw (is_octas_a, is_octas_b, le-leb (octas_in p.a) octas_max (omega (arith, f.whole_a, f.long_a)), le-leb (octas_in p.b) octas_max (omega (arith, f.whole_b, f.long_b)), its_form)

  told : Told name p
  told = record { line_new = is_new'; line_good = point_new line is_new'; name_is = is_name; point_is = new_point line is_new' ∙ ap full its_point ∙ at_own image_length p (sym f.image_long) }

pub each_other : EachOther
each_other = record { of_point = told; of_line = read; of_new = λ l e. (read l (point_new l e)).line_is ∙ new_same l e; of_old = old; of_short = short; of_short_old = short_old }
