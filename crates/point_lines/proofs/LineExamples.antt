-- The examples of lines, by a result that antt computes; and the most octabytes of each form, by one law of a form.
use Rattle.model.proofs.Prelude.{ℕ, ◌+◌, ◌<◌, ◌≤◌, Bool, false, true, ◌&&◌, List, refl, ◌≡◌, arith, leb, le-leb, lt-leb, within}
use Rattle.point_lines.proofs.Prelude.{codes, digit_of, number_of, line_length, pieces, bad_line, bad_text, filled, glyph, numeral}
use Rattle.point_lines.specs.Line.{fits_byte, fits, head, bases, middle, close, point_form, digits_at, hex_at, octas_a, octas_b, is_form, state_digits, old_state_digits, octas_max, old_octas_max, is_new, is_old, is_short, is_short_old, is_point, widths_of, padded, widened, renewed}
use Rattle.point_lines.specs.PointLine.{hex_of, digits_of, in_form, point_digits}
use Rattle.point_lines.specs.Stream.{printed_lines}
use Rattle.point_lines.specs.examples.LineExamples.{form_met, LineExamplesMet, LengthLimits}

pub line_examples_met : LineExamplesMet
unfolding form_met in_form point_digits hex_of digits_of point_form head bases middle close codes glyph numeral filled bad_line bad_text widths_of is_new is_old is_short is_short_old is_form octas_a octas_b hex_at digits_at digit_of number_of within fits fits_byte renewed widened padded printed_lines pieces line_length is_point
line_examples_met = (refl, refl, refl, refl, refl, refl, refl, refl)

-- ---- a form of lengths of w digits, a state of d, k octabytes at most

too_many : (b c : Bool) → (b && (false && c)) ≡ false
too_many true c = refl
too_many false c = refl

over_a : (w d k n : ℕ) (l : List ℕ) → k < n → octas_a w l ≡ n → is_form w d k l ≡ false
unfolding is_form
over_a w d k n l h e = rw (e, lt-leb n k h)

over_b : (w d k n : ℕ) (l : List ℕ) → k < n → octas_b w l ≡ n → is_form w d k l ≡ false
unfolding is_form
over_b w d k n l h e = rw (e, lt-leb n k h) (too_many (leb (octas_a w l) k) (fits (point_form w d (octas_a w l + n)) l))

most : (w d k m n : ℕ) (l : List ℕ) → m ≤ k → n ≤ k → octas_a w l ≡ m → octas_b w l ≡ n → fits (point_form w d (m + n)) l ≡ true → is_form w d k l ≡ true
unfolding is_form
most w d k m n l g h e f p = rw (e, f, le-leb m k g, le-leb n k h) p

pub length_limits : LengthLimits
unfolding is_new is_old is_short is_short_old
length_limits = record {
  short_a = λ l e. rw (over_a 4 state_digits old_octas_max 0x2001 l (omega arith) e) (over_a 4 old_state_digits old_octas_max 0x2001 l (omega arith) e);
  short_b = λ l e. rw (over_b 4 state_digits old_octas_max 0x2001 l (omega arith) e) (over_b 4 old_state_digits old_octas_max 0x2001 l (omega arith) e);
  short_most = λ l e f p. most 4 state_digits old_octas_max 0x2000 0x2000 l (omega arith) (omega arith) e f p;
  short_old_most = λ l e f p. most 4 old_state_digits old_octas_max 0x2000 0x2000 l (omega arith) (omega arith) e f p;
  long_a = λ l e. rw (over_a 8 state_digits octas_max 0x20001 l (omega arith) e) (over_a 8 old_state_digits octas_max 0x20001 l (omega arith) e);
  long_b = λ l e. rw (over_b 8 state_digits octas_max 0x20001 l (omega arith) e) (over_b 8 old_state_digits octas_max 0x20001 l (omega arith) e);
  long_most = λ l e f p. most 8 state_digits octas_max 0x20000 0x20000 l (omega arith) (omega arith) e f p;
  long_old_most = λ l e f p. most 8 old_state_digits octas_max 0x20000 0x20000 l (omega arith) (omega arith) e f p;
}
