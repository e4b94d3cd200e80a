-- A point and its line determine each other; a line of an older form has a point too, with an empty mask where its image is old, and becomes that
-- point's line.
use Rattle.std.specs.Prelude.{ℕ, zero, suc, ◌+◌, ◌*◌, ◌/◌, ◌%◌, ◌<◌, ◌≡◌, true, cond, List, [], ◌∷◌, ◌++◌, eqb, get_or, drop}
use Rattle.model.specs.Kept.{Point, point_count, full, octas_in, PointFits, OfBytes}
use Rattle.text.specs.Text.{glyph}
use Rattle.point_lines.specs.Line.{mark, point_form, digits_at, hex_at, octas_a, octas_b, length_digits, old_length_digits, state_digits, old_state_digits, is_new, is_old, is_short, is_short_old, is_point, widths_of, state_at, widened, renewed}

-- ---- a point's line

-- the last w digits of a number, the most significant first
unfoldable pub hex_of : ℕ → ℕ → List ℕ
hex_of zero v = []
hex_of (suc w) v = hex_of w (v / 16) ++ (v % 16 ∷ [])

-- two digits a byte
unfoldable pub digits_of : List ℕ → List ℕ
digits_of [] = []
digits_of (b ∷ l) = b / 16 ∷ b % 16 ∷ digits_of l

-- a form with each mark replaced by the next digit
unfoldable pub in_form : List ℕ → List ℕ → List ℕ
in_form [] ds = []
in_form (c ∷ p) ds = cond (eqb c mark) (glyph (get_or ds 0 0) ∷ in_form p (drop 1 ds)) (c ∷ in_form p ds)

-- a line's digits in their order: name, lengths of A and B by w digits each, bases of A and B, state, A, B
unfoldable pub point_digits : ℕ → ℕ → Point → List ℕ
point_digits w name p =
    hex_of 1 name ++ (hex_of w (octas_in p.a) ++ (hex_of w (octas_in p.b) ++ (hex_of 16 p.base_a ++ (hex_of 16 p.base_b
    ++ (digits_of p.image ++ (digits_of p.a ++ digits_of p.b))))))

-- THE line of a point under a name
unfoldable pub line_of : ℕ → Point → List ℕ
line_of name p = in_form (point_form length_digits state_digits (octas_in p.a + octas_in p.b)) (point_digits length_digits name p)

-- ---- a line's point

-- the bytes that digits are
unfoldable pub bytes_of_digits : List ℕ → List ℕ
bytes_of_digits [] = []
bytes_of_digits (d ∷ []) = []
bytes_of_digits (d ∷ e ∷ ds) = (d * 16 + e) ∷ bytes_of_digits ds

-- where a line has its name's digit, its bases and its windows, these after lengths of w digits and a state of d
abbrev pub name_at : ℕ
name_at = 13

abbrev pub base_a_at : ℕ → ℕ
base_a_at w = 33 + 2 * w

abbrev pub base_b_at : ℕ → ℕ
base_b_at w = 50 + 2 * w

abbrev pub windows_at : ℕ → ℕ → ℕ
windows_at w d = 86 + 2 * w + d

unfoldable pub name_of : List ℕ → ℕ
name_of l = hex_at l name_at 1

-- the point of a line whose lengths have w digits each and whose state has d
unfoldable pub point_by : ℕ → ℕ → List ℕ → Point
point_by w d l = record {
  image = bytes_of_digits (digits_at l (state_at w) d);
  base_a = hex_at l (base_a_at w) 16;
  base_b = hex_at l (base_b_at w) 16;
  a = bytes_of_digits (digits_at l (windows_at w d) (16 * octas_a w l));
  b = bytes_of_digits (digits_at l (windows_at w d + 16 * octas_a w l) (16 * octas_b w l));
}

-- THE point of a line: "an old image is read with an empty mask"
unfoldable pub point_of : List ℕ → Point
point_of l = full (point_by (widths_of l).lengths (widths_of l).state l)

-- ---- THEOREM: each is the other's

-- a point's line is a point's line, in the form that is written, and has that name and that point
pub record Told (name : ℕ) (p : Point) : Type 0 where
  pub line_new : is_new (line_of name p) ≡ true
  pub line_good : is_point (line_of name p) ≡ true
  pub name_is : name_of (line_of name p) ≡ name
  pub point_is : point_of (line_of name p) ≡ p

-- the line of a line's point under its name is what is written of the line, and these are such as can be kept
pub record Read (l : List ℕ) : Type 0 where
  pub line_is : line_of (name_of l) (point_of l) ≡ renewed l
  pub name_small : name_of l < point_count
  pub point_fits : PointFits (point_of l)
  pub of_bytes : OfBytes (point_of l)

-- the same of a line with lengths of w digits and a state of d, said by these
pub record Older (w d : ℕ) (l : List ℕ) : Type 0 where
  pub point_is : point_of l ≡ full (point_by w d l)
  pub line_is : line_of (name_of l) (point_of l) ≡ widened w d l

pub record EachOther : Type 0 where
  pub of_point : (name : ℕ) (p : Point) → name < point_count → PointFits p → OfBytes p → Told name p
  pub of_line : (l : List ℕ) → is_point l ≡ true → Read l
  -- and of a line in the form that is written it is that line
  pub of_new : (l : List ℕ) → is_new l ≡ true → line_of (name_of l) (point_of l) ≡ l
  -- one of an older form has the point that its own digits are, with an empty mask after an old image, and digits 0 more make it that point's line
  pub of_old : (l : List ℕ) → is_old l ≡ true → Older length_digits old_state_digits l
  pub of_short : (l : List ℕ) → is_short l ≡ true → Older old_length_digits state_digits l
  pub of_short_old : (l : List ℕ) → is_short_old l ≡ true → Older old_length_digits old_state_digits l
