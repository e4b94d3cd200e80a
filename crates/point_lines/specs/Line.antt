-- The forms of a point's line. 02: "`(point (name 3) (octas 0100 0010) (bases ..) (state ..) (windows ..))`, one line a point, [..] each base 16, bytes
-- in one unbroken run of hexadecimal, A's before B's, `(windows )` if both are empty"; "Point lines now carry each length as eight hexadecimal digits;
-- lines with four in both, 0x2000 at most, are still read but never written"; "Point lines with an old image are still read but never written".
use Rattle.std.specs.Prelude.{ℕ, zero, suc, ◌+◌, ◌-◌, ◌*◌, ◌/◌, ◌≡◌, Bool, true, false, cond, ◌&&◌, ◌||◌, List, [], ◌∷◌, ◌++◌, leb, ltb, eqb, length, get_or, take, drop, replicate}
use Rattle.model.specs.Memory.{window_max}
use Rattle.model.specs.Kept.{image_length, old_image_length}
use Rattle.text.specs.Codes.{codes}
use Rattle.text.specs.Digits.{digit_of, number_of}
use Rattle.point_lines.specs.declared.line.Widths.{Widths}

-- ---- a form: '#' stands for a digit, any other byte for itself

abbrev pub mark : ℕ
mark = 0x23

unfoldable pub fits_byte : ℕ → ℕ → Bool
fits_byte c b = cond (eqb c mark) (ltb (digit_of b) 16) (eqb b c)

-- a line is of a form, byte for byte
unfoldable pub fits : List ℕ → List ℕ → Bool
fits [] [] = true
fits [] (b ∷ l) = false
fits (c ∷ p) [] = false
fits (c ∷ p) (b ∷ l) = fits_byte c b && fits p l

-- ---- a point's line: w digits for each length, d for the state, 16 for each of m octabytes in both windows

unfoldable pub head : List ℕ
head = codes "(point (name #) (octas "

unfoldable pub bases : List ℕ
bases = codes ") (bases ################ ################) (state "

unfoldable pub middle : List ℕ
middle = codes ") (windows "

unfoldable pub close : List ℕ
close = codes "))"

-- n digits
abbrev pub marks : ℕ → List ℕ
marks n = replicate n mark

unfoldable pub point_form : ℕ → ℕ → ℕ → List ℕ
point_form w d m =
    head ++ (marks w ++ (codes " " ++ (marks w ++ (bases ++ (marks d ++ (middle ++ (marks (16 * m) ++ close)))))))

-- n digits of a line from index o on, and the number that they are
unfoldable pub digits_at : List ℕ → ℕ → ℕ → List ℕ
digits_at l o zero = []
digits_at l o (suc n) = digit_of (get_or l o 0) ∷ digits_at l (suc o) n

unfoldable pub hex_at : List ℕ → ℕ → ℕ → ℕ
hex_at l o n = number_of 0 (digits_at l o n)

-- the windows' octabytes, as the line says them
unfoldable pub octas_a : ℕ → List ℕ → ℕ
octas_a w l = hex_at l 23 w

unfoldable pub octas_b : ℕ → List ℕ → ℕ
octas_b w l = hex_at l (24 + w) w

-- neither above k, and the form with as many octabytes
unfoldable pub is_form : ℕ → ℕ → ℕ → List ℕ → Bool
is_form w d k l = leb (octas_a w l) k && (leb (octas_b w l) k && fits (point_form w d (octas_a w l + octas_b w l)) l)

-- ---- the forms that are read

abbrev pub length_digits : ℕ
length_digits = 8

abbrev pub old_length_digits : ℕ
old_length_digits = 4

-- two a byte; an old image's are without the mask's
abbrev pub state_digits : ℕ
state_digits = 2 * image_length

abbrev pub old_state_digits : ℕ
old_state_digits = 2 * old_image_length

abbrev pub octas_max : ℕ
octas_max = window_max / 8

abbrev pub old_octas_max : ℕ
old_octas_max = 0x2000

-- the form that is written
unfoldable pub is_new : List ℕ → Bool
is_new l = is_form length_digits state_digits octas_max l

-- with an old image
unfoldable pub is_old : List ℕ → Bool
is_old l = is_form length_digits old_state_digits octas_max l

-- with four digits in both lengths, and either image
unfoldable pub is_short : List ℕ → Bool
is_short l = is_form old_length_digits state_digits old_octas_max l

unfoldable pub is_short_old : List ℕ → Bool
is_short_old l = is_form old_length_digits old_state_digits old_octas_max l

-- THE line of a point, its newline left out; "a length above the largest window's" makes it none
unfoldable pub is_point : List ℕ → Bool
is_point l = is_new l || (is_old l || (is_short l || is_short_old l))

-- how many digits a line's lengths and its state have, by its form; none where it has none
abbrev pub widths : ℕ → ℕ → Widths
widths w d = record { lengths = w; state = d }

unfoldable pub widths_of : List ℕ → Widths
widths_of l =
    cond (is_new l) (widths length_digits state_digits)
    (cond (is_old l) (widths length_digits old_state_digits)
    (cond (is_short l) (widths old_length_digits state_digits)
    (cond (is_short_old l) (widths old_length_digits old_state_digits) (widths 0 0))))

-- ---- what is written of a line: digits 0 more before each length, and after the state's, an empty mask's

-- where a line has its first length, its second and its state, and where that ends
abbrev pub first_at : ℕ
first_at = 23

abbrev pub second_at : ℕ → ℕ
second_at w = 24 + w

abbrev pub state_at : ℕ → ℕ
state_at w = 75 + 2 * w

abbrev pub state_end : ℕ → ℕ → ℕ
state_end w d = state_at w + d

-- n digits 0
abbrev pub zeros : ℕ → List ℕ
zeros n = replicate n 0x30

-- a line with so many put in at index i
unfoldable pub padded : ℕ → ℕ → List ℕ → List ℕ
padded i n l = take i l ++ (zeros n ++ drop i l)

-- a line with w digits for each length and d for the state, in the form that is written
unfoldable pub widened : ℕ → ℕ → List ℕ → List ℕ
widened w d l =
    padded first_at (length_digits - w) (padded (second_at w) (length_digits - w) (padded (state_end w d) (state_digits - d) l))

-- so many more a line has then
abbrev pub gained : ℕ → ℕ → ℕ
gained w d = 2 * (length_digits - w) + (state_digits - d)

-- a line of n bytes has its state, and no more digits than the form that is written; and there is room for it in that form
unfoldable pub widens : ℕ → ℕ → ℕ → ℕ → Bool
widens room n w d = leb w length_digits && (leb d state_digits && (leb (state_end w d) n && leb (n + gained w d) room))

-- THE text that is left of the first n bytes held, nothing where they are no such line
unfoldable pub renewed_in : List ℕ → ℕ → ℕ → ℕ → List ℕ
renewed_in held n w d = cond (widens (length held) n w d) (widened w d (take n held)) []

-- what is written of a point's line
unfoldable pub renewed : List ℕ → List ℕ
renewed l = widened (widths_of l).lengths (widths_of l).state l

-- the longest one: 88 bytes are neither a length's nor the state's nor a window's
abbrev pub longest_line : ℕ
longest_line = 88 + 2 * length_digits + state_digits + 16 * (octas_max + octas_max)

-- ---- THEOREM: a line with four digits in one length and eight in the other is no point's

-- v digits for the first length and w for the second
unfoldable pub mixed_form : ℕ → ℕ → ℕ → ℕ → List ℕ
mixed_form v w d m =
    head ++ (marks v ++ (codes " " ++ (marks w ++ (bases ++ (marks d ++ (middle ++ (marks (16 * m) ++ close)))))))

pub record MixedBad : Type 0 where
  pub short_first : (d m : ℕ) (l : List ℕ) → fits (mixed_form old_length_digits length_digits d m) l ≡ true → is_point l ≡ false
  pub short_second : (d m : ℕ) (l : List ℕ) → fits (mixed_form length_digits old_length_digits d m) l ≡ true → is_point l ≡ false
