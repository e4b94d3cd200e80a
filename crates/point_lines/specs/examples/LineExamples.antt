-- Examples of lines, computed; and the most octabytes that a form takes. 02: "lines with four in both, 0x2000 at most"; 1 MiB in the form that is written.
use Rattle.std.specs.Prelude.{ℕ, ◌+◌, ◌≡◌, Bool, true, false, ◌&&◌, ◌||◌, List, [], ◌∷◌, ◌++◌, eqb, length}
use Rattle.model.specs.Kept.{Point, point_in}
use Rattle.text.specs.Codes.{codes}
use Rattle.text.specs.Text.{bad_text}
use Rattle.point_lines.specs.Line.{point_form, fits, octas_a, octas_b, is_new, is_old, is_short, is_short_old, widths_of, zeros, renewed, longest_line}
use Rattle.point_lines.specs.PointLine.{in_form, point_digits}
use Rattle.point_lines.specs.Stream.{printed, bad_most}

-- ---- a line

-- one octabyte in A and none in B; in the place of the state two bytes
abbrev point : Point
point = point_in (0xA5 ∷ 0x5A ∷ []) 0x123456789ABCDEF 0x6000000000000000 (0 ∷ 1 ∷ 2 ∷ 3 ∷ 0xFC ∷ 0xFD ∷ 0xFE ∷ 0xFF ∷ []) []

abbrev line : List ℕ
line = in_form (point_form 8 4 1) (point_digits 8 10 point)

-- a line of zeros with w digits for each length and d for the state, and no octabyte
abbrev zeroed : ℕ → ℕ → List ℕ
zeroed w d =
    codes "(point (name 0) (octas " ++ (zeros w ++ (codes " " ++ (zeros w ++ (codes ") (bases 0000000000000000 0000000000000000) (state "
    ++ (zeros d ++ codes ") (windows ))")))))

-- it is of that form, and so much longer where it is written
unfoldable pub form_met : ℕ → ℕ → ℕ → Bool
form_met w d more =
    eqb (widths_of (zeroed w d)).lengths w && (eqb (widths_of (zeroed w d)).state d && eqb (length (renewed (zeroed w d))) (length (zeroed w d) + more))

abbrev pub LineExamplesMet : Type 0
LineExamplesMet =
    (line ≡ codes "(point (name a) (octas 00000001 00000000) (bases 0123456789abcdef 6000000000000000) (state a55a) (windows 00010203fcfdfeff))")
    × (form_met 8 4672 0 ≡ true) × (form_met 8 4656 16 ≡ true) × (form_met 4 4672 8 ≡ true) × (form_met 4 4656 24 ≡ true)
    × (longest_line ≡ 4199080) × (length (bad_text 18446744073709551615) ≡ bad_most)
    × (printed (codes "x\n") ≡ codes "(bad 1)\n")

-- ---- the most octabytes

pub record LengthLimits : Type 0 where
  -- four digits: 0x2000 in each window, and no more in either
  pub short_a : (l : List ℕ) → octas_a 4 l ≡ 0x2001 → (is_short l || is_short_old l) ≡ false
  pub short_b : (l : List ℕ) → octas_b 4 l ≡ 0x2001 → (is_short l || is_short_old l) ≡ false
  pub short_most : (l : List ℕ) → octas_a 4 l ≡ 0x2000 → octas_b 4 l ≡ 0x2000 → fits (point_form 4 4672 0x4000) l ≡ true → is_short l ≡ true
  pub short_old_most : (l : List ℕ) → octas_a 4 l ≡ 0x2000 → octas_b 4 l ≡ 0x2000 → fits (point_form 4 4656 0x4000) l ≡ true → is_short_old l ≡ true
  -- eight: 0x20000
  pub long_a : (l : List ℕ) → octas_a 8 l ≡ 0x20001 → (is_new l || is_old l) ≡ false
  pub long_b : (l : List ℕ) → octas_b 8 l ≡ 0x20001 → (is_new l || is_old l) ≡ false
  pub long_most : (l : List ℕ) → octas_a 8 l ≡ 0x20000 → octas_b 8 l ≡ 0x20000 → fits (point_form 8 4672 0x40000) l ≡ true → is_new l ≡ true
  pub long_old_most : (l : List ℕ) → octas_a 8 l ≡ 0x20000 → octas_b 8 l ≡ 0x20000 → fits (point_form 8 4656 0x40000) l ≡ true → is_old l ≡ true
