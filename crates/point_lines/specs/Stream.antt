-- What is printed of a stream of points' lines, and how it is carried through in chunks. 02: "A line of just this form comes out byte for byte; any
-- other [..] prints `(bad N)` in its place and ends." A line of an older form comes out in the new one.
use Rattle.std.specs.Prelude.{ℕ, suc, ◌+◌, ◌≤◌, ◌<◌, ◌≡◌, Bool, true, false, cond, ◌&&◌, List, [], ◌∷◌, ◌++◌, leb, ltb, eqb, length, take, drop}
use Rattle.model.specs.Octa.{written}
use Rattle.text.specs.Text.{bad_text}
use Rattle.text.specs.Pieces.{pieces, line_length}
use Rattle.point_lines.specs.Line.{length_digits, state_digits, is_new, is_point, widths_of, state_end, gained, widened, renewed, longest_line}
use Rattle.point_lines.specs.declared.line.Widths.{Widths}
use Rattle.point_lines.specs.declared.stream.Turn.{Turn}
use Rattle.point_lines.specs.declared.stream.Turn.TheVariants.{More, Good, Bad}

-- ---- what is printed

abbrev pub newline : ℕ
newline = 10

-- from line n on; what follows the last newline is bad unless it is nothing
unfoldable pub printed_lines : ℕ → List (List ℕ) → List ℕ
printed_lines n [] = []
printed_lines n (p ∷ []) = cond (eqb (length p) 0) [] (bad_text n)
printed_lines n (p ∷ q ∷ ps) = cond (is_point p) (renewed p ++ (newline ∷ printed_lines (suc n) (q ∷ ps))) (bad_text n)

abbrev pub printed_from : ℕ → List ℕ → List ℕ
printed_from n l = printed_lines n (pieces l)

-- THE text that is printed of a text
abbrev pub printed : List ℕ → List ℕ
printed l = printed_from 1 l

-- the text that says that a line is bad, where there is room for the longest such text
abbrev pub bad_most : ℕ
bad_most = 27

unfoldable pub bad_in : ℕ → ℕ → List ℕ
bad_in room n = cond (leb bad_most room) (bad_text n) []

-- ---- a chunk at a time: `held` has the first `count` bytes of a line, and the chunk is what follows them

-- the line as far as the chunk has it
abbrev pub line_so_far : List ℕ → ℕ → List ℕ → List ℕ
line_so_far held count chunk = take count held ++ take (line_length chunk) chunk

-- the line ends within the chunk, there is room for it and its newline, and it is a point's
unfoldable pub is_good : List ℕ → ℕ → List ℕ → Bool
is_good held count chunk =
    ltb (line_length chunk) (length chunk) && (ltb (count + line_length chunk) (length held) && is_point (line_so_far held count chunk))

-- a good line: so many bytes of the chunk are done with, so many held are the line and its newline, and these are its widths
abbrev pub good_turn : ℕ → ℕ → Widths → Turn
good_turn used shown f = Good used shown f

-- it does not end within the chunk, and there is room for its end
unfoldable pub is_open : List ℕ → ℕ → List ℕ → Bool
is_open held count chunk = eqb (line_length chunk) (length chunk) && ltb (count + length chunk) (length held)

-- THE answer of a turn; a line that there is no room for is bad, whether it has an end or not
unfoldable pub chunk_turn : List ℕ → ℕ → List ℕ → Turn
chunk_turn held count chunk =
    cond (is_good held count chunk) (good_turn (line_length chunk + 1) (count + line_length chunk + 1) (widths_of (line_so_far held count chunk)))
    (cond (is_open held count chunk) (More (count + length chunk)) Bad)

-- and what is held then: the line further, as far as there is room; of a good one its newline too
unfoldable pub held_after : List ℕ → ℕ → List ℕ → List ℕ
held_after held count chunk = written held count (take (line_length chunk + cond (is_good held count chunk) 1 0) chunk)

-- ---- the text is carried through by turns

-- what is held of a line has no newline
abbrev pub Unended : List ℕ → Type 0
Unended h = line_length h ≡ length h

-- a line of n bytes has its state, and no more digits than the form that is written; its state has these but for a mask's; there is room for it anew
pub record LineFits (w d n room : ℕ) : Type 0 where
  pub few_lengths : w ≤ length_digits
  pub few_state : d ≤ state_digits
  pub but_mask : state_digits ≤ d + 16
  pub state_ends : state_end w d ≤ n
  pub anew_fits : n + gained w d ≤ room

-- what a turn on `held` and `chunk`, which leaves `left`, tells of what is printed from line n on, whatever follows the chunk
unfoldable pub Tells : ℕ → List ℕ → ℕ → List ℕ → List ℕ → List ℕ → Turn → Type 0
Tells n held count chunk left rest (More more) =
    (printed_from n (take count held ++ (chunk ++ rest)) ≡ printed_from n (take more left ++ rest)) × (more ≤ length left) × Unended (take more left)
Tells n held count chunk left rest (Good used shown f) =
    (printed_from n (take count held ++ (chunk ++ rest)) ≡ widened f.lengths f.state (take shown left) ++ printed_from (suc n) (drop used chunk ++ rest))
    × (shown ≤ length left) × (0 < used) × (used ≤ length chunk) × LineFits f.lengths f.state shown (length left)
Tells n held count chunk left rest Bad = printed_from n (take count held ++ (chunk ++ rest)) ≡ bad_text n

-- THEOREM: however reading splits a text, turns print what is printed of it: what is shown, and then what is printed of the rest
abbrev pub AnySplit : Type 0
AnySplit = (held : List ℕ) (count : ℕ) (chunk : List ℕ) → longest_line < length held → count ≤ length held → Unended (take count held)
    → (n : ℕ) (rest : List ℕ) → Tells n held count chunk (held_after held count chunk) rest (chunk_turn held count chunk)

-- THEOREM: "A line of just this form comes out byte for byte; any other [..] prints `(bad N)` in its place and ends"; older forms "are still read but
-- never written"
pub record LineByLine : Type 0 where
  pub good : (n : ℕ) (p l : List ℕ) → Unended p → is_new p ≡ true → printed_from n (p ++ (newline ∷ l)) ≡ p ++ (newline ∷ printed_from (suc n) l)
  pub renews : (n : ℕ) (p l : List ℕ) → Unended p → is_point p ≡ true → printed_from n (p ++ (newline ∷ l)) ≡ renewed p ++ (newline ∷ printed_from (suc n) l)
  pub bad : (n : ℕ) (p l : List ℕ) → Unended p → is_point p ≡ false → printed_from n (p ++ (newline ∷ l)) ≡ bad_text n
  pub unended : (n : ℕ) (p : List ℕ) → Unended p → 0 < length p → printed_from n p ≡ bad_text n
  pub ended : (n : ℕ) → printed_from n [] ≡ []
