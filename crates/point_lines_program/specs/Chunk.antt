-- What the program makes of a text that it reads in chunks. Nothing says which bytes a read puts into a buffer, nor which a write takes out, so this
-- is of what is still to be printed: each turn leaves the next text of it in `held`, at its start, and nothing but that is handed to a write.
use Rattle.std.specs.Prelude.{ℕ, ◌+◌, ◌-◌, ◌^◌, ◌≤◌, ◌<◌, ◌≡◌, ◌⊎◌, cond, List, [], ◌++◌, ltb, length, take, drop}
use Rattle.text.specs.Text.{bad_text}
use Rattle.point_lines.specs.Line.{longest_line}
use Rattle.point_lines.specs.Stream.{printed, printed_from, Unended}
use Rattle.point_lines_program.specs.declared.Place.{Place}
use Rattle.point_lines_program.specs.declared.After.{After}
use Rattle.point_lines_program.specs.declared.After.TheVariants.{On, Last}

-- "a 64 KiB input buffer"
abbrev pub input_length : ℕ
input_length = 65536

-- room for the longest line and its newline
abbrev pub held_length : ℕ
held_length = longest_line + 1

-- so many turns at most, each a read or a line
abbrev pub turns_most : ℕ
turns_most = 2 ^ 63

-- ---- where the program stands

-- what of the input buffer is not looked at yet
abbrev pub chunk_at : List ℕ → Place → List ℕ
chunk_at input p = take (p.end - p.at) (drop p.at input)

-- THE text that is still to be printed at a place, where `rest` is what is not read yet
unfoldable pub owed : List ℕ → List ℕ → Place → List ℕ → List ℕ
owed input held p rest = printed_from p.number (take p.count held ++ (chunk_at input p ++ rest))

-- nothing is read, and the first line is line 1
abbrev pub at_start : Place
at_start = record { at = 0; end = 0; count = 0; number = 1 }

-- THEOREM: at the start all is owed that is printed of the text, whatever the buffers hold
abbrev pub Starts : Type 0
Starts = (input held text : List ℕ) → owed input held at_start text ≡ printed text

-- a place within the buffers; what is held is the begin of a line
pub record Standing (input held : List ℕ) (p : Place) : Type 0 where
  pub roomy : longest_line < length held
  pub in_room : p.count ≤ length held
  pub unended : Unended (take p.count held)
  pub in_order : p.at ≤ p.end
  pub in_input : p.end ≤ length input

-- ---- what a turn leaves in `left`

-- the text is the next of what is owed, and the rest of that is owed at the next place, once `more` is read
pub record Next (input held : List ℕ) (p : Place) (more after left : List ℕ) (text : ℕ) (q : Place) : Type 0 where
  pub text_is : (rest : List ℕ) → owed input held p (more ++ rest) ≡ take text left ++ owed after left q rest
  pub within : text ≤ length left
  pub stands : Standing after left q
  pub number_is : q.number ≤ p.number + 1

-- nothing is left at a place, and the text is nothing; or the line there is bad, and the text says so
unfoldable pub Over : List ℕ → ℕ → Place → Type 0
Over left text p = ((p.at ≡ p.end) × (p.count ≡ 0) × (take text left ≡ [])) ⊎ (take text left ≡ bad_text p.number)

-- the text is all that is owed at p, where q is p, once the input has ended
pub record End (input held : List ℕ) (p : Place) (left : List ℕ) (text : ℕ) (q : Place) : Type 0 where
  pub text_is : owed input held p [] ≡ take text left
  pub within : text ≤ length left
  pub over : Over left text q
  pub place_is : q ≡ p

-- within the input buffer; the last text is all that is owed, whatever follows
unfoldable pub Shows : List ℕ → List ℕ → Place → List ℕ → After → Type 0
Shows input held p left (On text q) = Next input held p [] input left text q
Shows input held p left (Last text q) = ((rest : List ℕ) → owed input held p rest ≡ take text left) × End input held p left text q

-- where the input has ended, and what is held is the begin of a line
unfoldable pub Ends : List ℕ → Place → List ℕ → ℕ → Type 0
Ends held p left text = (input : List ℕ) → Standing input held p → End input held p left text p

-- a read has put k bytes into the input buffer, and all of them are the next chunk; the input has ended only where there are none
unfoldable pub Fed : ℕ → List ℕ → List ℕ → Place → List ℕ → After → Type 0
Fed k input held p left (On text q) = Next input held p (chunk_at input q) input left text q × (q.at ≡ 0) × (q.end ≡ k)
Fed k input held p left (Last text q) = End input held p left text q × (k ≡ 0)

-- a read into the input buffer, of which nothing was left
unfoldable pub Refills : List ℕ → List ℕ → Place → List ℕ → List ℕ → After → Type 0
Refills input held p after left (On text q) = Next input held p (chunk_at after q) after left text q
Refills input held p after left (Last text q) = End input held p left text q

-- ---- a turn, and all of them

-- what a turn from p to q has read
abbrev pub read_by : Place → List ℕ → Place → List ℕ
read_by p after q = cond (ltb p.at p.end) [] (chunk_at after q)

unfoldable pub Turns : List ℕ → List ℕ → Place → List ℕ → List ℕ → After → Type 0
Turns input held p after left (On text q) = Next input held p (read_by p after q) after left text q
Turns input held p after left (Last text q) = End input held p left text q

-- of the text that is read, what was handed over before and then the last text is all that is printed; and nothing of it is left, or its line is bad
pub record Finished (left : List ℕ) (text : ℕ) (q : Place) : Type 0 where
  pub read : List ℕ
  pub before : List ℕ
  pub text_is : printed read ≡ before ++ take text left
  pub within : text ≤ length left
  pub over : Over left text q

abbrev pub Finishes : List ℕ → ℕ × Place → Type 0
Finishes left r = Finished left r.0 r.1
