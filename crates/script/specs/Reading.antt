-- What the private functions of `line.rt` answer: how many numbers a pattern asks for, and the number at the front of a line.
use Rattle.std.specs.Prelude.{ℕ, suc, ◌≡◌, true, false, Option, None, Some, cond, List, [], ◌∷◌, eqb, length, drop}
use Rattle.std.specs.Borrow.{Bor}
use Rattle.text.specs.Digits.{number_of}
use Rattle.text.specs.Text.{hex_mark}
use Rattle.script.specs.Line.{digits_at, is_number}

-- how many numbers a pattern asks for
unfoldable pub marks : List ℕ → ℕ
marks [] = 0
marks (c ∷ p) = cond (eqb c hex_mark) (suc (marks p)) (marks p)

-- the number at the front of a line, and what follows its digits
abbrev pub IsNumberAt : List ℕ → Option (ℕ × Bor (List ℕ)) → Type 0
IsNumberAt l None = is_number (digits_at l) ≡ false
IsNumberAt l (Some r) = (is_number (digits_at l) ≡ true) × (r.0 ≡ number_of 0 (digits_at l)) × (r.1.now ≡ drop (length (digits_at l)) l)
