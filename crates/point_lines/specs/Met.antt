-- What the private functions of `line.rt` answer: what follows a part of a form at the front of a line.
use Rattle.std.specs.Prelude.{ℕ, ◌≡◌, false, Option, None, Some, List, [], ◌++◌, drop, length}
use Rattle.std.specs.Borrow.{Bor}
use Rattle.point_lines.specs.Line.{fits, marks, hex_at, is_form}

-- the rest of the line after a part f of a form, where the line has f at its front
abbrev pub IsPast : List ℕ → List ℕ → Option (Bor (List ℕ)) → Type 0
IsPast f l None = (p : List ℕ) → fits (f ++ p) l ≡ false
IsPast f l (Some r) = ((p : List ℕ) → fits (f ++ p) l ≡ fits p r.now) × (r.now ≡ drop (length f) l)

-- the same of n digits, and the number that they are
abbrev pub IsNumberPast : ℕ → List ℕ → Option (ℕ × Bor (List ℕ)) → Type 0
IsNumberPast n l None = (p : List ℕ) → fits (marks n ++ p) l ≡ false
IsNumberPast n l (Some r) = ((p : List ℕ) → fits (marks n ++ p) l ≡ fits p r.1.now) × (r.0 ≡ hex_at l 0 n) × (r.1.now ≡ drop n l)

-- the rest of the line after a whole form
abbrev pub IsFormEnd : ℕ → ℕ → ℕ → List ℕ → Option (Bor (List ℕ)) → Type 0
IsFormEnd w d k l None = is_form w d k l ≡ false
IsFormEnd w d k l (Some r) = is_form w d k l ≡ fits [] r.now
