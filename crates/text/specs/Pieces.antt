-- A text cut at its newlines.
use Rattle.std.specs.Prelude.{ℕ, suc, cond, List, [], ◌∷◌, eqb}

abbrev pub at_first : ℕ → List (List ℕ) → List (List ℕ)
at_first b [] = (b ∷ []) ∷ []
at_first b (p ∷ ps) = (b ∷ p) ∷ ps

-- the lines, and at the end what follows the last newline
unfoldable pub pieces : List ℕ → List (List ℕ)
pieces [] = [] ∷ []
pieces (b ∷ l) = cond (eqb b 10) ([] ∷ pieces l) (at_first b (pieces l))

-- how many bytes stand before the first newline
unfoldable pub line_length : List ℕ → ℕ
line_length [] = 0
line_length (b ∷ l) = cond (eqb b 10) 0 (suc (line_length l))
