-- Hexadecimal digits, lower case, and the number that they are.
use Rattle.std.specs.Prelude.{ℕ, ◌+◌, ◌-◌, ◌*◌, cond, List, [], ◌∷◌, map}
use Rattle.model.specs.Fill.{within}

-- a byte as a digit, 16 where it is none
unfoldable pub digit_of : ℕ → ℕ
digit_of b = cond (within 48 58 b) (b - 48) (cond (within 97 103 b) (b - 87) 16)

-- the number that digits are, after `high`
unfoldable pub number_of : ℕ → List ℕ → ℕ
number_of high [] = high
number_of high (d ∷ ds) = number_of (high * 16 + d) ds

-- the number that bytes are, each a digit
abbrev pub value_of : List ℕ → ℕ
value_of bs = number_of 0 (map digit_of bs)
