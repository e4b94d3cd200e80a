-- Text as bytes. A line is a pattern filled in: '#' stands for a number in hexadecimal, '%' for one in decimal, any other byte for itself.
use Rattle.std.specs.Prelude.{ℕ, zero, suc, ◌+◌, ◌/◌, ◌%◌, cond, List, [], ◌∷◌, ◌++◌, ltb, eqb, get_or, drop}
use Rattle.text.specs.Codes.{codes}

-- the digit d below 16: '0' to '9', then 'a' to 'f'
unfoldable pub glyph : ℕ → ℕ
glyph d = cond (ltb d 10) (48 + d) (87 + d)

-- n in base b by at most k + 1 digits, the most significant first; no zero leads but 0 itself
unfoldable pub numeral : ℕ → ℕ → ℕ → List ℕ
numeral b zero n = glyph (n % b) ∷ []
numeral b (suc k) n = cond (ltb n b) (glyph n ∷ []) (numeral b k (n / b) ++ (glyph (n % b) ∷ []))

-- of numbers below 2^64: 16 digits of base 16, 20 of base 10
abbrev pub hexadecimal : ℕ → List ℕ
hexadecimal n = numeral 16 15 n

abbrev pub decimal : ℕ → List ℕ
decimal n = numeral 10 19 n

-- the marks
abbrev pub hex_mark : ℕ
hex_mark = 0x23

abbrev pub decimal_mark : ℕ
decimal_mark = 0x25

-- a pattern with each mark replaced by the next number
unfoldable pub filled : List ℕ → List ℕ → List ℕ
filled [] vs = []
filled (c ∷ p) vs =
    cond (eqb c hex_mark) (hexadecimal (get_or vs 0 0) ++ filled p (drop 1 vs))
    (cond (eqb c decimal_mark) (decimal (get_or vs 0 0) ++ filled p (drop 1 vs)) (c ∷ filled p vs))

-- ---- "prints `(bad N)`"

unfoldable pub bad_line : List ℕ
bad_line = codes "(bad %)\n"

unfoldable pub bad_text : ℕ → List ℕ
bad_text n = filled bad_line (n ∷ [])
