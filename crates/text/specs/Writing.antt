-- What the contracts of the writing functions cite: a text put into a buffer.
use Rattle.std.specs.Prelude.{ℕ, ◌+◌, ◌^◌, ◌≡◌, cond, ◌&&◌, List, [], leb, ltb, length}
use Rattle.model.specs.Octa.{written}
use Rattle.text.specs.Text.{filled}

-- the buffer b has become c with the text t from `at` on, as far as it goes, and `end` is where the text ends
pub record Wrote (b : List ℕ) (at : ℕ) (t c : List ℕ) (end : ℕ) : Type 0 where
  pub bytes_are : c ≡ written b at t
  pub end_is : end ≡ at + length t

-- ---- a pattern filled in at a place, whatever place and pattern a caller gives

-- longer patterns are not filled in
abbrev pub pattern_most : ℕ
pattern_most = 65536

-- THE text that is put at a place: nothing from 2^63 on, where its end could be past the numbers of 64 bits, nor of a pattern too long
unfoldable pub put_at : ℕ → List ℕ → List ℕ → List ℕ
put_at at p vs = cond (ltb at (2 ^ 63) && leb (length p) pattern_most) (filled p vs) []
