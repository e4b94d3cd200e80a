-- Runs of octabytes in a list of bytes, one after another, high byte first.
use Rattle.std.specs.Prelude.{ℕ, zero, suc, ◌+◌, ◌*◌, cond, List, [], ◌∷◌, ◌++◌, leb, length}
use Rattle.model.specs.Octa.{part, written, value_of, bytes_of}

-- the bytes of a list of numbers
unfoldable pub flat : List ℕ → List ℕ
flat [] = []
flat (v ∷ vs) = bytes_of v ++ flat vs

-- n octabytes of l from byte o on
unfoldable pub octas : List ℕ → ℕ → ℕ → List ℕ
octas l o zero = []
octas l o (suc n) = value_of 0 (part l o 8) ∷ octas l (o + 8) n

-- as many as vs are, where they are all in l
unfoldable pub loaded_octas : List ℕ → ℕ → List ℕ → List ℕ
loaded_octas l o vs = cond (leb (o + 8 * length vs) (length l)) (octas l o (length vs)) vs

-- l with these, where it has room for all
unfoldable pub stored_octas : List ℕ → ℕ → List ℕ → List ℕ
stored_octas l o vs = cond (leb (o + 8 * length vs) (length l)) (written l o (flat vs)) l
