-- All tasks lent, in order of number: what `together` said before some could be left out.
use Rattle.std.specs.Prelude.{ℕ, zero, suc, ◌≡◌, List, [], ◌∷◌, length}
use Rattle.model.specs.Memory.{Windows}
use Rattle.claims.specs.OneCall.{Held}
use Rattle.claims.specs.TaskCalls.{TaskMade, TogetherMet, LentMet}

-- n numbers from k on
unfoldable pub numbers_from : ℕ → ℕ → List ℕ
numbers_from k zero = []
numbers_from k (suc n) = k ∷ numbers_from (suc k) n

abbrev pub AllLent : Type 0
AllLent = (hs : List Held) (w : Windows) (e : ℕ) (ns : List ℕ) (q grant : ℕ) (c : TaskMade) → length c.held ≡ length hs
    → TogetherMet hs w e ns q grant c → LentMet hs w (numbers_from 0 (length hs)) e ns q grant c
