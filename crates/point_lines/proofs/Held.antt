-- Laws of the line that is held: bytes that join it one by one, and what its front then is.
use Rattle.model.proofs.Prelude.{min, suc, zero, ℕ, ◌+◌, ◌-◌, ◌<◌, ◌≤◌, List, [], ◌++◌, ◌∷◌, ap, refl, sym, ◌∙◌, ◌≡◌, dec_le, suc-add, zero-add, arith}
use Rattle.model.proofs.Prelude.{length, take, take_all, le-leb, lt-leb, written}
use Rattle.model.proofs.Prelude.{written_nil}
use Rattle.point_lines.proofs.Prelude.{bad_text}
use Rattle.point_lines.specs.Stream.{bad_most, bad_in}
use Rattle.text.proofs.Writes.{take_written as take_front}
pub use Rattle.model.proofs.Slices.{written_next}

-- bytes put in as far as there is room
written_cut : (l : List ℕ) (o : ℕ) (t : List ℕ) (n : ℕ) → length l ≤ o + n → written l o (take n t) ≡ written l o t
unfolding written
written_cut l o [] zero h = refl
written_cut l o [] (suc n) h = refl
written_cut [] o (v ∷ t) zero h = written_nil [] o
written_cut [] o (v ∷ t) (suc n) h = refl
written_cut (x ∷ l) zero (v ∷ t) zero h = absurd (omega arith)
written_cut (x ∷ l) zero (v ∷ t) (suc n) h = ap (λ (r : List ℕ). v ∷ r) (written_cut l zero t n (omega arith))
written_cut (x ∷ l) (suc o) (v ∷ t) zero h = written_nil (x ∷ l) (suc o) ∙ ap (λ (r : List ℕ). x ∷ r) (sym (written_nil l o) ∙ written_cut l o (v ∷ t) zero (omega arith))
written_cut (x ∷ l) (suc o) (v ∷ t) (suc n) h = ap (λ (r : List ℕ). x ∷ r) (written_cut l o (v ∷ t) (suc n) (omega arith))

pub written_room : (l : List ℕ) (o : ℕ) (t : List ℕ) (n : ℕ) → n ≡ min (length t) (length l - o) → written l o (take n t) ≡ written l o t
written_room l o t n e = go (dec_le (length t) (length l - o))
  where
    go : Dec (length t ≤ length l - o) → written l o (take n t) ≡ written l o t
    go (yes h) = ap (written l o) (take_all n t (omega arith))
    go (no h) = written_cut l o t n (omega arith)

-- ---- the text that says that a line is bad

pub bad_here : (room n : ℕ) → bad_most ≤ room → bad_text n ≡ bad_in room n
unfolding bad_in
bad_here room n h = rw (le-leb bad_most room h)

pub bad_none : (room n : ℕ) → room < bad_most → [] ≡ bad_in room n
unfolding bad_in
bad_none room n h = rw (lt-leb bad_most room h)

-- ---- its front

-- where there is room for the text
pub take_written : (l : List ℕ) (o : ℕ) (t : List ℕ) → o + length t ≤ length l → take (o + length t) (written l o t) ≡ take o l ++ t
unfolding written
take_written l zero t h = rw (zero-add (length t)) (take_front l t (omega arith))
take_written [] (suc o) t h = absurd (omega arith)
take_written (x ∷ l) (suc o) t h = rw (suc-add o (length t)) (ap (λ (r : List ℕ). x ∷ r) (take_written l o t (omega arith)))
