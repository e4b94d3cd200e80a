-- Sixteen rooms: one is written, and the others and what lies behind them are as they were.
use Rattle.model.proofs.Prelude.{ℕ, ◌*◌, ◌+◌, ◌<◌, ◌≤◌, List, inl, inr, ◌⊎◌, ap, sym, ◌∙◌, ◌≡◌, arith, get_or, length, full, Point, point_count, part, written}
use Rattle.model.proofs.Prelude.{lt_or_le, length_written, part_written, written_above, length_part, part_apart}
use Rattle.points.specs.Store.{room_length, store_length, filled, room_of, store_with_point}
use Rattle.points.proofs.Rooms.{length_filled}

pub length_room : (s : List ℕ) (k : ℕ) → length (room_of s k) ≡ room_length
unfolding room_of
length_room s k = length_part s (k * room_length) room_length

long_filled : (s : List ℕ) (k : ℕ) (p : Point) → length (filled (room_of s k) (full p)) ≡ room_length
long_filled s k p = length_filled (room_of s k) (full p) ∙ length_room s k

pub length_taken : (s : List ℕ) (k : ℕ) (p : Point) → length (store_with_point s k p) ≡ length s
unfolding store_with_point
length_taken s k p = length_written s (k * room_length) (filled (room_of s k) (full p))

module _ (s : List ℕ) (k : ℕ) (p : Point) (h : store_length ≤ length s) (m : k < point_count) where
  pub room_same : room_of (store_with_point s k p) k ≡ filled (room_of s k) (full p)
  unfolding room_of store_with_point
  room_same =
      ap (part (written s (k * room_length) (filled (room_of s k) (full p))) (k * room_length)) (sym (long_filled s k p))
      ∙ part_written s (k * room_length) (filled (room_of s k) (full p)) (omega (arith, long_filled s k p))

  pub room_other : (j : ℕ) → j < point_count → (j ≡ k → ⊥) → room_of (store_with_point s k p) j ≡ room_of s j
  unfolding room_of store_with_point
  room_other j b d = part_apart s (k * room_length) (filled (room_of s k) (full p)) (j * room_length) room_length (side (lt_or_le j k))
    where
      side : (j < k) ⊎ (k ≤ j) → (j * room_length + room_length ≤ k * room_length) ⊎ (k * room_length + length (filled (room_of s k) (full p)) ≤ j * room_length)
      side (inl q) = inl (omega arith)
      side (inr q) = inr (omega (arith, long_filled s k p, d))

  pub beyond : (i : ℕ) → store_length ≤ i → get_or (store_with_point s k p) i 0 ≡ get_or s i 0
  unfolding store_with_point
  beyond i b = written_above s (k * room_length) (filled (room_of s k) (full p)) i (omega (arith, long_filled s k p))
