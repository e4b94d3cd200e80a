-- Laws of a point with its image at another length.
use Rattle.model.proofs.Logic.{ℕ, ◌+◌, ◌<◌, ◌≤◌, List, inl, inr, ◌⊎◌, ap, ◌∙◌, ◌≡◌, arith, get_or, length, get_or_eq_default}
use Rattle.model.specs.Octa.{part}
use Rattle.model.specs.Kept.{image_length, Point, point_in, at_length, full, OfBytes}
use Rattle.model.proofs.Fill.{lt_or_le}
use Rattle.model.proofs.Bytes.{get_d_part}
use Rattle.model.proofs.Slices.{length_part, part_all}

-- at its own it is as it was
pub at_own : (n : ℕ) (p : Point) → n ≡ length p.image → at_length n p ≡ p
at_own n p e = ap (λ (i : List ℕ). point_in i p.base_a p.base_b p.a p.b) (ap (part p.image 0) e ∙ part_all p.image)

part_bytes_law : (l : List ℕ) (n : ℕ) → ((i : ℕ) → get_or l i 0 < 256) → (i : ℕ) → get_or (part l 0 n) i 0 < 256
part_bytes_law l n b i = go (lt_or_le i n)
  where
    go : (i < n) ⊎ (n ≤ i) → get_or (part l 0 n) i 0 < 256
    go (inl h) = omega (arith, get_d_part l 0 n i h, b (0 + i))
    go (inr h) = omega (arith, get_or_eq_default (part l 0 n) 0 {n = i} (omega (arith, length_part l 0 n)))

pub full_bytes : (p : Point) → OfBytes p → OfBytes (full p)
full_bytes p o = record { image_bytes = part_bytes_law p.image image_length o.image_bytes; a_bytes = o.a_bytes; b_bytes = o.b_bytes }
