-- Theorem. What a point keeps, by the papers' numbers: "Sixteen points"; "The image grows at its end to 2,336 bytes"; what `PointFits` and `OfBytes` let in, at
-- each limit and no further.
use Rattle.std.specs.Prelude.{◌≡◌, ℕ, ◌-◌, ◌%◌, ◌^◌, ◌<◌, ◌≤◌, length, replicate, slice_index}
use Rattle.model.specs.Kept.{point_count, image_length, old_image_length, Point, point_in, octas_in, PointFits, OfBytes}

-- bases and bytes as large as can be
abbrev pub widest : Point
widest = point_in (replicate 2336 255) (2 ^ 64 - 1) (2 ^ 64 - 1) (replicate 16 255) (replicate 24 255)

pub record KeptMeant : Type 0 where
  pub lengths : (point_count ≡ 16) × (image_length ≡ 2336) × (old_image_length ≡ 2328)
  pub octabytes : (octas_in (replicate 15 0) ≡ 1) × (octas_in (replicate 16 0) ≡ 2)
  pub widest_fits : PointFits widest
  pub widest_bytes : OfBytes widest
  pub fits_only : (p : Point) → PointFits p
      → (length p.image ≡ 2336) × (p.base_a < 2 ^ 64) × (p.base_b < 2 ^ 64) × (length p.a ≤ 1048576) × (length p.b ≤ 1048576)
      × (length p.a % 8 ≡ 0) × (length p.b % 8 ≡ 0)
  pub bytes_only : (p : Point) → OfBytes p → (i : ℕ) → (slice_index p.image i < 256) × (slice_index p.a i < 256) × (slice_index p.b i < 256)
