-- 02, 'Points to return to': "Sixteen points, named 0 to 15, each keep the state and both windows". What a point keeps, wherever it is kept:
-- in a room of a store or as a line of text.
use Rattle.std.specs.Prelude.{◌≡◌, ℕ, ◌*◌, ◌/◌, ◌^◌, ◌<◌, ◌≤◌, List, length, slice_index}
use Rattle.model.specs.Octa.{part}
use Rattle.model.specs.Memory.{window_max}

-- how many names there are
abbrev pub point_count : ℕ
point_count = 16

-- bytes of a state image; of a window at most `window_max`. Rooms and lines are as long as these two make them
abbrev pub image_length : ℕ
image_length = 2336

-- those of "an old image", which has no mask
abbrev pub old_image_length : ℕ
old_image_length = 2328

-- the state's image, both bases and the bytes of both windows
pub record Point : Type 0 where
  pub image : List ℕ
  pub base_a : ℕ
  pub base_b : ℕ
  pub a : List ℕ
  pub b : List ℕ

abbrev pub point_in : List ℕ → ℕ → ℕ → List ℕ → List ℕ → Point
point_in image base_a base_b a b = record { image = image; base_a = base_a; base_b = base_b; a = a; b = b }

-- a point with its image at another length: the mask left out, or "an empty mask" with it, since `part` is 0 where the image has no more
abbrev pub at_length : ℕ → Point → Point
at_length n p = point_in (part p.image 0 n) p.base_a p.base_b p.a p.b

-- a point as it is kept, "points keep the mask"
abbrev pub full : Point → Point
full p = at_length image_length p

-- a window's length "in octabytes"
abbrev pub octas_in : List ℕ → ℕ
octas_in l = length l / 8

-- what has room in a store and in a line: an image, bases of 64 bits, windows of whole octabytes and not above the largest
pub record PointFits (p : Point) : Type 0 where
  pub image_long : length p.image ≡ image_length
  pub base_a' : p.base_a < 2 ^ 64
  pub base_b' : p.base_b < 2 ^ 64
  pub long_a : length p.a ≤ window_max
  pub long_b : length p.b ≤ window_max
  pub whole_a : 8 * octas_in p.a ≡ length p.a
  pub whole_b : 8 * octas_in p.b ≡ length p.b

-- its elements are bytes
pub record OfBytes (p : Point) : Type 0 where
  pub image_bytes : (i : ℕ) → slice_index p.image i < 256
  pub a_bytes : (i : ℕ) → slice_index p.a i < 256
  pub b_bytes : (i : ℕ) → slice_index p.b i < 256
