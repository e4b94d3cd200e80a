-- Sixteen points in one list of bytes. 02, 'Points to return to': "a point's room is an image, four octabytes (both bases, both lengths in octabytes), one
-- that is 0 until taken and then 1, and two windows of the largest size, filled from the front, the rest untouched".
use Rattle.std.specs.Prelude.{ℕ, ◌+◌, ◌*◌, ◌≡◌, Bool, cond, ◌&&◌, not, List, [], ◌∷◌, ltb, eqb, length}
use Rattle.model.specs.Octa.{part, written, value_of}
use Rattle.model.specs.Memory.{window_max, Windows, Shapes, shapes_of}
use Rattle.model.specs.Registers.{admissible}
use Rattle.model.specs.Step.{unruled_by}
use Rattle.model.specs.Kept.{point_count, image_length, octas_in, Point, at_length, full}
use Rattle.machine.specs.Octabytes.{flat}
use Rattle.image.specs.Image.{is_image, has_room, state_of}

-- ---- a room

-- the image; five octabytes; A's place; B's place
abbrev pub numbers_at : ℕ
numbers_at = image_length

abbrev pub a_at : ℕ
a_at = numbers_at + 40

abbrev pub b_at : ℕ
b_at = a_at + window_max

abbrev pub room_length : ℕ
room_length = b_at + window_max

-- the five of a point that is taken
unfoldable pub numbers_of : Point → List ℕ
numbers_of p = p.base_a ∷ p.base_b ∷ octas_in p.a ∷ octas_in p.b ∷ 1 ∷ []

-- a room with a point in it, whose image has the mask: what lies behind either window in its place is as it was
unfoldable pub filled : List ℕ → Point → List ℕ
filled r p = written (written (written (written r 0 p.image) numbers_at (flat (numbers_of p))) a_at p.a) b_at p.b

-- octabyte k of the five
unfoldable pub number_at : List ℕ → ℕ → ℕ
number_at r k = value_of 0 (part r (numbers_at + 8 * k) 8)

-- "0 until taken": any other counts as taken
unfoldable pub is_taken : List ℕ → Bool
is_taken r = not (eqb (number_at r 4) 0)

-- the point in a room
unfoldable pub point_of : List ℕ → Point
point_of r = record {
  image = part r 0 image_length;
  base_a = number_at r 0;
  base_b = number_at r 1;
  a = part r a_at (8 * number_at r 2);
  b = part r b_at (8 * number_at r 3);
}

-- ---- the store: sixteen rooms "in order of name", and bytes behind them that no call touches

abbrev pub store_length : ℕ
store_length = point_count * room_length

unfoldable pub room_of : List ℕ → ℕ → List ℕ
room_of s k = part s (k * room_length) room_length

-- the store after point p was taken under the name k: "points keep the mask, their room growing with it", and that of an old image is empty
unfoldable pub store_with_point : List ℕ → ℕ → Point → List ℕ
store_with_point s k p = written s (k * room_length) (filled (room_of s k) (full p))

-- ---- judging: "New numbers, judged in this order after 22"

abbrev pub windows_of : Point → Windows
windows_of p = record { a = record { base = p.base_a; bytes = p.a }; b = record { base = p.base_b; bytes = p.b } }

abbrev pub shapes_in : Point → Shapes
shapes_in p = shapes_of (windows_of p)

-- 2 and 22; "26, store shorter than sixteen such points; 27, a name above 15"; then n
unfoldable pub from_two : List ℕ → ℕ → Shapes → ℕ → ℕ
from_two s k w n = cond (eqb (unruled_by w) 0) (cond (ltb (length s) store_length) 26 (cond (ltb k point_count) n 27)) (unruled_by w)

-- taking is given a state: 1, of an image of another length too, comes first
unfoldable pub take_reply : List ℕ → ℕ → Point → ℕ
take_reply s k p = cond (is_image p.image && admissible (state_of p.image)) (from_two s k (shapes_in p) 0) 1

-- bases x and y and lengths m and n, in octabytes, are the point's, and its state is admissible
unfoldable pub suits : List ℕ → ℕ → ℕ → ℕ → ℕ → Bool
suits r x y m n =
    eqb (number_at r 0) x && (eqb (number_at r 1) y && (eqb (number_at r 2) m && (eqb (number_at r 3) n && admissible (state_of (part r 0 image_length)))))

-- the mask of a room's point
unfoldable pub mask_in : List ℕ → ℕ
mask_in r = (state_of (part r 0 image_length)).mask

-- "27, .. on going back one whose octabyte is 0; 28, on going back the point's window lengths or bases are other than those lent, or its
-- state isn't admissible"; then 1 where an old image is lent, which "keeps its length", and the point's mask is not empty
unfoldable pub room_reply : List ℕ → Point → ℕ
room_reply r p =
    cond (is_taken r) (cond (suits r p.base_a p.base_b (octas_in p.a) (octas_in p.b)) (cond (has_room p.image (mask_in r)) 0 1) 28) 27

-- "going back is given no state to judge by 1": only the image's length is
unfoldable pub back_reply : List ℕ → ℕ → Point → ℕ
back_reply s k p = cond (is_image p.image) (from_two s k (shapes_in p) (room_reply (room_of s k) p)) 1

-- ---- the calls; refused, they leave every byte

-- p, which is lent, is taken into the store s under the name k: the number n, and t the store afterwards
pub record Took (s : List ℕ) (k : ℕ) (p : Point) (n : ℕ) (t : List ℕ) : Type 0 where
  pub reply_is : n ≡ take_reply s k p
  pub store_is : t ≡ cond (eqb (take_reply s k p) 0) (store_with_point s k p) s

-- p, which is lent, goes back to the point k of the store s, which stays: q is what it becomes
pub record GoneBack (s : List ℕ) (k : ℕ) (p : Point) (n : ℕ) (q : Point) : Type 0 where
  pub reply_is : n ≡ back_reply s k p
  pub point_is : q ≡ cond (eqb (back_reply s k p) 0) (at_length (length p.image) (point_of (room_of s k))) p
