-- A taken point and its line determine each other, so that a host can move a store by lines: each point written as a line, each line's point put into
-- the other store. What lies in a room behind its windows is no part of a point: it is left. "Older stores move over by their lines", which have an old image,
-- lengths of four digits, or both.
use Rattle.std.specs.Prelude.{ℕ, ◌*◌, ◌≤◌, ◌<◌, ◌≡◌, ◌≢◌, true, List, length, get_or}
use Rattle.model.specs.Memory.{window_max}
use Rattle.model.specs.Kept.{Point, point_count, image_length, full, PointFits, OfBytes}
use Rattle.point_lines.specs.Line.{length_digits, old_length_digits, state_digits, old_state_digits, is_new, is_old, is_short, is_short_old, is_point, renewed}
use Rattle.point_lines.specs.PointLine.{line_of, name_of, point_by}
use Rattle.point_lines.specs.PointLine as line
use Rattle.points.specs.Store.{room_length, store_length, filled, number_at, room_of, store_with_point, mask_in, Took}
use Rattle.points.specs.Store as room

-- ---- each from the other

-- the line of a room's point under a name, and a room with a line's point in it
unfoldable pub line_from : ℕ → List ℕ → List ℕ
line_from k r = line_of k (room.point_of r)

unfoldable pub filled_by : List ℕ → List ℕ → List ℕ
filled_by r l = filled r (line.point_of l)

-- the same of a store: the line of the point under a name, and the store with a line's point under the line's name
unfoldable pub line_in : List ℕ → ℕ → List ℕ
line_in s k = line_from k (room_of s k)

unfoldable pub store_with : List ℕ → List ℕ → List ℕ
store_with s l = store_with_point s (name_of l) (line.point_of l)

-- the room there that has a line's point
abbrev pub line_room : List ℕ → List ℕ → List ℕ
line_room s l = room_of (store_with s l) (name_of l)

-- it is the point that the line's digits tell, where its lengths have w each and its state has d
abbrev pub TakenIn : ℕ → ℕ → List ℕ → List ℕ → Type 0
TakenIn w d s l = room.point_of (line_room s l) ≡ full (point_by w d l)

-- ---- THEOREM

-- a room into which a point was put, whatever the room held before
pub record Keeps (r : List ℕ) (p : Point) : Type 0 where
  pub before : List ℕ
  pub long : length before ≡ room_length
  pub room_is : r ≡ filled before p
  pub fits : PointFits p
  pub of_bytes : OfBytes p

-- a room that its bytes show to keep a point: neither length is above the longest window's, and the octabyte is 1
pub record Shows (r : List ℕ) : Type 0 where
  pub long : length r ≡ room_length
  pub bytes : (i : ℕ) → get_or r i 0 < 256
  pub long_a : 8 * number_at r 2 ≤ window_max
  pub long_b : 8 * number_at r 3 ≤ window_max
  pub is_one : number_at r 4 ≡ 1

-- the room's line is a good one and has that name and the room's point, which is the one that was put there; and filling the room from its line leaves
-- every byte of it, those behind its windows too
pub record RoomTold (k : ℕ) (r : List ℕ) (p : Point) : Type 0 where
  pub is_kept : room.point_of r ≡ p
  pub line_good : is_point (line_from k r) ≡ true
  pub name_is : name_of (line_from k r) ≡ k
  pub point_is : line.point_of (line_from k r) ≡ room.point_of r
  pub room_left : filled_by r (line_from k r) ≡ r

-- any room that is filled from a line keeps the line's point, and its line is what is written of that line
pub record LineTold (l r : List ℕ) : Type 0 where
  pub keeps : Keeps (filled_by r l) (line.point_of l)
  pub point_is : room.point_of (filled_by r l) ≡ line.point_of l
  pub line_is : line_from (name_of l) (filled_by r l) ≡ renewed l

pub record Transfers : Type 0 where
  pub of_room : (k : ℕ) (r : List ℕ) (p : Point) → k < point_count → Keeps r p → RoomTold k r p
  pub of_line : (l r : List ℕ) → is_point l ≡ true → length r ≡ room_length → LineTold l r
  -- a point is kept where the bytes show it, whoever wrote them
  pub by_bytes : (r : List ℕ) → Shows r → Keeps r (room.point_of r)
  -- and a point of bytes that was taken is, one with an old image with the mask empty
  pub of_take : (s : List ℕ) (k : ℕ) (p : Point) (t : List ℕ) → Took s k p 0 t → OfBytes p → length p.image ≡ image_length → Keeps (room_of t k) p
  pub of_take_full : (s : List ℕ) (k : ℕ) (p : Point) (t : List ℕ) → Took s k p 0 t → OfBytes p → Keeps (room_of t k) (full p)
  -- a store is as it was after its own line
  pub store_left : (s : List ℕ) (k : ℕ) (p : Point) → store_length ≤ length s → k < point_count → Keeps (room_of s k) p → store_with s (line_in s k) ≡ s
  -- the line of a point that came by a line is that line, and of one that came by a line of an older form what is written of that
  pub line_left : (s l : List ℕ) → store_length ≤ length s → is_new l ≡ true → line_in (store_with s l) (name_of l) ≡ l
  pub line_renewed : (s l : List ℕ) → store_length ≤ length s → is_point l ≡ true → line_in (store_with s l) (name_of l) ≡ renewed l
  -- such a one is in the store as its own digits tell it, after an old image with the mask empty
  pub old_in : (s l : List ℕ) → store_length ≤ length s → is_old l ≡ true → TakenIn length_digits old_state_digits s l × (mask_in (line_room s l) ≡ 0)
  pub short_in : (s l : List ℕ) → store_length ≤ length s → is_short l ≡ true → TakenIn old_length_digits state_digits s l
  pub short_old_in : (s l : List ℕ) → store_length ≤ length s → is_short_old l ≡ true → TakenIn old_length_digits old_state_digits s l × (mask_in (line_room s l) ≡ 0)
  -- moved from the store s to the store u: there it is the same point, and other points and bytes behind the sixteenth are untouched
  pub moved : (s u : List ℕ) (k : ℕ) (p : Point) → store_length ≤ length u → k < point_count → Keeps (room_of s k) p → Keeps (room_of (store_with u (line_in s k)) k) p
  pub others : (s l : List ℕ) → store_length ≤ length s → is_point l ≡ true → (j : ℕ) → j < point_count → j ≢ name_of l → room_of (store_with s l) j ≡ room_of s j
  pub behind : (s l : List ℕ) → store_length ≤ length s → is_point l ≡ true → (i : ℕ) → store_length ≤ i → get_or (store_with s l) i 0 ≡ get_or s i 0
