-- Theorems. What each number leaves; and "While only these calls write the store, going back gives exactly what was taken last under that name, and other points are untouched."
use Rattle.std.specs.Prelude.{ℕ, ◌+◌, ◌≤◌, ◌<◌, ◌≡◌, true, false, ◌⊎◌, ◌≢◌, List, [], ◌∷◌, ◌++◌, length, get_or}
use Rattle.model.specs.Memory.{window_max}
use Rattle.model.specs.Kept.{point_count, image_length, Point, at_length}
use Rattle.image.specs.Image.{is_image, has_room, state_of}
use Rattle.points.specs.Store.{a_at, b_at, store_length, filled, room_of, Took, GoneBack}

-- ---- one call

-- what the numbers of points leave, of 1, 2 and 22 as of 26 to 28: every byte
pub record PointsLeave : Type 0 where
  pub take_among : (s : List ℕ) (k : ℕ) (p : Point) (n : ℕ) (t : List ℕ) → Took s k p n t
      → (n ≡ 0) ⊎ ((n ≡ 1) ⊎ ((n ≡ 2) ⊎ ((n ≡ 22) ⊎ ((n ≡ 26) ⊎ (n ≡ 27)))))
  pub take_refused : (s : List ℕ) (k : ℕ) (p : Point) (n : ℕ) (t : List ℕ) → Took s k p n t → n ≢ 0 → t ≡ s
  pub back_among : (s : List ℕ) (k : ℕ) (p : Point) (n : ℕ) (q : Point) → GoneBack s k p n q
      → (n ≡ 0) ⊎ ((n ≡ 1) ⊎ ((n ≡ 2) ⊎ ((n ≡ 22) ⊎ ((n ≡ 26) ⊎ ((n ≡ 27) ⊎ (n ≡ 28))))))
  pub back_refused : (s : List ℕ) (k : ℕ) (p : Point) (n : ℕ) (q : Point) → GoneBack s k p n q → n ≢ 0 → q ≡ p

-- ---- lists of calls

-- a call that was made: a point taken, with its name, what was lent, the number and the store afterwards; one gone back to, with what was lent
-- and what became of it; any other call, which is not lent the store
pub data Call : Type 0 where
  took : ℕ → Point → ℕ → List ℕ → Call
  back : ℕ → Point → ℕ → Point → Call
  other : Call

-- the store after it
unfoldable pub left_by : List ℕ → Call → List ℕ
left_by s (took k p n t) = t
left_by s (back k p n q) = s
left_by s other = s

unfoldable pub Meets : List ℕ → Call → Type 0
Meets s (took k p n t) = Took s k p n t
Meets s (back k p n q) = GoneBack s k p n q
Meets s other = Unit {0}

-- each call on the store that the one before left; between them anything may become of images and windows, which each call is lent anew
unfoldable pub Chain : List ℕ → List Call → Type 0
Chain s [] = Unit {0}
Chain s (c ∷ cs) = Meets s c × Chain (left_by s c) cs

unfoldable pub last_store : List ℕ → List Call → List ℕ
last_store s [] = s
last_store s (c ∷ cs) = last_store (left_by s c) cs

-- no call took a point under the name j: such a one was refused
unfoldable pub Spares : ℕ → Call → Type 0
Spares j (took k p n t) = k ≡ j → n ≢ 0
Spares j (back k p n q) = Unit {0}
Spares j other = Unit {0}

unfoldable pub NoneTaken : ℕ → List Call → Type 0
NoneTaken j [] = Unit {0}
NoneTaken j (c ∷ cs) = Spares j c × NoneTaken j cs

-- what was taken last under the name j
pub record TakenLast (j : ℕ) (q : Point) (cs : List Call) : Type 0 where
  pub before : List Call
  pub store : List ℕ
  pub after : List Call
  pub calls_are : cs ≡ before ++ (took j q 0 store ∷ after)
  pub none_later : NoneTaken j after

-- windows lent at the taken bases and lengths, and an image, old or not, whatever bytes they hold
pub record LentAs (q p : Point) : Type 0 where
  pub image_is : is_image p.image ≡ true
  pub base_a' : p.base_a ≡ q.base_a
  pub base_b' : p.base_b ≡ q.base_b
  pub long_a : length p.a ≡ length q.a
  pub long_b : length p.b ≡ length q.b

-- THEOREM
pub record Returns : Type 0 where
  -- going back gives exactly what was taken last, byte for byte, into an image as long as that which was taken
  pub gives_back : (s : List ℕ) (cs : List Call) → Chain s cs → (j : ℕ) (q : Point) → TakenLast j q cs
      → (p : Point) → LentAs q p → length p.image ≡ length q.image
      → (n : ℕ) (t : Point) → GoneBack (last_store s cs) j p n t → (n ≡ 0) × (t ≡ q)
  -- into an image of the other length, which it keeps, the same windows and the same state, where that has room there
  pub gives_at : (s : List ℕ) (cs : List Call) → Chain s cs → (j : ℕ) (q : Point) → TakenLast j q cs
      → (p : Point) → LentAs q p → has_room p.image (state_of q.image).mask ≡ true
      → (n : ℕ) (t : Point) → GoneBack (last_store s cs) j p n t
      → (n ≡ 0) × ((t ≡ at_length (length p.image) q) × (state_of t.image ≡ state_of q.image))
  -- and where it has none, 1: nothing of what is lent changes
  pub gives_not : (s : List ℕ) (cs : List Call) → Chain s cs → (j : ℕ) (q : Point) → TakenLast j q cs
      → (p : Point) → LentAs q p → has_room p.image (state_of q.image).mask ≡ false
      → (n : ℕ) (t : Point) → GoneBack (last_store s cs) j p n t → (n ≡ 1) × (t ≡ p)
  -- a point under whose name none is taken is untouched, every byte of its room
  pub untouched : (s : List ℕ) (cs : List Call) → Chain s cs → (j : ℕ) → j < point_count → NoneTaken j cs → room_of (last_store s cs) j ≡ room_of s j
  -- and so is what lies behind the sixteenth room
  pub behind : (s : List ℕ) (cs : List Call) → Chain s cs → (i : ℕ) → store_length ≤ i → get_or (last_store s cs) i 0 ≡ get_or s i 0
  pub long : (s : List ℕ) (cs : List Call) → Chain s cs → length (last_store s cs) ≡ length s
  -- "the rest untouched": in a room that is filled, what lies behind A in its place and behind B in its
  pub rest_a : (r : List ℕ) (p : Point) → length p.image ≡ image_length → (i : ℕ) → a_at + length p.a ≤ i → i < b_at → get_or (filled r p) i 0 ≡ get_or r i 0
  pub rest_b : (r : List ℕ) (p : Point) → length p.image ≡ image_length → (i : ℕ) → b_at + length p.b ≤ i → length p.a ≤ window_max → get_or (filled r p) i 0 ≡ get_or r i 0
