-- Points to return to as a host meets them: lists of calls of all C functions, on any images, structs and windows. `Took` and `GoneBack` are
-- the contracts of mmix_take and mmix_go_back; no other function is lent the store.
-- Going back is no item of demand 3's list: "Going back rewinds history, so protection of a frame then starts from calls made after the return".
use Rattle.std.specs.Prelude.{ℕ, ◌≤◌, ◌<◌, ◌≡◌, true, false, List, [], ◌∷◌, length, get_or}
use Rattle.model.specs.Memory.{Windows}
use Rattle.model.specs.Kept.{point_count, Point, at_length}
use Rattle.image.specs.Image.{has_room, state_of}
use Rattle.points.specs.Store.{store_length, room_of, Took, GoneBack}
use Rattle.points.specs.Returns.{Call, took, back, other, left_by, last_store, NoneTaken, TakenLast, LentAs}
use Rattle.claims.specs.OneCall.{Held, Made, Meets}

-- mmix_take, with the name, what was lent, the reply and the store afterwards; mmix_go_back, with the name, what was lent, the reply and what
-- became of it; a function of Calls, on what it found (mmix_step, mmix_step_lent, mmix_step_parts, mmix_exceptions, mmix_exceptions_parts, mmix_run,
-- mmix_run_parts, mmix_decode, mmix_encode, mmix_context); another, which is not lent the store either, so that nothing of it is asked: mmix_initialize,
-- mmix_initialize_at, mmix_tasks, mmix_put_set, mmix_put_set_parts, mmix_branch_field, mmix_jump_field, mmix_version
pub data PointCall : Type 0 where
  taking : ℕ → Point → ℕ → List ℕ → PointCall
  going_back : ℕ → Point → ℕ → Point → PointCall
  calling : Held → Windows → Made → PointCall
  another : PointCall

-- as the store meets it
unfoldable pub on_store : PointCall → Call
on_store (taking k p r t) = took k p r t
on_store (going_back k p r q) = back k p r q
on_store (calling g w c) = other
on_store another = other

unfoldable pub on_stores : List PointCall → List Call
on_stores [] = []
on_stores (c ∷ cs) = on_store c ∷ on_stores cs

unfoldable pub MeetsPoint : List ℕ → PointCall → Type 0
MeetsPoint s (taking k p r t) = Took s k p r t
MeetsPoint s (going_back k p r q) = GoneBack s k p r q
MeetsPoint s (calling g w c) = Meets g w c
MeetsPoint s another = Unit {0}

-- only mmix_take writes the store
unfoldable pub PointChain : List ℕ → List PointCall → Type 0
PointChain s [] = Unit {0}
PointChain s (c ∷ cs) = MeetsPoint s c × PointChain (left_by s (on_store c)) cs

-- THEOREM: "While only these calls write the store, going back gives exactly what was taken last under that name, and other points are untouched"
pub record PointsReturn : Type 0 where
  -- byte for byte, into an image as long as that which was taken
  pub gives_back : (s : List ℕ) (cs : List PointCall) → PointChain s cs → (j : ℕ) (q : Point) → TakenLast j q (on_stores cs)
      → (p : Point) → LentAs q p → length p.image ≡ length q.image
      → (r : ℕ) (t : Point) → GoneBack (last_store s (on_stores cs)) j p r t → (r ≡ 0) × (t ≡ q)
  -- into an image of the other length: the same windows and state where that has room there, else 1 and nothing changes
  pub gives_at : (s : List ℕ) (cs : List PointCall) → PointChain s cs → (j : ℕ) (q : Point) → TakenLast j q (on_stores cs)
      → (p : Point) → LentAs q p → has_room p.image (state_of q.image).mask ≡ true
      → (r : ℕ) (t : Point) → GoneBack (last_store s (on_stores cs)) j p r t
      → (r ≡ 0) × ((t ≡ at_length (length p.image) q) × (state_of t.image ≡ state_of q.image))
  pub gives_not : (s : List ℕ) (cs : List PointCall) → PointChain s cs → (j : ℕ) (q : Point) → TakenLast j q (on_stores cs)
      → (p : Point) → LentAs q p → has_room p.image (state_of q.image).mask ≡ false
      → (r : ℕ) (t : Point) → GoneBack (last_store s (on_stores cs)) j p r t → (r ≡ 1) × (t ≡ p)
  pub untouched : (s : List ℕ) (cs : List PointCall) → PointChain s cs → (j : ℕ) → j < point_count → NoneTaken j (on_stores cs)
      → room_of (last_store s (on_stores cs)) j ≡ room_of s j
  pub behind : (s : List ℕ) (cs : List PointCall) → PointChain s cs → (i : ℕ) → store_length ≤ i → get_or (last_store s (on_stores cs)) i 0 ≡ get_or s i 0
  pub long : (s : List ℕ) (cs : List PointCall) → PointChain s cs → length (last_store s (on_stores cs)) ≡ length s
