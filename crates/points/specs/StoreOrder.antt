-- Theorem. In which order taking and going back are judged, each number whatever the later ones would say: "New numbers, judged in this order after 22"; and what a
-- store's rooms are, computed.
use Rattle.std.specs.Prelude.{ℕ, ◌≤◌, ◌<◌, ◌≡◌, Bool, true, false, not, ◌&&◌, ◌||◌, List, [], ◌∷◌, ◌++◌, eqb, length, replicate}
use Rattle.model.specs.Octa.{part}
use Rattle.model.specs.Memory.{ruled, shares}
use Rattle.model.specs.Registers.{r_g, admissible, fresh, masked, with_special}
use Rattle.model.specs.Step.{unruled_by}
use Rattle.model.specs.Kept.{point_count, image_length, octas_in, Point, point_in}
use Rattle.machine.specs.Octabytes.{flat}
use Rattle.model.specs.declared.State.{State}
use Rattle.image.specs.Image.{image_of, is_image, has_room, state_of}
use Rattle.points.specs.Store.{numbers_at, a_at, b_at, room_length, numbers_of, number_at, is_taken, store_length, room_of, shapes_in, from_two, take_reply, suits, mask_in, room_reply, back_reply}

-- ---- order

-- the image is one, and its state is admissible
abbrev taken : Point → Bool
taken p = is_image p.image && admissible (state_of p.image)

-- the room k suits what is lent
abbrev fits : List ℕ → ℕ → Point → Bool
fits s k p = suits (room_of s k) p.base_a p.base_b (octas_in p.a) (octas_in p.b)

pub record PointsInOrder : Type 0 where
  -- taking: 1, 2, 22, 26, 27
  pub take_one : (s : List ℕ) (k : ℕ) (p : Point) → taken p ≡ false → take_reply s k p ≡ 1
  pub take_two : (s : List ℕ) (k : ℕ) (p : Point) → taken p ≡ true → ruled (shapes_in p) ≡ false → take_reply s k p ≡ 2
  pub take_shared : (s : List ℕ) (k : ℕ) (p : Point) → taken p ≡ true → ruled (shapes_in p) ≡ true → shares (shapes_in p) ≡ true → take_reply s k p ≡ 22
  pub take_short : (s : List ℕ) (k : ℕ) (p : Point) → taken p ≡ true → unruled_by (shapes_in p) ≡ 0 → length s < store_length → take_reply s k p ≡ 26
  pub take_name : (s : List ℕ) (k : ℕ) (p : Point) → taken p ≡ true → unruled_by (shapes_in p) ≡ 0 → store_length ≤ length s → point_count ≤ k → take_reply s k p ≡ 27
  pub take_done : (s : List ℕ) (k : ℕ) (p : Point) → taken p ≡ true → unruled_by (shapes_in p) ≡ 0 → store_length ≤ length s → k < point_count → take_reply s k p ≡ 0
  -- going back: 1 of the length alone, 2, 22, 26, 27 of the name, 27 of no point, 28, 1 of an old image
  pub back_one : (s : List ℕ) (k : ℕ) (p : Point) → is_image p.image ≡ false → back_reply s k p ≡ 1
  pub back_two : (s : List ℕ) (k : ℕ) (p : Point) → is_image p.image ≡ true → ruled (shapes_in p) ≡ false → back_reply s k p ≡ 2
  pub back_shared : (s : List ℕ) (k : ℕ) (p : Point) → is_image p.image ≡ true → ruled (shapes_in p) ≡ true → shares (shapes_in p) ≡ true → back_reply s k p ≡ 22
  pub back_short : (s : List ℕ) (k : ℕ) (p : Point) → is_image p.image ≡ true → unruled_by (shapes_in p) ≡ 0 → length s < store_length → back_reply s k p ≡ 26
  pub back_name : (s : List ℕ) (k : ℕ) (p : Point) → is_image p.image ≡ true → unruled_by (shapes_in p) ≡ 0 → store_length ≤ length s → point_count ≤ k → back_reply s k p ≡ 27
  pub back_none : (s : List ℕ) (k : ℕ) (p : Point) → is_image p.image ≡ true → unruled_by (shapes_in p) ≡ 0 → store_length ≤ length s → k < point_count
      → is_taken (room_of s k) ≡ false → back_reply s k p ≡ 27
  pub back_other : (s : List ℕ) (k : ℕ) (p : Point) → is_image p.image ≡ true → unruled_by (shapes_in p) ≡ 0 → store_length ≤ length s → k < point_count
      → is_taken (room_of s k) ≡ true → fits s k p ≡ false → back_reply s k p ≡ 28
  pub back_old : (s : List ℕ) (k : ℕ) (p : Point) → is_image p.image ≡ true → unruled_by (shapes_in p) ≡ 0 → store_length ≤ length s → k < point_count
      → is_taken (room_of s k) ≡ true → fits s k p ≡ true → has_room p.image (mask_in (room_of s k)) ≡ false → back_reply s k p ≡ 1
  pub back_done : (s : List ℕ) (k : ℕ) (p : Point) → is_image p.image ≡ true → unruled_by (shapes_in p) ≡ 0 → store_length ≤ length s → k < point_count
      → is_taken (room_of s k) ≡ true → fits s k p ≡ true → has_room p.image (mask_in (room_of s k)) ≡ true → back_reply s k p ≡ 0
  -- "28, .. or its state isn't admissible"
  pub back_inadmissible : (s : List ℕ) (k : ℕ) (p : Point) → is_image p.image ≡ true → unruled_by (shapes_in p) ≡ 0 → store_length ≤ length s → k < point_count
      → is_taken (room_of s k) ≡ true → admissible (state_of (part (room_of s k) 0 image_length)) ≡ false → back_reply s k p ≡ 28

-- ---- points

-- "four octabytes (both bases, both lengths in octabytes), one that is 0 until taken and then 1": of windows of 2 and 3 octabytes at 16 and 32
abbrev pub point : Point
point = point_in [] 16 32 (replicate 16 0) (replicate 24 0)

unfoldable pub places_met : Bool
places_met =
    eqb numbers_at 2336 && (eqb a_at 2376 && (eqb b_at 1050952 && (eqb room_length 2099528 && eqb store_length 33592448)))

-- the front of a room with these five
abbrev room : List ℕ → List ℕ
room ns = replicate 2336 0 ++ flat ns

-- any number but 0 counts as taken
unfoldable pub taken_met : Bool
taken_met = not (is_taken (room (16 ∷ 32 ∷ 2 ∷ 3 ∷ 0 ∷ []))) && (is_taken (room (16 ∷ 32 ∷ 2 ∷ 3 ∷ 1 ∷ [])) && is_taken (room (16 ∷ 32 ∷ 2 ∷ 3 ∷ 2 ∷ [])))

-- the same with a state in it
abbrev keeping : State → List ℕ → List ℕ
keeping s ns = image_of s ++ flat ns

-- the fresh state's point with these four suits windows of 2 and 3 octabytes at 16 and 32
abbrev suited : List ℕ → Bool
suited ns = suits (keeping fresh ns) 16 32 2 3

-- a base or a length one more or one less is another; rG 31 is not admissible
unfoldable pub suits_met : Bool
suits_met =
    suited (16 ∷ 32 ∷ 2 ∷ 3 ∷ []) && not (suited (15 ∷ 32 ∷ 2 ∷ 3 ∷ []) || (suited (17 ∷ 32 ∷ 2 ∷ 3 ∷ []) || (suited (16 ∷ 31 ∷ 2 ∷ 3 ∷ []) || (suited (16 ∷ 33 ∷ 2 ∷ 3 ∷ [])
    || (suited (16 ∷ 32 ∷ 1 ∷ 3 ∷ []) || (suited (16 ∷ 32 ∷ 3 ∷ 3 ∷ []) || (suited (16 ∷ 32 ∷ 2 ∷ 2 ∷ []) || (suited (16 ∷ 32 ∷ 2 ∷ 4 ∷ [])
    || suits (keeping (with_special fresh r_g 31) (16 ∷ 32 ∷ 2 ∷ 3 ∷ 1 ∷ [])) 16 32 2 3))))))))

-- the same windows lent with an image of n bytes
abbrev lent_with : ℕ → Point
lent_with n = point_in (replicate n 0) 16 32 (replicate 16 0) (replicate 24 0)

-- 27, 28 and 1, in this order; a hidden rC is a mask that is not empty
unfoldable pub room_replies : List ℕ
room_replies =
    room_reply (keeping fresh (16 ∷ 32 ∷ 2 ∷ 3 ∷ 1 ∷ [])) (lent_with 2336)
    ∷ room_reply (keeping fresh (16 ∷ 32 ∷ 2 ∷ 3 ∷ 1 ∷ [])) (lent_with 2328)
    ∷ room_reply (keeping (masked fresh 0x100) (16 ∷ 32 ∷ 2 ∷ 3 ∷ 1 ∷ [])) (lent_with 2336)
    ∷ room_reply (keeping (masked fresh 0x100) (16 ∷ 32 ∷ 2 ∷ 3 ∷ 1 ∷ [])) (lent_with 2328)
    ∷ room_reply (keeping (masked fresh 0x100) (16 ∷ 40 ∷ 2 ∷ 3 ∷ 1 ∷ [])) (lent_with 2328)
    ∷ room_reply (keeping (with_special fresh r_g 31) (16 ∷ 32 ∷ 2 ∷ 3 ∷ 1 ∷ [])) (lent_with 2336)
    ∷ room_reply (keeping (masked fresh 0x100) (16 ∷ 40 ∷ 2 ∷ 3 ∷ 0 ∷ [])) (lent_with 2328) ∷ []

-- windows that 2 and 22 refuse: A of 15 bytes, and A on B's first octabyte
unfoldable pub window_replies : List ℕ
window_replies =
    from_two [] 16 (shapes_in (point_in [] 16 32 (replicate 15 0) (replicate 24 0))) 5
    ∷ from_two [] 16 (shapes_in (point_in [] 24 32 (replicate 16 0) (replicate 24 0))) 5
    ∷ from_two [] 16 (shapes_in point) 5 ∷ []

abbrev pub StoreExamplesMet : Type 0
StoreExamplesMet = (numbers_of point ≡ 16 ∷ 32 ∷ 2 ∷ 3 ∷ 1 ∷ []) × (places_met ≡ true) × (taken_met ≡ true)
    × (number_at (room (16 ∷ 32 ∷ 2 ∷ 3 ∷ 1 ∷ [])) 0 ∷ number_at (room (16 ∷ 32 ∷ 2 ∷ 3 ∷ 1 ∷ [])) 1 ∷ number_at (room (16 ∷ 32 ∷ 2 ∷ 3 ∷ 1 ∷ [])) 2
    ∷ number_at (room (16 ∷ 32 ∷ 2 ∷ 3 ∷ 1 ∷ [])) 3 ∷ number_at (room (16 ∷ 32 ∷ 2 ∷ 3 ∷ 1 ∷ [])) 4 ∷ [] ≡ 16 ∷ 32 ∷ 2 ∷ 3 ∷ 1 ∷ [])
    × (suits_met ≡ true) × (room_replies ≡ 0 ∷ 0 ∷ 0 ∷ 1 ∷ 28 ∷ 28 ∷ 27 ∷ []) × (window_replies ≡ 2 ∷ 22 ∷ 26 ∷ [])

-- a store is too long to be computed: its rooms' places, and the answers at a byte less than sixteen rooms and at the names 15 and 16, whatever is in it
pub record StoreLimits : Type 0 where
  pub first_room : (s : List ℕ) → room_of s 0 ≡ part s 0 2099528
  pub second_room : (s : List ℕ) → room_of s 1 ≡ part s 2099528 2099528
  pub last_room : (s : List ℕ) → room_of s 15 ≡ part s 31492920 2099528
  pub short : (s : List ℕ) (k n : ℕ) → length s ≡ 33592447 → from_two s k (shapes_in point) n ≡ 26
  pub last_name : (s : List ℕ) (n : ℕ) → length s ≡ 33592448 → from_two s 15 (shapes_in point) n ≡ n
  pub no_name : (s : List ℕ) (n : ℕ) → length s ≡ 33592448 → from_two s 16 (shapes_in point) n ≡ 27
