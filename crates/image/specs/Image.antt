-- 01, 'Host': "a state image of 291 octabytes (general, special, PC, halt code, marks)", high byte first. 02: "The image grows at its end to 2,336 bytes; an
-- old image is read with an empty mask and keeps its length".
use Rattle.std.specs.Prelude.{ℕ, ◌<◌, ◌≡◌, Bool, true, cond, ◌&&◌, ◌||◌, List, [], ◌∷◌, ◌++◌, eqb, length, get_or}
use Rattle.model.specs.Octa.{part, value_of}
use Rattle.model.specs.Kept.{image_length, old_image_length}
use Rattle.model.specs.Registers.{Sized, Words}
use Rattle.model.specs.declared.State.{State}
use Rattle.machine.specs.Octabytes.{flat, octas}

-- the image of a state, and its old image, which is without the mask
unfoldable pub image_of : State → List ℕ
image_of s = flat (s.general ++ (s.special ++ (s.pc ∷ s.halt ∷ s.marks ∷ s.mask ∷ [])))

unfoldable pub old_image_of : State → List ℕ
old_image_of s = flat (s.general ++ (s.special ++ (s.pc ∷ s.halt ∷ s.marks ∷ [])))

-- the state of an image, old or not: `part` is 0 where an old one has no more
unfoldable pub state_of : List ℕ → State
state_of l = record {
  general = octas l 0 256;
  special = octas l 2048 32;
  pc = value_of 0 (part l 2304 8);
  halt = value_of 0 (part l 2312 8);
  marks = value_of 0 (part l 2320 8);
  mask = value_of 0 (part l 2328 8);
}

abbrev pub is_old : List ℕ → Bool
is_old l = eqb (length l) old_image_length

unfoldable pub is_image : List ℕ → Bool
is_image l = eqb (length l) image_length || is_old l

-- whether l has room for a state with the mask m: an old image only where that is empty
unfoldable pub has_room : List ℕ → ℕ → Bool
has_room l m = eqb (length l) image_length || (is_old l && eqb m 0)

-- what the image l is with s in it: it "keeps its length"
unfoldable pub image_as : List ℕ → State → List ℕ
image_as l s = cond (is_old l) (old_image_of s) (image_of s)

-- l with s in it, where it has room
unfoldable pub stored_in : List ℕ → State → List ℕ
stored_in l s = cond (has_room l s.mask) (image_as l s) l

-- the state of an image, and the image of a state
pub record Decoded (l : List ℕ) (s : State) (r : ℕ) (t : State) : Type 0 where
  pub reply_is : r ≡ cond (is_image l) 0 1
  pub state_is : t ≡ cond (is_image l) (state_of l) s

pub record Encoded (s : State) (l : List ℕ) (r : ℕ) (m : List ℕ) : Type 0 where
  pub reply_is : r ≡ cond (has_room l s.mask) 0 1
  pub image_is : m ≡ stored_in l s

-- both round trips, for each length
pub record RoundTrips : Type 0 where
  pub state_image : (s : State) → Sized s → Words s → state_of (image_of s) ≡ s
  pub state_old : (s : State) → Sized s → Words s → s.mask ≡ 0 → state_of (old_image_of s) ≡ s
  pub image_state : (l : List ℕ) → length l ≡ image_length → ((i : ℕ) → get_or l i 0 < 256) → image_of (state_of l) ≡ l
  pub old_state : (l : List ℕ) → length l ≡ old_image_length → ((i : ℕ) → get_or l i 0 < 256) → old_image_of (state_of l) ≡ l
  pub image_length' : (s : State) → Sized s → length (image_of s) ≡ image_length
  pub old_length : (s : State) → Sized s → length (old_image_of s) ≡ old_image_length
  pub state_sized : (l : List ℕ) → Sized (state_of l)
  pub state_words : (l : List ℕ) → ((i : ℕ) → get_or l i 0 < 256) → Words (state_of l)

-- an image of either length with a state in it
pub record KeepsLength : Type 0 where
  -- "an old image is read with an empty mask"
  pub old_mask : (l : List ℕ) → is_old l ≡ true → (state_of l).mask ≡ 0
  -- so it has room for each state with the mask that it has, and that is each that a step makes of its state
  pub room_again : (l : List ℕ) (m : ℕ) → is_image l ≡ true → m ≡ (state_of l).mask → has_room l m ≡ true
  pub stored_again : (l : List ℕ) (s : State) → is_image l ≡ true → s.mask ≡ (state_of l).mask → stored_in l s ≡ image_as l s
  -- "and keeps its length"
  pub as_length : (l : List ℕ) (s : State) → is_image l ≡ true → Sized s → length (image_as l s) ≡ length l
  pub state_as : (l : List ℕ) (s : State) → Sized s → Words s → has_room l s.mask ≡ true → state_of (image_as l s) ≡ s
  pub as_state : (l : List ℕ) → is_image l ≡ true → ((i : ℕ) → get_or l i 0 < 256) → image_as l (state_of l) ≡ l
