-- Theorem. Where each field of a state lies in its image, of either length, computed: the first and the last general register, the first and the last special one,
-- PC, halt code, marks, mask. Each is an octabyte with its high byte first.
use Rattle.std.specs.Prelude.{ℕ, ◌+◌, ◌*◌, ◌^◌, ◌≡◌, Bool, true, not, ◌&&◌, ◌||◌, List, [], ◌∷◌, ◌++◌, eqb, length, get_or, replicate}
use Rattle.model.specs.declared.State.{State}
use Rattle.image.specs.Image.{image_of, old_image_of, state_of, is_image, has_room}

-- an octabyte whose first byte and last byte are n
abbrev both : ℕ → ℕ
both n = n * 2 ^ 56 + n

abbrev marked : State
marked = record {
  general = both 1 ∷ (replicate 254 0 ++ (both 2 ∷ []));
  special = both 3 ∷ (replicate 30 0 ++ (both 4 ∷ []));
  pc = both 5;
  halt = both 6;
  marks = both 7;
  mask = both 8;
}

-- the octabyte at byte k of l has n for its first and its last byte
abbrev at : List ℕ → ℕ → ℕ → Bool
at l k n = eqb (get_or l k 0) n && eqb (get_or l (k + 7) 0) n

-- the fields that both have
abbrev fields : List ℕ → Bool
fields l = at l 0 1 && (at l 2040 2 && (at l 2048 3 && (at l 2296 4 && (at l 2304 5 && (at l 2312 6 && at l 2320 7)))))

unfoldable pub image_examples : Bool
image_examples =
    (eqb (length (image_of marked)) 2336 && (fields (image_of marked) && at (image_of marked) 2328 8))
    && (eqb (length (old_image_of marked)) 2328 && fields (old_image_of marked))

-- bytes 1 at 7, 2047, 2055, 2303, 2311, 2319, 2327 and 2335, else 0
abbrev bytes : List ℕ
bytes = replicate 7 0 ++ (1 ∷ (replicate 2039 0 ++ (2 ∷ (replicate 7 0 ++ (3 ∷ (replicate 247 0 ++ (4 ∷ (replicate 7 0 ++ (5 ∷ (replicate 7 0 ++ (6 ∷ (replicate 7 0
    ++ (7 ∷ (replicate 7 0 ++ (8 ∷ [])))))))))))))))

-- and read back
unfoldable pub state_examples : Bool
state_examples =
    (eqb (length bytes) 2336 && (eqb (get_or (state_of bytes).general 0 0) 1 && eqb (get_or (state_of bytes).general 255 0) 2))
    && ((eqb (get_or (state_of bytes).special 0 0) 3 && eqb (get_or (state_of bytes).special 31 0) 4)
    && ((eqb (state_of bytes).pc 5 && eqb (state_of bytes).halt 6) && (eqb (state_of bytes).marks 7 && eqb (state_of bytes).mask 8)))

-- the two lengths and no other
unfoldable pub length_examples : Bool
length_examples =
    is_image (replicate 2336 0) && (is_image (replicate 2328 0)
    && not (is_image (replicate 2335 0) || (is_image (replicate 2337 0) || (is_image (replicate 2327 0) || (is_image (replicate 2329 0) || is_image [])))))

-- which has room for a mask: an old image for none but the empty one
unfoldable pub room_examples : Bool
room_examples =
    has_room (replicate 2336 0) 0 && (has_room (replicate 2336 0) 1 && (has_room (replicate 2328 0) 0
    && not (has_room (replicate 2328 0) 1 || (has_room (replicate 2335 0) 0 || has_room (replicate 2329 0) 0))))

abbrev pub ImageExamplesMet : Type 0
ImageExamplesMet = (image_examples ≡ true) × (state_examples ≡ true) × (length_examples ≡ true) × (room_examples ≡ true)
