-- Both round trips of the state image, octabyte by octabyte; then those of an image at its own length.
use Rattle.model.proofs.Prelude.{suc, zero, ℕ, ◌%◌, ◌*◌, ◌+◌, ◌/◌, ◌<◌, ◌^◌, ◌≤◌, true, List, [], ◌++◌, ◌∷◌, ⊎_elim, ap, refl, sym, ◌∙◌, ◌≡◌}
use Rattle.model.proofs.Prelude.{div-div-eq-div-mul, div-one, arith, get_or, length, get_or_append, ext_get_or, get_or-append-add, eq-eqb, eqb-true, image_length}
use Rattle.model.proofs.Prelude.{old_image_length, bytes_of, part, value_of, masked, Sized, Words, value_below, value_bytes, part_all}
use Rattle.image.proofs.Prelude.{State, flat, octas, length_flat, length_octas, octas_append}
use Rattle.image.specs.Image.{image_of, old_image_of, state_of, is_old, is_image, has_room, image_as, stored_in, RoundTrips, KeepsLength}
use Rattle.image.proofs.Coded.{either, room_new, room_old, room_image, as_new, as_old, stored_is}
use Rattle.image.proofs.Codec.{value_beyond, numbers, length_numbers, length_image, length_old}

-- ---- the state of its image

-- octabyte k of a list of numbers
pub part_flat : (vs : List ℕ) (k : ℕ) → k < length vs → part (flat vs) (8 * k) 8 ≡ bytes_of (get_or vs k 0)
unfolding part flat bytes_of
part_flat [] k h = absurd (omega arith)
part_flat (v ∷ vs) zero h = refl
part_flat (v ∷ vs) (suc k) h =
    let e : 8 * suc k ≡ suc (suc (suc (suc (suc (suc (suc (suc (8 * k)))))))) = omega arith in
    rw e (part_flat vs k (omega arith))

value_flat : (vs : List ℕ) (k o : ℕ) → o ≡ 8 * k → k < length vs → get_or vs k 0 < 2 ^ 64 → value_of 0 (part (flat vs) o 8) ≡ get_or vs k 0
value_flat vs k o e h b = ap (λ (i : ℕ). value_of 0 (part (flat vs) i 8)) e ∙ ap (value_of 0) (part_flat vs k h) ∙ value_bytes (get_or vs k 0) b

pub get_d_octas : (l : List ℕ) (o n k : ℕ) → k < n → get_or (octas l o n) k 0 ≡ value_of 0 (part l (o + 8 * k) 8)
unfolding octas
get_d_octas l o zero k h = absurd (omega arith)
get_d_octas l o (suc n) zero h = ap (λ (i : ℕ). value_of 0 (part l i 8)) (omega arith)
get_d_octas l o (suc n) (suc k) h = get_d_octas l (o + 8) n k (omega arith) ∙ ap (λ (i : ℕ). value_of 0 (part l i 8)) (omega arith)

-- n numbers from number i on
octas_flat : (vs us : List ℕ) (i o n : ℕ) → o ≡ 8 * i → i + n ≤ length vs → length us ≡ n → ((k : ℕ) → k < n → get_or vs (i + k) 0 ≡ get_or us k 0)
    → ((k : ℕ) → get_or us k 0 < 2 ^ 64) → octas (flat vs) o n ≡ us
octas_flat vs us i o n eo h e same b =
    ext_get_or 0 (octas (flat vs) o n) us (length_octas (flat vs) o n ∙ sym e) (λ k m. at k (omega (arith, length_octas (flat vs) o n)))
  where
    at : (k : ℕ) → k < n → get_or (octas (flat vs) o n) k 0 ≡ get_or us k 0
    at k m =
        let q : get_or vs (i + k) 0 < 2 ^ 64 = rw (same k m) (b k) in
        get_d_octas (flat vs) o n k m ∙ value_flat vs (i + k) (o + 8 * k) (omega arith) (omega arith) q ∙ same k m

-- `m` is the mask, or nothing
module _ (s : State) (m : List ℕ) (z : Sized s) where
  abbrev rest : List ℕ
  rest = s.pc ∷ s.halt ∷ s.marks ∷ m

  at_general : (k : ℕ) → k < 256 → get_or (numbers s m) (0 + k) 0 ≡ get_or s.general k 0
  at_general k h =
      let e : 0 + k ≡ k = omega arith in
      rw e (get_or_append s.general _ 0 k (omega (arith, z.generals)))

  after_general : (k : ℕ) → get_or (numbers s m) (256 + k) 0 ≡ get_or (s.special ++ rest) k 0
  after_general k = ap (λ (n : ℕ). get_or (numbers s m) (n + k) 0) (sym z.generals) ∙ get_or-append-add s.general _ k 0

  at_special' : (k : ℕ) → k < 32 → get_or (numbers s m) (256 + k) 0 ≡ get_or s.special k 0
  at_special' k h = after_general k ∙ get_or_append s.special _ 0 k (omega (arith, z.specials))

  after_special : (k : ℕ) → get_or (numbers s m) (256 + (32 + k)) 0 ≡ get_or rest k 0
  after_special k =
      after_general (32 + k)
      ∙ ap (λ (n : ℕ). get_or (s.special ++ rest) (n + k) 0) (sym z.specials)
      ∙ get_or-append-add s.special _ k 0

  -- one of the last
  at_rest : (k : ℕ) → k < 3 + length m → get_or rest k 0 < 2 ^ 64 → value_of 0 (part (flat (numbers s m)) (8 * (288 + k)) 8) ≡ get_or rest k 0
  at_rest k h b =
      let q : get_or (numbers s m) (256 + (32 + k)) 0 < 2 ^ 64 = rw (after_special k) b in
      value_flat (numbers s m) (256 + (32 + k)) (8 * (288 + k)) (omega arith) (omega (arith, length_numbers s m z)) q ∙ after_special k

  halt_numbers : part (flat (numbers s m)) 2312 8 ≡ bytes_of s.halt
  halt_numbers = part_flat (numbers s m) 289 (omega (arith, length_numbers s m z)) ∙ ap bytes_of (after_special 1)

  -- all but the mask comes back
  state_numbers : Words s → state_of (flat (numbers s m)) ≡ masked s (value_of 0 (part (flat (numbers s m)) 2328 8))
  unfolding state_of
  state_numbers w =
      let n : length (numbers s m) ≡ 291 + length m = length_numbers s m z in
      let g : octas (flat (numbers s m)) 0 256 ≡ s.general = octas_flat (numbers s m) s.general 0 0 256 refl (omega arith) z.generals at_general w.general_word in
      let p : octas (flat (numbers s m)) 2048 32 ≡ s.special
      = octas_flat (numbers s m) s.special 256 2048 32 refl (omega arith) z.specials at_special' w.special_word in
      λ i. record {
        general = g i;
        special = p i;
        pc = at_rest 0 (omega arith) w.pc_word i;
        halt = at_rest 1 (omega arith) w.halt_word i;
        marks = at_rest 2 (omega arith) w.marks_word i;
        mask = value_of 0 (part (flat (numbers s m)) 2328 8);
      }

state_image : (s : State) → Sized s → Words s → state_of (image_of s) ≡ s
unfolding image_of
state_image s z w = state_numbers s (s.mask ∷ []) z w ∙ ap (masked s) (at_rest s (s.mask ∷ []) z 3 (omega arith) w.mask_word)

state_old : (s : State) → Sized s → Words s → s.mask ≡ 0 → state_of (old_image_of s) ≡ s
unfolding old_image_of
state_old s z w e =
    state_numbers s [] z w
    ∙ ap (masked s) (value_beyond (flat (numbers s [])) 2328 (omega (arith, length_flat (numbers s []), length_numbers s [] z)) ∙ sym e)

-- the halt code's bytes
module _ (s : State) (z : Sized s) where
  pub halt_bytes' : part (image_of s) 2312 8 ≡ bytes_of s.halt
  unfolding image_of
  halt_bytes' = halt_numbers s (s.mask ∷ []) z

  pub halt_old : part (old_image_of s) 2312 8 ≡ bytes_of s.halt
  unfolding old_image_of
  halt_old = halt_numbers s [] z

-- ---- the image of its state

digit : (v d x y : ℕ) → v / d ≡ x * 256 + y → y < 256 → (v / d % 256 ≡ y) × (v / (d * 256) ≡ x)
digit v d x y e h = (
  ap (λ (n : ℕ). n % 256) e ∙ low,
  sym (div-div-eq-div-mul v d 256) ∙ ap (λ (n : ℕ). n / 256) e ∙ high,
)
  where
    low : (x * 256 + y) % 256 ≡ y
    low = omega arith

    high : (x * 256 + y) / 256 ≡ x
    high = omega arith

bytes_eight : (v a b c d e f g h : ℕ) → a < 256 → b < 256 → c < 256 → d < 256 → e < 256 → f < 256 → g < 256 → h < 256
    → v ≡ value_of 0 (a ∷ b ∷ c ∷ d ∷ e ∷ f ∷ g ∷ h ∷ []) → bytes_of v ≡ a ∷ b ∷ c ∷ d ∷ e ∷ f ∷ g ∷ h ∷ []
unfolding value_of bytes_of
bytes_eight v a b c d e f g h ha hb hc hd he hf hg hh q =
    let t0 = digit v 1 _ h (div-one v ∙ q) hh in
    let t1 = digit v (2 ^ 8) _ g t0.1 hg in
    let t2 = digit v (2 ^ 16) _ f t1.1 hf in
    let t3 = digit v (2 ^ 24) _ e t2.1 he in
    let t4 = digit v (2 ^ 32) _ d t3.1 hd in
    let t5 = digit v (2 ^ 40) _ c t4.1 hc in
    let t6 = digit v (2 ^ 48) _ b t5.1 hb in
    let t7 = digit v (2 ^ 56) 0 a t6.1 ha in
    let z : v % 256 ≡ h = ap (λ (n : ℕ). n % 256) (sym (div-one v)) ∙ t0.0 in
    rw (t7.0, t6.0, t5.0, t4.0, t3.0, t2.0, t1.0, z)

module _ (l : List ℕ) (b : (i : ℕ) → get_or l i 0 < 256) where
  pub bytes_value : (o : ℕ) → bytes_of (value_of 0 (part l o 8)) ≡ part l o 8
  unfolding part
  bytes_value o = bytes_eight _ _ _ _ _ _ _ _ _ (b _) (b _) (b _) (b _) (b _) (b _) (b _) (b _) refl

  pub flat_octas : (o n : ℕ) → flat (octas l o n) ≡ part l o (8 * n)
  unfolding flat octas part
  flat_octas o zero = refl
  flat_octas o (suc n) =
      let e : 8 * suc n ≡ suc (suc (suc (suc (suc (suc (suc (suc (8 * n)))))))) = omega arith in
      rw (e, bytes_value o, flat_octas (o + 8) n) (ap (λ (k : ℕ). part l o 8 ++ part l k (8 * n)) (omega arith))

  octas_word : (o n k : ℕ) → get_or (octas l o n) k 0 < 2 ^ 64
  unfolding octas
  octas_word o zero k = omega arith
  octas_word o (suc n) zero = value_below l o 8 b
  octas_word o (suc n) (suc k) = octas_word (o + 8) n k

last_three : (l : List ℕ) → octas l 2304 3 ≡ value_of 0 (part l 2304 8) ∷ value_of 0 (part l 2312 8) ∷ value_of 0 (part l 2320 8) ∷ []
unfolding octas
last_three l = refl

last_four : (l : List ℕ) → octas l 2304 4
    ≡ value_of 0 (part l 2304 8) ∷ value_of 0 (part l 2312 8) ∷ value_of 0 (part l 2320 8) ∷ value_of 0 (part l 2328 8) ∷ []
unfolding octas
last_four l = refl

numbers_state : (l : List ℕ) → numbers (state_of l) ((state_of l).mask ∷ []) ≡ octas l 0 292
unfolding state_of
numbers_state l = rw (octas_append l 0 256 36, octas_append l 2048 32 4, last_four l)

numbers_old : (l : List ℕ) → numbers (state_of l) [] ≡ octas l 0 291
unfolding state_of
numbers_old l = rw (octas_append l 0 256 35, octas_append l 2048 32 3, last_three l)

image_state : (l : List ℕ) → length l ≡ image_length → ((i : ℕ) → get_or l i 0 < 256) → image_of (state_of l) ≡ l
unfolding image_of
image_state l e b = ap flat (numbers_state l) ∙ flat_octas l b 0 292 ∙ ap (part l 0) (sym e) ∙ part_all l

old_state : (l : List ℕ) → length l ≡ old_image_length → ((i : ℕ) → get_or l i 0 < 256) → old_image_of (state_of l) ≡ l
unfolding old_image_of
old_state l e b = ap flat (numbers_old l) ∙ flat_octas l b 0 291 ∙ ap (part l 0) (sym e) ∙ part_all l

state_sized : (l : List ℕ) → Sized (state_of l)
unfolding state_of
state_sized l = record { generals = length_octas l 0 256; specials = length_octas l 2048 32 }

state_words : (l : List ℕ) → ((i : ℕ) → get_or l i 0 < 256) → Words (state_of l)
unfolding state_of
state_words l b = record {
  general_word = octas_word l b 0 256;
  special_word = octas_word l b 2048 32;
  pc_word = value_below l 2304 8 b;
  halt_word = value_below l 2312 8 b;
  marks_word = value_below l 2320 8 b;
  mask_word = value_below l 2328 8 b;
}

pub round_trips : RoundTrips
round_trips = record {
  state_image = state_image;
  state_old = state_old;
  image_state = image_state;
  old_state = old_state;
  image_length' = length_image;
  old_length = length_old;
  state_sized = state_sized;
  state_words = state_words;
}

-- ---- an image at its own length

mask_beyond : (l : List ℕ) → length l ≡ old_image_length → (state_of l).mask ≡ 0
unfolding state_of
mask_beyond l n = value_beyond l 2328 (omega arith)

old_mask : (l : List ℕ) → is_old l ≡ true → (state_of l).mask ≡ 0
old_mask l e = mask_beyond l (eqb-true (length l) old_image_length e)

room_again : (l : List ℕ) (m : ℕ) → is_image l ≡ true → m ≡ (state_of l).mask → has_room l m ≡ true
room_again l m e h = ⊎_elim (λ n. room_new l m n) (λ n. room_old l m n ∙ eq-eqb m 0 (h ∙ mask_beyond l n)) (either l e)

stored_again : (l : List ℕ) (s : State) → is_image l ≡ true → s.mask ≡ (state_of l).mask → stored_in l s ≡ image_as l s
stored_again l s e h = stored_is l s (room_again l s.mask e h)

as_length : (l : List ℕ) (s : State) → is_image l ≡ true → Sized s → length (image_as l s) ≡ length l
as_length l s e z =
    ⊎_elim (λ n. ap length (as_new l s n) ∙ length_image s z ∙ sym n) (λ n. ap length (as_old l s n) ∙ length_old s z ∙ sym n) (either l e)

state_as : (l : List ℕ) (s : State) → Sized s → Words s → has_room l s.mask ≡ true → state_of (image_as l s) ≡ s
state_as l s z w e =
    ⊎_elim
    (λ n. ap state_of (as_new l s n) ∙ state_image s z w)
    (λ n. ap state_of (as_old l s n) ∙ state_old s z w (eqb-true s.mask 0 (sym (room_old l s.mask n) ∙ e)))
    (either l (room_image l s.mask e))

as_state : (l : List ℕ) → is_image l ≡ true → ((i : ℕ) → get_or l i 0 < 256) → image_as l (state_of l) ≡ l
as_state l e b =
    ⊎_elim (λ n. as_new l (state_of l) n ∙ image_state l n b) (λ n. as_old l (state_of l) n ∙ old_state l n b) (either l e)

pub keeps_length : KeepsLength
keeps_length = record {
  old_mask = old_mask;
  room_again = room_again;
  stored_again = stored_again;
  as_length = as_length;
  state_as = state_as;
  as_state = as_state;
}

-- a state in an image, whichever its length
pub halt_as : (l : List ℕ) (s : State) → is_image l ≡ true → Sized s → part (image_as l s) 2312 8 ≡ bytes_of s.halt
halt_as l s e z =
    let at : List ℕ → List ℕ = λ (k : List ℕ). part k 2312 8 in
    ⊎_elim (λ n. ap at (as_new l s n) ∙ halt_bytes' s z) (λ n. ap at (as_old l s n) ∙ halt_old s z) (either l e)
