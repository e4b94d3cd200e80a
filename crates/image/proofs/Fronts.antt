-- An image at another length is its front, with 0 where it has no more: the state of that.
use Rattle.model.proofs.Prelude.{suc, zero, ℕ, ◌*◌, ◌+◌, ◌≤◌, true, List, ⊎_elim, ap, refl, sym, ◌∙◌, ◌≡◌, arith, length, eqb-true, image_length, old_image_length}
use Rattle.model.proofs.Prelude.{part, value_of, masked, length_part, part_within}
use Rattle.image.proofs.Prelude.{octas}
use Rattle.image.specs.Image.{state_of, has_room}
use Rattle.image.proofs.Coded.{either, room_old, room_image}
use Rattle.image.proofs.Codec.{value_beyond}

module _ (l : List ℕ) (m : ℕ) where
  octa_front : (o : ℕ) → o + 8 ≤ m → value_of 0 (part (part l 0 m) o 8) ≡ value_of 0 (part l o 8)
  octa_front o h = ap (value_of 0) (part_within l m o 8 h)

  octas_front : (o n : ℕ) → o + 8 * n ≤ m → octas (part l 0 m) o n ≡ octas l o n
  unfolding octas
  octas_front o zero h = refl
  octas_front o (suc n) h = rw (octa_front o (omega arith), octas_front (o + 8) n (omega arith))

  -- all but the mask
  state_front : old_image_length ≤ m → state_of (part l 0 m) ≡ masked (state_of l) (value_of 0 (part (part l 0 m) 2328 8))
  unfolding state_of
  state_front h = λ i. record {
    general = octas_front 0 256 (omega arith) i;
    special = octas_front 2048 32 (omega arith) i;
    pc = octa_front 2304 (omega arith) i;
    halt = octa_front 2312 (omega arith) i;
    marks = octa_front 2320 (omega arith) i;
    mask = value_of 0 (part (part l 0 m) 2328 8);
  }

-- an octabyte more
mask_full : (l : List ℕ) → value_of 0 (part (part l 0 image_length) 2328 8) ≡ (state_of l).mask
unfolding state_of
mask_full l = octa_front l image_length 2328 (omega arith)

pub state_full : (l : List ℕ) → state_of (part l 0 image_length) ≡ state_of l
state_full l = state_front l image_length (omega arith) ∙ ap (masked (state_of l)) (mask_full l)

-- where there is room for its mask, the state is the same
pub state_at_law : (l k : List ℕ) → has_room k (state_of l).mask ≡ true → state_of (part l 0 (length k)) ≡ state_of l
state_at_law l k e =
    ⊎_elim
    (λ n. ap (λ (m : ℕ). state_of (part l 0 m)) n ∙ state_full l)
    (λ n. ap (λ (m : ℕ). state_of (part l 0 m)) n ∙ state_front l old_image_length (omega arith)
    ∙ ap (masked (state_of l)) (value_beyond (part l 0 old_image_length) 2328 (omega (arith, length_part l 0 old_image_length))
    ∙ sym (eqb-true (state_of l).mask 0 (sym (room_old k (state_of l).mask n) ∙ e))))
    (either k (room_image k (state_of l).mask e))
