-- Which lengths an image has; what is answered of an image, and of bytes of another length.
use Rattle.model.proofs.Prelude.{ℕ, ◌≤◌, Bool, cond, false, true, ◌&&◌, ◌||◌, List, inl, inr, ◌⊎◌, ⊎_elim, ap, refl, sym, ◌∙◌, ◌≡◌, arith, eqb, length, eq-eqb}
use Rattle.model.proofs.Prelude.{eqb-true, ne_eqb, image_length, old_image_length}
use Rattle.image.proofs.Prelude.{State}
use Rattle.image.specs.Image.{image_of, old_image_of, state_of, is_old, is_image, has_room, image_as, stored_in, Decoded, Encoded}

-- ---- the lengths

module _ (l : List ℕ) where
  pub is_new' : length l ≡ image_length → is_image l ≡ true
  unfolding is_image
  is_new' n = rw (eq-eqb (length l) image_length n)

  pub is_old' : length l ≡ old_image_length → is_image l ≡ true
  unfolding is_image
  is_old' n = rw (ne_eqb (length l) image_length (λ e. omega arith), eq-eqb (length l) old_image_length n)

  pub either : is_image l ≡ true → (length l ≡ image_length) ⊎ (length l ≡ old_image_length)
  unfolding is_image
  either e = go (eqb (length l) image_length) refl e
    where
      go : (t : Bool) → eqb (length l) image_length ≡ t → t || is_old l ≡ true → (length l ≡ image_length) ⊎ (length l ≡ old_image_length)
      go true q d = inl (eqb-true (length l) image_length q)
      go false q d = inr (eqb-true (length l) old_image_length d)

  pub at_least : is_image l ≡ true → old_image_length ≤ length l
  at_least e = ⊎_elim (λ n. omega arith) (λ n. omega arith) (either e)

  pub at_most : is_image l ≡ true → length l ≤ image_length
  at_most e = ⊎_elim (λ n. omega arith) (λ n. omega arith) (either e)

  -- ---- room for a mask

  pub room_new : (m : ℕ) → length l ≡ image_length → has_room l m ≡ true
  unfolding has_room
  room_new m n = rw (eq-eqb (length l) image_length n)

  pub room_old : (m : ℕ) → length l ≡ old_image_length → has_room l m ≡ eqb m 0
  unfolding has_room
  room_old m n = rw (ne_eqb (length l) image_length (λ e. omega arith), eq-eqb (length l) old_image_length n)

  -- what has room is an image
  pub room_image : (m : ℕ) → has_room l m ≡ true → is_image l ≡ true
  unfolding has_room is_image
  room_image m e = go (eqb (length l) image_length) (is_old l) e
    where
      go : (t u : Bool) → t || (u && eqb m 0) ≡ true → t || u ≡ true
      go true u d = refl
      go false true d = refl
      go false false d = d

  pub as_new : (s : State) → length l ≡ image_length → image_as l s ≡ image_of s
  unfolding image_as
  as_new s n = rw (ne_eqb (length l) old_image_length (λ e. omega arith))

  pub as_old : (s : State) → length l ≡ old_image_length → image_as l s ≡ old_image_of s
  unfolding image_as
  as_old s n = rw (eq-eqb (length l) old_image_length n)

-- ---- what is chosen

pub chosen : {A : Type 0} (t : Bool) (a b : A) → t ≡ true → a ≡ cond t a b
chosen t a b e = ap (λ (u : Bool). cond u a b) (sym e)

pub left_over : {A : Type 0} (t : Bool) (a b : A) → t ≡ false → b ≡ cond t a b
left_over t a b e = ap (λ (u : Bool). cond u a b) (sym e)

module _ (l : List ℕ) (e : is_image l ≡ false) where
  pub if_other : {A : Type 0} (a b : A) → b ≡ cond (is_image l) a b
  if_other a b = left_over (is_image l) a b e

  pub decoded_else : (s : State) → Decoded l s 1 s
  decoded_else s = record { reply_is = if_other _ _; state_is = if_other _ _ }

module _ (l : List ℕ) (e : is_image l ≡ true) where
  pub if_image : {A : Type 0} (a b : A) → a ≡ cond (is_image l) a b
  if_image a b = chosen (is_image l) a b e

  -- what is chosen of an image
  pub of_image : {A : Type 0} (x a b : A) → x ≡ cond (is_image l) a b → x ≡ a
  of_image x a b d = d ∙ sym (if_image a b)

  pub decoded : (s t : State) → t ≡ state_of l → Decoded l s 0 t
  decoded s t d = record { reply_is = if_image _ _; state_is = d ∙ if_image _ _ }

-- images of one length are alike to a state
pub as_same : (l m : List ℕ) (s : State) → length m ≡ length l → image_as l s ≡ image_as m s
unfolding image_as
as_same l m s e = ap (λ (n : ℕ). cond (eqb n old_image_length) (old_image_of s) (image_of s)) (sym e)

pub image_same : (l m : List ℕ) → length m ≡ length l → is_image m ≡ is_image l
unfolding is_image
image_same l m e = ap (λ (n : ℕ). eqb n image_length || eqb n old_image_length) e

pub room_same : (l m : List ℕ) (k : ℕ) → length m ≡ length l → has_room l k ≡ has_room m k
unfolding has_room
room_same l m k e = ap (λ (n : ℕ). eqb n image_length || (eqb n old_image_length && eqb k 0)) (sym e)

module _ (l : List ℕ) (s : State) where
  pub stored_is : has_room l s.mask ≡ true → stored_in l s ≡ image_as l s
  unfolding stored_in
  stored_is e = sym (chosen (has_room l s.mask) (image_as l s) l e)

  pub stored_not : has_room l s.mask ≡ false → stored_in l s ≡ l
  unfolding stored_in
  stored_not e = sym (left_over (has_room l s.mask) (image_as l s) l e)

  pub encoded_else : has_room l s.mask ≡ false → Encoded s l 1 l
  encoded_else e = record { reply_is = left_over _ _ _ e; image_is = sym (stored_not e) }

  pub encoded : (m : List ℕ) → has_room l s.mask ≡ true → m ≡ image_as l s → Encoded s l 0 m
  encoded m e d = record { reply_is = chosen _ _ _ e; image_is = d ∙ sym (stored_is e) }
