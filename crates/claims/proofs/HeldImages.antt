-- Images one after another, as mmix_tasks takes them, and the same images as a host holds them: their bytes, their states, states put into them.
use Rattle.model.proofs.Prelude.{suc, zero, ℕ, ◌*◌, ◌+◌, ◌<◌, ◌≤◌, Bool, cond, false, true, ◌||◌, List, [], ◌++◌, ◌∷◌, inl, inr, ◌⊎◌, ⊎_elim, ap, refl, sym}
use Rattle.model.proofs.Prelude.{◌∙◌, ◌≡◌, mul-le-mul_right, arith, eqb, get_or, length, eqb-true, image_length, old_image_length, part, written, Sized}
use Rattle.model.proofs.Prelude.{length_written, part_written, length_part, part_all, part_apart}
use Rattle.claims.proofs.Prelude.{State, task_of, image_as, state_of, is_new', is_old', keeps_length, each_length, image_in, images_fit, images_with, states_from}
use Rattle.claims.proofs.Prelude.{states_in}
use Rattle.claims.specs.OneCall.{Held, image, held_state}
use Rattle.claims.specs.TaskCalls.{states_held, images_held}
use Rattle.claims.proofs.HeldLists.{into, held_with}

-- ---- their bytes

part_append : (l : List ℕ) (o a b : ℕ) → part l o (a + b) ≡ part l o a ++ part l (o + a) b
unfolding part
part_append l o zero b = let z : 0 + b ≡ b = omega arith in let y : o + 0 ≡ o = omega arith in rw (z, y)
part_append l o (suc a) b =
    let z : suc a + b ≡ suc (a + b) = omega arith in
    let y : o + suc a ≡ suc o + a = omega arith in
    rw (z, y) (ap (λ (r : List ℕ). get_or l o 0 ∷ r) (part_append l (suc o) a b))

-- the same images have the same bytes
parts_same : (e : ℕ) (l m : List ℕ) (n k : ℕ) → images_held e l k n ≡ images_held e m k n → part l (k * e) (n * e) ≡ part m (k * e) (n * e)
unfolding images_held
parts_same e l m zero k h = let z : 0 * e ≡ 0 = omega arith in rw z (unfold part in refl)
parts_same e l m (suc n) k h =
    let t : suc n * e ≡ e + n * e = omega arith in
    let o : k * e + e ≡ suc k * e = omega arith in
    let a : image_in e l k ≡ image_in e m k = cc in
    let b : part l (suc k * e) (n * e) ≡ part m (suc k * e) (n * e) = parts_same e l m n (suc k) (cc) in
    rw (t, part_append l (k * e) e (n * e), part_append m (k * e) e (n * e), o) (λ i. a i ++ b i)

pub bytes_same : (e : ℕ) (l m : List ℕ) (n : ℕ) → length l ≡ n * e → length m ≡ n * e → images_held e l 0 n ≡ images_held e m 0 n → l ≡ m
bytes_same e l m n p q h =
    let z : 0 * e ≡ 0 = omega arith in
    sym (ap (part l 0) (sym p) ∙ part_all l) ∙ (rw z at (parts_same e l m n 0 h)) ∙ ap (part m 0) (sym q) ∙ part_all m

-- ---- their states

states_from_law : (e : ℕ) (l : List ℕ) (m k : ℕ) → states_from e l k m ≡ states_held (images_held e l k m)
unfolding states_from states_held images_held held_state
states_from_law e l zero k = refl
states_from_law e l (suc m) k = ap (λ (ss : List State). state_of (image_in e l k) ∷ ss) (states_from_law e l m (suc k))

-- what a call that is not refused whole knows of the images
pub record Lengths (n e : ℕ) (l : List ℕ) (hs : List Held) : Type 0 where
  pub count : n ≡ length hs
  pub each_is : each_length n l ≡ e
  pub states_are : states_in n l ≡ states_held hs

pub lengths : (n e : ℕ) (l : List ℕ) (hs : List Held) → 1 ≤ n → n ≤ 8 → length l ≡ length hs * e → (e ≡ image_length) ⊎ (e ≡ old_image_length)
    → hs ≡ images_held e l 0 (length hs) → length (states_in n l) ≡ n → Lengths n e l hs
unfolding states_in images_fit each_length
lengths n e l hs a b long each lent c = go (eqb (length l) (n * image_length)) (eqb (length l) (n * old_image_length)) refl refl c
  where
    at : (f : ℕ) → e ≡ f → n ≡ length hs → states_from f l 0 n ≡ states_held hs
    at f p q = ap (λ (g : ℕ). states_from g l 0 n) (sym p) ∙ states_from_law e l n 0 ∙ ap states_held (ap (images_held e l 0) q ∙ sym lent)

    go : (s t : Bool) → eqb (length l) (n * image_length) ≡ s → eqb (length l) (n * old_image_length) ≡ t
        → length (cond (s || t) (states_from (cond s image_length old_image_length) l 0 n) []) ≡ n → Lengths n e l hs
    go true t p q z =
        let m : length l ≡ n * image_length = eqb-true _ _ p in
        let r : (e ≡ image_length) × (n ≡ length hs)
        = ⊎_elim (λ f. let g : length l ≡ length hs * image_length = rw f at long in (f, omega arith))
        (λ f. let g : length l ≡ length hs * old_image_length = rw f at long in let more : n < length hs = omega arith in absurd (omega arith)) each in
        record { count = r.1; each_is = rw p (sym r.0); states_are = rw p (at image_length r.0 r.1) }
    go false true p q z =
        let m : length l ≡ n * old_image_length = eqb-true _ _ q in
        let r : (e ≡ old_image_length) × (n ≡ length hs)
        = ⊎_elim (λ f. let g : length l ≡ length hs * image_length = rw f at long in let fewer : length hs < n = omega arith in absurd (omega arith))
        (λ f. let g : length l ≡ length hs * old_image_length = rw f at long in (f, omega arith)) each in
        record { count = r.1; each_is = rw p (sym r.0); states_are = rw (p, q) (at old_image_length r.0 r.1) }
    go false false p q z = absurd (omega arith)

-- ---- states put into them

module _ (e : ℕ) (each : (e ≡ image_length) ⊎ (e ≡ old_image_length)) where
  as_long : (l : List ℕ) (k : ℕ) (s : State) → Sized s → length (image_as (image_in e l k) s) ≡ e
  as_long l k s z =
      let n : length (image_in e l k) ≡ e = length_part l (k * e) e in
      keeps_length.as_length (image_in e l k) s (⊎_elim (λ f. is_new' (image_in e l k) (n ∙ f)) (λ f. is_old' (image_in e l k) (n ∙ f)) each) z ∙ n

  -- image j ends where k starts, at the latest
  ends : (j k : ℕ) → j < k → j * e + e ≤ k * e
  ends j k l = let h : suc j * e ≤ k * e = mul-le-mul_right e l in omega arith

  -- those before k stay
  kept_before : (ss : List State) (l : List ℕ) (k j : ℕ) → j < k → image_in e (images_with e l k ss) j ≡ image_in e l j
  unfolding images_with
  kept_before [] l k j h = refl
  kept_before (s ∷ ss) l k j h =
      kept_before ss (written l (k * e) (image_as (image_in e l k) s)) (suc k) j (omega arith)
      ∙ part_apart l (k * e) (image_as (image_in e l k) s) (j * e) e (inl (ends j k h))

  -- those after k stay where k is written
  kept_after : (m : ℕ) (l vs : List ℕ) (k j : ℕ) → length vs ≡ e → k < j → images_held e (written l (k * e) vs) j m ≡ images_held e l j m
  unfolding images_held
  kept_after zero l vs k j n h = refl
  kept_after (suc m) l vs k j n h =
      let a : image_in e (written l (k * e) vs) j ≡ image_in e l j = part_apart l (k * e) vs (j * e) e (inr (rw n (ends k j h))) in
      λ i. image (a i) ∷ kept_after m l vs k (suc j) n (omega arith) i

  pub images_with' : (ss : List State) (l : List ℕ) (k : ℕ) → (k + length ss) * e ≤ length l → ((j : ℕ) → j < length ss → Sized (task_of ss j))
      → images_held e (images_with e l k ss) k (length ss) ≡ held_with (images_held e l k (length ss)) ss
  unfolding images_held images_with held_with into
  images_with' [] l k h z = refl
  images_with' (s ∷ ss) l k h z =
      let vs : List ℕ = image_as (image_in e l k) s in
      let n : length vs ≡ e = as_long l k s (z 0 (omega arith)) in
      let x : suc k * e ≤ (k + suc (length ss)) * e = mul-le-mul_right e (omega arith) in
      let a : image_in e (images_with e (written l (k * e) vs) (suc k) ss) k ≡ vs
      = kept_before ss (written l (k * e) vs) (suc k) k (omega arith) ∙ ap (part (written l (k * e) vs) (k * e)) (sym n) ∙ part_written l (k * e) vs (omega arith) in
      let b : images_held e (images_with e (written l (k * e) vs) (suc k) ss) (suc k) (length ss) ≡ held_with (images_held e (written l (k * e) vs) (suc k) (length ss)) ss
      = images_with' ss (written l (k * e) vs) (suc k) (rw (length_written l (k * e) vs) (let y : (suc k + length ss) * e ≡ (k + suc (length ss)) * e = omega arith in omega arith))
      (λ j q. z (suc j) (omega arith)) in
      let c : images_held e (written l (k * e) vs) (suc k) (length ss) ≡ images_held e l (suc k) (length ss) = kept_after (length ss) l vs k (suc k) n (omega arith) in
      λ i. image (a i) ∷ (b ∙ ap (λ (gs : List Held). held_with gs ss) c) i
