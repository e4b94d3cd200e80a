-- What the functions of few.rt come to, from what their calls leave: single octabytes of an image, out of it and into it.
use Rattle.model.proofs.Prelude.{suc, zero, ℕ, ◌*◌, ◌+◌, ◌<◌, ◌≤◌, Bool, false, true, true≢false, List, [], ◌++◌, ◌∷◌, ap, refl, sym, ◌∙◌, ◌≡◌, arith, get_or}
use Rattle.model.proofs.Prelude.{length, length-set, set, joined, old_image_length, bytes_of, part, value_of, written, made, reg, eight, written_append}
use Rattle.model.proofs.Prelude.{length_written, written_nil, written_again}
use Rattle.image.proofs.Prelude.{State, flat, loaded_octas, octas, stored_octas, length_flat, length_octas, loaded_fits, stored_fits}
use Rattle.image.specs.Image.{state_of, is_image, has_room, image_as, stored_in}
use Rattle.image.specs.Few.{few_of, left_of}
use Rattle.image.proofs.Codec.{image_stored}
use Rattle.image.proofs.Coded.{at_least, stored_is, stored_not}
use Rattle.image.proofs.RoundTrips.{get_d_octas, flat_octas}

-- ---- out

one_at : (l : List ℕ) (o : ℕ) → get_or (octas l o 1) 0 0 ≡ value_of 0 (part l o 8)
unfolding octas
one_at l o = refl

pub register_loaded : (l vs us : List ℕ) (k : ℕ) → is_image l ≡ true → k < 256 → length vs ≡ 1 → us ≡ loaded_octas l (8 * k) vs → get_or us 0 0 ≡ reg (state_of l) k
unfolding state_of
register_loaded l vs us k e h n d =
    let m : old_image_length ≤ length l = at_least l e in
    let z : 8 * k ≡ 0 + 8 * k = omega arith in
    ap (λ (r : List ℕ). get_or r 0 0) (d ∙ loaded_fits l (8 * k) vs (omega arith) ∙ ap (octas l (8 * k)) n) ∙ one_at l (8 * k) ∙ ap (λ (i : ℕ). value_of 0 (part l i 8)) z ∙ sym (get_d_octas l 0 256 k h)

pub four_loaded : (s : State) (zs : List ℕ) (x y z vx vy vz v : ℕ) → vx ≡ reg s x → vy ≡ reg s y → vz ≡ reg s z → v ≡ reg s 255
    → set (set (set (set zs x vx) y vy) z vz) 255 v ≡ few_of s.general x y z zs
four_loaded s zs x y z vx vy vz v ex ey ez e = λ i. set (set (set (set zs x (ex i)) y (ey i)) z (ez i)) 255 (e i)

-- ---- in

-- a front written over
front : (l : List ℕ) (o : ℕ) (us ws vs : List ℕ) → length us ≡ length vs → written (written l o (us ++ ws)) o vs ≡ written l o (vs ++ ws)
unfolding written
front [] o us ws vs e = refl
front (x ∷ xs) (suc o) us ws vs e = ap (λ (r : List ℕ). x ∷ r) (front xs o us ws vs e)
front (x ∷ xs) zero [] ws [] e = written_nil (written (x ∷ xs) zero ws) zero
front (x ∷ xs) zero [] ws (v ∷ vs) e = absurd (omega arith)
front (x ∷ xs) zero (u ∷ us) ws [] e = absurd (omega arith)
front (x ∷ xs) zero (u ∷ us) ws (v ∷ vs) e = ap (λ (r : List ℕ). v ∷ r) (front xs zero us ws vs (omega arith))

-- one octabyte of a run
one_written : (vs l : List ℕ) (o k v : ℕ) → k < length vs → written (written l o (flat vs)) (o + 8 * k) (bytes_of v) ≡ written l o (flat (set vs k v))
unfolding flat
one_written [] l o k v h = absurd (omega arith)
one_written (u ∷ us) l o zero v h =
    ap (λ (i : ℕ). written (written l o (bytes_of u ++ flat us)) i (bytes_of v)) (omega arith) ∙ front l o (bytes_of u) (flat us) (bytes_of v) (eight u ∙ sym (eight v))
one_written (u ∷ us) l o (suc k) v h =
    let e : o + 8 ≡ o + length (bytes_of u) = ap (λ (n : ℕ). o + n) (sym (eight u)) in
    let a : written (written l o (bytes_of u)) (o + 8) (flat us) ≡ written l o (bytes_of u ++ flat us) = written_append l o (bytes_of u) (flat us) (o + 8) e in
    let i : o + 8 * suc k ≡ o + 8 + 8 * k = omega arith in
    ap (λ (n : ℕ). written (written l o (bytes_of u ++ flat us)) n (bytes_of v)) i
    ∙ ap (λ (r : List ℕ). written r (o + 8 + 8 * k) (bytes_of v)) (sym a)
    ∙ one_written us (written l o (bytes_of u)) (o + 8) k v (omega arith)
    ∙ written_append l o (bytes_of u) (flat (set us k v)) (o + 8) e

flat_one : (v : ℕ) → flat (v ∷ []) ≡ bytes_of v
unfolding flat bytes_of
flat_one v = refl

-- the general registers of an image are in it
own : (l : List ℕ) → ((i : ℕ) → get_or l i 0 < 256) → 2048 ≤ length l → written l 0 (flat (octas l 0 256)) ≡ l
own l b h =
    let n : length (flat (octas l 0 256)) ≡ 2048 = omega (arith, length_flat (octas l 0 256), length_octas l 0 256) in
    written_again l 0 (flat (octas l 0 256)) (omega arith) (ap (part l 0) n ∙ sym (flat_octas l b 0 256))

pub few_stored : (l l₁ l₂ l₃ l₄ l₅ special : List ℕ) (x u v pc halt marks mask : ℕ) → is_image l ≡ true → ((i : ℕ) → get_or l i 0 < 256) → x < 256 → length special ≡ 32
    → l₁ ≡ stored_octas l (8 * x) (u ∷ []) → l₂ ≡ stored_octas l₁ 2040 (v ∷ []) → l₃ ≡ stored_octas l₂ 2048 special
    → l₄ ≡ stored_octas l₃ 2304 (pc ∷ halt ∷ marks ∷ []) → l₅ ≡ stored_octas l₄ 2328 (mask ∷ [])
    → l₅ ≡ image_as l (made (set (set (state_of l).general x u) 255 v) special pc halt marks mask)
unfolding state_of
few_stored l l₁ l₂ l₃ l₄ l₅ special x u v pc halt marks mask e b h n d₁ d₂ d₃ d₄ d₅ =
    let m : old_image_length ≤ length l = at_least l e in
    let g : length (octas l 0 256) ≡ 256 = length_octas l 0 256 in
    let g₁ : length (set (octas l 0 256) x u) ≡ 256 = length-set (octas l 0 256) x u ∙ g in
    let g₂ : length (set (set (octas l 0 256) x u) 255 v) ≡ 256 = length-set (set (octas l 0 256) x u) 255 v ∙ g₁ in
    let z : 8 * x ≡ 0 + 8 * x = omega arith in
    let e₁ : l₁ ≡ written l 0 (flat (set (octas l 0 256) x u))
    = d₁ ∙ stored_fits l (8 * x) (u ∷ []) (omega arith) ∙ ap (written l (8 * x)) (flat_one u)
    ∙ ap (λ (k : List ℕ). written k (8 * x) (bytes_of u)) (sym (own l b (omega arith))) ∙ ap (λ (i : ℕ). written (written l 0 (flat (octas l 0 256))) i (bytes_of u)) z ∙ one_written (octas l 0 256) l 0 x u (omega arith) in
    let n₁ : length l₁ ≡ length l = ap length e₁ ∙ length_written l 0 (flat (set (octas l 0 256) x u)) in
    let e₂ : l₂ ≡ written l 0 (flat (set (set (octas l 0 256) x u) 255 v))
    = d₂ ∙ stored_fits l₁ 2040 (v ∷ []) (omega arith) ∙ ap (written l₁ 2040) (flat_one v)
    ∙ ap (λ (k : List ℕ). written k 2040 (bytes_of v)) e₁ ∙ one_written (set (octas l 0 256) x u) l 0 255 v (omega arith) in
    image_stored l l₂ l₃ l₄ l₅ (made (set (set (octas l 0 256) x u) 255 v) special pc halt marks mask) e (record { generals = g₂; specials = n })
    (e₂ ∙ sym (stored_fits l 0 (set (set (octas l 0 256) x u) 255 v) (omega arith))) d₃ d₄ d₅

-- ---- few, or all

module _ (l : List ℕ) (s t : State) (x : ℕ) where
  pub touched_not : (few : Bool) → has_room l t.mask ≡ false → l ≡ stored_in l (left_of few s x t)
  touched_not true e = sym (stored_not l (joined s x t) e)
  touched_not false e = sym (stored_not l t e)

  pub touched_few : (few : Bool) (m : List ℕ) → few ≡ true → has_room l t.mask ≡ true → m ≡ image_as l (joined s x t) → m ≡ stored_in l (left_of few s x t)
  touched_few true m q e d = d ∙ sym (stored_is l (joined s x t) e)
  touched_few false m q e d = absurd (true≢false (sym q))

  pub touched_all : (few : Bool) (m : List ℕ) → few ≡ false → has_room l t.mask ≡ true → m ≡ image_as l t → m ≡ stored_in l (left_of few s x t)
  touched_all true m q e d = absurd (true≢false q)
  touched_all false m q e d = d ∙ sym (stored_is l t e)
