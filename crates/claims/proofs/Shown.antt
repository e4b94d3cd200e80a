-- What is held shown alike: images of one length are equal outside hidden registers just where their states are seen alike; a struct is its state.
use Rattle.model.proofs.Prelude.{suc, zero, ℕ, ◌%◌, ◌*◌, ◌+◌, ◌-◌, ◌/◌, ◌<◌, ◌≤◌, Bool, cond, false, true, List, [], ◌∷◌, inl, inr, ◌⊎◌, ap, refl, sym, ◌∙◌}
use Rattle.model.proofs.Prelude.{◌≡◌, dec_lt, arith, get_or, length, get_or_eq_default, ext_get_or, le-leb, le-ltb, lt-leb, lt-ltb, bytes_of, part, value_of, hides}
use Rattle.model.proofs.Prelude.{SameSeen, get_d_part, lt_or_le, part_cong}
use Rattle.claims.proofs.Prelude.{State, flat, octas, image_as, image_of, is_old, old_image_of, state_of, at_most, room_image, bytes_value, get_d_octas}
use Rattle.machine.proofs.OctabyteRuns.{length_octas}
use Rattle.claims.specs.OneCall.{Held, image, struct, held_state, HeldIs, ImageBytes}
use Rattle.claims.proofs.OneCall.{Intact}
use Rattle.claims.proofs.Forms.{form}
use Rattle.claims.specs.HiddenCalls.{hidden_byte, SameShown, HeldShown}

-- ---- which bytes are hidden

shown_before : (m i : ℕ) → i < 2048 → hidden_byte m i ≡ false
unfolding hidden_byte
shown_before m i h = rw (lt-leb 2048 i h)

shown_after : (m i : ℕ) → 2304 ≤ i → hidden_byte m i ≡ false
unfolding hidden_byte
shown_after m i h = let l : 2048 ≤ i = omega arith in rw (le-leb 2048 i l, le-ltb i 2304 h)

hidden_special : (m i : ℕ) → 2048 ≤ i → i < 2304 → hidden_byte m i ≡ hides m ((i - 2048) / 8)
unfolding hidden_byte
hidden_special m i a b = rw (le-leb 2048 i a, lt-ltb i 2304 b)

-- ---- bytes that are shown alike make states that are seen alike

module _ (l m : List ℕ) (h : SameShown l m) where
  abbrev mask : ℕ
  mask = (state_of l).mask

  octa_same : (o : ℕ) → ((j : ℕ) → o ≤ j → j < o + 8 → hidden_byte mask j ≡ false) → value_of 0 (part l o 8) ≡ value_of 0 (part m o 8)
  octa_same o f = ap (value_of 0) (part_cong 8 l m o (λ j a b. h.byte_same j (f j a b)))

  last_same : (o : ℕ) → 2304 ≤ o → value_of 0 (part l o 8) ≡ value_of 0 (part m o 8)
  last_same o n = octa_same o (λ j a b. shown_after mask j (omega arith))

  general_same : octas l 0 256 ≡ octas m 0 256
  general_same =
      ext_get_or 0 (octas l 0 256) (octas m 0 256) (length_octas l 0 256 ∙ sym (length_octas m 0 256)) (λ k q. at k (omega (arith, length_octas l 0 256)))
    where
      at : (k : ℕ) → k < 256 → get_or (octas l 0 256) k 0 ≡ get_or (octas m 0 256) k 0
      at k q = get_d_octas l 0 256 k q ∙ octa_same (0 + 8 * k) (λ j a b. shown_before mask j (omega arith)) ∙ sym (get_d_octas m 0 256 k q)

  special_same : (k : ℕ) → hides mask k ≡ false → get_or (octas l 2048 32) k 0 ≡ get_or (octas m 2048 32) k 0
  special_same k f = go (dec_lt k 32)
    where
      its : (j : ℕ) → k < 32 → 2048 + 8 * k ≤ j → j < 2048 + 8 * k + 8 → hidden_byte mask j ≡ false
      its j q a b =
          let e : (j - 2048) / 8 ≡ k = omega arith in
          hidden_special mask j (omega arith) (omega arith) ∙ ap (hides mask) e ∙ f

      go : Dec (k < 32) → get_or (octas l 2048 32) k 0 ≡ get_or (octas m 2048 32) k 0
      go (yes q) = get_d_octas l 2048 32 k q ∙ octa_same (2048 + 8 * k) (λ j. its j q) ∙ sym (get_d_octas m 2048 32 k q)
      go (no n) = get_or_eq_default (octas l 2048 32) 0 (omega (arith, length_octas l 2048 32)) ∙ sym (get_or_eq_default (octas m 2048 32) 0 (omega (arith, length_octas m 2048 32)))

  states_seen : SameSeen (state_of l) (state_of m)
  unfolding state_of
  states_seen = record {
    general_same = general_same;
    special_same = record { count_same = length_octas l 2048 32 ∙ sym (length_octas m 2048 32); seen_same = special_same };
    pc_same = last_same 2304 (omega arith);
    halt_same = last_same 2312 (omega arith);
    marks_same = last_same 2320 (omega arith);
    mask_same = last_same 2328 (omega arith);
  }

-- ---- and back: an image's bytes are those of its state's octabytes

pub flat_byte : (vs : List ℕ) (i : ℕ) → get_or (flat vs) i 0 < 256
unfolding flat bytes_of
flat_byte [] i = omega arith
flat_byte (v ∷ vs) zero = omega arith
flat_byte (v ∷ vs) (suc zero) = omega arith
flat_byte (v ∷ vs) (suc (suc zero)) = omega arith
flat_byte (v ∷ vs) (suc (suc (suc zero))) = omega arith
flat_byte (v ∷ vs) (suc (suc (suc (suc zero)))) = omega arith
flat_byte (v ∷ vs) (suc (suc (suc (suc (suc zero))))) = omega arith
flat_byte (v ∷ vs) (suc (suc (suc (suc (suc (suc zero)))))) = omega arith
flat_byte (v ∷ vs) (suc (suc (suc (suc (suc (suc (suc zero))))))) = omega arith
flat_byte (v ∷ vs) (suc (suc (suc (suc (suc (suc (suc (suc i)))))))) = flat_byte vs i

as_byte : (l : List ℕ) (s : State) (i : ℕ) → get_or (image_as l s) i 0 < 256
unfolding image_as
as_byte l s i = go (is_old l)
  where
    go : (b : Bool) → get_or (cond b (old_image_of s) (image_of s)) i 0 < 256
    go true = unfold old_image_of in flat_byte _ i
    go false = unfold image_of in flat_byte _ i

image_bytes : (l : List ℕ) → Intact (image l) → ImageBytes l
unfolding HeldIs held_state
image_bytes l h = record { long = room_image l _ h.back.1; byte = λ i. rw h.back.0 (as_byte l (state_of l) i) }

module _ (l m : List ℕ) (bl : ImageBytes l) (bm : ImageBytes m) (n : length l ≡ length m) (h : SameSeen (state_of l) (state_of m)) where
  -- octabyte k of both
  abbrev Same : ℕ → Type 0
  Same k = value_of 0 (part l (8 * k) 8) ≡ value_of 0 (part m (8 * k) 8)

  general_octa : (k : ℕ) → k < 256 → Same k
  unfolding state_of
  general_octa k q =
      let z : 0 + 8 * k ≡ 8 * k = omega arith in
      rw z at (sym (get_d_octas l 0 256 k q) ∙ ap (λ (vs : List ℕ). get_or vs k 0) h.general_same ∙ get_d_octas m 0 256 k q)

  special_octa : (k : ℕ) → k < 32 → hides (state_of l).mask k ≡ false → Same (256 + k)
  unfolding state_of
  special_octa k q f =
      let z : 2048 + 8 * k ≡ 8 * (256 + k) = omega arith in
      rw z at (sym (get_d_octas l 2048 32 k q) ∙ h.special_same.seen_same k f ∙ get_d_octas m 2048 32 k q)

  last_octa : (k : ℕ) → 288 ≤ k → k < 292 → Same k
  unfolding state_of
  last_octa k a b = go (dec_lt k 289) (dec_lt k 290) (dec_lt k 291)
    where
      go : Dec (k < 289) → Dec (k < 290) → Dec (k < 291) → Same k
      go (yes x) y z = let e : k ≡ 288 = omega arith in rw e h.pc_same
      go (no x) (yes y) z = let e : k ≡ 289 = omega arith in rw e h.halt_same
      go (no x) (no y) (yes z) = let e : k ≡ 290 = omega arith in rw e h.marks_same
      go (no x) (no y) (no z) = let e : k ≡ 291 = omega arith in rw e h.mask_same

  byte_of : (k j : ℕ) → j < 8 → Same k → get_or l (8 * k + j) 0 ≡ get_or m (8 * k + j) 0
  byte_of k j q e =
      sym (get_d_part l (8 * k) 8 j q) ∙ ap (λ (vs : List ℕ). get_or vs j 0) (sym (bytes_value l bl.byte (8 * k)) ∙ ap bytes_of e ∙ bytes_value m bm.byte (8 * k)) ∙ get_d_part m (8 * k) 8 j q

  -- byte i is of octabyte i / 8
  byte_at : (i : ℕ) → Same (i / 8) → get_or l i 0 ≡ get_or m i 0
  byte_at i e =
      let z : 8 * (i / 8) + i % 8 ≡ i = omega arith in
      let q : i % 8 < 8 = omega arith in
      rw z at (byte_of (i / 8) (i % 8) q e)

  images_shown : SameShown l m
  images_shown = record { length_same = n; byte_same = λ i f. go i f (lt_or_le i 2048) (lt_or_le i 2304) (lt_or_le i 2336) }
    where
      go : (i : ℕ) → hidden_byte (state_of l).mask i ≡ false → (i < 2048) ⊎ (2048 ≤ i) → (i < 2304) ⊎ (2304 ≤ i) → (i < 2336) ⊎ (2336 ≤ i) → get_or l i 0 ≡ get_or m i 0
      go i f (inl a) b c = byte_at i (general_octa (i / 8) (omega arith))
      go i f (inr a) (inl b) c =
          let z : 256 + (i - 2048) / 8 ≡ i / 8 = omega arith in
          byte_at i (rw z at (special_octa ((i - 2048) / 8) (omega arith) (sym (hidden_special (state_of l).mask i a b) ∙ f)))
      go i f (inr a) (inr b) (inl c) = byte_at i (last_octa (i / 8) (omega arith) (omega arith))
      go i f (inr a) (inr b) (inr c) =
          get_or_eq_default l 0 (omega (arith, at_most l bl.long)) ∙ sym (get_or_eq_default m 0 (omega (arith, at_most m bm.long)))

-- ---- what is held

pub shown_seen : (g h : Held) → HeldShown g h → SameSeen (held_state g) (held_state h)
unfolding HeldShown held_state
shown_seen (image l) (image m) x = states_seen l m x
shown_seen (image l) (struct t) x = absurd x
shown_seen (struct s) (image m) x = absurd x
shown_seen (struct s) (struct t) x = x

pub shown_form : (g h : Held) → HeldShown g h → form g ≡ form h
unfolding HeldShown form
shown_form (image l) (image m) x = ap suc x.length_same
shown_form (image l) (struct t) x = absurd x
shown_form (struct s) (image m) x = absurd x
shown_form (struct s) (struct t) x = refl

pub seen_shown : (g h : Held) → Intact g → Intact h → form g ≡ form h → SameSeen (held_state g) (held_state h) → HeldShown g h
unfolding HeldShown held_state form
seen_shown (image l) (image m) i j e x = images_shown l m (image_bytes l i) (image_bytes m j) (omega arith) x
seen_shown (image l) (struct t) i j e x = absurd (omega arith)
seen_shown (struct s) (image m) i j e x = absurd (omega arith)
seen_shown (struct s) (struct t) i j e x = x
