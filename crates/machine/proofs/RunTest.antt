-- Distances, the room from an address up, and which window holds an octabyte, as code asks for them. Runs: RunRefused.
use Rattle.model.proofs.Prelude.{suc, zero, ℕ, ◌%◌, ◌*◌, ◌+◌, ◌-◌, ◌/◌, ◌<◌, ◌^◌, ◌≤◌, Bool, cond, false, true, ◌&&◌, ◌||◌, List, ◌≢◌, ⊎_elim, refl, ◌∙◌}
use Rattle.model.proofs.Prelude.{◌≡◌, mod-eq_of_lt, arith, leb, ltb, length, le-leb, leb-false, leb-true, lt-leb, ltb-true, has, holder, inside}
use Rattle.model.proofs.Prelude.{offset, Shape, shape_of, Shapes, octa, refusing, and_left, and_right, lt_or_le, offset_next}
use Rattle.machine.specs.Octas.{lent_one, room_in, held_range}
use Rattle.machine.specs.Pieces.{PieceIs}

-- ---- distances

low_bits : (a : ℕ) → a < 2 ^ 64 → a - a % 8 ≡ octa a
unfolding octa
low_bits a h = omega arith

-- the distance as code has it
pub offset_of : (base a r : ℕ) → base < 2 ^ 64 → a < 2 ^ 64 → r ≡ (a - a % 8 + (2 ^ 64 - base)) % 2 ^ 64 → r ≡ offset base a
unfolding offset
offset_of base a r h l e =
    let low : a - a % 8 ≡ octa a = low_bits a l in
    let whole : base % 2 ^ 64 ≡ base = mod-eq_of_lt h in
    e ∙ rw (low, whole)

offset_near : (base a : ℕ) → offset base a < 2 ^ 64
unfolding offset
offset_near base a = omega arith

offset_run : (n base a : ℕ) → offset base a + 8 * n < 2 ^ 64 → offset base (a + 8 * n) ≡ offset base a + 8 * n
offset_run zero base a h = let z : a + 8 * 0 ≡ a = omega arith in rw z (omega arith)
offset_run (suc n) base a h =
    let z : a + 8 * suc n ≡ a + 8 * n + 8 = omega arith in
    let r : offset base (a + 8 * n) ≡ offset base a + 8 * n = offset_run n base a (omega arith) in
    rw z (offset_next base (a + 8 * n) (omega arith) ∙ omega arith)

-- ---- the room from an address up in one window

pub room_is : (base : ℕ) (l : List ℕ) (x at : ℕ) → at ≡ offset base x → (length l - at) / 8 ≡ room_in (shape_of (lent_one base l)) x
unfolding room_in shape_of
room_is base l x at e = rw e

module _ (w : Shape) (x : ℕ) where
  -- there is none where the first octabyte lies outside
  pub no_room : room_in w x ≡ 0 → has w x ≡ false
  unfolding room_in has
  no_room e = lt-leb (offset w.from x + 8) w.size (omega arith)

  pub has_room : (room_in w x ≡ 0 → ⊥) → has w x ≡ true
  unfolding room_in has
  has_room e = le-leb (offset w.from x + 8) w.size (omega arith)

  module _ (short : w.size < 2 ^ 64) where
    pub room_has : (i : ℕ) → i < room_in w x → has w (x + 8 * i) ≡ true
    unfolding room_in has
    room_has i l = le-leb (offset w.from (x + 8 * i) + 8) w.size (omega (arith, offset_run i w.from x (omega arith)))

    pub room_offset : (i : ℕ) → i < room_in w x → offset w.from (x + 8 * i) ≡ offset w.from x + 8 * i
    unfolding room_in
    room_offset i l = offset_run i w.from x (omega arith)

    pub room_short : 8 * room_in w x < 2 ^ 64
    unfolding room_in
    room_short = omega arith

    -- the first octabyte past it lies outside
    pub room_ends : 0 < room_in w x → has w (x + 8 * room_in w x) ≡ false
    unfolding room_in has
    room_ends l =
        let k : ℕ = (w.size - offset w.from x) / 8 in
        ⊎_elim
        (λ lo. lt-leb (offset w.from (x + 8 * k) + 8) w.size (omega (arith, offset_run k w.from x lo)))
        (λ hi. absurd (omega arith))
        (lt_or_le (offset w.from x + 8 * k) (2 ^ 64))

    -- where a run ends all of which lies inside
    pub run_end : (n : ℕ) → 0 < n → n ≤ room_in w x → offset w.from x + 8 * n ≤ w.size
    unfolding room_in
    run_end n s l = omega arith

  -- what lies outside, up to where the distance wraps
  pub stays_out : (i : ℕ) → has w x ≡ false → i ≤ (2 ^ 64 - 1 - offset w.from x) / 8 → has w (x + 8 * i) ≡ false
  unfolding has
  stays_out i h l =
      let out : w.size < offset w.from x + 8 = leb-false _ _ h in
      let near : offset w.from x < 2 ^ 64 = offset_near w.from x in
      lt-leb (offset w.from (x + 8 * i) + 8) w.size (omega (arith, offset_run i w.from x (omega arith)))

-- registers that a window has room for
module _ (w : Shape) (a from to : ℕ) where
  pub held_range' : held_range w a from to ≡ true → (from < to) × (to ≤ 256) × (to ≤ from + room_in w a)
  unfolding held_range
  held_range' h =
      let e : (leb to 256 && leb (to - from) (room_in w a)) ≡ true = and_right (ltb from to) _ h in
      let l : to - from ≤ room_in w a = leb-true _ _ (and_right (leb to 256) _ e) in
      (ltb-true _ _ (and_left (ltb from to) _ h), leb-true _ _ (and_left (leb to 256) _ e), omega arith)

-- ---- which window holds an octabyte

module _ (w : Shapes) (x : ℕ) where
  pub held_b : has w.b x ≡ true → holder w x ≡ 1
  unfolding holder
  held_b h = rw h

  pub held_a : has w.b x ≡ false → has w.a x ≡ true → holder w x ≡ 0
  unfolding holder
  held_a h k = rw (h, k)

  pub held_none : has w.b x ≡ false → has w.a x ≡ false → holder w x ≡ 2
  unfolding holder
  held_none h k = rw (h, k)

  -- and back
  pub has_b' : holder w x ≡ 1 → has w.b x ≡ true
  unfolding holder
  has_b' = go (has w.b x) (has w.a x)
    where
      go : (t u : Bool) → ◌≡◌ {A = ℕ} (cond t 1 (cond u 0 2)) 1 → t ≡ true
      go true u e = refl
      go false true e = absurd (omega arith)
      go false false e = absurd (omega arith)

  pub has_a' : holder w x ≡ 0 → (has w.b x ≡ false) × (has w.a x ≡ true)
  unfolding holder
  has_a' = go (has w.b x) (has w.a x)
    where
      go : (t u : Bool) → ◌≡◌ {A = ℕ} (cond t 1 (cond u 0 2)) 0 → (t ≡ false) × (u ≡ true)
      go true u e = absurd (omega arith)
      go false true e = (refl, refl)
      go false false e = absurd (omega arith)

  pub has_none : holder w x ≡ 2 → (has w.b x ≡ false) × (has w.a x ≡ false)
  unfolding holder
  has_none = go (has w.b x) (has w.a x)
    where
      go : (t u : Bool) → ◌≡◌ {A = ℕ} (cond t 1 (cond u 0 2)) 2 → (t ≡ false) × (u ≡ false)
      go true u e = absurd (omega arith)
      go false true e = absurd (omega arith)
      go false false e = (refl, refl)

  pub held_inside : holder w x ≢ 2 → refusing w x ≡ 0
  unfolding holder refusing inside
  held_inside = go (has w.b x) (has w.a x)
    where
      go : (t u : Bool) → (◌≡◌ {A = ℕ} (cond t 1 (cond u 0 2)) 2 → ⊥) → ◌≡◌ {A = ℕ} (cond (t || u) 0 6) 0
      go true u e = refl
      go false true e = refl
      go false false e = absurd (e refl)

  pub held_outside : holder w x ≡ 2 → refusing w x ≡ 6
  unfolding holder refusing inside
  held_outside = go (has w.b x) (has w.a x)
    where
      go : (t u : Bool) → ◌≡◌ {A = ℕ} (cond t 1 (cond u 0 2)) 2 → ◌≡◌ {A = ℕ} (cond (t || u) 0 6) 6
      go true u e = absurd (omega arith)
      go false true e = absurd (omega arith)
      go false false e = refl

-- ---- a piece

module _ (w : Shapes) (x k : ℕ) where
  pub piece_b : w.b.size < 2 ^ 64 → (k ≡ 0 → ⊥) → k ≡ room_in w.b x → 8 * k < 2 ^ 64 → PieceIs w x 1 k
  piece_b s n e h = record {
    in_b = λ one. omega arith;
    in_a = λ none. absurd (omega arith);
    held = λ i l. held_b w (x + 8 * i) (room_has w.b x s i (omega arith));
    some = omega arith;
    short = h;
  }

  pub piece_a : w.a.size < 2 ^ 64 → room_in w.b x ≡ 0 → 0 < k → k ≤ room_in w.a x → k ≤ (2 ^ 64 - 1 - offset w.b.from x) / 8 + 1 → 8 * k < 2 ^ 64 → PieceIs w x 0 k
  piece_a s n p e b h = record {
    in_b = λ one. absurd (omega arith);
    in_a = λ none. e;
    held = λ i l. held_a w (x + 8 * i) (stays_out w.b x i (no_room w.b x n) (omega arith)) (room_has w.a x s i (omega arith));
    some = p;
    short = h;
  }

pub piece_none : (w : Shapes) (x : ℕ) → room_in w.b x ≡ 0 → room_in w.a x ≡ 0 → PieceIs w x 2 1
piece_none w x n m = record {
  in_b = λ one. absurd (omega arith);
  in_a = λ none. absurd (omega arith);
  held = λ i l. let z : x + 8 * i ≡ x = omega arith in rw z (held_none w x (no_room w.b x n) (no_room w.a x m));
  some = omega arith;
  short = omega arith;
}
