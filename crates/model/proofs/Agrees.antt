-- Windows equal byte by byte outside F agree there.
use Rattle.model.proofs.Logic.{ℕ, ◌%◌, ◌*◌, ◌+◌, ◌-◌, ◌/◌, ◌<◌, ◌^◌, ◌≤◌, cond, true, ap, subst, ◌∙◌, ◌≡◌, dec_le, arith}
use Rattle.model.specs.Octa.{octa, part}
use Rattle.model.specs.Memory.{Window, Windows, shape_of, shapes_of, offset, has, octa_bytes, octa_at, ruled, both}
use Rattle.model.specs.Plan.{Off, Agree}
use Rattle.model.specs.Step.{unruled_by}
use Rattle.model.specs.Demand.{SameBytes, SameOutside}
use Rattle.model.proofs.Octa.{part_cong}
use Rattle.model.proofs.Apart.{Ruled, ruled_a, ruled_b}
use Rattle.model.proofs.Entry.{unruled_none}

-- ---- windows

-- byte j of octabyte n, by its distance from b
place : (b n j : ℕ) → b % 8 ≡ 0 → b < 2 ^ 64 → n < 2 ^ 61 → j < 8 → Dec (b ≤ 8 * n) → (b + ((8 * n + (2 ^ 64 - b % 2 ^ 64)) % 2 ^ 64 + j)) / 8 % 2 ^ 61 ≡ n
place b n j al l m k d =
    let p : b % 2 ^ 64 ≡ b = omega arith in
    rw p (go d)
  where
    past : (c : ℕ) → c < 2 ^ 64 → (2 ^ 64 + c) % 2 ^ 64 ≡ c
    past c q = omega arith

    octas : (8 * n + j) / 8 % 2 ^ 61 ≡ n
    octas = omega arith

    go : Dec (b ≤ 8 * n) → (b + ((8 * n + (2 ^ 64 - b)) % 2 ^ 64 + j)) / 8 % 2 ^ 61 ≡ n
    go (yes h) =
        let e : 8 * n + (2 ^ 64 - b) ≡ 2 ^ 64 + (8 * n - b) = omega arith in
        let f : b + ((8 * n - b) + j) ≡ 8 * n + j = omega arith in
        rw (e, past (8 * n - b) (omega arith), f) octas
    go (no h) =
        let e : (8 * n + (2 ^ 64 - b)) % 2 ^ 64 ≡ 8 * n + (2 ^ 64 - b) = omega arith in
        let f : b + (8 * n + (2 ^ 64 - b) + j) ≡ 8 * n + j + 8 * 2 ^ 61 = omega arith in
        rw (e, f) (omega arith)

-- a byte of the octabyte that x names
octa_back : (b x j : ℕ) → b % 8 ≡ 0 → b < 2 ^ 64 → j < 8 → octa (b + (offset b x + j)) ≡ octa x
unfolding octa offset
octa_back b x j al l m = ap (λ (n : ℕ). 8 * n) (place b (x / 8 % 2 ^ 61) j al l (omega arith) m (dec_le b (8 * (x / 8 % 2 ^ 61))))

pub shapes_outside : (F : ℕ → Type 0) (v w : Windows) → SameOutside F v w → shapes_of v ≡ shapes_of w
unfolding shapes_of shape_of
shapes_outside F v w h = λ i. record {
  a = record { from = h.in_a.base_same i; size = h.in_a.length_same i };
  b = record { from = h.in_b.base_same i; size = h.in_b.length_same i };
}

module _ (F : ℕ → Type 0) where
  window_agrees : (v w : Window) (x : ℕ) → Ruled (shape_of v) → SameBytes F v w → Off F x → octa_bytes v x ≡ octa_bytes w x
  unfolding octa_bytes shape_of
  window_agrees v w x r h off =
      part_cong 8 v.bytes w.bytes (offset v.base x) (λ j a b.
      h.byte_same j (λ f. off (subst F (ap (λ (i : ℕ). octa (v.base + i)) (omega arith)
      ∙ octa_back v.base x (j - offset v.base x) r.base_aligned r.base_word (omega arith)) f)))
      ∙ ap (λ (b : ℕ). part w.bytes (offset b x) 8) h.base_same

  pub agree_of : (v w : Windows) → unruled_by (shapes_of v) ≡ 0 → SameOutside F v w → Agree both F v w
  unfolding both shapes_of octa_at
  agree_of v w u h = record { shape_same = shapes_outside F v w h; rest_same = octas }
    where
      rules : ruled (shapes_of v) ≡ true
      rules = (unruled_none (shapes_of v) u).0

      octas : (x : ℕ) → Off F x
          → cond (has (shape_of v.b) x) (octa_bytes v.b x) (octa_bytes v.a x) ≡ cond (has (shape_of w.b) x) (octa_bytes w.b x) (octa_bytes w.a x)
      octas x off = λ i. cond (has (shapes_outside F v w h i).b x) (window_agrees v.b w.b x (ruled_b (shapes_of v) rules) h.in_b off i)
          (window_agrees v.a w.a x (ruled_a (shapes_of v) rules) h.in_a off i)
