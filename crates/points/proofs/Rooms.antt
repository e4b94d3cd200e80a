-- A room: filled, and read back; what a fill leaves.
use Rattle.model.proofs.Prelude.{ℕ, ◌*◌, ◌+◌, ◌-◌, ◌<◌, ◌^◌, ◌≤◌, true, List, [], ◌∷◌, inl, inr, ◌⊎◌, ap, refl, sym, ◌∙◌, ◌≡◌, arith, get_or, get_or-replicate}
use Rattle.model.proofs.Prelude.{length, get_or_eq_default, replicate, ext_get_or, image_length, old_image_length, Point, PointFits, window_max, bytes_of, part}
use Rattle.model.proofs.Prelude.{value_of, written, get_d_part, lt_or_le, length_written, part_written, value_bytes, written_above, written_below, length_part}
use Rattle.model.proofs.Prelude.{part_apart, part_inside, written_again, written_inside}
use Rattle.machine.specs.Octabytes.{flat}
use Rattle.machine.proofs.OctabyteRuns.{length_flat}
use Rattle.image.proofs.RoundTrips.{part_flat}
use Rattle.points.specs.Store.{numbers_at, a_at, b_at, room_length, numbers_of, filled, number_at, is_taken, point_of}

length_numbers : (p : Point) → length (numbers_of p) ≡ 5
unfolding numbers_of
length_numbers p = refl

forty : (p : Point) → length (flat (numbers_of p)) ≡ 40
forty p = omega (arith, length_flat (numbers_of p), length_numbers p)

pub length_filled : (r : List ℕ) (p : Point) → length (filled r p) ≡ length r
unfolding filled
length_filled r p =
    length_written _ b_at p.b ∙ length_written _ a_at p.a ∙ length_written _ numbers_at (flat (numbers_of p)) ∙ length_written r 0 p.image

module _ (r : List ℕ) (p : Point) where
  -- the room as it is filled, place by place
  abbrev w1 : List ℕ
  w1 = written r 0 p.image

  abbrev w2 : List ℕ
  w2 = written w1 numbers_at (flat (numbers_of p))

  abbrev w3 : List ℕ
  w3 = written w2 a_at p.a

  -- ---- what lies behind a window in its place

  module _ (n : length p.image ≡ image_length) where
    pub behind_a : (i : ℕ) → a_at + length p.a ≤ i → i < b_at → get_or (filled r p) i 0 ≡ get_or r i 0
    unfolding filled
    behind_a i h m =
        written_below w3 b_at p.b i m
        ∙ written_above w2 a_at p.a i h
        ∙ written_above w1 numbers_at (flat (numbers_of p)) i (omega (arith, forty p))
        ∙ written_above r 0 p.image i (omega arith)

    pub behind_b : (i : ℕ) → b_at + length p.b ≤ i → length p.a ≤ window_max → get_or (filled r p) i 0 ≡ get_or r i 0
    unfolding filled
    behind_b i h m =
        written_above w3 b_at p.b i h
        ∙ written_above w2 a_at p.a i (omega arith)
        ∙ written_above w1 numbers_at (flat (numbers_of p)) i (omega (arith, forty p))
        ∙ written_above r 0 p.image i (omega arith)

  -- ---- what is read back

  module _ (h : length r ≡ room_length) (g : PointFits p) where
    l1 : length w1 ≡ room_length
    l1 = length_written r 0 p.image ∙ h

    l2 : length w2 ≡ room_length
    l2 = length_written w1 numbers_at (flat (numbers_of p)) ∙ l1

    l3 : length w3 ≡ room_length
    l3 = length_written w2 a_at p.a ∙ l2

    pub image_back : part (filled r p) 0 image_length ≡ p.image
    unfolding filled
    image_back =
        part_apart w3 b_at p.b 0 image_length (inl (omega arith))
        ∙ part_apart w2 a_at p.a 0 image_length (inl (omega arith))
        ∙ part_apart w1 numbers_at (flat (numbers_of p)) 0 image_length (inl (omega arith))
        ∙ ap (part w1 0) (sym g.image_long)
        ∙ part_written r 0 p.image (omega (arith, g.image_long))

    pub number_back : (k : ℕ) → k < 5 → get_or (numbers_of p) k 0 < 2 ^ 64 → number_at (filled r p) k ≡ get_or (numbers_of p) k 0
    unfolding number_at filled
    number_back k m b =
        ap (value_of 0) (
        part_apart w3 b_at p.b (numbers_at + 8 * k) 8 (inl (omega arith))
        ∙ part_apart w2 a_at p.a (numbers_at + 8 * k) 8 (inl (omega arith))
        ∙ part_inside w1 numbers_at (flat (numbers_of p)) (8 * k) 8 (numbers_at + 8 * k) (omega (arith, forty p, l1)) (omega (arith, forty p)) refl
        ∙ part_flat (numbers_of p) k (omega (arith, length_numbers p)))
        ∙ value_bytes (get_or (numbers_of p) k 0) b

    a_back : part (filled r p) a_at (length p.a) ≡ p.a
    unfolding filled
    a_back =
        part_apart w3 b_at p.b a_at (length p.a) (inl (omega (arith, g.long_a)))
        ∙ part_written w2 a_at p.a (omega (arith, l2, g.long_a))

    b_back : part (filled r p) b_at (length p.b) ≡ p.b
    unfolding filled
    b_back = part_written w3 b_at p.b (omega (arith, l3, g.long_b))

    numbers_back : part (filled r p) numbers_at (length (flat (numbers_of p))) ≡ flat (numbers_of p)
    unfolding filled
    numbers_back =
        part_apart w3 b_at p.b numbers_at _ (inl (omega (arith, forty p)))
        ∙ part_apart w2 a_at p.a numbers_at _ (inl (omega (arith, forty p)))
        ∙ part_written w1 numbers_at (flat (numbers_of p)) (omega (arith, forty p, l1))

    octas_a' : 8 * number_at (filled r p) 2 ≡ length p.a
    unfolding numbers_of
    octas_a' = ap (λ (n : ℕ). 8 * n) (number_back 2 (omega arith) (omega (arith, g.long_a, g.whole_a))) ∙ g.whole_a

    octas_b' : 8 * number_at (filled r p) 3 ≡ length p.b
    unfolding numbers_of
    octas_b' = ap (λ (n : ℕ). 8 * n) (number_back 3 (omega arith) (omega (arith, g.long_b, g.whole_b))) ∙ g.whole_b

    pub point_back : point_of (filled r p) ≡ p
    unfolding point_of numbers_of
    point_back = λ i. record {
      image = image_back i;
      base_a = number_back 0 (omega arith) g.base_a' i;
      base_b = number_back 1 (omega arith) g.base_b' i;
      a = (ap (part (filled r p) a_at) octas_a' ∙ a_back) i;
      b = (ap (part (filled r p) b_at) octas_b' ∙ b_back) i;
    }

    pub taken_back : is_taken (filled r p) ≡ true
    unfolding is_taken numbers_of
    taken_back = rw (number_back 4 (omega arith) (omega arith))

-- the mask's octabyte is 0 and then the image comes, old or not: the image with the mask
flat_zero : flat (0 ∷ []) ≡ replicate 8 0
unfolding flat bytes_of
flat_zero = refl

pub mask_first : (r l : List ℕ) → old_image_length ≤ length l → length l ≤ image_length → image_length ≤ length r
    → written (written r old_image_length (flat (0 ∷ []))) 0 l ≡ written r 0 (part l 0 image_length)
mask_first r l a b h =
    ext_get_or 0 (written cleared 0 l) (written r 0 (part l 0 image_length)) (length_written cleared 0 l ∙ long ∙ sym (length_written r 0 (part l 0 image_length)))
    (λ i m. at i (lt_or_le i (length l)) (lt_or_le i image_length))
  where
    cleared : List ℕ
    cleared = written r old_image_length (flat (0 ∷ []))

    long : length cleared ≡ length r
    long = length_written r old_image_length (flat (0 ∷ []))

    full_at : (i : ℕ) → i < image_length → get_or (written r 0 (part l 0 image_length)) i 0 ≡ get_or l i 0
    full_at i m =
        let e : 0 + i ≡ i = omega arith in
        let n : length (part l 0 image_length) ≡ image_length = length_part l 0 image_length in
        rw e at (written_inside r 0 (part l 0 image_length) i (omega arith) (omega arith) ∙ get_d_part l 0 image_length i m)

    at : (i : ℕ) → (i < length l) ⊎ (length l ≤ i) → (i < image_length) ⊎ (image_length ≤ i)
        → get_or (written cleared 0 l) i 0 ≡ get_or (written r 0 (part l 0 image_length)) i 0
    at i (inl m) q =
        let e : 0 + i ≡ i = omega arith in
        rw e at (written_inside cleared 0 l i (omega (arith, long)) m) ∙ sym (full_at i (omega arith))
    at i (inr m) (inl q) =
        let e : old_image_length + (i - old_image_length) ≡ i = omega arith in
        let n : length (flat (0 ∷ [])) ≡ 8 = length_flat (0 ∷ []) in
        written_above cleared 0 l i (omega arith)
        ∙ rw e at (written_inside r old_image_length (flat (0 ∷ [])) (i - old_image_length) (omega arith) (omega arith))
        ∙ ap (λ (z : List ℕ). get_or z (i - old_image_length) 0) flat_zero
        ∙ get_or-replicate 8 (i - old_image_length) 0 0 (omega arith)
        ∙ sym (full_at i q ∙ get_or_eq_default l 0 m)
    at i (inr m) (inr q) =
        written_above cleared 0 l i (omega arith)
        ∙ written_above r old_image_length (flat (0 ∷ [])) i (omega (arith, length_flat (0 ∷ [])))
        ∙ sym (written_above r 0 (part l 0 image_length) i (omega (arith, length_part l 0 image_length)))

-- filled with the same point again it is as it was
pub filled_again : (r : List ℕ) (p : Point) → length r ≡ room_length → PointFits p → filled (filled r p) p ≡ filled r p
unfolding filled
filled_again r p h g =
    let n : length (filled r p) ≡ room_length = length_filled r p ∙ h in
    let e₁ : written (filled r p) 0 p.image ≡ filled r p
    = written_again (filled r p) 0 p.image (omega (arith, n, g.image_long)) (ap (part (filled r p) 0) g.image_long ∙ image_back r p h g) in
    let e₂ : written (filled r p) numbers_at (flat (numbers_of p)) ≡ filled r p
    = written_again (filled r p) numbers_at (flat (numbers_of p)) (omega (arith, n, forty p)) (numbers_back r p h g) in
    let e₃ : written (filled r p) a_at p.a ≡ filled r p = written_again (filled r p) a_at p.a (omega (arith, n, g.long_a)) (a_back r p h g) in
    let e₄ : written (filled r p) b_at p.b ≡ filled r p = written_again (filled r p) b_at p.b (omega (arith, n, g.long_b)) (b_back r p h g) in
    ap (λ (l : List ℕ). written (written (written l numbers_at (flat (numbers_of p))) a_at p.a) b_at p.b) e₁
    ∙ ap (λ (l : List ℕ). written (written l a_at p.a) b_at p.b) e₂
    ∙ ap (λ (l : List ℕ). written l b_at p.b) e₃
    ∙ e₄
