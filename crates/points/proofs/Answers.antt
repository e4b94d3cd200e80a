-- What take and go_back answer, from what their tests tell.
use Rattle.model.proofs.Prelude.{ℕ, ◌%◌, ◌*◌, ◌<◌, ◌^◌, ◌≤◌, Bool, false, true, ◌&&◌, List, ◌++◌, ap, sym, ◌∙◌, ◌≡◌, arith, eqb, ltb, drop}
use Rattle.model.proofs.Prelude.{length, take, eq-eqb, eqb-true, le-ltb, leb-true, lt-ltb, ne_eqb, at_length, full, image_length, octas_in, Point, point_count}
use Rattle.model.proofs.Prelude.{PointFits, point_in, ruled, ruled_one, Shape, shape_of, Shapes, shapes_of, window_max, part, written, admissible, unruled_by, Ruled}
use Rattle.model.proofs.Prelude.{ruled_a, ruled_b, and_left, and_right, unruled_none, length_part, part_lent, part_within, written_lent}
use Rattle.image.specs.Image.{is_image, has_room, state_of}
use Rattle.image.proofs.Coded.{is_new'}
use Rattle.points.specs.Store.{a_at, b_at, room_length, store_length, filled, number_at, is_taken, point_of, room_of, store_with_point, shapes_in, from_two, take_reply, mask_in, suits, room_reply, back_reply, Took, GoneBack}
use Rattle.points.proofs.Rooms.{length_filled}

-- ---- what is lent and passes

size_fits : (w : Shape) → ruled_one w ≡ true → w.size ≤ window_max
unfolding ruled_one
size_fits w e = leb-true _ _ (and_right (eqb (w.size % 8) 0) _ (and_right (ltb w.from (2 ^ 64)) _ (and_right (eqb (w.from % 8) 0) _ e)))

-- what neither 2 nor 22 refuses has room in a store
pub lent_fits : (p : Point) (m : ℕ) → m ≡ unruled_by (shapes_in p) → m ≡ 0 → PointFits (full p)
unfolding ruled shapes_of shape_of
lent_fits p m e z =
    let r : ruled (shapes_in p) ≡ true = (unruled_none (shapes_in p) (sym e ∙ z)).0 in
    let a : Ruled (shapes_in p).a = ruled_a (shapes_in p) r in
    let b : Ruled (shapes_in p).b = ruled_b (shapes_in p) r in
    record {
      image_long = length_part p.image 0 image_length;
      base_a' = a.base_word;
      base_b' = b.base_word;
      long_a = size_fits (shapes_in p).a (and_left (ruled_one (shapes_in p).a) _ r);
      long_b = size_fits (shapes_in p).b (and_right (ruled_one (shapes_in p).a) _ r);
      whole_a = omega (arith, a.size_octas);
      whole_b = omega (arith, b.size_octas);
    }

-- ---- the order of judging

module _ (s : List ℕ) (k : ℕ) (w : Shapes) (n : ℕ) where
  -- 2 and 22
  pub two_unruled : (m : ℕ) → m ≡ unruled_by w → (m ≡ 0 → ⊥) → from_two s k w n ≡ m
  unfolding from_two
  two_unruled m e f = rw (ne_eqb (unruled_by w) 0 (λ z. f (e ∙ z))) (sym e)

  module _ (m : ℕ) (e : m ≡ unruled_by w) (z : m ≡ 0) where
    pub two_short : length s < store_length → from_two s k w n ≡ 26
    unfolding from_two
    two_short h = rw (eq-eqb (unruled_by w) 0 (sym e ∙ z), lt-ltb (length s) store_length h)

    pub two_name : store_length ≤ length s → point_count ≤ k → from_two s k w n ≡ 27
    unfolding from_two
    two_name h l = rw (eq-eqb (unruled_by w) 0 (sym e ∙ z), le-ltb (length s) store_length h, le-ltb k point_count l)

    pub two_open : store_length ≤ length s → k < point_count → from_two s k w n ≡ n
    unfolding from_two
    two_open h l = rw (eq-eqb (unruled_by w) 0 (sym e ∙ z), le-ltb (length s) store_length h, lt-ltb k point_count l)

module _ (s : List ℕ) (k : ℕ) (p : Point) where
  pub take_one : (is_image p.image && admissible (state_of p.image)) ≡ false → take_reply s k p ≡ 1
  unfolding take_reply
  take_one e = rw e

  pub take_two : (is_image p.image && admissible (state_of p.image)) ≡ true → (n : ℕ) → from_two s k (shapes_in p) 0 ≡ n → take_reply s k p ≡ n
  unfolding take_reply
  take_two e n f = rw e f

  pub back_one : is_image p.image ≡ false → back_reply s k p ≡ 1
  unfolding back_reply
  back_one e = rw e

  pub back_two : is_image p.image ≡ true → (n : ℕ) → from_two s k (shapes_in p) (room_reply (room_of s k) p) ≡ n → back_reply s k p ≡ n
  unfolding back_reply
  back_two e n f = rw e f

-- ---- a room

module _ (r : List ℕ) (x y m n : ℕ) where
  pub same_shape : number_at r 0 ≡ x → number_at r 1 ≡ y → number_at r 2 ≡ m → number_at r 3 ≡ n → admissible (state_of (part r 0 image_length)) ≡ suits r x y m n
  unfolding suits
  same_shape e f g h = rw (eq-eqb (number_at r 0) x e, eq-eqb (number_at r 1) y f, eq-eqb (number_at r 2) m g, eq-eqb (number_at r 3) n h)

-- the image at the front of a room
pub front_admissible : (r : List ℕ) (n : ℕ) → n ≡ image_length → image_length ≤ length r
    → (is_image (take n (drop 0 r)) && admissible (state_of (take n (drop 0 r)))) ≡ admissible (state_of (part r 0 image_length))
front_admissible r n e h =
    let f : take n (drop 0 r) ≡ part r 0 image_length = ap (λ (i : ℕ). take i (drop 0 r)) e ∙ part_lent r 0 image_length (omega arith) in
    ap (λ (l : List ℕ). is_image l && admissible (state_of l)) f
    ∙ ap (λ (t : Bool). t && admissible (state_of (part r 0 image_length))) (is_new' (part r 0 image_length) (length_part r 0 image_length))

-- of a room as it is lent
module _ (l r : List ℕ) (e : l ≡ r) (p : Point) where
  pub room_none : is_taken l ≡ false → room_reply r p ≡ 27
  unfolding room_reply
  room_none f = rw (← e, f)

  pub room_unlike : is_taken l ≡ true → suits l p.base_a p.base_b (octas_in p.a) (octas_in p.b) ≡ false → room_reply r p ≡ 28
  unfolding room_reply
  room_unlike f g = rw (← e, f, g)

  module _ (f : is_taken l ≡ true) (g : suits l p.base_a p.base_b (octas_in p.a) (octas_in p.b) ≡ true) where
    pub room_masked : has_room p.image (mask_in l) ≡ false → room_reply r p ≡ 1
    unfolding room_reply
    room_masked h = rw (← e, f, g, h)

    pub room_open : has_room p.image (mask_in l) ≡ true → room_reply r p ≡ 0
    unfolding room_reply
    room_open h = rw (← e, f, g, h)

-- ---- a part of the store that is lent

-- a room as a slice
pub room_lent : (s : List ℕ) (k n : ℕ) → store_length ≤ length s → k < point_count → n ≡ room_length → take n (drop (k * room_length) s) ≡ room_of s k
unfolding room_of
room_lent s k n h m e = ap (λ (i : ℕ). take i (drop (k * room_length) s)) e ∙ part_lent s (k * room_length) room_length (omega arith)

-- ---- the calls

module _ (s : List ℕ) (k : ℕ) (p : Point) where
  pub took_not : (n : ℕ) → (n ≡ 0 → ⊥) → take_reply s k p ≡ n → Took s k p n s
  took_not n d e = record { reply_is = sym e; store_is = rw (e, ne_eqb n 0 d) }

  pub took_done : take_reply s k p ≡ 0 → store_length ≤ length s → k < point_count
      → (n : ℕ) (r : List ℕ) → n ≡ room_length → r ≡ filled (take n (drop (k * room_length) s)) (full p)
      → Took s k p 0 (take (k * room_length) s ++ (r ++ drop n (drop (k * room_length) s)))
  unfolding store_with_point room_of
  took_done z h m n r e f = record { reply_is = sym z; store_is = whole ∙ rw z }
    where
      same : r ≡ filled (room_of s k) (full p)
      same = f ∙ ap (λ (l : List ℕ). filled l (full p)) (room_lent s k n h m e)

      long : length r ≡ n
      long = ap length same ∙ length_filled (room_of s k) (full p) ∙ length_part s (k * room_length) room_length ∙ sym e

      whole : take (k * room_length) s ++ (r ++ drop n (drop (k * room_length) s)) ≡ written s (k * room_length) (filled (room_of s k) (full p))
      whole = written_lent s r (k * room_length) n long (omega (arith, e)) ∙ ap (written s (k * room_length)) same

  pub back_not : (n : ℕ) → (n ≡ 0 → ⊥) → back_reply s k p ≡ n → GoneBack s k p n p
  back_not n d e = record { reply_is = sym e; point_is = rw (e, ne_eqb n 0 d) }

  pub back_done : back_reply s k p ≡ 0 → length p.image ≤ image_length → (r : List ℕ) → r ≡ room_of s k
      → suits r p.base_a p.base_b (octas_in p.a) (octas_in p.b) ≡ true
      → 8 * octas_in p.a ≡ length p.a → 8 * octas_in p.b ≡ length p.b
      → (l a b : List ℕ) → l ≡ part r 0 (length p.image) → a ≡ part r a_at (length p.a) → b ≡ part r b_at (length p.b)
      → GoneBack s k p 0 (point_in l p.base_a p.base_b a b)
  unfolding suits point_of
  back_done z m r e f wa wb l a b el ea eb = record { reply_is = sym z; point_is = whole ∙ ap (λ (k : List ℕ). at_length (length p.image) (point_of k)) e ∙ rw z }
    where
      whole : point_in l p.base_a p.base_b a b ≡ at_length (length p.image) (point_of r)
      whole =
          let f1 = and_right (eqb (number_at r 0) p.base_a) _ f in
          let f2 = and_right (eqb (number_at r 1) p.base_b) _ f1 in
          let f3 = and_right (eqb (number_at r 2) (octas_in p.a)) _ f2 in
          let n0 : p.base_a ≡ number_at r 0 = sym (eqb-true _ _ (and_left (eqb (number_at r 0) p.base_a) _ f)) in
          let n1 : p.base_b ≡ number_at r 1 = sym (eqb-true _ _ (and_left (eqb (number_at r 1) p.base_b) _ f1)) in
          let n2 : number_at r 2 ≡ octas_in p.a = eqb-true _ _ (and_left (eqb (number_at r 2) (octas_in p.a)) _ f2) in
          let n3 : number_at r 3 ≡ octas_in p.b = eqb-true _ _ (and_left (eqb (number_at r 3) (octas_in p.b)) _ f3) in
          λ i. record {
            image = (el ∙ sym (part_within r image_length 0 (length p.image) (omega arith))) i;
            base_a = n0 i;
            base_b = n1 i;
            a = (ea ∙ ap (part r a_at) (sym (ap (λ (n : ℕ). 8 * n) n2 ∙ wa))) i;
            b = (eb ∙ ap (part r b_at) (sym (ap (λ (n : ℕ). 8 * n) n3 ∙ wb))) i;
          }
