-- The order in which taking and going back are judged, case by case; and the points of the store, computed.
use Rattle.model.proofs.Prelude.{ℕ, ◌<◌, ◌≤◌, Bool, false, true, ◌&&◌, List, refl, ◌∙◌, ◌≡◌, arith, eqb, length, le-ltb, lt-ltb, image_length, octas_in, Point}
use Rattle.model.proofs.Prelude.{point_count, has, inside, offset, ruled, ruled_one, shape_of, Shapes, shapes_of, shares, bytes_of, octa, part, value_of, admissible}
use Rattle.model.proofs.Prelude.{fresh, hideable, hides, with_special, unruled_by, unruled_shared, unruled_two}
use Rattle.machine.specs.Octabytes.{flat, octas}
use Rattle.image.specs.Image.{image_of, state_of, is_image, has_room}
use Rattle.points.specs.Store.{numbers_of, number_at, is_taken, store_length, room_of, shapes_in, from_two, take_reply, suits, mask_in, room_reply, back_reply}
use Rattle.points.specs.StoreOrder.{PointsInOrder, point, places_met, taken_met, suits_met, room_replies, window_replies, StoreExamplesMet, StoreLimits}

-- ---- 2, 22, 26, 27

from_two_law : (s : List ℕ) (k : ℕ) (w : Shapes) (n : ℕ) → ruled w ≡ false → from_two s k w n ≡ 2
unfolding from_two
from_two_law s k w n r = rw (unruled_two w r)

from_shared : (s : List ℕ) (k : ℕ) (w : Shapes) (n : ℕ) → ruled w ≡ true → shares w ≡ true → from_two s k w n ≡ 22
unfolding from_two
from_shared s k w n r h = rw (unruled_shared w r h)

from_short : (s : List ℕ) (k : ℕ) (w : Shapes) (n : ℕ) → unruled_by w ≡ 0 → length s < store_length → from_two s k w n ≡ 26
unfolding from_two
from_short s k w n u l = rw (u, lt-ltb (length s) store_length l)

from_name : (s : List ℕ) (k : ℕ) (w : Shapes) (n : ℕ) → unruled_by w ≡ 0 → store_length ≤ length s → point_count ≤ k → from_two s k w n ≡ 27
unfolding from_two
from_name s k w n u l m = rw (u, le-ltb (length s) store_length l, le-ltb k point_count m)

from_done : (s : List ℕ) (k : ℕ) (w : Shapes) (n : ℕ) → unruled_by w ≡ 0 → store_length ≤ length s → k < point_count → from_two s k w n ≡ n
unfolding from_two
from_done s k w n u l m = rw (u, le-ltb (length s) store_length l, lt-ltb k point_count m)

-- ---- taking and going back, once 1 has passed

took : (s : List ℕ) (k : ℕ) (p : Point) → (is_image p.image && admissible (state_of p.image)) ≡ true → take_reply s k p ≡ from_two s k (shapes_in p) 0
unfolding take_reply
took s k p e = rw e

went : (s : List ℕ) (k : ℕ) (p : Point) → is_image p.image ≡ true → back_reply s k p ≡ from_two s k (shapes_in p) (room_reply (room_of s k) p)
unfolding back_reply
went s k p e = rw e

-- and 2, 22, 26 and 27 of the name
roomed : (s : List ℕ) (k : ℕ) (p : Point) → is_image p.image ≡ true → unruled_by (shapes_in p) ≡ 0 → store_length ≤ length s → k < point_count → back_reply s k p ≡ room_reply (room_of s k) p
roomed s k p i u l m = went s k p i ∙ from_done s k (shapes_in p) (room_reply (room_of s k) p) u l m

-- a point whose state is not admissible suits nothing
unsuited : (r : List ℕ) (x y m n : ℕ) → admissible (state_of (part r 0 image_length)) ≡ false → suits r x y m n ≡ false
unfolding suits
unsuited r x y m n a =
    go (eqb (number_at r 0) x) (eqb (number_at r 1) y) (eqb (number_at r 2) m) (eqb (number_at r 3) n)
  where
    go : (b c d e : Bool) → (b && (c && (d && (e && admissible (state_of (part r 0 image_length)))))) ≡ false
    go false c d e = refl
    go true false d e = refl
    go true true false e = refl
    go true true true false = refl
    go true true true true = a

other_point : (r : List ℕ) (p : Point) → is_taken r ≡ true → suits r p.base_a p.base_b (octas_in p.a) (octas_in p.b) ≡ false → room_reply r p ≡ 28
unfolding room_reply
other_point r p t f = rw (t, f)

pub points_in_order : PointsInOrder
points_in_order = record {
  take_one = λ s k p e. unfold take_reply in (rw e);
  take_two = λ s k p e r. took s k p e ∙ from_two_law s k (shapes_in p) 0 r;
  take_shared = λ s k p e r h. took s k p e ∙ from_shared s k (shapes_in p) 0 r h;
  take_short = λ s k p e u l. took s k p e ∙ from_short s k (shapes_in p) 0 u l;
  take_name = λ s k p e u l m. took s k p e ∙ from_name s k (shapes_in p) 0 u l m;
  take_done = λ s k p e u l m. took s k p e ∙ from_done s k (shapes_in p) 0 u l m;
  back_one = λ s k p e. unfold back_reply in (rw e);
  back_two = λ s k p e r. went s k p e ∙ from_two_law s k (shapes_in p) _ r;
  back_shared = λ s k p e r h. went s k p e ∙ from_shared s k (shapes_in p) _ r h;
  back_short = λ s k p e u l. went s k p e ∙ from_short s k (shapes_in p) _ u l;
  back_name = λ s k p e u l m. went s k p e ∙ from_name s k (shapes_in p) _ u l m;
  back_none = λ s k p e u l m t. roomed s k p e u l m ∙ (unfold room_reply in (rw t));
  back_other = λ s k p e u l m t f. roomed s k p e u l m ∙ other_point (room_of s k) p t f;
  back_old = λ s k p e u l m t f h. roomed s k p e u l m ∙ (unfold room_reply in (rw (t, f, h)));
  back_done = λ s k p e u l m t f h. roomed s k p e u l m ∙ (unfold room_reply in (rw (t, f, h)));
  back_inadmissible = λ s k p e u l m t a. roomed s k p e u l m ∙ other_point (room_of s k) p t (unsuited (room_of s k) _ _ _ _ a);
}

-- ---- points

pub store_examples_met : StoreExamplesMet
unfolding numbers_of number_at is_taken places_met taken_met suits_met room_replies window_replies suits mask_in room_reply from_two flat part value_of bytes_of image_of state_of octas has_room fresh with_special hideable hides admissible shapes_of shape_of ruled_one ruled shares unruled_by offset has inside octa
store_examples_met = (refl, refl, refl, refl, refl, refl, refl)

ruled_point : unruled_by (shapes_in point) ≡ 0
unfolding shapes_of shape_of ruled_one ruled shares unruled_by offset has inside octa
ruled_point = refl

pub store_limits : StoreLimits
store_limits = record {
  first_room = λ s. unfold room_of in refl;
  second_room = λ s. unfold room_of in refl;
  last_room = λ s. unfold room_of in refl;
  short = λ s k n e. from_short s k (shapes_in point) n ruled_point (omega (arith, e));
  last_name = λ s n e. from_done s 15 (shapes_in point) n ruled_point (omega (arith, e)) (omega arith);
  no_name = λ s n e. from_name s 16 (shapes_in point) n ruled_point (omega (arith, e)) (omega arith);
}
