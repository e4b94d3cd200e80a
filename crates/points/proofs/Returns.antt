-- Lists of calls: what was taken last is given back.
use Rattle.model.proofs.Prelude.{ℕ, ◌/◌, ◌<◌, ◌≤◌, Bool, cond, false, true, ◌&&◌, List, [], ◌++◌, ◌∷◌, ⊎_elim, ap, refl, sym, ◌∙◌, ◌≡◌, arith, eqb, ltb}
use Rattle.model.proofs.Prelude.{get_or, length, eq-eqb, eqb-false, eqb-true, ltb-false, ltb-true, at_length, full, image_length, octas_in, old_image_length, Point}
use Rattle.model.proofs.Prelude.{point_count, PointFits, point_in, shape_of, shapes_of, admissible, unruled_by, and_right, on, at_own, part_within}
use Rattle.model.specs.declared.State.{State}
use Rattle.image.specs.Image.{is_image, has_room, state_of}
use Rattle.image.proofs.Coded.{either, at_most, room_new, room_old}
use Rattle.image.proofs.RoundTrips.{keeps_length}
use Rattle.image.proofs.Fronts.{state_full, state_at_law}
use Rattle.points.specs.Store.{room_length, store_length, numbers_of, filled, mask_in, suits, point_of, room_of, store_with_point, shapes_in, from_two, take_reply, room_reply, back_reply, Took, GoneBack}
use Rattle.points.specs.Returns.{Call, took, back, other, left_by, Meets, Chain, last_store, Spares, NoneTaken, TakenLast, LentAs, Returns}
use Rattle.points.proofs.Rooms.{image_back, number_back, point_back, taken_back, behind_a, behind_b}
use Rattle.points.proofs.Stores.{length_room, length_taken, room_same, room_other, beyond}
use Rattle.points.proofs.Answers.{lent_fits, same_shape, two_open, back_two, room_masked, room_open}

-- ---- a point that was taken

-- what each test found
pub record Passed (s : List ℕ) (k : ℕ) (p : Point) : Type 0 where
  pub image_is : (is_image p.image && admissible (state_of p.image)) ≡ true
  pub ruled_is : unruled_by (shapes_in p) ≡ 0
  pub long : store_length ≤ length s
  pub named : k < point_count

pub passed : (s : List ℕ) (k : ℕ) (p : Point) → take_reply s k p ≡ 0 → Passed s k p
unfolding take_reply from_two
passed s k p =
    on P (is_image p.image && admissible (state_of p.image))
    (λ a. on P (eqb (unruled_by (shapes_in p)) 0)
    (λ b. on P (ltb (length s) store_length) (λ c h. absurd (omega arith))
    (λ c. on P (ltb k point_count) (λ d h. record { image_is = a; ruled_is = eqb-true _ _ b; long = ltb-false _ _ c; named = ltb-true _ _ d }) (λ d h. absurd (omega arith))))
    (λ b h. absurd (none b h)))
    (λ a h. absurd (omega arith))
  where
    P : ℕ → Type 0
    P n = n ≡ 0 → Passed s k p

    none : eqb (unruled_by (shapes_in p)) 0 ≡ false → unruled_by (shapes_in p) ≡ 0 → ⊥
    none b h = eqb-false _ _ b h

pub fits : (s : List ℕ) (k : ℕ) (p : Point) → Passed s k p → PointFits (full p)
fits s k p g = lent_fits p 0 (sym g.ruled_is) refl

-- ---- one call

-- a store after a point was taken or not
left : (P : List ℕ → Type 0) (s : List ℕ) (k : ℕ) (p : Point) (n : ℕ) (t : List ℕ) → Took s k p n t
    → (take_reply s k p ≡ 0 → P (store_with_point s k p)) → P s → P t
left P s k p n t g f h = rw g.store_is (on P (eqb (take_reply s k p) 0) (λ z. f (eqb-true _ _ z)) (λ z. h))

kept : (s : List ℕ) (c : Call) (j : ℕ) → Meets s c → Spares j c → j < point_count → room_of (left_by s c) j ≡ room_of s j
unfolding left_by Meets Spares
kept s (took k p n t) j g d b =
    left (λ (l : List ℕ). room_of l j ≡ room_of s j) s k p n t g
    (λ z. let y = passed s k p z in room_other s k p y.long y.named j b (λ e. d (sym e) (g.reply_is ∙ z))) refl
kept s (back k p n q) j g d b = refl
kept s other j g d b = refl

same_behind : (s : List ℕ) (c : Call) (i : ℕ) → Meets s c → store_length ≤ i → get_or (left_by s c) i 0 ≡ get_or s i 0
unfolding left_by Meets
same_behind s (took k p n t) i g b =
    left (λ (l : List ℕ). get_or l i 0 ≡ get_or s i 0) s k p n t g (λ z. let y = passed s k p z in beyond s k p y.long y.named i b) refl
same_behind s (back k p n q) i g b = refl
same_behind s other i g b = refl

same_long : (s : List ℕ) (c : Call) → Meets s c → length (left_by s c) ≡ length s
unfolding left_by Meets
same_long s (took k p n t) g = left (λ (l : List ℕ). length l ≡ length s) s k p n t g (λ z. length_taken s k p) refl
same_long s (back k p n q) g = refl
same_long s other g = refl

-- ---- lists

untouched : (s : List ℕ) (cs : List Call) → Chain s cs → (j : ℕ) → j < point_count → NoneTaken j cs → room_of (last_store s cs) j ≡ room_of s j
unfolding Chain last_store NoneTaken
untouched s [] h j b d = refl
untouched s (c ∷ cs) h j b d = untouched (left_by s c) cs h.1 j b d.1 ∙ kept s c j h.0 d.0 b

behind : (s : List ℕ) (cs : List Call) → Chain s cs → (i : ℕ) → store_length ≤ i → get_or (last_store s cs) i 0 ≡ get_or s i 0
unfolding Chain last_store
behind s [] h i b = refl
behind s (c ∷ cs) h i b = behind (left_by s c) cs h.1 i b ∙ same_behind s c i h.0 b

long : (s : List ℕ) (cs : List Call) → Chain s cs → length (last_store s cs) ≡ length s
unfolding Chain last_store
long s [] h = refl
long s (c ∷ cs) h = long (left_by s c) cs h.1 ∙ same_long s c h.0

-- one list after another
later_chain : (s : List ℕ) (ds bs : List Call) → Chain s (ds ++ bs) → Chain (last_store s ds) bs
unfolding Chain last_store
later_chain s [] bs h = h
later_chain s (c ∷ ds) bs h = later_chain (left_by s c) ds bs h.1

later_store : (s : List ℕ) (ds bs : List Call) → last_store s (ds ++ bs) ≡ last_store (last_store s ds) bs
unfolding last_store
later_store s [] bs = refl
later_store s (c ∷ ds) bs = later_store (left_by s c) ds bs

-- ---- going back

-- the room r with q in it, as it is kept, and p, which is lent
module _ (r : List ℕ) (q p : Point) (h : length r ≡ room_length) (f : PointFits (full q)) (e : LentAs q p) where
  suited : admissible (state_of q.image) ≡ true → suits (filled r (full q)) p.base_a p.base_b (octas_in p.a) (octas_in p.b) ≡ true
  unfolding numbers_of
  suited a =
      sym (same_shape (filled r (full q)) p.base_a p.base_b (octas_in p.a) (octas_in p.b)
      (number_back r (full q) h f 0 (omega arith) f.base_a' ∙ sym e.base_a')
      (number_back r (full q) h f 1 (omega arith) f.base_b' ∙ sym e.base_b')
      (number_back r (full q) h f 2 (omega arith) (omega (arith, f.long_a)) ∙ ap (λ (n : ℕ). n / 8) (sym e.long_a))
      (number_back r (full q) h f 3 (omega arith) (omega (arith, f.long_b)) ∙ ap (λ (n : ℕ). n / 8) (sym e.long_b)))
      ∙ ap (λ (l : List ℕ). admissible (state_of l)) (image_back r (full q) h f) ∙ ap admissible (state_full q.image) ∙ a

  masked_as : mask_in (filled r (full q)) ≡ (state_of q.image).mask
  unfolding mask_in
  masked_as = ap (λ (l : List ℕ). (state_of l).mask) (image_back r (full q) h f) ∙ ap (λ (s : State). s.mask) (state_full q.image)

-- windows lent at the same bases and lengths have the same shapes
same_shapes : (q p : Point) → LentAs q p → shapes_in p ≡ shapes_in q
unfolding shapes_of shape_of
same_shapes q p e = λ i. record { a = record { from = e.base_a' i; size = e.long_a i }; b = record { from = e.base_b' i; size = e.long_b i } }

-- the store u, whose room j is as it was when q was taken into s
module _ (s u : List ℕ) (j : ℕ) (q p : Point) (g : Passed s j q) (l : length u ≡ length s) (e : room_of u j ≡ filled (room_of s j) (full q)) (lent : LentAs q p) where
  open_room : (n : ℕ) → room_reply (room_of u j) p ≡ n → back_reply u j p ≡ n
  open_room n d =
      back_two u j p lent.image_is n
      (two_open u j (shapes_in p) (room_reply (room_of u j) p) 0 (sym (ap unruled_by (same_shapes q p lent) ∙ g.ruled_is)) refl (omega (arith, g.long)) g.named ∙ d)

  fit : PointFits (full q)
  fit = fits s j q g

  held : length (room_of s j) ≡ room_length
  held = length_room s j

  admitted : suits (filled (room_of s j) (full q)) p.base_a p.base_b (octas_in p.a) (octas_in p.b) ≡ true
  admitted = suited (room_of s j) q p held fit lent (and_right (is_image q.image) _ g.image_is)

  kept_mask : (t : Bool) → has_room p.image (state_of q.image).mask ≡ t → has_room p.image (mask_in (filled (room_of s j) (full q))) ≡ t
  kept_mask t d = ap (has_room p.image) (masked_as (room_of s j) q p held fit lent) ∙ d

  given_at : has_room p.image (state_of q.image).mask ≡ true
      → (n : ℕ) (t : Point) → GoneBack u j p n t → (n ≡ 0) × ((t ≡ at_length (length p.image) q) × (state_of t.image ≡ state_of q.image))
  given_at m n t d =
      let z : back_reply u j p ≡ 0 =
      open_room 0 (room_open (filled (room_of s j) (full q)) (room_of u j) (sym e) p (taken_back (room_of s j) (full q) held fit) admitted (kept_mask true m)) in
      let is : t ≡ at_length (length p.image) q =
      d.point_is ∙ ap (λ (m : ℕ). cond (eqb m 0) (at_length (length p.image) (point_of (room_of u j))) p) z
      ∙ ap (λ (r : List ℕ). at_length (length p.image) (point_of r)) e
      ∙ ap (at_length (length p.image)) (point_back (room_of s j) (full q) held fit)
      ∙ ap (λ (i : List ℕ). point_in i q.base_a q.base_b q.a q.b) (part_within q.image image_length 0 (length p.image) (omega (arith, at_most p.image lent.image_is))) in
      (d.reply_is ∙ z, (is, ap (λ (x : Point). state_of x.image) is ∙ state_at_law q.image p.image m))

  given_not : has_room p.image (state_of q.image).mask ≡ false → (n : ℕ) (t : Point) → GoneBack u j p n t → (n ≡ 1) × (t ≡ p)
  given_not m n t d =
      let z : back_reply u j p ≡ 1 =
      open_room 1 (room_masked (filled (room_of s j) (full q)) (room_of u j) (sym e) p (taken_back (room_of s j) (full q) held fit) admitted (kept_mask false m)) in
      (d.reply_is ∙ z, d.point_is ∙ ap (λ (m : ℕ). cond (eqb m 0) (at_length (length p.image) (point_of (room_of u j))) p) z)

-- what was taken last is in its room
pub record InRoom (u : List ℕ) (j : ℕ) (q : Point) : Type 0 where
  pub from : List ℕ
  pub passes : Passed from j q
  pub as_long : length u ≡ length from
  pub room_is : room_of u j ≡ filled (room_of from j) (full q)

last_in : (s : List ℕ) (cs : List Call) → Chain s cs → (j : ℕ) (q : Point) → TakenLast j q cs → InRoom (last_store s cs) j q
unfolding Chain Meets last_store left_by
last_in s cs ch j q l =
    let v : List ℕ = last_store s l.before in
    let w : List ℕ = l.store in
    let all : Chain s (l.before ++ (took j q 0 w ∷ l.after)) = rw (← l.calls_are) ch in
    let here = later_chain s l.before (took j q 0 w ∷ l.after) all in
    let z : take_reply v j q ≡ 0 = sym here.0.reply_is in
    let g : Passed v j q = passed v j q z in
    let is : w ≡ store_with_point v j q = here.0.store_is ∙ ap (λ (m : ℕ). cond (eqb m 0) (store_with_point v j q) v) z in
    let u : last_store s cs ≡ last_store w l.after = ap (last_store s) l.calls_are ∙ later_store s l.before (took j q 0 w ∷ l.after) in
    record {
      from = v;
      passes = g;
      as_long = ap length u ∙ long w l.after here.1 ∙ ap length is ∙ length_taken v j q;
      room_is = ap (λ (x : List ℕ). room_of x j) u ∙ untouched w l.after here.1 j g.named l.none_later
          ∙ ap (λ (x : List ℕ). room_of x j) is ∙ room_same v j q g.long g.named;
    }

-- an image as long as that which was taken has room for its mask
room_as : (k l : List ℕ) → is_image k ≡ true → length k ≡ length l → has_room k (state_of l).mask ≡ true
room_as k l e n = ⊎_elim (λ a. room_new k _ a) (λ a. room_old k _ a ∙ eq-eqb _ 0 (keeps_length.old_mask l (eq-eqb (length l) old_image_length (sym n ∙ a)))) (either k e)

module _ (s : List ℕ) (cs : List Call) (ch : Chain s cs) (j : ℕ) (q : Point) (l : TakenLast j q cs) (p : Point) (lent : LentAs q p) where
  gives_at : has_room p.image (state_of q.image).mask ≡ true
      → (n : ℕ) (t : Point) → GoneBack (last_store s cs) j p n t
      → (n ≡ 0) × ((t ≡ at_length (length p.image) q) × (state_of t.image ≡ state_of q.image))
  gives_at m n t d = let i = last_in s cs ch j q l in given_at i.from (last_store s cs) j q p i.passes i.as_long i.room_is lent m n t d

  gives_not : has_room p.image (state_of q.image).mask ≡ false → (n : ℕ) (t : Point) → GoneBack (last_store s cs) j p n t → (n ≡ 1) × (t ≡ p)
  gives_not m n t d = let i = last_in s cs ch j q l in given_not i.from (last_store s cs) j q p i.passes i.as_long i.room_is lent m n t d

  gives_back : length p.image ≡ length q.image → (n : ℕ) (t : Point) → GoneBack (last_store s cs) j p n t → (n ≡ 0) × (t ≡ q)
  gives_back e n t d =
      let g = gives_at (room_as p.image q.image lent.image_is e) n t d in
      (g.0, g.1.0 ∙ at_own (length p.image) q e)

pub returns : Returns
returns = record {
  gives_back = gives_back;
  gives_at = gives_at;
  gives_not = gives_not;
  untouched = untouched;
  behind = behind;
  long = long;
  rest_a = behind_a;
  rest_b = behind_b;
}
