-- The theorem, from what a room gives back and from what a line tells.
use Rattle.model.proofs.Prelude.{ℕ, ◌*◌, ◌+◌, ◌/◌, ◌<◌, ◌^◌, ◌≤◌, cond, true, List, [], ◌∷◌, inl, inr, ◌≢◌, ◌⊎◌, ap, refl, sym, ◌∙◌, ◌≡◌, arith, eqb, get_or}
use Rattle.model.proofs.Prelude.{length, get_or_eq_default, eq-eqb, full, image_length, OfBytes, old_image_length, Point, point_count, PointFits, part, written}
use Rattle.model.proofs.Prelude.{get_d_part, value_below, lt_or_le, at_own, full_bytes, length_part, written_again}
use Rattle.claims.proofs.Prelude.{State, flat, octas, state_of, state_full, flat_octas, keeps_length, a_at, b_at, filled, mask_in, number_at, numbers_at}
use Rattle.claims.proofs.Prelude.{numbers_of, room_length, room_of, store_length, store_with_point, take_reply, Took, fits, Passed, passed}
use Rattle.point_lines.specs.Line.{digits_at, length_digits, old_length_digits, state_digits, old_state_digits, is_new, is_old, is_short, is_short_old, is_point, state_at, renewed}
use Rattle.point_lines.specs.PointLine.{line_of, name_of, point_by, Told, Read, Older}
use Rattle.point_lines.proofs.Formed.{point_new, point_old, point_short, point_short_old}
use Rattle.point_lines.proofs.Hex.{length_bytes, length_at}
use Rattle.point_lines.proofs.Renewed.{new_same}
use Rattle.point_lines.proofs.PointLine.{each_other}
use Rattle.points.proofs.Rooms.{point_back, filled_again}
use Rattle.points.proofs.Stores.{length_room, room_same, room_other, beyond}
use Rattle.claims.specs.Transfer.{line_from, filled_by, line_in, store_with, line_room, TakenIn, Keeps, Shows, RoomTold, LineTold, Transfers}
use Rattle.point_lines.specs.PointLine as line
use Rattle.points.specs.Store as room

-- what fits has the mask
full_own : (p : Point) → PointFits p → full p ≡ p
full_own p f = at_own image_length p (sym f.image_long)

-- ---- a room

kept_point : (r : List ℕ) (p : Point) → Keeps r p → room.point_of r ≡ p
kept_point r p h = ap room.point_of h.room_is ∙ point_back h.before p h.long h.fits

-- filled with the point that it keeps
kept_again : (r : List ℕ) (p : Point) → Keeps r p → filled r p ≡ r
kept_again r p h = ap (λ (l : List ℕ). filled l p) h.room_is ∙ filled_again h.before p h.long h.fits ∙ sym h.room_is

of_room : (k : ℕ) (r : List ℕ) (p : Point) → k < point_count → Keeps r p → RoomTold k r p
unfolding line_from filled_by
of_room k r p b h =
    let e : room.point_of r ≡ p = kept_point r p h in
    let t : Told k p = each_other.of_point k p b h.fits h.of_bytes in
    let o : line.point_of (line_of k (room.point_of r)) ≡ p = ap (λ (q : Point). line.point_of (line_of k q)) e ∙ t.point_is in
    record {
      is_kept = e;
      line_good = ap (λ (q : Point). is_point (line_of k q)) e ∙ t.line_good;
      name_is = ap (λ (q : Point). name_of (line_of k q)) e ∙ t.name_is;
      point_is = o ∙ sym e;
      room_left = ap (filled r) o ∙ kept_again r p h;
    }

put_keeps : (l r : List ℕ) → is_point l ≡ true → length r ≡ room_length → Keeps (filled r (line.point_of l)) (line.point_of l)
put_keeps l r g n = record {
  before = r;
  long = n;
  room_is = refl;
  fits = (each_other.of_line l g).point_fits;
  of_bytes = (each_other.of_line l g).of_bytes;
}

of_line : (l r : List ℕ) → is_point l ≡ true → length r ≡ room_length → LineTold l r
unfolding line_from filled_by
of_line l r g n =
    let h : Keeps (filled r (line.point_of l)) (line.point_of l) = put_keeps l r g n in
    let e : room.point_of (filled r (line.point_of l)) ≡ line.point_of l = kept_point _ (line.point_of l) h in
    record { keeps = h; point_is = e; line_is = ap (line_of (name_of l)) e ∙ (each_other.of_line l g).line_is }

-- ---- a room by its bytes

module _ (r : List ℕ) (h : Shows r) where
  part_bytes_law : (o n i : ℕ) → get_or (part r o n) i 0 < 256
  part_bytes_law o n i = at (lt_or_le i n)
    where
      at : (i < n) ⊎ (n ≤ i) → get_or (part r o n) i 0 < 256
      at (inl m) = rw (get_d_part r o n i m) (h.bytes (o + i))
      at (inr m) = rw (get_or_eq_default (part r o n) 0 {n = i} (omega (arith, length_part r o n))) (omega arith)

  word : (k : ℕ) → number_at r k < 2 ^ 64
  unfolding number_at
  word k = value_below r (numbers_at + 8 * k) 8 h.bytes

  its_octas : (o n : ℕ) → length (part r o (8 * n)) / 8 ≡ n
  its_octas o n = ap (λ (k : ℕ). k / 8) (length_part r o (8 * n)) ∙ omega arith

  five : octas r numbers_at 5 ≡ number_at r 0 ∷ number_at r 1 ∷ number_at r 2 ∷ number_at r 3 ∷ number_at r 4 ∷ []
  unfolding octas number_at
  five = refl

  its_numbers : numbers_of (room.point_of r) ≡ octas r numbers_at 5
  unfolding numbers_of room.point_of
  its_numbers = rw (its_octas a_at (number_at r 2), its_octas b_at (number_at r 3), five, h.is_one)

  -- a part written where it stands
  own_part : (o n : ℕ) → o + n ≤ room_length → written r o (part r o n) ≡ r
  own_part o n b = written_again r o (part r o n) (omega (arith, length_part r o n, h.long)) (ap (part r o) (length_part r o n))

  own_point : filled r (room.point_of r) ≡ r
  unfolding filled room.point_of
  own_point =
      ap (λ (l : List ℕ). written (written (written l numbers_at (flat (numbers_of (room.point_of r)))) a_at (part r a_at (8 * number_at r 2))) b_at (part r b_at (8 * number_at r 3)))
      (own_part 0 image_length (omega arith))
      ∙ ap (λ (l : List ℕ). written (written (written r numbers_at l) a_at (part r a_at (8 * number_at r 2))) b_at (part r b_at (8 * number_at r 3)))
      (ap flat its_numbers ∙ flat_octas r h.bytes numbers_at 5)
      ∙ ap (λ (l : List ℕ). written (written l a_at (part r a_at (8 * number_at r 2))) b_at (part r b_at (8 * number_at r 3))) (own_part numbers_at 40 (omega arith))
      ∙ ap (λ (l : List ℕ). written l b_at (part r b_at (8 * number_at r 3))) (own_part a_at (8 * number_at r 2) (omega (arith, h.long_a)))
      ∙ own_part b_at (8 * number_at r 3) (omega (arith, h.long_b))

  by_bytes : Keeps r (room.point_of r)
  unfolding room.point_of
  by_bytes = record {
    before = r;
    long = h.long;
    room_is = sym own_point;
    fits = record {
      image_long = length_part r 0 image_length;
      base_a' = word 0;
      base_b' = word 1;
      long_a = omega (arith, length_part r a_at (8 * number_at r 2), h.long_a);
      long_b = omega (arith, length_part r b_at (8 * number_at r 3), h.long_b);
      whole_a = omega (arith, length_part r a_at (8 * number_at r 2));
      whole_b = omega (arith, length_part r b_at (8 * number_at r 3));
    };
    of_bytes = record {
      image_bytes = part_bytes_law 0 image_length;
      a_bytes = part_bytes_law a_at (8 * number_at r 2);
      b_bytes = part_bytes_law b_at (8 * number_at r 3);
    };
  }

-- ---- a store

of_take_full : (s : List ℕ) (k : ℕ) (p : Point) (t : List ℕ) → Took s k p 0 t → OfBytes p → Keeps (room_of t k) (full p)
of_take_full s k p t h o =
    let z : take_reply s k p ≡ 0 = sym h.reply_is in
    let g : Passed s k p = passed s k p z in
    let is : t ≡ store_with_point s k p = h.store_is ∙ ap (λ (m : ℕ). cond (eqb m 0) (store_with_point s k p) s) z in
    record {
      before = room_of s k;
      long = length_room s k;
      room_is = ap (λ (l : List ℕ). room_of l k) is ∙ room_same s k p g.long g.named;
      fits = fits s k p g;
      of_bytes = full_bytes p o;
    }

of_take : (s : List ℕ) (k : ℕ) (p : Point) (t : List ℕ) → Took s k p 0 t → OfBytes p → length p.image ≡ image_length → Keeps (room_of t k) p
of_take s k p t h o n = let e : full p ≡ p = at_own image_length p (sym n) in rw e at (of_take_full s k p t h o)

its_image : (r : List ℕ) → (room.point_of r).image ≡ part r 0 image_length
unfolding room.point_of
its_image r = refl

old_image : (w : ℕ) (l : List ℕ) → length (point_by w old_state_digits l).image ≡ old_image_length
unfolding point_by
old_image w l = length_bytes old_image_length (digits_at l (state_at w) old_state_digits) (length_at l (state_at w) old_state_digits)

-- a room into which a point that fits was taken
same_room : (s : List ℕ) (k : ℕ) (p : Point) → store_length ≤ length s → k < point_count → PointFits p → room_of (store_with_point s k p) k ≡ filled (room_of s k) p
same_room s k p n b f = room_same s k p n b ∙ ap (filled (room_of s k)) (full_own p f)

-- a store into which the point of its own room k is taken
taken_again : (s : List ℕ) (k : ℕ) (p : Point) → store_length ≤ length s → k < point_count → Keeps (room_of s k) p → store_with_point s k p ≡ s
unfolding store_with_point room_of
taken_again s k p n b h =
    let e : filled (room_of s k) (full p) ≡ room_of s k = ap (filled (room_of s k)) (full_own p h.fits) ∙ kept_again (room_of s k) p h in
    ap (written s (k * room_length)) e
    ∙ written_again s (k * room_length) (room_of s k) (omega (arith, length_room s k)) (ap (part s (k * room_length)) (length_room s k))

-- the line of the point in room k, put into a store
by_own_line : (s u : List ℕ) (k : ℕ) (p : Point) → k < point_count → Keeps (room_of s k) p → store_with u (line_in s k) ≡ store_with_point u k p
unfolding store_with line_in
by_own_line s u k p b h =
    let t : RoomTold k (room_of s k) p = of_room k (room_of s k) p b h in
    ap (λ (n : ℕ). store_with_point u n (line.point_of (line_from k (room_of s k)))) t.name_is ∙ ap (store_with_point u k) (t.point_is ∙ t.is_kept)

store_left : (s : List ℕ) (k : ℕ) (p : Point) → store_length ≤ length s → k < point_count → Keeps (room_of s k) p → store_with s (line_in s k) ≡ s
store_left s k p n b h = by_own_line s s k p b h ∙ taken_again s k p n b h

-- the room that a line's point is put into
line_room_law : (s l : List ℕ) → store_length ≤ length s → is_point l ≡ true → room_of (store_with s l) (name_of l) ≡ filled_by (room_of s (name_of l)) l
unfolding store_with filled_by
line_room_law s l n g = let r : Read l = each_other.of_line l g in same_room s (name_of l) (line.point_of l) n r.name_small r.point_fits

line_renewed : (s l : List ℕ) → store_length ≤ length s → is_point l ≡ true → line_in (store_with s l) (name_of l) ≡ renewed l
unfolding line_in
line_renewed s l n g = ap (line_from (name_of l)) (line_room_law s l n g) ∙ (of_line l (room_of s (name_of l)) g (length_room s (name_of l))).line_is

line_left : (s l : List ℕ) → store_length ≤ length s → is_new l ≡ true → line_in (store_with s l) (name_of l) ≡ l
line_left s l n g = line_renewed s l n (point_new l g) ∙ new_same l g

-- a line of an older form
module _ (s l : List ℕ) (n : store_length ≤ length s) (g : is_point l ≡ true) where
  older_in : (w d : ℕ) → Older w d l → TakenIn w d s l
  older_in w d o = ap room.point_of (line_room_law s l n g) ∙ (of_line l (room_of s (name_of l)) g (length_room s (name_of l))).point_is ∙ o.point_is

  -- with an old image
  old_mask : (w : ℕ) → (state_of (part (point_by w old_state_digits l).image 0 image_length)).mask ≡ 0
  old_mask w =
      ap (λ (t : State). t.mask) (state_full (point_by w old_state_digits l).image)
      ∙ keeps_length.old_mask (point_by w old_state_digits l).image (eq-eqb _ old_image_length (old_image w l))

  unmasked : (w : ℕ) → Older w old_state_digits l → TakenIn w old_state_digits s l × (mask_in (line_room s l) ≡ 0)
  unfolding mask_in
  unmasked w o =
      let p : TakenIn w old_state_digits s l = older_in w old_state_digits o in
      (p, ap (λ (i : List ℕ). (state_of i).mask) (sym (its_image _) ∙ ap (λ (q : Point). q.image) p) ∙ old_mask w)

old_in : (s l : List ℕ) → store_length ≤ length s → is_old l ≡ true → TakenIn length_digits old_state_digits s l × (mask_in (line_room s l) ≡ 0)
old_in s l n e = unmasked s l n (point_old l e) length_digits (each_other.of_old l e)

short_in : (s l : List ℕ) → store_length ≤ length s → is_short l ≡ true → TakenIn old_length_digits state_digits s l
short_in s l n e = older_in s l n (point_short l e) old_length_digits state_digits (each_other.of_short l e)

short_old_in : (s l : List ℕ) → store_length ≤ length s → is_short_old l ≡ true → TakenIn old_length_digits old_state_digits s l × (mask_in (line_room s l) ≡ 0)
short_old_in s l n e = unmasked s l n (point_short_old l e) old_length_digits (each_other.of_short_old l e)

moved : (s u : List ℕ) (k : ℕ) (p : Point) → store_length ≤ length u → k < point_count → Keeps (room_of s k) p → Keeps (room_of (store_with u (line_in s k)) k) p
moved s u k p n b h = record {
  before = room_of u k;
  long = length_room u k;
  room_is = ap (λ (l : List ℕ). room_of l k) (by_own_line s u k p b h) ∙ same_room u k p n b h.fits;
  fits = h.fits;
  of_bytes = h.of_bytes;
}

others : (s l : List ℕ) → store_length ≤ length s → is_point l ≡ true → (j : ℕ) → j < point_count → j ≢ name_of l → room_of (store_with s l) j ≡ room_of s j
unfolding store_with
others s l n g j b d = room_other s (name_of l) (line.point_of l) n (each_other.of_line l g).name_small j b d

behind : (s l : List ℕ) → store_length ≤ length s → is_point l ≡ true → (i : ℕ) → store_length ≤ i → get_or (store_with s l) i 0 ≡ get_or s i 0
unfolding store_with
behind s l n g i b = beyond s (name_of l) (line.point_of l) n (each_other.of_line l g).name_small i b

pub transfers : Transfers
transfers = record {
  of_room = of_room;
  of_line = of_line;
  by_bytes = by_bytes;
  of_take = of_take;
  of_take_full = of_take_full;
  store_left = store_left;
  line_left = line_left;
  line_renewed = line_renewed;
  old_in = old_in;
  short_in = short_in;
  short_old_in = short_old_in;
  moved = moved;
  others = others;
  behind = behind;
}
