-- The ways out of place_context: each answers the part that the reader's plan says, and its reply. First the window that holds a run, then
-- the part of it as code finds it by the room there, then the answers. What `locate` tells is in LocateAnswers.
use Rattle.model.proofs.Prelude.{suc, zero, ℕ, ◌*◌, ◌+◌, ◌-◌, ◌<◌, ◌^◌, ◌≤◌, Bool, cond, false, true, true≢false, List, ⊎_elim, ap, refl, sym, ◌∙◌, ◌≡◌, arith}
use Rattle.model.proofs.Prelude.{eqb, drop, length, take, eq-eqb, le-ltb, lt-ltb, ne_eqb, has, holder, offset, shape_of, Shapes, shapes_of, Window, Windows}
use Rattle.model.proofs.Prelude.{number_of, reply_of, lent, across, checked, empty_part, handed, nowhere, octabytes, Part, part_at, part_bytes, read_context, Span}
use Rattle.model.proofs.Prelude.{span_of, window_of, refusing, unruled_by, windows_apart, on, Inside, judged_inside, unruled_none, lt_or_le, numbered, reader_open}
use Rattle.model.proofs.Prelude.{reader_unruled, window_ruled, worst_of}
use Rattle.contexts.proofs.Prelude.{Reply, Across, Done, room_in, has_room, held_b, no_room, room_ends, room_has, run_end, unruled_by_law}
use Rattle.model.specs.declared.Bases.{Bases}
use Rattle.model.proofs.Held.{holder_has, holder_most, whole_one, across_two}
use Rattle.contexts.specs.SaveUnsave.{LocatedIs, place_at, part_in, held_part, PlaceIs}
use Rattle.contexts.specs.declared.layout.SavedContext.{SavedContext}
use Rattle.contexts.specs.SaveUnsave.{Located}
use Rattle.contexts.specs.declared.layout.ContextError.TheVariants.{Bad, Lost}
use Rattle.std.specs.Prelude.{Ok, Err}
use Rattle.contexts.specs.declared.reader.Place.{Place}
use Rattle.contexts.proofs.LocateAnswers.{stands_at, Comes, comes}

-- ---- the window that holds a run

-- the first octabyte of a run that is lent
lent_first : (w : Windows) (a n : ℕ) → 0 < n → Inside w a n → holder (shapes_of w) a ≤ 1
lent_first w a n l h =
    let z : a + 8 * 0 ≡ a = omega arith in
    holder_most (shapes_of w) a (judged_inside (shapes_of w) a (rw z at (worst_of (refusing (shapes_of w)) n a 0 h l)))

-- what B does not have, of what is lent, A holds
rest_a : (w : Shapes) (x : ℕ) → has w.b x ≡ false → holder w x ≤ 1 → holder w x ≡ 0
unfolding holder
rest_a w x h = rw h (go (has w.a x))
  where
    go : (t : Bool) → cond t 0 2 ≤ 1 → ◌≡◌ {A = ℕ} (cond t 0 2) 0
    go true l = refl
    go false l = absurd (omega arith)

-- ---- as code finds it

module _ (w : Windows) (u : unruled_by (shapes_of w) ≡ 0) where
  -- what a window has, it holds: the two have nothing in common
  holds : (k x : ℕ) → k ≤ 1 → has (shape_of (window_of w k)) x ≡ true → holder (shapes_of w) x ≡ k
  holds zero x l h = windows_apart.held_a (shapes_of w) (unruled_none (shapes_of w) u).0 (unruled_none (shapes_of w) u).1 x (unfold shapes_of in h)
  holds (suc zero) x l h = windows_apart.held_b (shapes_of w) (unruled_none (shapes_of w) u).0 (unruled_none (shapes_of w) u).1 x (unfold shapes_of in h)
  holds (suc (suc k)) x l h = absurd (omega arith)

  module _ (a k n : ℕ) (e : holder (shapes_of w) a ≡ k) (l : k ≤ 1) where
    abbrev room : ℕ
    room = room_in (shape_of (window_of w k)) a

    short : (shape_of (window_of w k)).size < 2 ^ 64
    short = omega (arith, (window_ruled w k (unruled_none (shapes_of w) u).0).size_most)

    first_has : has (shape_of (window_of w k)) a ≡ true
    first_has = holder_has w k a l e

    some_room : 0 < room
    some_room = ⊎_elim (λ lt. lt) (λ none. absurd (true≢false (sym first_has ∙ no_room (shape_of (window_of w k)) a (omega arith)))) (lt_or_le 0 room)

    whole : n ≤ room → across (shapes_of w) a n ≡ false
    whole h =
        whole_one (shapes_of w) a n (λ i b. holds k (a + 8 * i) l (room_has (shape_of (window_of w k)) a short i (omega arith)) ∙ sym e)

    broken : room < n → across (shapes_of w) a n ≡ true
    broken h =
        across_two (shapes_of w) a n room h
        (λ q. true≢false (sym (holder_has w k (a + 8 * room) l (q ∙ e)) ∙ room_ends (shape_of (window_of w k)) a short some_room))

    part_held : part_in k (window_of w k) a n ≡ held_part w a n
    unfolding part_in held_part part_at
    part_held = ⊎_elim (λ lt. rw (lt-ltb room n lt, broken lt)) (λ le. rw (le-ltb room n le, whole le, e)) (lt_or_le room n)

    -- a part ends in its window
    part_ends : 0 < n → across (shapes_of w) a n ≡ false → offset (window_of w k).base a + 8 * n ≤ length (window_of w k).bytes
    unfolding shape_of
    part_ends s f =
        ⊎_elim (λ lt. absurd (true≢false (sym (broken lt) ∙ f))) (λ le. run_end (shape_of (window_of w k)) a short n s le) (lt_or_le room n)

  -- by the room in B
  pub part_b : (a n : ℕ) → (room_in (shape_of w.b) a ≡ 0 → ⊥) → part_in 1 w.b a n ≡ held_part w a n
  part_b a n h = part_held a 1 n (held_b (shapes_of w) a (unfold shapes_of in (has_room (shape_of w.b) a h))) (omega arith)

  pub part_a : (a n : ℕ) → 0 < n → Inside w a n → room_in (shape_of w.b) a ≡ 0 → part_in 0 w.a a n ≡ held_part w a n
  part_a a n s i h = part_held a 0 n (rest_a (shapes_of w) a (unfold shapes_of in (no_room (shape_of w.b) a h)) (lent_first w a n s i)) (omega arith)

-- ---- the answers

module _ (w : Windows) (p : ℕ) where
  by_outcome : (n : ℕ) (q : Part) (r : Reply) → r ≡ reply_of n → number_of r ≡ n → q.start + q.size ≤ length (window_of w q.which).bytes
      → read_context w p ≡ record { reply = n; state = q; memory = w } → PlaceIs w p (place_at r q.which q.start q.size)
  unfolding place_at
  by_outcome n q r a b i e = record { reply_is = rw e a; number_is = rw e b; which_is = rw e refl; start_is = rw e refl; size_is = rw e refl; lies_inside = i }

  refused : (n : ℕ) (q : Reply) → q ≡ reply_of n → number_of q ≡ n → read_context w p ≡ record { reply = n; state = empty_part; memory = w } → PlaceIs w p (place_at q 0 0 0)
  refused n q a b e = by_outcome n empty_part q a b (omega arith) e

  pub place_unruled : (n : ℕ) → n ≡ unruled_by (shapes_of w) → (n ≡ 0 → ⊥) → (q : Reply) → q ≡ reply_of n → (k : Place) → k ≡ place_at q 0 0 0 → PlaceIs w p k
  place_unruled n e f q d k z =
      let most : n ≤ 22 = ⊎_elim (λ two. omega arith) (λ shared. omega arith) (unruled_by_law w n e f) in
      rw z (refused n q d (ap number_of d ∙ numbered.number_reply n (omega arith))
      (reader_unruled w p (λ none. f (e ∙ none)) ∙ ap (λ (m : ℕ). record { reply = m; state = empty_part; memory = w }) (sym e)))

  module _ (u : unruled_by (shapes_of w) ≡ 0) (at : Located) (h : LocatedIs w p at) where
    comes_of : Comes w nowhere nowhere span_of at (checked w p)
    comes_of = comes w p nowhere nowhere span_of at h

    by_checks : (r : ℕ) (s : Span) → checked w p ≡ record { reply = r; state = s; memory = w } → read_context w p ≡ handed w r s
    by_checks r s e = reader_open w p u ∙ rw e

    module _ (c : SavedContext) (z : at ≡ Ok c) where
      abbrev octas : ℕ
      octas = c.count + 270 - c.rg

      pub context_lent : (0 < octas) × (octas ≤ 270) × Inside w c.first octas
      context_lent = let s = stands_at w p at h c z in (omega (arith, s.g_high), omega (arith, s.l_g), s.inside)

      reads : read_context w p ≡ cond (across (shapes_of w) c.first octas) (record { reply = 23; state = empty_part; memory = w }) (record { reply = 0; state = part_at w c.first octas; memory = w })
      unfolding handed span_of
      reads = by_checks 0 (octabytes c.first octas) (comes_of.done c z)

      pub place_part : (k : Place) → k ≡ held_part w c.first octas → PlaceIs w p k
      place_part k d = rw d (go (across (shapes_of w) c.first octas) refl)
        where
          go : (t : Bool) → across (shapes_of w) c.first octas ≡ t → PlaceIs w p (held_part w c.first octas)
          go true f = unfold held_part reply_of number_of in rw f (refused 23 Across refl refl (reads ∙ rw f))
          go false f = unfold held_part reply_of number_of in
              rw f (by_outcome 0 (part_at w c.first octas) Done refl refl ends (reads ∙ rw f))
            where
              ends : (part_at w c.first octas).start + (part_at w c.first octas).size ≤ length (window_of w (part_at w c.first octas).which).bytes
              ends = unfold part_at in
                  (part_ends w u c.first (holder (shapes_of w) c.first) octas refl (lent_first w c.first octas context_lent.0 context_lent.2) context_lent.0 f)

    none : (q : Reply) → checked w p ≡ record { reply = number_of q; state = nowhere; memory = w } → (k : Place) → k ≡ place_at q 0 0 0 → PlaceIs w p k
    unfolding handed
    none q e k d = rw d (refused (number_of q) q (sym (numbered.reply_number q)) refl (by_checks (number_of q) nowhere e))

    pub place_lost : (q : Reply) → at ≡ Err (Lost q) → (k : Place) → k ≡ place_at q 0 0 0 → PlaceIs w p k
    place_lost q z = none q (comes_of.lost q z)

    pub place_bad : (q : Reply) → at ≡ Err (Bad q) → (k : Place) → k ≡ place_at q 0 0 0 → PlaceIs w p k
    place_bad q z = none q (comes_of.other q z)

-- ---- the part itself

-- of windows as code lends them, of any length
pub ends_short : (at : Bases) (a b : List ℕ) (k n : ℕ) → length a < 2 ^ 64 → length b < 2 ^ 64 → n ≤ length (window_of (lent at a b) k).bytes → n < 2 ^ 64
ends_short at a b k n la lb = on (λ (v : Window). n ≤ length v.bytes → n < 2 ^ 64) (eqb k 1) (λ e h. omega arith) (λ e h. omega arith)

module _ (w : Windows) (q : Part) (k start size : ℕ) (d : k ≡ q.which) (e : start ≡ q.start) (f : size ≡ q.size) where
  part_bytes_law : take (start + size - start) (drop start (window_of w k).bytes) ≡ part_bytes w q
  part_bytes_law =
      let n : start + size - start ≡ q.size = omega arith in
      rw (n, d, e)

  pub bytes_b : k ≡ 1 → take (start + size - start) (drop start w.b.bytes) ≡ part_bytes w q
  bytes_b h = rw (eq-eqb k 1 h) at part_bytes_law

  pub bytes_a : (k ≡ 1 → ⊥) → take (start + size - start) (drop start w.a.bytes) ≡ part_bytes w q
  bytes_a h = rw (ne_eqb k 1 h) at part_bytes_law
