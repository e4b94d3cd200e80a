-- Windows that obey their rules; and that two of them share an octabyte just where one lies in both.
use Rattle.model.proofs.Logic.{ℕ, ◌%◌, ◌+◌, ◌-◌, ◌<◌, ◌^◌, ◌≤◌, Bool, false, true, ◌&&◌, ◌||◌, ⊎_elim, refl, sym, ◌∙◌, ◌≡◌, arith, eqb, leb, ltb}
use Rattle.model.proofs.Logic.{eqb-true, le-leb, leb-true, lt-ltb, ltb-true}
use Rattle.model.specs.Octa.{octa}
use Rattle.model.specs.Memory.{window_max, Shape, ruled_one, offset, has, Shapes, holder, ruled, shares}
use Rattle.model.specs.Apart.{Common, WindowsApart}
use Rattle.model.proofs.Bools.{and_left, and_right}
use Rattle.model.proofs.Fill.{lt_or_le}

-- ---- a ruled window

pub record Ruled (w : Shape) : Type 0 where
  pub base_aligned : w.from % 8 ≡ 0
  pub base_word : w.from < 2 ^ 64
  pub size_octas : w.size % 8 ≡ 0
  pub size_most : w.size < 2 ^ 60

one_ruled : (w : Shape) → ruled_one w ≡ true → Ruled w
unfolding ruled_one
one_ruled w e =
    let e1 : (ltb w.from (2 ^ 64) && (eqb (w.size % 8) 0 && leb w.size window_max)) ≡ true = and_right (eqb (w.from % 8) 0) _ e in
    let e2 : (eqb (w.size % 8) 0 && leb w.size window_max) ≡ true = and_right (ltb w.from (2 ^ 64)) _ e1 in
    record {
      base_aligned = eqb-true _ _ (and_left (eqb (w.from % 8) 0) _ e);
      base_word = ltb-true _ _ (and_left (ltb w.from (2 ^ 64)) _ e1);
      size_octas = eqb-true _ _ (and_left (eqb (w.size % 8) 0) _ e2);
      size_most = let m : w.size ≤ window_max = leb-true _ _ (and_right (eqb (w.size % 8) 0) _ e2) in omega arith;
    }

pub ruled_a : (w : Shapes) → ruled w ≡ true → Ruled w.a
unfolding ruled
ruled_a w e = one_ruled w.a (and_left (ruled_one w.a) _ e)

pub ruled_b : (w : Shapes) → ruled w ≡ true → Ruled w.b
unfolding ruled
ruled_b w e = one_ruled w.b (and_right (ruled_one w.a) _ e)

-- ---- an octabyte in both

-- distances on the circle: of o from p and from q, the first the larger, the difference is that of q from p
turn : (p q o : ℕ) → p < 2 ^ 64 → q < 2 ^ 64 → o < 2 ^ 64 → (o + (2 ^ 64 - q)) % 2 ^ 64 ≤ (o + (2 ^ 64 - p)) % 2 ^ 64
    → (q + (2 ^ 64 - p)) % 2 ^ 64 + (o + (2 ^ 64 - q)) % 2 ^ 64 ≡ (o + (2 ^ 64 - p)) % 2 ^ 64
turn p q o c d e h = omega arith

word : (p : ℕ) → p < 2 ^ 64 → p % 2 ^ 64 ≡ p
word p h = omega arith

aligned : (q : ℕ) → q % 8 ≡ 0 → q < 2 ^ 64 → octa q ≡ q
unfolding octa
aligned q a h = omega arith

octa_word : (x : ℕ) → octa x < 2 ^ 64
unfolding octa
octa_word x = omega arith

far : (p q x : ℕ) → q % 8 ≡ 0 → p < 2 ^ 64 → q < 2 ^ 64 → offset q x ≤ offset p x → offset p q + offset q x ≡ offset p x
unfolding offset
far p q x b c d h = rw (aligned q b d, word p c, word q d) (turn p q (octa x) c d (octa_word x) (rw (word p c, word q d) at h))

-- the window whose first octabyte is the nearer one below x begins in the other
both_has : (w : Shapes) (x : ℕ) → Ruled w.a → Ruled w.b → has w.a x ≡ true → has w.b x ≡ true → shares w ≡ true
unfolding shares has
both_has w x ra rb ha hb =
    let la : offset w.a.from x + 8 ≤ w.a.size = leb-true _ _ ha in
    let lb : offset w.b.from x + 8 ≤ w.b.size = leb-true _ _ hb in
    ⊎_elim
    (λ lt. let f : offset w.b.from w.a.from + offset w.a.from x ≡ offset w.b.from x
    = far w.b.from w.a.from x ra.base_aligned rb.base_word ra.base_word (omega arith) in
    rw (lt-ltb 0 w.a.size (omega arith), le-leb (offset w.b.from w.a.from + 8) w.b.size (omega arith))
    (right (ltb 0 w.b.size && leb (offset w.a.from w.b.from + 8) w.a.size)))
    (λ le. let f : offset w.a.from w.b.from + offset w.b.from x ≡ offset w.a.from x
    = far w.a.from w.b.from x rb.base_aligned ra.base_word rb.base_word (omega arith) in
    rw (lt-ltb 0 w.b.size (omega arith), le-leb (offset w.a.from w.b.from + 8) w.a.size (omega arith)))
    (lt_or_le (offset w.a.from x) (offset w.b.from x))
  where
    right : (t : Bool) → (t || true) ≡ true
    right true = refl
    right false = refl

pub apart : (w : Shapes) (x : ℕ) → Ruled w.a → Ruled w.b → shares w ≡ false → has w.a x ≡ true → has w.b x ≡ false
apart w x ra rb n ha = go (has w.b x) refl
  where
    go : (t : Bool) → has w.b x ≡ t → t ≡ false
    go true e = sym (both_has w x ra rb ha e) ∙ n
    go false e = refl

-- a window that is not empty has its first octabyte
at_base : (p : ℕ) → p % 8 ≡ 0 → p < 2 ^ 64 → offset p p ≡ 0
unfolding offset
at_base p a h = rw (aligned p a h, word p h) (omega arith)

has_first : (w : Shape) → Ruled w → ltb 0 w.size ≡ true → has w w.from ≡ true
unfolding has
has_first w r e =
    let l : 0 < w.size = ltb-true _ _ e in
    let m : w.size % 8 ≡ 0 = r.size_octas in
    let z : offset w.from w.from ≡ 0 = at_base w.from r.base_aligned r.base_word in
    le-leb (offset w.from w.from + 8) w.size (omega arith)

common : (w : Shapes) → ruled w ≡ true → shares w ≡ true → Common w
unfolding shares
common w r = go (ltb 0 w.b.size && has w.a w.b.from) refl
  where
    in_other : (ltb 0 w.a.size && has w.b w.a.from) ≡ true → Common w
    in_other e = record {
      address = w.a.from;
      in_a = has_first w.a (ruled_a w r) (and_left (ltb 0 w.a.size) _ e);
      in_b = and_right (ltb 0 w.a.size) _ e;
    }

    go : (t : Bool) → (ltb 0 w.b.size && has w.a w.b.from) ≡ t → (t || (ltb 0 w.a.size && has w.b w.a.from)) ≡ true → Common w
    go true e h = record {
      address = w.b.from;
      in_a = and_right (ltb 0 w.b.size) _ e;
      in_b = has_first w.b (ruled_b w r) (and_left (ltb 0 w.b.size) _ e);
    }
    go false e h = in_other h

-- ---- the theorem

pub windows_apart : WindowsApart
unfolding holder
windows_apart = record {
  apart = λ w r n x h. apart w x (ruled_a w r) (ruled_b w r) n h;
  held_a = λ w r n x h. rw (apart w x (ruled_a w r) (ruled_b w r) n h, h);
  held_b = λ w r n x h. rw h;
  common = common;
}
