-- The laws of a store; that a window has them; that two windows together have them.
use Rattle.model.proofs.Logic.{ℕ, ◌+◌, ◌<◌, ◌≤◌, Bool, cond, false, true, ◌≢◌, refl, sym, ◌∙◌, ◌≡◌, dec_le, arith, get_or, length, leb-true}
use Rattle.model.specs.Octa.{octa, written, bytes_of}
use Rattle.model.specs.Memory.{Store, Window, Shape, shape_of, offset, has, octa_bytes, write_octa, one, Windows, Shapes, shapes_of, holder, inside, octa_at, put_octa, both}
use Rattle.model.proofs.Octa.{part_cong, length_written, written_below, written_above, part_written}

-- shape, inside, raw and put know an address by its octabyte alone; a put changes its own octabyte and no shape
pub record Lawful {M Sh : Type 0} (st : Store M Sh) : Type 0 where
  pub inside_octa : (s : Sh) (a b : ℕ) → octa a ≡ octa b → st.inside s a ≡ st.inside s b
  pub raw_octa : (m : M) (a b : ℕ) → octa a ≡ octa b → st.raw m a ≡ st.raw m b
  pub put_shape : (m : M) (a v : ℕ) → st.shape (st.put m a v) ≡ st.shape m
  pub put_other : (m : M) (a b v : ℕ) → octa a ≢ octa b → st.raw (st.put m a v) b ≡ st.raw m b
  pub put_same : (m : M) (a b v : ℕ) → st.inside (st.shape m) a ≡ true → octa a ≡ octa b → st.raw (st.put m a v) b ≡ bytes_of v

pub write_shape : (w : Window) (a v : ℕ) → shape_of (write_octa w a v) ≡ shape_of w
unfolding write_octa shape_of
write_shape w a v = λ i. record { from = w.base; size = length_written w.bytes (offset w.base a) (bytes_of v) i }

apart : (o a b : ℕ) → octa a ≢ octa b → (offset o a + 8 ≤ offset o b → ⊥) → offset o b + 8 ≤ offset o a
unfolding octa offset
apart o a b n h = omega arith

pub write_other : (w : Window) (a b v : ℕ) → octa a ≢ octa b → octa_bytes (write_octa w a v) b ≡ octa_bytes w b
unfolding octa_bytes write_octa
write_other w a b v n =
    part_cong 8 (written w.bytes (offset w.base a) (bytes_of v)) w.bytes (offset w.base b)
    (side (dec_le (offset w.base a + 8) (offset w.base b)))
  where
    side : Dec (offset w.base a + 8 ≤ offset w.base b) → (j : ℕ) → offset w.base b ≤ j → j < offset w.base b + 8
        → get_or (written w.bytes (offset w.base a) (bytes_of v)) j 0 ≡ get_or w.bytes j 0
    side (yes f) j p q = written_above w.bytes (offset w.base a) (bytes_of v) j (unfold bytes_of in omega arith)
    side (no f) j p q =
        let g : offset w.base b + 8 ≤ offset w.base a = apart w.base a b n f in
        written_below w.bytes (offset w.base a) (bytes_of v) j (omega arith)

pub write_same : (w : Window) (a b v : ℕ) → has (shape_of w) a ≡ true → octa a ≡ octa b → octa_bytes (write_octa w a v) b ≡ bytes_of v
unfolding octa_bytes write_octa has bytes_of shape_of offset
write_same w a b v h e =
    let f : offset w.base a + 8 ≤ length w.bytes = leb-true _ _ h in
    rw (← e) (part_written w.bytes (offset w.base a) (bytes_of v) (omega arith))

pub has_octa : (s : Shape) (a b : ℕ) → octa a ≡ octa b → has s a ≡ has s b
unfolding has offset
has_octa s a b e = rw e

pub bytes_octa : (w : Window) (a b : ℕ) → octa a ≡ octa b → octa_bytes w a ≡ octa_bytes w b
unfolding octa_bytes offset
bytes_octa w a b e = rw e

pub one_lawful : Lawful one
unfolding one
one_lawful = record { inside_octa = has_octa; raw_octa = bytes_octa; put_shape = write_shape; put_other = write_other; put_same = write_same }

-- ---- two windows

put_shape : (m : Windows) (x v : ℕ) → shapes_of (put_octa m x v) ≡ shapes_of m
unfolding put_octa shapes_of
put_shape m x v = go (has (shape_of m.b) x)
  where
    go : (t : Bool) → shapes_of (cond t (record { a = m.a; b = write_octa m.b x v }) (record { a = write_octa m.a x v; b = m.b })) ≡ shapes_of m
    go true = λ i. record { a = shape_of m.a; b = write_shape m.b x v i }
    go false = λ i. record { a = write_shape m.a x v i; b = shape_of m.b }

put_other : (m : Windows) (x y v : ℕ) → octa x ≢ octa y → octa_at (put_octa m x v) y ≡ octa_at m y
unfolding put_octa octa_at
put_other m x y v n = go (has (shape_of m.b) x)
  where
    go : (t : Bool) → octa_at (cond t (record { a = m.a; b = write_octa m.b x v }) (record { a = write_octa m.a x v; b = m.b })) y ≡ octa_at m y
    go true = rw (write_shape m.b x v, write_other m.b x y v n)
    go false = rw (write_other m.a x y v n)

put_same : (m : Windows) (x y v : ℕ) → inside (shapes_of m) x ≡ true → octa x ≡ octa y → octa_at (put_octa m x v) y ≡ bytes_of v
unfolding put_octa octa_at shapes_of inside
put_same m x y v h e = go (has (shape_of m.b) x) refl
  where
    here : has (shape_of m.b) y ≡ has (shape_of m.b) x
    here = sym (has_octa (shape_of m.b) x y e)

    go : (t : Bool) → has (shape_of m.b) x ≡ t → octa_at (cond t (record { a = m.a; b = write_octa m.b x v }) (record { a = write_octa m.a x v; b = m.b })) y ≡ bytes_of v
    go true q = rw (write_shape m.b x v, here ∙ q) (write_same m.b x y v q e)
    go false q = rw (here ∙ q) (write_same m.a x y v (rw q at h) e)

pub inside_octa : (w : Shapes) (x y : ℕ) → octa x ≡ octa y → inside w x ≡ inside w y
unfolding inside
inside_octa w x y e = rw (has_octa w.a x y e, has_octa w.b x y e)

pub raw_octa : (m : Windows) (x y : ℕ) → octa x ≡ octa y → octa_at m x ≡ octa_at m y
unfolding octa_at
raw_octa m x y e = rw (has_octa (shape_of m.b) x y e, bytes_octa m.a x y e, bytes_octa m.b x y e)

pub holder_octa : (w : Shapes) (x y : ℕ) → octa x ≡ octa y → holder w x ≡ holder w y
unfolding holder
holder_octa w x y e = rw (has_octa w.a x y e, has_octa w.b x y e)

pub both_lawful : Lawful both
unfolding both
both_lawful = record { inside_octa = inside_octa; raw_octa = raw_octa; put_shape = put_shape; put_other = put_other; put_same = put_same }
