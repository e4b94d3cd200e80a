-- Octabytes of two windows: the one that holds each, runs that are stored, octabytes that pass. One window: Octas.
use Rattle.model.proofs.Prelude.{suc, zero, ℕ, ◌%◌, ◌*◌, ◌+◌, ◌-◌, ◌<◌, ◌^◌, ◌≤◌, Bool, false, true, List, [], ◌++◌, ◌∷◌, ap, refl, sym, ◌∙◌, ◌≡◌, add-one}
use Rattle.model.proofs.Prelude.{arith, get_or, length, over, tab, both, has, holder, inside, octa_at, offset, one, put_octa, Shape, shape_of, Shapes, shapes_of}
use Rattle.model.proofs.Prelude.{Window, Windows, write_octa, octa, lent, look, puts, worst, refusing, judged_inside, both_lawful, has_octa, one_lawful}
use Rattle.model.proofs.Prelude.{puts_more, puts_shape, length_tab, worst_of, further}
use Rattle.model.specs.declared.Bases.{Bases}
use Rattle.machine.specs.Octas.{read_by, written_by, written_run_by, read_octa, written_octa, written_run, room_in}
use Rattle.machine.specs.Pieces.{PieceIs}
use Rattle.machine.proofs.RegisterRanges.{over_alike}
use Rattle.machine.proofs.RunTest.{room_short, has_b', has_a', has_none, piece_b}
use Rattle.machine.proofs.Octas.{inside_read, inside_written, written_shape, run_shape, read_at, written_at, run_turn, run_joined}

-- ---- two windows, by the one that holds the octabyte

pub put_octa_law : (m : Windows) (a b v : ℕ) → octa a ≡ octa b → both.put m a v ≡ both.put m b v
unfolding both put_octa write_octa offset
put_octa_law m a b v e = rw (has_octa (shape_of m.b) a b e, e)

module _ (m : Windows) (x : ℕ) where
  abbrev has_b : Bool
  has_b = has (shape_of m.b) x

  abbrev has_a : Bool
  has_a = has (shape_of m.a) x

  pub read_b : has_b ≡ true → read_by one m.b x ≡ read_octa m x
  unfolding read_by inside shapes_of look both one octa_at
  read_b h = rw h

  pub read_a : has_b ≡ false → has_a ≡ true → read_by one m.a x ≡ read_octa m x
  unfolding read_by inside shapes_of look both one octa_at
  read_a h k = rw (h, k)

  pub read_none : has_b ≡ false → has_a ≡ false → read_octa m x ≡ 0
  unfolding read_by both inside shapes_of
  read_none h k = rw (h, k)

  pub write_b : (v : ℕ) → has_b ≡ true → record { a = m.a; b = written_by one m.b x v } ≡ written_octa m x v
  unfolding written_by both one inside shapes_of put_octa
  write_b v h = rw h

  pub write_a : (v : ℕ) → has_b ≡ false → has_a ≡ true → record { a = written_by one m.a x v; b = m.b } ≡ written_octa m x v
  unfolding written_by both one inside shapes_of put_octa
  write_a v h k = rw (h, k)

  pub write_none : (v : ℕ) → has_b ≡ false → has_a ≡ false → m ≡ written_octa m x v
  unfolding written_by both inside shapes_of
  write_none v h k = rw (h, k)

-- the same by the holder
pub in_b : (m : Windows) (x : ℕ) → holder (shapes_of m) x ≡ 1 → has (shape_of m.b) x ≡ true
unfolding shapes_of
in_b m x e = has_b' (shapes_of m) x e

pub in_a : (m : Windows) (x : ℕ) → holder (shapes_of m) x ≡ 0 → (has (shape_of m.b) x ≡ false) × (has (shape_of m.a) x ≡ true)
unfolding shapes_of
in_a m x e = has_a' (shapes_of m) x e

pub in_none : (m : Windows) (x : ℕ) → holder (shapes_of m) x ≡ 2 → (has (shape_of m.b) x ≡ false) × (has (shape_of m.a) x ≡ false)
unfolding shapes_of
in_none m x e = has_none (shapes_of m) x e

one_run_shape : (n : ℕ) (w : Window) (a : ℕ) (f : ℕ → ℕ) → shape_of (written_run_by one w a n f) ≡ shape_of w
unfolding one
one_run_shape n w a f = run_shape one one_lawful n w a f

-- a run that one window holds
module _ (m : Windows) (x : ℕ) (f : ℕ → ℕ) where
  abbrev Held : ℕ → ℕ → Type 0
  Held h n = (i : ℕ) → i < n → holder (shapes_of m) (x + 8 * i) ≡ h

  pub run_b : (n : ℕ) → Held 1 n → record { a = m.a; b = written_run_by one m.b x n f } ≡ written_run m x n f
  unfolding written_run_by
  run_b zero h = refl
  run_b (suc n) h =
      let u : Window = written_run_by one m.b x n f in
      let q : shape_of u ≡ shape_of m.b = one_run_shape n m.b x f in
      let b : has (shape_of m.b) (x + 8 * n) ≡ true = in_b m (x + 8 * n) (h n (omega arith)) in
      let t : has (shape_of u) (x + 8 * n) ≡ true = ap (λ (s : Shape). has s (x + 8 * n)) q ∙ b in
      write_b (record { a = m.a; b = u }) (x + 8 * n) (f n) t ∙ ap (λ (v : Windows). written_octa v (x + 8 * n) (f n)) (run_b n (λ i l. h i (omega arith)))

  pub run_a : (n : ℕ) → Held 0 n → record { a = written_run_by one m.a x n f; b = m.b } ≡ written_run m x n f
  unfolding written_run_by
  run_a zero h = refl
  run_a (suc n) h =
      let u : Window = written_run_by one m.a x n f in
      let q : shape_of u ≡ shape_of m.a = one_run_shape n m.a x f in
      let p : (has (shape_of m.b) (x + 8 * n) ≡ false) × (has (shape_of m.a) (x + 8 * n) ≡ true) = in_a m (x + 8 * n) (h n (omega arith)) in
      let t : has (shape_of u) (x + 8 * n) ≡ true = ap (λ (s : Shape). has s (x + 8 * n)) q ∙ p.1 in
      write_a (record { a = u; b = m.b }) (x + 8 * n) (f n) p.0 t ∙ ap (λ (v : Windows). written_octa v (x + 8 * n) (f n)) (run_a n (λ i l. h i (omega arith)))

  pub run_lost : (n : ℕ) → Held 2 n → m ≡ written_run m x n f
  unfolding written_run_by
  run_lost zero h = refl
  run_lost (suc n) h =
      let r : (has (shape_of m.b) (x + 8 * n) ≡ false) × (has (shape_of m.a) (x + 8 * n) ≡ false) = in_none m (x + 8 * n) (h n (omega arith)) in
      write_none m (x + 8 * n) (f n) r.0 r.1 ∙ ap (λ (u : Windows). written_octa u (x + 8 * n) (f n)) (run_lost n (λ i l. h i (omega arith)))

-- what code reads in the window that holds the octabyte
module _ (m : Windows) (x : ℕ) where
  pub read_in_b : (v : ℕ) → v ≡ read_by one m.b x → holder (shapes_of m) x ≡ 1 → v ≡ read_octa m x
  read_in_b v e h = e ∙ read_b m x (in_b m x h)

  pub read_in_a : (v : ℕ) → v ≡ read_by one m.a x → holder (shapes_of m) x ≡ 0 → v ≡ read_octa m x
  read_in_a v e h = e ∙ read_a m x (in_a m x h).0 (in_a m x h).1

  pub read_lost : holder (shapes_of m) x ≡ 2 → 0 ≡ read_octa m x
  read_lost h = sym (read_none m x (in_none m x h).0 (in_none m x h).1)

-- what code writes there
module _ (m : Windows) (x v : ℕ) where
  pub write_lost : holder (shapes_of m) x ≡ 2 → m ≡ written_octa m x v
  write_lost h = write_none m x v (in_none m x h).0 (in_none m x h).1

  pub write_in_b : (w : Window) → w ≡ written_by one m.b x v → holder (shapes_of m) x ≡ 1 → record { a = m.a; b = w } ≡ written_octa m x v
  write_in_b w e h = ap (λ (u : Window). record { a = m.a; b = u }) e ∙ write_b m x v (in_b m x h)

  pub write_in_a : (w : Window) → w ≡ written_by one m.a x v → holder (shapes_of m) x ≡ 0 → record { a = w; b = m.b } ≡ written_octa m x v
  write_in_a w e h = ap (λ (u : Window). record { a = u; b = m.b }) e ∙ write_a m x v (in_a m x h).0 (in_a m x h).1

-- the registers from `from` to `to`, where B has room for them, are one piece
pub whole_b : (m : Windows) (x from to : ℕ) → length m.b.bytes < 2 ^ 64 → from < to → to ≤ from + room_in (shape_of m.b) x → PieceIs (shapes_of m) x 1 (room_in (shape_of m.b) x)
unfolding shapes_of shape_of
whole_b m x from to short some l = piece_b (shapes_of m) x (room_in (shape_of m.b) x) short (λ z. omega arith) refl (room_short (shape_of m.b) x short)

-- a piece as code loads and stores it, `end` at most its end
module _ (m : Windows) (x from end h octas : ℕ) (g : List ℕ) (piece : PieceIs (shapes_of m) x h octas) (short : end ≤ from + octas) where
  abbrev reads : ℕ → ℕ
  reads k = read_octa m (x + 8 * (k - from))

  held_at : (k : ℕ) → from ≤ k → k < end → holder (shapes_of m) (x + 8 * (k - from)) ≡ h
  held_at k a b = piece.held (k - from) (omega arith)

  pub load_b : h ≡ 1 → over (λ (k : ℕ). read_by one m.b (x + 8 * (k - from))) from end g ≡ over reads from end g
  load_b e = over_alike (λ k. read_by one m.b (x + 8 * (k - from))) reads from end g (λ k a b. read_b m (x + 8 * (k - from)) (in_b m (x + 8 * (k - from)) (held_at k a b ∙ e)))

  pub load_a : h ≡ 0 → over (λ (k : ℕ). read_by one m.a (x + 8 * (k - from))) from end g ≡ over reads from end g
  load_a e =
      over_alike (λ k. read_by one m.a (x + 8 * (k - from))) reads from end g
      (λ k a b. let p = in_a m (x + 8 * (k - from)) (held_at k a b ∙ e) in read_a m (x + 8 * (k - from)) p.0 p.1)

  pub load_lost : h ≡ 2 → over (λ (k : ℕ). 0) from end g ≡ over reads from end g
  load_lost e =
      over_alike (λ k. 0) reads from end g
      (λ k a b. let r = in_none m (x + 8 * (k - from)) (held_at k a b ∙ e) in sym (read_none m (x + 8 * (k - from)) r.0 r.1))

  abbrev stores : ℕ → ℕ
  stores i = get_or g (from + i) 0

  held_run : (i : ℕ) → i < end - from → holder (shapes_of m) (x + 8 * i) ≡ h
  held_run i l = piece.held i (omega arith)

  pub store_b : h ≡ 1 → (w : Window) → w ≡ written_run_by one m.b x (end - from) stores → record { a = m.a; b = w } ≡ written_run m x (end - from) stores
  store_b e w z = ap (λ (u : Window). record { a = m.a; b = u }) z ∙ run_b m x stores (end - from) (λ i l. held_run i l ∙ e)

  pub store_a : h ≡ 0 → (w : Window) → w ≡ written_run_by one m.a x (end - from) stores → record { a = w; b = m.b } ≡ written_run m x (end - from) stores
  store_a e w z = ap (λ (u : Window). record { a = u; b = m.b }) z ∙ run_a m x stores (end - from) (λ i l. held_run i l ∙ e)

  pub room_b : h ≡ 1 → end ≤ from + room_in (shape_of m.b) x
  unfolding shapes_of
  room_b e = omega (arith, piece.in_b e)

  pub room_a : h ≡ 0 → end ≤ from + room_in (shape_of m.a) x
  unfolding shapes_of
  room_a e = omega (arith, piece.in_a e)

  pub store_lost : h ≡ 2 → m ≡ written_run m x (end - from) stores
  store_lost e = run_lost m x stores (end - from) (λ i l. held_run i l ∙ e)

-- addresses modulo 2^64
pub read_mod : (m : Windows) (a b : ℕ) → a % 2 ^ 64 ≡ b % 2 ^ 64 → read_octa m a ≡ read_octa m b
read_mod = read_at both both_lawful

pub written_mod : (m : Windows) (a b v : ℕ) → a % 2 ^ 64 ≡ b % 2 ^ 64 → written_octa m a v ≡ written_octa m b v
written_mod = written_at both both_lawful put_octa_law

pub run_more : (m u t : Windows) (a i at v : ℕ) (f : ℕ → ℕ) → u ≡ written_run m a i f → at ≡ (a + 8 * i) % 2 ^ 64
    → v ≡ f i → t ≡ written_octa u at v → t ≡ written_run m a (i + 1) f
run_more = run_turn both both_lawful put_octa_law

-- register k in a loop that reads it from a further piece, which starts with register i
pub alike_at : (m : Windows) (a at from i k : ℕ) → from ≤ i → i ≤ k → at % 2 ^ 64 ≡ (a + 8 * (i - from)) % 2 ^ 64
    → read_octa m (at + 8 * (k - i)) ≡ read_octa m (a + 8 * (k - from))
alike_at m a at from i k p q e =
    let n : i - from + (k - i) ≡ k - from = omega arith in
    let same : (at + 8 * (k - i)) % 2 ^ 64 ≡ (a + 8 * (k - from)) % 2 ^ 64 = further a at (i - from) (k - i) e ∙ ap (λ (j : ℕ). (a + 8 * j) % 2 ^ 64) n in
    read_mod m (at + 8 * (k - i)) (a + 8 * (k - from)) same

-- a turn of a loop that writes the registers of l from `from` up, piece by piece: those from i up to r follow
pub run_further : (m u t : Windows) (a at from i r : ℕ) (l : List ℕ) → from ≤ i → i ≤ r → at % 2 ^ 64 ≡ (a + 8 * (i - from)) % 2 ^ 64
    → u ≡ written_run m a (i - from) (λ (k : ℕ). get_or l (from + k) 0) → t ≡ written_run u at (r - i) (λ (k : ℕ). get_or l (i + k) 0)
    → t ≡ written_run m a (r - from) (λ (k : ℕ). get_or l (from + k) 0)
run_further m u t a at from i r l p q e eu et =
    let f : ℕ → ℕ = λ k. get_or l (from + k) 0 in
    let g : ℕ → ℕ = λ k. get_or l (i + k) 0 in
    let count : i - from + (r - i) ≡ r - from = omega arith in
    let first : t ≡ written_run (written_run m a (i - from) f) at (r - i) g = et ∙ ap (λ (w : Windows). written_run w at (r - i) g) eu in
    let joined : written_run (written_run m a (i - from) f) at (r - i) g ≡ written_run m a (i - from + (r - i)) f
    = run_joined both both_lawful put_octa_law (r - i) m a (i - from) at f g e (λ j b. let z : i + j ≡ from + (i - from + j) = omega arith in ap (λ (k : ℕ). get_or l k 0) z) in
    first ∙ joined ∙ ap (λ (n : ℕ). written_run m a n f) count

-- what a write leaves of the lengths
module _ (at : Bases) (k l k' l' : List ℕ) where
  pub same_lengths : shapes_of (lent at k' l') ≡ shapes_of (lent at k l) → (length k' ≡ length k) × (length l' ≡ length l)
  unfolding shapes_of shape_of
  same_lengths e = (ap (λ (s : Shapes). s.a.size) e, ap (λ (s : Shapes). s.b.size) e)

  pub written_lengths : (a v : ℕ) → lent at k' l' ≡ written_octa (lent at k l) a v → (length k' ≡ length k) × (length l' ≡ length l)
  written_lengths a v e = same_lengths (ap shapes_of e ∙ (unfold both in (written_shape both both_lawful (lent at k l) a v)))

  pub run_lengths : (a n : ℕ) (f : ℕ → ℕ) → lent at k' l' ≡ written_run (lent at k l) a n f → (length k' ≡ length k) × (length l' ≡ length l)
  run_lengths a n f e = same_lengths (ap shapes_of e ∙ (unfold both in (run_shape both both_lawful n (lent at k l) a f)))

-- ---- octabytes that pass

module _ (w : Windows) (a : ℕ) (h : refusing (shapes_of w) a ≡ 0) where
  within : both.inside (both.shape w) a ≡ true
  unfolding both
  within = judged_inside (shapes_of w) a h

  pub read_in : read_octa w a ≡ look both w a
  read_in = inside_read both w a within

  pub written_in : (v : ℕ) → written_octa w a v ≡ put_octa w a v
  written_in v = inside_written both w a v within ∙ (unfold both in refl)

-- octabyte i of a run that passes, under any address that names it
module _ (w : Windows) (a n : ℕ) (pass : worst (refusing (shapes_of w)) a n ≡ 0) (i at : ℕ) (l : i < n) (e : at % 2 ^ 64 ≡ (a + 8 * i) % 2 ^ 64) where
  pub run_read : read_octa w at ≡ look both w (a + 8 * i)
  run_read = read_mod w at (a + 8 * i) e ∙ read_in w (a + 8 * i) (worst_of (refusing (shapes_of w)) n a i pass l)

  pub run_written : (v : ℕ) → written_octa w at v ≡ put_octa w (a + 8 * i) v
  run_written v = written_mod w at (a + 8 * i) v e ∙ written_in w (a + 8 * i) (worst_of (refusing (shapes_of w)) n a i pass l) v

-- ---- a list written

puts_shapes : (w : Windows) (a : ℕ) (vs : List ℕ) → shapes_of (puts both w a vs) ≡ shapes_of w
unfolding both
puts_shapes w a vs = puts_shape both both_lawful vs w a

-- where a loop starts
pub puts_none : (w : Windows) (a : ℕ) (f : ℕ → ℕ) → puts both w a (tab 0 0 f) ≡ w
unfolding puts tab
puts_none w a f = refl

tab_more : (n i : ℕ) (f : ℕ → ℕ) → tab i (suc n) f ≡ tab i n f ++ (f (i + n) ∷ [])
unfolding tab
tab_more zero i f = ap (λ (k : ℕ). f k ∷ []) (omega arith)
tab_more (suc n) i f = ap (λ (l : List ℕ). f i ∷ l) (tab_more n (suc i) f ∙ ap (λ (k : ℕ). tab (suc i) n f ++ (f k ∷ [])) (omega arith))

-- the same as code has it: the address wraps, i octabytes are written already
module _ (w : Windows) (a n : ℕ) (pass : worst (refusing (shapes_of w)) a n ≡ 0) (i at : ℕ) (l : i < n) (e : at ≡ (a + 8 * i) % 2 ^ 64) where
  pub puts_next : (vs : List ℕ) (v : ℕ) → length vs ≡ i → written_octa (puts both w a vs) at v ≡ puts both w a (vs ++ (v ∷ []))
  puts_next vs v d =
      let h : worst (refusing (shapes_of (puts both w a vs))) a n ≡ 0 = rw (puts_shapes w a vs) pass in
      run_written (puts both w a vs) a n h i at l (omega arith) v
      ∙ ap (λ (k : ℕ). put_octa (puts both w a vs) (a + 8 * k) v) (sym d)
      ∙ sym (puts_more both w a vs v ∙ (unfold both in refl))

  -- a turn of the loop that stores f 0, f 1, ..
  pub puts_tab : (f : ℕ → ℕ) (v : ℕ) → v ≡ f i → written_octa (puts both w a (tab 0 i f)) at v ≡ puts both w a (tab 0 (i + 1) f)
  puts_tab f v q =
      puts_next (tab 0 i f) v (length_tab i 0 f)
      ∙ ap (puts both w a) (ap (λ (x : ℕ). tab 0 i f ++ (x ∷ [])) q ∙ sym (tab_more i 0 f ∙ ap (λ (k : ℕ). tab 0 i f ++ (f k ∷ [])) (omega arith)) ∙ ap (λ (k : ℕ). tab 0 k f) (sym (add-one i)))

-- a run written after the first k octabytes of a list that passes, which are these: the first k + n
module _ (w : Windows) (o k m : ℕ) (f : ℕ → ℕ) (pass : worst (refusing (shapes_of w)) o m ≡ 0) (v : Windows) (e : v ≡ puts both w o (tab 0 k f)) where
  pub puts_run : (a : ℕ) → a % 2 ^ 64 ≡ (o + 8 * k) % 2 ^ 64 → (g : ℕ → ℕ) (n : ℕ) → k + n ≤ m → ((i : ℕ) → i < n → g i ≡ f (k + i))
      → written_run v a n g ≡ puts both w o (tab 0 (k + n) f)
  unfolding written_run_by
  puts_run a q g zero l h = e ∙ ap (λ (j : ℕ). puts both w o (tab 0 j f)) (omega arith)
  puts_run a q g (suc n) l h =
      let last : ℕ = (o + 8 * (k + n)) % 2 ^ 64 in
      let same : (a + 8 * n) % 2 ^ 64 ≡ last % 2 ^ 64 = further o a k n q ∙ (omega arith) in
      let count : k + n + 1 ≡ k + suc n = omega arith in
      ap (λ (u : Windows). written_octa u (a + 8 * n) (g n)) (puts_run a q g n (omega arith) (λ i b. h i (omega arith)))
      ∙ written_mod (puts both w o (tab 0 (k + n) f)) (a + 8 * n) last (g n) same
      ∙ puts_tab w o m pass (k + n) last (omega arith) refl f (g n) (h n (omega arith))
      ∙ ap (λ (j : ℕ). puts both w o (tab 0 j f)) count
