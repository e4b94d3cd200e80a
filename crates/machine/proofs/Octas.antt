-- Octabytes of one window, as code reads and writes them, and of any memory. Two windows: BothOctas.
use Rattle.model.proofs.Prelude.{suc, zero, ℕ, ◌%◌, ◌*◌, ◌+◌, ◌<◌, ◌^◌, ◌≤◌, Bool, cond, false, true, List, ap, refl, sym, ◌∙◌, ◌≡◌, arith, length}
use Rattle.model.proofs.Prelude.{leb-true, has, octa_bytes, offset, one, shape_of, Store, Window, write_octa, bytes_of, octa, part, value_of, written}
use Rattle.model.proofs.Prelude.{look, Lawful, look_mod, octa_mod, further}
use Rattle.machine.specs.Octas.{read_by, written_by, written_run_by, lent_one, room_in}
use Rattle.machine.proofs.RunTest.{room_has, room_offset}

-- ---- any memory

module _ {M Sh : Type 0} (st : Store M Sh) where
  module _ (m : M) (a : ℕ) where
    pub inside_read : st.inside (st.shape m) a ≡ true → read_by st m a ≡ look st m a
    unfolding read_by
    inside_read h = ap (λ (t : Bool). cond t (look st m a) 0) h

    pub outside_read : st.inside (st.shape m) a ≡ false → read_by st m a ≡ 0
    unfolding read_by
    outside_read h = ap (λ (t : Bool). cond t (look st m a) 0) h

    pub inside_written : (v : ℕ) → st.inside (st.shape m) a ≡ true → written_by st m a v ≡ st.put m a v
    unfolding written_by
    inside_written v h = ap (λ (t : Bool). cond t (st.put m a v) m) h

    pub outside_written : (v : ℕ) → st.inside (st.shape m) a ≡ false → written_by st m a v ≡ m
    unfolding written_by
    outside_written v h = ap (λ (t : Bool). cond t (st.put m a v) m) h

  -- where a loop starts
  pub run_none : (m : M) (a n : ℕ) (f : ℕ → ℕ) → n ≡ 0 → m ≡ written_run_by st m a n f
  unfolding written_run_by
  run_none m a n f e = rw e refl

  module _ (ok : Lawful st) where
    -- a write keeps the shape
    pub written_shape : (m : M) (a v : ℕ) → st.shape (written_by st m a v) ≡ st.shape m
    unfolding written_by
    written_shape m a v = go (st.inside (st.shape m) a)
      where
        go : (t : Bool) → st.shape (cond t (st.put m a v) m) ≡ st.shape m
        go true = ok.put_shape m a v
        go false = refl

    pub run_shape : (n : ℕ) (m : M) (a : ℕ) (f : ℕ → ℕ) → st.shape (written_run_by st m a n f) ≡ st.shape m
    unfolding written_run_by
    run_shape zero m a f = refl
    run_shape (suc n) m a f = written_shape (written_run_by st m a n f) (a + 8 * n) (f n) ∙ run_shape n m a f

    pub read_at : (m : M) (a b : ℕ) → a % 2 ^ 64 ≡ b % 2 ^ 64 → read_by st m a ≡ read_by st m b
    unfolding read_by
    read_at m a b e = rw (ok.inside_octa (st.shape m) a b (octa_mod a b e), look_mod st ok m a b e)

    -- a put knows an address by its octabyte alone
    module _ (put_octa_law : (m : M) (a b v : ℕ) → octa a ≡ octa b → st.put m a v ≡ st.put m b v) where
      pub written_at : (m : M) (a b v : ℕ) → a % 2 ^ 64 ≡ b % 2 ^ 64 → written_by st m a v ≡ written_by st m b v
      unfolding written_by
      written_at m a b v e = rw (ok.inside_octa (st.shape m) a b (octa_mod a b e), put_octa_law m a b v (octa_mod a b e))

      -- a turn of the loop that writes a run: the address wraps
      pub run_turn : (m u t : M) (a i at v : ℕ) (f : ℕ → ℕ) → u ≡ written_run_by st m a i f → at ≡ (a + 8 * i) % 2 ^ 64
          → v ≡ f i → t ≡ written_by st u at v → t ≡ written_run_by st m a (i + 1) f
      unfolding written_run_by
      run_turn m u t a i at v f eu ea ev et =
          let count : i + 1 ≡ suc i = omega arith in
          let same : at % 2 ^ 64 ≡ (a + 8 * i) % 2 ^ 64 = omega arith in
          et ∙ written_at u at (a + 8 * i) v same ∙ rw (eu, ev, count)

      -- a run written after a run: both are one
      pub run_joined : (k : ℕ) (m : M) (a n at : ℕ) (f g : ℕ → ℕ) → at % 2 ^ 64 ≡ (a + 8 * n) % 2 ^ 64 → ((i : ℕ) → i < k → g i ≡ f (n + i))
          → written_run_by st (written_run_by st m a n f) at k g ≡ written_run_by st m a (n + k) f
      unfolding written_run_by
      run_joined zero m a n at f g e h = let z : n ≡ n + 0 = omega arith in ap (λ (j : ℕ). written_run_by st m a j f) z
      run_joined (suc k) m a n at f g e h =
          let same : (at + 8 * k) % 2 ^ 64 ≡ (a + 8 * (n + k)) % 2 ^ 64 = further a at n k e in
          let count : suc (n + k) ≡ n + suc k = omega arith in
          ap (λ (u : M). written_by st u (at + 8 * k) (g k)) (run_joined k m a n at f g e (λ i b. h i (omega arith)))
          ∙ written_at (written_run_by st m a (n + k) f) (at + 8 * k) (a + 8 * (n + k)) (g k) same
          ∙ ap (written_by st (written_run_by st m a (n + k) f) (a + 8 * (n + k))) (h k (omega arith))
          ∙ ap (λ (j : ℕ). written_run_by st m a j f) count

-- ---- one window, as code has it

pub write_octa_law : (w : Window) (a b v : ℕ) → octa a ≡ octa b → one.put w a v ≡ one.put w b v
unfolding one write_octa offset
write_octa_law w a b v e = rw e

-- what an octabyte inside is, byte by byte
pub look_is : (w : Window) (a : ℕ) → look one w a ≡ value_of 0 (part w.bytes (offset w.base a) 8)
unfolding look one octa_bytes
look_is w a = refl

module _ (base : ℕ) (l : List ℕ) (a : ℕ) where
  abbrev there_is : Bool
  there_is = has (shape_of (lent_one base l)) a

  pub has_fits : there_is ≡ true → offset base a + 8 ≤ length l
  unfolding has shape_of
  has_fits h = leb-true _ _ h

  pub has_read : there_is ≡ true → read_by one (lent_one base l) a ≡ value_of 0 (part l (offset base a) 8)
  has_read h = inside_read one (lent_one base l) a (unfold one in h) ∙ look_is (lent_one base l) a

  pub none_read : there_is ≡ false → read_by one (lent_one base l) a ≡ 0
  none_read h = outside_read one (lent_one base l) a (unfold one in h)

  pub has_written : (v d : ℕ) (m : List ℕ) → there_is ≡ true → d ≡ offset base a → m ≡ written l d (bytes_of v) → lent_one base m ≡ written_by one (lent_one base l) a v
  has_written v d m h e f =
      ap (lent_one base) (f ∙ ap (λ (k : ℕ). written l k (bytes_of v)) e)
      ∙ sym (inside_written one (lent_one base l) a v (unfold one in h) ∙ (unfold one write_octa in refl))

  pub none_written : (v : ℕ) → there_is ≡ false → lent_one base l ≡ written_by one (lent_one base l) a v
  none_written v h = sym (outside_written one (lent_one base l) a v (unfold one in h))

-- octabyte j of those from x up that a window has room for, as code has it
module _ (base : ℕ) (l : List ℕ) (x j : ℕ) (short : length l < 2 ^ 64) (h : j < room_in (shape_of (lent_one base l)) x) where
  there : has (shape_of (lent_one base l)) (x + 8 * j) ≡ true
  there = room_has (shape_of (lent_one base l)) x (unfold shape_of in short) j h

  at_is : offset base (x + 8 * j) ≡ offset base x + 8 * j
  at_is = unfold shape_of in (room_offset (shape_of (lent_one base l)) x (unfold shape_of in short) j h)

  pub run_look : (d : ℕ) → d ≡ offset base x + 8 * j → value_of 0 (part l d 8) ≡ read_by one (lent_one base l) (x + 8 * j)
  run_look d e =
      sym (inside_read one (lent_one base l) (x + 8 * j) (unfold one in there) ∙ look_is (lent_one base l) (x + 8 * j) ∙ ap (λ (n : ℕ). value_of 0 (part l n 8)) (at_is ∙ sym e))

  pub run_put : (d v : ℕ) (m : List ℕ) → d ≡ offset base x + 8 * j → m ≡ written l d (bytes_of v) → lent_one base m ≡ written_by one (lent_one base l) (x + 8 * j) v
  run_put d v m e f =
      ap (lent_one base) (f ∙ ap (λ (n : ℕ). written l n (bytes_of v)) (e ∙ sym at_is))
      ∙ sym (inside_written one (lent_one base l) (x + 8 * j) v (unfold one in there) ∙ (unfold one write_octa in refl))

-- the room of a window whose bytes alone have changed
pub room_same : (base x : ℕ) (l m : List ℕ) → length m ≡ length l → room_in (shape_of (lent_one base m)) x ≡ room_in (shape_of (lent_one base l)) x
unfolding room_in shape_of
room_same base x l m e = rw e
