-- The part as a window of its own beside A, and put back: what is read and stored there is read and stored in the whole.
use Rattle.model.proofs.Prelude.{suc, zero, ℕ, ◌%◌, ◌+◌, ◌^◌, ◌≤◌, cond, false, true, List, [], ◌∷◌, inl, inr, ◌⊎◌, ap, refl, sym, ◌∙◌, ◌≡◌, arith, drop}
use Rattle.model.proofs.Prelude.{length, length-drop, take, length-take-le, has, octa_at, octa_bytes, offset, put_octa, shape_of, Shapes, shapes_of, Windows}
use Rattle.model.proofs.Prelude.{write_octa, bytes_of, written, refusing, unruled_by, eight, length_written, written_nil, part_inside, part_lent, written_again}
use Rattle.task_run.proofs.Prelude.{Own}
use Rattle.task_run.specs.RunIn.{viewed}
use Rattle.task_run.proofs.PartShapes.{Part, part_shapes, InPart, InA, sides}

-- the whole with the part's windows put back
unfoldable pub back : Own → Windows → Windows → Windows
back p w v = record { a = v.a; b = record { base = w.b.base; bytes = written w.b.bytes p.start v.b.bytes } }

-- what is written into what is written
pub written_nested : (l : List ℕ) (o : ℕ) (vs : List ℕ) (i : ℕ) (us : List ℕ) (m : ℕ) → m ≡ o + i → i + length us ≤ length vs
    → written (written l o vs) m us ≡ written l o (written vs i us)
unfolding written
written_nested [] o vs i us m e h = refl
written_nested (x ∷ xs) (suc o) vs i us zero e h = absurd (omega arith)
written_nested (x ∷ xs) (suc o) vs i us (suc m) e h = ap (λ (r : List ℕ). x ∷ r) (written_nested xs o vs i us m (omega arith) h)
written_nested (x ∷ xs) zero [] i [] m e h = written_nil (x ∷ xs) m
written_nested (x ∷ xs) zero [] i (u ∷ us) m e h = absurd (omega arith)
written_nested (x ∷ xs) zero (v ∷ vs) zero [] zero e h = refl
written_nested (x ∷ xs) zero (v ∷ vs) zero (u ∷ us) zero e h = ap (λ (r : List ℕ). u ∷ r) (written_nested xs zero vs zero us zero refl (omega arith))
written_nested (x ∷ xs) zero (v ∷ vs) zero us (suc m) e h = absurd (omega arith)
written_nested (x ∷ xs) zero (v ∷ vs) (suc i) us zero e h = absurd (omega arith)
written_nested (x ∷ xs) zero (v ∷ vs) (suc i) us (suc m) e h = ap (λ (r : List ℕ). v ∷ r) (written_nested xs zero vs i us m (omega arith) (omega arith))

module _ (p : Own) (w : Windows) (k : Part (length w.b.bytes) p) where
  view_long : length (take p.size (drop p.start w.b.bytes)) ≡ p.size
  view_long =
      let m : p.start + p.size ≤ length w.b.bytes = k.within in
      length-take-le p.size (drop p.start w.b.bytes) (omega (arith, length-drop p.start w.b.bytes))

  pub view_shapes : shapes_of (viewed p w) ≡ part_shapes p (shapes_of w)
  unfolding viewed shapes_of shape_of
  view_shapes = λ i. record { a = shape_of w.a; b = record { from = (w.b.base + p.start) % 2 ^ 64; size = view_long i } }

  pub back_view : back p w (viewed p w) ≡ w
  unfolding back viewed
  back_view = λ i. record { a = w.a; b = record { base = w.b.base; bytes = same i } }
    where
      m : p.start + p.size ≤ length w.b.bytes
      m = k.within

      same : written w.b.bytes p.start (take p.size (drop p.start w.b.bytes)) ≡ w.b.bytes
      same = written_again w.b.bytes p.start (take p.size (drop p.start w.b.bytes)) (omega (arith, view_long))
          (rw view_long (sym (part_lent w.b.bytes p.start p.size m)))

-- windows v of the part's shapes
module _ (p : Own) (w v : Windows) (u : unruled_by (shapes_of w) ≡ 0) (k : Part (shapes_of w).b.size p) (e : shapes_of v ≡ part_shapes p (shapes_of w)) where
  base_is : v.b.base ≡ (w.b.base + p.start) % 2 ^ 64
  base_is = unfold shapes_of shape_of in (ap (λ (s : Shapes). s.b.from) e)

  size_is : length v.b.bytes ≡ p.size
  size_is = unfold shapes_of shape_of in (ap (λ (s : Shapes). s.b.size) e)

  has_is : (x : ℕ) → has (shape_of v.b) x ≡ has (part_shapes p (shapes_of w)).b x
  has_is x = unfold shapes_of in (ap (λ (s : Shapes). has s.b x) e)

  fits : p.start + length v.b.bytes ≤ length w.b.bytes
  fits = unfold shapes_of shape_of in (let m : p.start + p.size ≤ length w.b.bytes = k.within in omega (arith, size_is))

  back_shape : shape_of (back p w v).b ≡ shape_of w.b
  unfolding shape_of back
  back_shape = λ i. record { from = w.b.base; size = length_written w.b.bytes p.start v.b.bytes i }

  pub back_shapes : shapes_of (back p w v) ≡ shapes_of w
  unfolding shapes_of
  back_shapes = λ i. record { a = a_shape i; b = back_shape i }
    where
      a_shape : shape_of (back p w v).a ≡ shape_of w.a
      a_shape = unfold back shapes_of in (ap (λ (s : Shapes). s.a) e)

  module _ (x : ℕ) (h : refusing (part_shapes p (shapes_of w)) x ≡ 0) where
    side : InPart p (shapes_of w) x ⊎ InA p (shapes_of w) x
    side = sides p (shapes_of w) u k x h

    pub back_octa : octa_at (back p w v) x ≡ octa_at v x
    unfolding octa_at
    back_octa = go side
      where
        go : InPart p (shapes_of w) x ⊎ InA p (shapes_of w) x
            → cond (has (shape_of (back p w v).b) x) (octa_bytes (back p w v).b x) (octa_bytes (back p w v).a x) ≡ cond (has (shape_of v.b) x) (octa_bytes v.b x) (octa_bytes v.a x)
        go (inl i) =
            let b : has (shape_of w.b) x ≡ true = unfold shapes_of in i.in_b in
            rw (back_shape, b, has_is x ∙ i.in_part) (unfold octa_bytes back in
            (rw base_is (part_inside w.b.bytes p.start v.b.bytes (offset ((w.b.base + p.start) % 2 ^ 64) x) 8 (offset w.b.base x) fits
            (unfold shapes_of shape_of in (let m : offset ((w.b.base + p.start) % 2 ^ 64) x + 8 ≤ p.size = i.room in omega (arith, size_is)))
            (unfold shapes_of shape_of in i.further_on))))
        go (inr i) =
            let b : has (shape_of w.b) x ≡ false = unfold shapes_of in i.not_in_b in
            rw (back_shape, b, has_is x ∙ i.not_in_part) (unfold back in refl)

    into : (c : ℕ)
        → written (written w.b.bytes p.start v.b.bytes) (offset w.b.base x) (bytes_of c) ≡ written w.b.bytes p.start (written v.b.bytes (offset v.b.base x) (bytes_of c))
        → ◌≡◌ {A = Windows} (record { a = (back p w v).a; b = write_octa (back p w v).b x c }) (back p w (record { a = v.a; b = write_octa v.b x c }))
    unfolding write_octa back
    into c n = λ j. record { a = v.a; b = record { base = w.b.base; bytes = n j } }

    pub back_put : (c : ℕ) → put_octa (back p w v) x c ≡ back p w (put_octa v x c)
    unfolding put_octa
    back_put c = go side
      where
        go : InPart p (shapes_of w) x ⊎ InA p (shapes_of w) x
            → cond (has (shape_of (back p w v).b) x) (record { a = (back p w v).a; b = write_octa (back p w v).b x c }) (record { a = write_octa (back p w v).a x c; b = (back p w v).b })
            ≡ back p w (cond (has (shape_of v.b) x) (record { a = v.a; b = write_octa v.b x c }) (record { a = write_octa v.a x c; b = v.b }))
        go (inl i) =
            let b : has (shape_of w.b) x ≡ true = unfold shapes_of in i.in_b in
            let n : written (written w.b.bytes p.start v.b.bytes) (offset w.b.base x) (bytes_of c)
            ≡ written w.b.bytes p.start (written v.b.bytes (offset ((w.b.base + p.start) % 2 ^ 64) x) (bytes_of c))
            = written_nested w.b.bytes p.start v.b.bytes (offset ((w.b.base + p.start) % 2 ^ 64) x) (bytes_of c) (offset w.b.base x)
            (unfold shapes_of shape_of in i.further_on)
            (unfold shapes_of shape_of in (let m : offset ((w.b.base + p.start) % 2 ^ 64) x + 8 ≤ p.size = i.room in omega (arith, size_is, eight c))) in
            let o : offset ((w.b.base + p.start) % 2 ^ 64) x ≡ offset v.b.base x = ap (λ (q : ℕ). offset q x) (sym base_is) in
            rw (back_shape, b, has_is x ∙ i.in_part)
            (into c (n ∙ ap (λ (q : ℕ). written w.b.bytes p.start (written v.b.bytes q (bytes_of c))) o))
        go (inr i) =
            let b : has (shape_of w.b) x ≡ false = unfold shapes_of in i.not_in_b in
            rw (back_shape, b, has_is x ∙ i.not_in_part) (unfold write_octa back in refl)
