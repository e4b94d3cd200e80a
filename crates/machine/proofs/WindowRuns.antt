-- Runs of octabytes of one window, as code reads and writes them: those of its list of bytes.
use borrow.Rule.Slice.PartMut.{mid_of, put_mid}
use Rattle.model.proofs.Prelude.{suc, zero, ℕ, ◌*◌, ◌+◌, ◌-◌, ◌<◌, ◌^◌, ◌≤◌, List, add-one, ap, refl, sym, ◌∙◌, ◌≡◌, arith, drop, get_or, get_or-drop, length, length-drop, length-take-le, take, offset, one, over, shape_of, Window}
use Rattle.model.proofs.Prelude.{bytes_of, written, length_written}
use Rattle.machine.specs.Octabytes.{flat, octas}
use Rattle.machine.specs.Octas.{lent_one, read_by, room_in, written_by, written_run_by}
use Rattle.machine.proofs.OctabyteRuns.{get_or-octas, length_octas, flat_none, flat_turn}
use Rattle.machine.proofs.Octas.{room_same, run_look, run_put}
use Rattle.machine.proofs.RegisterRanges.{over_part}
use Rattle.machine.proofs.RunTest.{run_end}

run_alike : (n : ℕ) (f g : ℕ → ℕ) → ((i : ℕ) → f i ≡ g i) → (w : Window) (x : ℕ) → written_run_by one w x n f ≡ written_run_by one w x n g
unfolding written_run_by
run_alike zero f g e w x = refl
run_alike (suc n) f g e w x = rw (run_alike n f g e w x, e n)

module _ (base : ℕ) (l : List ℕ) (x : ℕ) (short : length l < 2 ^ 64) where
  module _ (g : List ℕ) (from to d : ℕ) (h : from ≤ to) (m : to ≤ length g) (r : to - from ≤ room_in (shape_of (lent_one base l)) x) (e : d ≡ offset base x) where
    middle : length (mid_of from (to - from) g) ≡ to - from
    middle = length-take-le (to - from) (drop from g) (omega (arith, length-drop from g))

    pub range_fits : from < to → d + 8 * length (mid_of from (to - from) g) ≤ length l
    unfolding shape_of
    range_fits some = omega (arith, middle, e, run_end (shape_of (lent_one base l)) x short (to - from) (omega arith) r)

    -- registers that become a run of them
    pub range_loaded : (ys : List ℕ) → ys ≡ octas l d (length (mid_of from (to - from) g))
        → put_mid from (to - from) g ys ≡ over (λ k. read_by one (lent_one base l) (x + 8 * (k - from))) from to g
    range_loaded ys f =
        let n : length ys ≡ to - from = ap length f ∙ length_octas l d _ ∙ middle in
        over_part _ from to g ys h m n
        (λ i p. ap (λ (zs : List ℕ). get_or zs i 0) f
        ∙ get_or-octas _ l d i (omega (arith, middle))
        ∙ run_look base l x i short (omega arith) (d + 8 * i) (omega arith)
        ∙ ap (λ (k : ℕ). read_by one (lent_one base l) (x + 8 * k)) (omega arith))

  -- a run that becomes the first n of a list of numbers
  pub run_stored : (n : ℕ) (vs : List ℕ) (d : ℕ) → n ≤ length vs → n ≤ room_in (shape_of (lent_one base l)) x → d ≡ offset base x
      → lent_one base (written l d (flat (take n vs))) ≡ written_run_by one (lent_one base l) x n (λ i. get_or vs i 0)
  unfolding written_run_by
  run_stored zero vs d m r e = ap (lent_one base) (sym (flat_none l d))
  run_stored (suc n) vs d m r e =
      let u : List ℕ = written l d (flat (take n vs)) in
      let same : length u ≡ length l = length_written l d (flat (take n vs)) in
      let more : written l d (flat (take (suc n) vs)) ≡ written u (d + 8 * n) (bytes_of (get_or vs n 0)) =
      ap (λ (k : ℕ). written l d (flat (take k vs))) (sym (add-one n)) ∙ sym (flat_turn u l vs d n (omega arith) refl) in
      run_put base u x n (omega (arith, same)) (omega (arith, room_same base x l u same)) (d + 8 * n) (get_or vs n 0) _ (omega arith) more
      ∙ ap (λ (w : Window). written_by one w (x + 8 * n) (get_or vs n 0)) (run_stored n vs d (omega arith) (omega arith) e)

  -- registers that go to a run of them
  pub range_stored : (g k : List ℕ) (from to d : ℕ) → to ≤ length g → to - from ≤ room_in (shape_of (lent_one base l)) x → d ≡ offset base x
      → k ≡ written l d (flat (mid_of from (to - from) g)) → lent_one base k ≡ written_run_by one (lent_one base l) x (to - from) (λ i. get_or g (from + i) 0)
  range_stored g k from to d m r e f =
      let n : length (drop from g) ≡ length g - from = length-drop from g in
      ap (lent_one base) f
      ∙ run_stored (to - from) (drop from g) d (omega (arith, n)) r e
      ∙ run_alike (to - from) (λ i. get_or (drop from g) i 0) (λ i. get_or g (from + i) 0) (λ i. get_or-drop from g i 0) (lent_one base l) x
