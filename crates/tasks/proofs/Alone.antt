-- What every instruction keeps, a task's run keeps: its instructions are as on all of B, or 32 leaves everything. And a run that nothing refuses whole.
use Rattle.model.proofs.Prelude.{ℕ, ◌≤◌, true, ⊎_elim, ap, subst, sym, ◌∙◌, ◌≡◌, le-ltb, Bytes, Fits, step_on, both, Shapes, shapes_of, Windows, Outcome}
use Rattle.model.proofs.Prelude.{admissible, Sized, Words, grant_most, run_for, Stopped, fetched, mmix, unruled_by, items_keep, run_by, fetched_on, fetched_shapes}
use Rattle.tasks.proofs.Prelude.{State, part_ruled, mmix_in, Own, run_in}
use Rattle.task_model.proofs.Foreign.{foreign_meant}

-- ---- what a task's run keeps

-- of a state under the mask m, and windows of the shapes h
pub record Held (m : ℕ) (h : Shapes) (s : State) (w : Windows) : Type 0 where
  pub sized : Sized s
  pub words : Words s
  pub admitted : admissible s ≡ true
  pub mask_is : s.mask ≡ m
  pub shapes_are : shapes_of w ≡ h
  pub bytes : Bytes w

module _ (m : ℕ) (h : Shapes) where
  -- what an instruction leaves
  abbrev Left : Outcome State Windows → Type 0
  Left o = Held m h o.state o.memory

  mmix_left : (s : State) (w : Windows) → Held m h s w → Left (step_on both mmix s w fetched)
  unfolding Fits
  mmix_left s w k = record {
    sized = items_keep.sized w s fetched k.sized;
    words = items_keep.words w s fetched tt k.bytes k.words;
    admitted = items_keep.admitted w s fetched k.sized k.admitted;
    mask_is = items_keep.mask w s fetched ∙ k.mask_is;
    shapes_are = ap (λ (o : Outcome State Windows). shapes_of o.memory) (fetched_on w s) ∙ fetched_shapes w s ∙ k.shapes_are;
    bytes = items_keep.bytes w s fetched k.bytes;
  }

  task_left : (p : Own) (s : State) (w : Windows) → Held m h s w → Left (step_on both (mmix_in p) s w fetched)
  task_left p s w k = ⊎_elim (λ e. subst Left (sym e) (mmix_left s w k)) (λ e. subst Left (sym e) k) (foreign_meant.either p w s fetched)

  pub run_held : (p : Own) (g : ℕ) (s : State) (w : Windows) → Held m h s w → Held m h (run_for both (mmix_in p) fetched g s w).state (run_for both (mmix_in p) fetched g s w).memory
  run_held p =
      run_by both (mmix_in p) fetched (Held m h) (λ (r : Stopped State Windows). Held m h r.state r.memory) (λ n r k. k) (λ s w k. k) (λ s w k n. task_left p s w k)
      (λ s w k e. task_left p s w k)

-- where nothing refuses it whole
pub run_in_open : (w : Windows) (s : State) (p : Own) (g : ℕ) → admissible s ≡ true → unruled_by (shapes_of w) ≡ 0 → g ≤ grant_most → part_ruled (shapes_of w).b.size p ≡ true
    → run_in w s p g ≡ run_for both (mmix_in p) fetched g s w
unfolding run_in
run_in_open w s p g a u l r = rw (a, u, le-ltb grant_most g l, r)
