-- A task's turn as code has it: what refuses it whole; the part lent as a slice; and the run on it as the run of the whole.
use Rattle.model.proofs.Prelude.{ℕ, ◌%◌, ◌+◌, ◌<◌, ◌^◌, ◌≤◌, Bool, cond, false, true, ◌&&◌, ◌||◌, List, [], ◌++◌, ◌∷◌, ap, refl, subst, sym, ◌∙◌, ◌≡◌, arith}
use Rattle.model.proofs.Prelude.{eqb, ltb, drop, length, length-drop, take, length-take-le, le-ltb, lt-ltb, ne_eqb, both, inside, shape_of, Shapes, shapes_of}
use Rattle.model.proofs.Prelude.{Windows, Passes, lent, admissible, Sized, grant_most, refused_whole, run_for, run_of, Stopped, fetched, fetched_needs, unruled_by}
use Rattle.model.proofs.Prelude.{inside_judged, run_open, written_lent}
use Rattle.task_run.proofs.Prelude.{State, refusal_on, judged_by, RunNumbered, passed, part_ruled, any_foreign, foreign, mmix_in, Own}
use Rattle.model.specs.declared.Bases.{Bases}
use Rattle.task_run.specs.RunIn.{lost, run_in, viewed}
use Rattle.task_run.specs.Ask.{is_foreign, asks, OwnOnly, told}
use Rattle.task_run.specs.declared.ask.Whole.{Whole}
use Rattle.task_run.proofs.PartShapes.{Part, part_ruled_law, part_shapes, part_unruled, passes_own}
use Rattle.task_run.proofs.View.{back, view_shapes, back_view}
use Rattle.task_run.proofs.ViewRun.{seen, run_in_law}
use Rattle.task_run.proofs.TurnRun.{run_shapes}

-- ---- what refuses a turn whole

refused : (w : Windows) (s : State) (n m : ℕ) → n ≡ m → RunNumbered (refused_whole m w s) n 0 s w
refused w s n m e = record { reply_is = e; count_is = refl; state_is = refl; window_is = refl }

-- windows that were only read are judged as they are lent
pub judged_read : (w v : Windows) (s : State) (n : ℕ) → n ≡ refusal_on w s → w ≡ v → n ≡ refusal_on v s
judged_read w v s n e f = e ∙ ap (λ (u : Windows). refusal_on u s) f

module _ (p : Own) (w : Windows) (s : State) (grant : ℕ) where
  pub turn_unopened : (n : ℕ) → n ≡ refusal_on w s → (n ≡ 0 → ⊥) → RunNumbered (run_in w s p grant) n 0 s w
  unfolding refusal_on run_in
  turn_unopened n e f = go (admissible s) e
    where
      go : (b : Bool) → n ≡ cond b (unruled_by (shapes_of w)) 1 → RunNumbered (cond b (cond (eqb (unruled_by (shapes_of w)) 0)
          (cond (ltb grant_most grant) (refused_whole 25 w s)
          (cond (part_ruled (shapes_of w).b.size p) (run_for both (mmix_in p) fetched grant s w) (refused_whole 33 w s)))
          (refused_whole (unruled_by (shapes_of w)) w s)) (refused_whole 1 w s)) n 0 s w
      go true q = rw (ne_eqb (unruled_by (shapes_of w)) 0 (λ k. f (q ∙ k))) (refused w s n (unruled_by (shapes_of w)) q)
      go false q = refused w s n 1 q

  module _ (e : refusal_on w s ≡ 0) where
    good : (admissible s ≡ true) × (unruled_by (shapes_of w) ≡ 0)
    good = judged_by w s e

    pub turn_large : grant_most < grant → RunNumbered (run_in w s p grant) 25 0 s w
    unfolding run_in
    turn_large l = rw (good.0, good.1, lt-ltb grant_most grant l) (refused w s 25 25 refl)

    module _ (l : grant ≤ grant_most) where
      pub turn_partless : part_ruled (length w.b.bytes) p ≡ false → RunNumbered (run_in w s p grant) 33 0 s w
      unfolding run_in shapes_of shape_of
      turn_partless f = rw (good.0, good.1, le-ltb grant_most grant l, f) (refused w s 33 33 refl)

      turn_open : part_ruled (length w.b.bytes) p ≡ true → run_in w s p grant ≡ run_for both (mmix_in p) fetched grant s w
      unfolding run_in shapes_of shape_of
      turn_open f = rw (good.0, good.1, le-ltb grant_most grant l, f)

-- ---- the whole, and the part beside A

abbrev pub whole_in : Own → Windows → Whole
whole_in p w = record { base = w.b.base; len = length w.b.bytes; part = record { start = p.start; len = p.size } }

any_whole : (p : Own) (w : Windows) (l : List ℕ) → any_foreign p (shapes_of w) l ≡ asks (whole_in p w) l
unfolding any_foreign foreign shapes_of shape_of
any_whole p w [] = refl
any_whole p w (x ∷ l) = ap (λ (b : Bool). foreign p (shapes_of w) x || b) (any_whole p w l)

foreign_whole : (p : Own) (w : Windows) (x : ℕ) → foreign p (shapes_of w) x ≡ is_foreign (whole_in p w) x
unfolding foreign shapes_of shape_of
foreign_whole p w x = refl

module _ (p : Own) (w : Windows) (f : part_ruled (length w.b.bytes) p ≡ true) (u : unruled_by (shapes_of w) ≡ 0) where
  part : Part (shapes_of w).b.size p
  part = unfold shapes_of shape_of in (part_ruled_law (length w.b.bytes) p f)

  fits : shapes_of (viewed p w) ≡ part_shapes p (shapes_of w)
  fits = view_shapes p w (part_ruled_law (length w.b.bytes) p f)

  pub view_fine : unruled_by (shapes_of (viewed p w)) ≡ 0
  view_fine = ap unruled_by fits ∙ part_unruled p (shapes_of w) u part

  pub view_own : OwnOnly (whole_in p w) (viewed p w)
  view_own = record {
    none_foreign = λ x i.
        sym (foreign_whole p w x) ∙ passes_own p (shapes_of w) u part x (inside_judged (part_shapes p (shapes_of w)) x (ap (λ (g : Shapes). inside g x) (sym fits) ∙ i));
  }

  pub turn_whole : (s : State) (grant : ℕ) → Sized s → refusal_on w s ≡ 0 → grant ≤ grant_most → run_in w s p grant ≡ seen p w (run_of (viewed p w) s grant)
  turn_whole s grant z e l =
      let a : admissible s ≡ true = (judged_by w s e).0 in
      let r : Passes (viewed p w) s = passed (viewed p w) s a view_fine in
      turn_open p w s grant e l f
      ∙ ap (run_for both (mmix_in p) fetched grant s) (sym (back_view p w (part_ruled_law (length w.b.bytes) p f)))
      ∙ run_in_law p w u part grant s (viewed p w) fits (record { sized = z; passes = r })
      ∙ ap (seen p w) (sym (run_open (viewed p w) s grant (record { passes = r; granted = l })))

-- ---- the part lent as a slice: n bytes from the start on, at a base q

module _ (at : Bases) (a b : List ℕ) (p : Own) (s : State) (e : refusal_on (lent at a b) s ≡ 0) (f : part_ruled (length b) p ≡ true)
    (q n : ℕ) (x : q ≡ (at.b + p.start) % 2 ^ 64) (y : n ≡ p.size) where
  abbrev base : Bases
  base = record { a = at.a; b = q }

  abbrev own : Windows
  own = lent base a (take n (drop p.start b))

  fine : unruled_by (shapes_of (lent at a b)) ≡ 0
  fine = (judged_by (lent at a b) s e).1

  is_view : own ≡ viewed p (lent at a b)
  unfolding viewed
  is_view = λ i. record { a = record { base = at.a; bytes = a }; b = record { base = x i; bytes = take (y i) (drop p.start b) } }

  pub lent_fine : unruled_by (shapes_of own) ≡ 0
  lent_fine = ap (λ (w : Windows). unruled_by (shapes_of w)) is_view ∙ view_fine p (lent at a b) f fine

  pub lent_own : OwnOnly (whole_in p (lent at a b)) own
  lent_own = subst (OwnOnly (whole_in p (lent at a b))) (sym is_view) (view_own p (lent at a b) f fine)

  module _ (grant : ℕ) (z : Sized s) (l : grant ≤ grant_most) (r d : ℕ) (t : State) (k m : List ℕ)
      (h : RunNumbered (told (whole_in p (lent at a b)) (run_of own s grant)) r d t (lent base k m)) where
    abbrev ran : Stopped State Windows
    ran = run_of (viewed p (lent at a b)) s grant

    viewed_told : RunNumbered (told (whole_in p (lent at a b)) ran) r d t (lent base k m)
    viewed_told = subst (λ (w : Windows). RunNumbered (told (whole_in p (lent at a b)) (run_of w s grant)) r d t (lent base k m)) is_view h

    within : p.start + n ≤ length b
    within = let i : p.start + p.size ≤ length b = (part_ruled_law (length b) p f).within in omega arith

    long : length m ≡ n
    unfolding told shapes_of shape_of
    long = ap (λ (w : Windows). (shapes_of w).b.size) h.window_is ∙ ap (λ (g : Shapes). g.b.size) (run_shapes grant own s)
        ∙ length-take-le n (drop p.start b) (omega (arith, length-drop p.start b, within))

    put_back : lent at k (take p.start b ++ (m ++ drop n (drop p.start b))) ≡ back p (lent at a b) (lent base k m)
    unfolding back
    put_back = λ i. record { a = record { base = at.a; bytes = k }; b = record { base = at.b; bytes = written_lent b m p.start n long within i } }

    pub turn_done : RunNumbered (run_in (lent at a b) s p grant) r d t (lent at k (take p.start b ++ (m ++ drop n (drop p.start b))))
    unfolding told
    turn_done = rw (turn_whole p (lent at a b) f fine s grant z e l) (record {
      reply_is = viewed_told.reply_is
          ∙ ap (λ (c : Bool). cond (lost ran.reply && c) 32 ran.reply) (sym (any_whole p (lent at a b) (fetched_needs ran.memory ran.state)));
      count_is = viewed_told.count_is;
      state_is = viewed_told.state_is;
      window_is = put_back ∙ ap (back p (lent at a b)) viewed_told.window_is;
    })
