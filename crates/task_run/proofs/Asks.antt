-- The questions of `ask`, over plain variables: one octabyte, a run of them octabyte by octabyte, and, in windows that have nothing foreign, a run with what
-- follows where it passes.
use Rattle.model.proofs.Prelude.{max, min, suc, ℕ, ◌%◌, ◌*◌, ◌+◌, ◌-◌, ◌<◌, ◌^◌, ◌≤◌, Bool, cond, false, not, true, ◌&&◌, ◌||◌, List, [], ap, refl, sym, ◌∙◌}
use Rattle.model.proofs.Prelude.{◌≡◌, arith, eqb, ltb, eq-eqb, eqb-true, leb-false, lt-leb, lt-ltb, ltb-true, is_negative, misplaced, no_frame}
use Rattle.model.proofs.Prelude.{both, holder, inside, shapes_of, Windows, clear, look, ups, worst, r_g, r_o, sp, stack_start, refusing, hole_below}
use Rattle.model.proofs.Prelude.{pop_needs, run, and_left, and_right, judged_inside}
use Rattle.task_run.proofs.Prelude.{State, read_octa, held_inside, held_none, octa_held, any_foreign, any_mod, any_one, any_run}
use Rattle.task_run.specs.Ask.{own_of, whole_of, is_foreign, asks, OwnOnly}
use Rattle.task_run.specs.declared.ask.Whole.{Whole}

pub differ : true ≡ false → ⊥
differ e = let z : ◌≡◌ {A = ℕ} 0 1 = cc in omega arith

-- ---- a run of n from a up: i are passed, and the next is at b

module _ (h : Whole) (a n : ℕ) where
  pub scan_none : asks h (ups a n) ≡ asks h (ups a (n - 0))
  scan_none = ap (λ (k : ℕ). asks h (ups a k)) (omega arith)

  module _ (b i : ℕ) (e : asks h (ups a n) ≡ asks h (ups b (n - i))) where
    pub scan_end : n ≤ i → false ≡ asks h (ups a n)
    unfolding ups any_foreign
    scan_end l = let z : n - i ≡ 0 = omega arith in sym (e ∙ rw z)

    module _ (l : i < n) where
      front : asks h (ups a n) ≡ (is_foreign h b || asks h (ups (b + 8) (n - (i + 1))))
      unfolding ups any_foreign
      front = let z : n - i ≡ suc (n - (i + 1)) = omega arith in e ∙ rw z

      pub scan_found : true ≡ is_foreign h b → true ≡ asks h (ups a n)
      scan_found f = sym (front ∙ rw (← f))

      pub scan_next : false ≡ is_foreign h b → (c : ℕ) → c ≡ (b + 8) % 2 ^ 64 → asks h (ups a n) ≡ asks h (ups c (n - (i + 1)))
      scan_next f c g = front ∙ (rw (← f) (any_mod (own_of h) (whole_of h) (n - (i + 1)) (b + 8) c (omega arith)))

-- ---- in windows that have nothing foreign

module _ (h : Whole) (w : Windows) (o : OwnOnly h w) where
  pub asks_run : (a n : ℕ) (rest : List ℕ) → asks h (run w a n rest) ≡ (asks h (ups a n) || (clear (refusing (shapes_of w)) a n && asks h rest))
  asks_run a n rest = any_run (own_of h) (whole_of h) (refusing (shapes_of w)) (λ x e. o.none_foreign x (judged_inside (shapes_of w) x e)) n a rest

  -- the last run of an arm
  pub asks_last : (a n : ℕ) → asks h (run w a n []) ≡ asks h (ups a n)
  unfolding any_foreign
  asks_last a n = asks_run a n [] ∙ go (asks h (ups a n)) (clear (refusing (shapes_of w)) a n)
    where
      go : (b c : Bool) → (b || (c && false)) ≡ b
      go true c = refl
      go false true = refl
      go false false = refl

  pub asks_one : (a : ℕ) (rest : List ℕ) → asks h (run w a 1 rest) ≡ (is_foreign h a || (inside (shapes_of w) a && asks h rest))
  unfolding ups worst refusing
  asks_one a rest = asks_run a 1 rest ∙ rw (any_one (own_of h) (whole_of h) a) (go (inside (shapes_of w) a))
    where
      go : (b : Bool) → (is_foreign h a || (eqb (max (cond b 0 6) 0) 0 && asks h rest)) ≡ (is_foreign h a || (b && asks h rest))
      go true = refl
      go false = refl

  -- one octabyte, r whether it is foreign and k which window holds it, and then what follows
  module _ (a : ℕ) (rest : List ℕ) (r : Bool) (e : r ≡ is_foreign h a) where
    pub one_foreign : r ≡ true → true ≡ asks h (run w a 1 rest)
    one_foreign f = sym (asks_one a rest ∙ rw (sym e ∙ f))

    module _ (f : r ≡ false) (k : ℕ) (g : k ≡ holder (shapes_of w) a) where
      pub one_missing : k ≡ 2 → false ≡ asks h (run w a 1 rest)
      one_missing q = sym (asks_one a rest ∙ rw (sym e ∙ f, held_none (shapes_of w) a (sym g ∙ q)))

      pub one_there : (k ≡ 2 → ⊥) → asks h (run w a 1 rest) ≡ asks h rest
      one_there q = asks_one a rest ∙ rw (sym e ∙ f, held_inside (shapes_of w) a (λ z. q (g ∙ z)))

-- ---- POP

-- rO is such that there is a frame
pub record Standing (s : State) : Type 0 where
  pub above : stack_start < sp s r_o
  pub even : sp s r_o % 8 ≡ 0
  pub positive : is_negative (sp s r_o) ≡ false

module _ (h : Whole) (w : Windows) (s : State) where
  pub pop_nothing : (Standing s → ⊥) → false ≡ asks h (pop_needs w s)
  unfolding pop_needs any_foreign
  pop_nothing f = go (no_frame s) refl (misplaced s) refl
    where
      stands : no_frame s ≡ false → misplaced s ≡ false → Standing s
      stands n m = unfold no_frame misplaced in (
          let t : (eqb (sp s r_o % 8) 0 && ltb (sp s r_o) 0x8000000000000000) ≡ true = denies (eqb (sp s r_o % 8) 0 && ltb (sp s r_o) 0x8000000000000000) m in
          let l : sp s r_o < 0x8000000000000000 = ltb-true _ _ (and_right (eqb (sp s r_o % 8) 0) _ t) in
          record { above = leb-false _ _ n; even = eqb-true _ _ (and_left (eqb (sp s r_o % 8) 0) _ t); positive = lt-leb 0x8000000000000000 (sp s r_o) l })
        where
          denies : (b : Bool) → not b ≡ false → b ≡ true
          denies true q = refl
          denies false q = sym q

      go : (n : Bool) → no_frame s ≡ n → (m : Bool) → misplaced s ≡ m
          → false ≡ asks h (cond n [] (cond m [] (run w (sp s r_o - 8) 1 (run w (sp s r_o - 8 * (hole_below w s + 1)) (min (hole_below w s) (sp s r_g)) []))))
      go true a m b = refl
      go false a true b = refl
      go false a false b = absurd (f (stands a b))

  pop_stands : Standing s → pop_needs w s ≡ run w (sp s r_o - 8) 1 (run w (sp s r_o - 8 * (hole_below w s + 1)) (min (hole_below w s) (sp s r_g)) [])
  unfolding pop_needs no_frame misplaced
  pop_stands t =
      let l : sp s r_o < 0x8000000000000000 = leb-false _ _ t.positive in
      rw (lt-leb (sp s r_o) stack_start t.above, eq-eqb _ _ t.even, lt-ltb _ _ l)

  module _ (o : OwnOnly h w) (t : Standing s) (r : Bool) (e : r ≡ is_foreign h (sp s r_o - 8)) where
    pub pop_foreign : r ≡ true → true ≡ asks h (pop_needs w s)
    pop_foreign f = rw (pop_stands t) (one_foreign h w o (sp s r_o - 8) _ r e f)

    module _ (f : r ≡ false) (k : ℕ) (g : k ≡ holder (shapes_of w) (sp s r_o - 8)) where
      pub pop_missing : k ≡ 2 → false ≡ asks h (pop_needs w s)
      pop_missing q = rw (pop_stands t) (one_missing h w o (sp s r_o - 8) _ r e f k g q)

      pub pop_rest : (k ≡ 2 → ⊥) → (v n : ℕ) → v ≡ read_octa w (sp s r_o - 8) → n ≡ min (v % 256) (sp s r_g)
          → (q : Bool) → q ≡ asks h (ups (sp s r_o - 8 * (v % 256 + 1)) n) → q ≡ asks h (pop_needs w s)
      pop_rest b v n d m q i =
          let x : v ≡ look both w (sp s r_o - 8) = d ∙ octa_held w (sp s r_o - 8) (λ z. b (g ∙ z)) in
          i ∙ sym (ap (asks h) (pop_stands t) ∙ one_there h w o (sp s r_o - 8) _ r e f k g b ∙ asks_last h w o _ _ ∙ rw (← x, ← m))
