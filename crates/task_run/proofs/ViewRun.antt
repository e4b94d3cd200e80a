-- Plans and runs on the part as a window of its own: they do in the whole what they do there, and 32 is the reply in the place of 6 or 24 where a needed
-- octabyte is foreign.
use Rattle.model.proofs.Prelude.{max, suc, zero, ℕ, ◌+◌, ◌≤◌, Bool, cond, false, not, true, ◌&&◌, ◌||◌, List, [], ◌++◌, ◌∷◌, inl, inr, ap, refl, sym, ◌∙◌, ◌≡◌}
use Rattle.model.proofs.Prelude.{ℕ_discrete, arith, eqb, length, eqb-true, step_on, both, inside, put_octa, Shapes, shapes_of, Windows, answer, clear, look, looks}
use Rattle.model.proofs.Prelude.{missing, named, Outcome, perform, Plan, puts, read, ups, worst, Sized, more, run_for, Stopped, stopped_by, fetched, fetched_needs}
use Rattle.model.proofs.Prelude.{fetched_of, fetched_plan, guarded, item_plan, mmix, refusing, unruled_by, and_left, and_right, on, inside_judged, both_lawful}
use Rattle.model.proofs.Prelude.{worst_head, worst_tail, replies_leave, run_done, run_none, run_refused, fetched_on, fetched_ready, fetched_shapes, Ready}
use Rattle.task_run.proofs.Prelude.{State, any_foreign, foreign, mmix_in, Own, refusing_in, any_append, clear_none, missing_any}
use Rattle.model.specs.Plan.{needs}
use Rattle.model.specs.Locality.{all_inside}
use Rattle.model.specs.Numbers.{Missed}
use Rattle.model.proofs.Locality.{fetched_is_local}
use Rattle.task_run.specs.RunIn.{lost}
use Rattle.task_run.proofs.PartShapes.{Part, part_shapes, part_unruled, judged_in, passes_own}
use Rattle.task_run.proofs.View.{back, back_shapes, back_octa, back_put}

-- an outcome on the part as one of the whole, f where a need is foreign
abbrev pub shown : {S : Type 0} → Own → Windows → Bool → Outcome S Windows → Outcome S Windows
shown p w f o = record { reply = cond f 32 o.reply; state = o.state; memory = back p w o.memory }

-- a run on the part as one of the whole
abbrev pub seen : Own → Windows → Stopped State Windows → Stopped State Windows
seen p w r = record {
  done = r.done;
  reply = cond (lost r.reply && any_foreign p (shapes_of w) (fetched_needs r.memory r.state)) 32 r.reply;
  state = r.state;
  memory = back p w r.memory;
}

refusing_most : (w : Shapes) (a : ℕ) → refusing w a ≤ 6
unfolding refusing
refusing_most w a = on (λ (n : ℕ). n ≤ 6) (inside w a) (λ e. omega arith) (λ e. omega arith)

worst_most : (w : Shapes) (n a : ℕ) → worst (refusing w) a n ≤ 6
unfolding worst
worst_most w zero a = omega arith
worst_most w (suc n) a = omega (arith, refusing_most w a, worst_most w n (a + 8))

-- windows that pass have one plan
same_plan : (s : State) (g h : Shapes) → unruled_by g ≡ 0 → unruled_by h ≡ 0 → fetched_plan s g ≡ fetched_plan s h
unfolding fetched_plan guarded
same_plan s g h a b = rw (a, b)

lost_is : (n : ℕ) → lost n ≡ true → Missed n
lost_is n h = go (eqb n 6) refl h
  where
    go : (b : Bool) → eqb n 6 ≡ b → (b || eqb n 24) ≡ true → Missed n
    go true c q = inl (eqb-true _ _ c)
    go false c q = inr (eqb-true _ _ q)

module _ (p : Own) (w : Windows) (u : unruled_by (shapes_of w) ≡ 0) (k : Part (shapes_of w).b.size p) where
  abbrev judge : ℕ → ℕ
  judge = refusing (part_shapes p (shapes_of w))

  abbrev judge_in : ℕ → ℕ
  judge_in = refusing_in p (shapes_of w)

  abbrev any : List ℕ → Bool
  any = any_foreign p (shapes_of w)

  abbrev pub Fits : Windows → Type 0
  Fits v = shapes_of v ≡ part_shapes p (shapes_of w)

  -- ---- a run of octabytes

  worst_in : (n a : ℕ) → worst judge_in a n ≡ cond (any (ups a n)) 32 (worst judge a n)
  unfolding worst any_foreign ups
  worst_in zero a = refl
  worst_in (suc n) a = rw (judged_in p (shapes_of w) u k a, worst_in n (a + 8)) (go (foreign p (shapes_of w) a) (any (ups (a + 8) n)))
    where
      go : (f g : Bool) → max (cond f 32 (judge a)) (cond g 32 (worst judge (a + 8) n)) ≡ cond (f || g) 32 (max (judge a) (worst judge (a + 8) n))
      go true true = refl
      go true false = omega (arith, worst_most (part_shapes p (shapes_of w)) n (a + 8))
      go false true = omega (arith, refusing_most (part_shapes p (shapes_of w)) a)
      go false false = refl

  none_foreign : (n a : ℕ) → clear judge a n ≡ true → any (ups a n) ≡ false
  none_foreign n a e = clear_none p (shapes_of w) judge (passes_own p (shapes_of w) u k) n a (eqb-true _ _ e)

  clear_in : (n a : ℕ) → clear judge_in a n ≡ clear judge a n
  clear_in n a = ap (λ (r : ℕ). eqb r 0) (worst_in n a) ∙ go (any (ups a n)) refl (clear judge a n) refl
    where
      go : (f : Bool) → any (ups a n) ≡ f → (b : Bool) → clear judge a n ≡ b → eqb (cond f 32 (worst judge a n)) 0 ≡ clear judge a n
      go true g true e = absurd (let z : true ≡ false = sym g ∙ none_foreign n a e in let o : ◌≡◌ {A = ℕ} 0 1 = cc in omega arith)
      go true g false e = sym e
      go false g b e = refl

  looks_back : (n : ℕ) (v : Windows) (a : ℕ) → Fits v → worst judge a n ≡ 0 → looks both (back p w v) a n ≡ looks both v a n
  unfolding looks look both
  looks_back zero v a e h = refl
  looks_back (suc n) v a e h = rw (back_octa p w v u k e a (worst_head judge a n h), looks_back n v (a + 8) e (worst_tail judge a n h))

  puts_back : (vs : List ℕ) (v : Windows) (a : ℕ) → Fits v → worst judge a (length vs) ≡ 0 → puts both (back p w v) a vs ≡ back p w (puts both v a vs)
  unfolding puts both
  puts_back [] v a e h = refl
  puts_back (x ∷ vs) v a e h =
      ap (λ (m : Windows). puts both m (a + 8) vs) (back_put p w v u k e a (worst_head judge a (length vs) h) x)
      ∙ puts_back vs (put_octa v a x) (a + 8) (both_lawful.put_shape v a x ∙ e) (worst_tail judge a (length vs) h)

  -- ---- a plan

  performed : {S : Type 0} (s : S) (q : Plan S) (v : Windows) → Fits v
      → perform both judge_in s q (back p w v) ≡ shown p w (any (needs both judge q v)) (perform both judge s q v)
  unfolding perform needs
  performed {S} s (answer r t a vs) v e = rw (clear_in (length vs) a) (go (clear judge a (length vs)) refl)
    where
      go : (b : Bool) → clear judge a (length vs) ≡ b
          → cond {A = Outcome S Windows} b (record { reply = r; state = t; memory = puts both (back p w v) a vs }) (record { reply = worst judge_in a (length vs); state = s; memory = back p w v })
          ≡ shown p w (any (cond b (ups a (length vs)) (missing judge a (length vs))))
          (cond {A = Outcome S Windows} b (record { reply = r; state = t; memory = puts both v a vs }) (record { reply = worst judge a (length vs); state = s; memory = v }))
      go true c = rw (none_foreign (length vs) a c) (λ i. record { reply = r; state = t; memory = puts_back vs v a e (eqb-true _ _ c) i })
      go false c = rw (missing_any p (shapes_of w) judge (passes_own p (shapes_of w) u k) (length vs) a, worst_in (length vs) a)
  performed {S} s (read q a n f) v e = rw (clear_in n a) (go (clear judge a n) refl (λ c. performed s (f (looks both v a n)) v e))
    where
      go : (b : Bool) → clear judge a n ≡ b
          → (b ≡ true → perform both judge_in s (f (looks both v a n)) (back p w v) ≡ shown p w (any (needs both judge (f (looks both v a n)) v)) (perform both judge s (f (looks both v a n)) v))
          → cond {A = Outcome S Windows} b (perform both judge_in s (f (looks both (back p w v) a n)) (back p w v)) (record { reply = named q (worst judge_in a n); state = s; memory = back p w v })
          ≡ shown p w (any (cond b (ups a n ++ needs both judge (f (looks both v a n)) v) (missing judge a n)))
          (cond {A = Outcome S Windows} b (perform both judge s (f (looks both v a n)) v) (record { reply = named q (worst judge a n); state = s; memory = v }))
      go true c h = rw (looks_back n v a e (eqb-true _ _ c), any_append p (shapes_of w) (ups a n) (needs both judge (f (looks both v a n)) v), none_foreign n a c) (h refl)
      go false c h =
          rw (missing_any p (shapes_of w) judge (passes_own p (shapes_of w) u k) n a, worst_in n a)
          (λ i. record { reply = name (any (ups a n)) i; state = s; memory = back p w v })
        where
          name : (t : Bool) → named q (cond t 32 (worst judge a n)) ≡ cond t 32 (named q (worst judge a n))
          name true = unfold named in refl
          name false = refl

  -- ---- an instruction

  pub fetched_in' : (s : State) (v : Windows) → Fits v → step_on both (mmix_in p) s (back p w v) fetched ≡ shown p w (any (fetched_needs v s)) (fetched_of v s)
  unfolding step_on mmix_in item_plan fetched_of fetched_needs both
  fetched_in' s v e =
      ap (λ (g : Shapes). perform both (refusing_in p g) s (fetched_plan s g) (back p w v)) (back_shapes p w v u k e)
      ∙ ap (λ (q : Plan State). perform both judge_in s q (back p w v)) (same_plan s (shapes_of w) (part_shapes p (shapes_of w)) u (part_unruled p (shapes_of w) u k))
      ∙ performed s (fetched_plan s (part_shapes p (shapes_of w))) v e
      ∙ ap (λ (g : Shapes). shown p w (any (needs both (refusing g) (fetched_plan s g) v)) (perform both (refusing g) s (fetched_plan s g) v)) (sym e)

  inside_none : (l : List ℕ) → all_inside (part_shapes p (shapes_of w)) l ≡ true → any l ≡ false
  unfolding all_inside any_foreign
  inside_none [] h = refl
  inside_none (x ∷ l) h =
      rw (passes_own p (shapes_of w) u k x (inside_judged (part_shapes p (shapes_of w)) x (and_left (inside (part_shapes p (shapes_of w)) x) _ h)))
      (inside_none l (and_right (inside (part_shapes p (shapes_of w)) x) _ h))

  -- what is not refused by 6 or 24 needs nothing foreign
  found_none : (s : State) (v : Windows) → Fits v → lost (fetched_of v s).reply ≡ false → any (fetched_needs v s) ≡ false
  found_none s v e h = inside_none (fetched_needs v s) (go (all_inside (part_shapes p (shapes_of w)) (fetched_needs v s)) (sym h ∙ fetched_is_local.missed v s ∙ ap (λ (g : Shapes). not (all_inside g (fetched_needs v s))) e))
    where
      go : (b : Bool) → false ≡ not b → b ≡ true
      go true q = refl
      go false q = q

  -- and what is leaves state and windows, so that its needs are asked at the end
  stopped_in : (s : State) (v : Windows) → Fits v → Sized s → stopped_by (shown p w (any (fetched_needs v s)) (fetched_of v s)) ≡ seen p w (stopped_by (fetched_of v s))
  stopped_in s v e z = λ i. record { done = 0; reply = go (lost (fetched_of v s).reply) refl i; state = (fetched_of v s).state; memory = back p w (fetched_of v s).memory }
    where
      go : (b : Bool) → lost (fetched_of v s).reply ≡ b
          → cond (any (fetched_needs v s)) 32 (fetched_of v s).reply ≡ cond (b && any (fetched_needs (fetched_of v s).memory (fetched_of v s).state)) 32 (fetched_of v s).reply
      go true h =
          let m : ((fetched_of v s).state ≡ s) × ((fetched_of v s).memory ≡ v) = (replies_leave.by_fetched v s z).missed (lost_is (fetched_of v s).reply h) in
          ap (λ (f : Bool). cond f 32 (fetched_of v s).reply) (sym (ap (λ (c : Windows). any (fetched_needs c (fetched_of v s).state)) m.1 ∙ ap (λ (t : State). any (fetched_needs v t)) m.0))
      go false h = rw (found_none s v e h)

  -- ---- a run

  pub run_in_law : (g : ℕ) (s : State) (v : Windows) → Fits v → Ready v s → run_for both (mmix_in p) fetched g s (back p w v) ≡ seen p w (run_for both mmix fetched g s v)
  run_in_law zero s v e r = run_none both (mmix_in p) fetched s (back p w v) ∙ ap (seen p w) (sym (run_none both mmix fetched s v))
  run_in_law (suc g) s v e r = go (ℕ_discrete (fetched_of v s).reply 0) (run_in_law g (fetched_of v s).state (fetched_of v s).memory (fetched_shapes v s ∙ e) (fetched_ready v s r))
    where
      go : Dec ((fetched_of v s).reply ≡ 0)
          → run_for both (mmix_in p) fetched g (fetched_of v s).state (back p w (fetched_of v s).memory) ≡ seen p w (run_for both mmix fetched g (fetched_of v s).state (fetched_of v s).memory)
          → run_for both (mmix_in p) fetched (suc g) s (back p w v) ≡ seen p w (run_for both mmix fetched (suc g) s v)
      go (yes d) h =
          let n : any (fetched_needs v s) ≡ false = found_none s v e (rw d refl) in
          let o : step_on both (mmix_in p) s (back p w v) fetched ≡ shown p w false (fetched_of v s) = fetched_in' s v e ∙ ap (λ (f : Bool). shown p w f (fetched_of v s)) n in
          run_done both (mmix_in p) fetched g s (back p w v) (ap (λ (q : Outcome State Windows). q.reply) o ∙ d)
          ∙ ap (λ (q : Outcome State Windows). more 1 (run_for both (mmix_in p) fetched g q.state q.memory)) o
          ∙ ap (more 1) h
          ∙ ap (λ (q : Outcome State Windows). seen p w (more 1 (run_for both mmix fetched g q.state q.memory))) (sym (fetched_on v s))
          ∙ ap (seen p w) (sym (run_done both mmix fetched g s v (ap (λ (q : Outcome State Windows). q.reply) (fetched_on v s) ∙ d)))
      go (no d) h =
          run_refused both (mmix_in p) fetched g s (back p w v) (λ q. refused (any (fetched_needs v s)) (ap (λ (q : Outcome State Windows). q.reply) (sym (fetched_in' s v e)) ∙ q))
          ∙ ap (λ (q : Outcome State Windows). stopped_by q) (fetched_in' s v e)
          ∙ stopped_in s v e r.sized
          ∙ ap (λ (q : Outcome State Windows). seen p w (stopped_by q)) (sym (fetched_on v s))
          ∙ ap (seen p w) (sym (run_refused both mmix fetched g s v (λ q. d (ap (λ (q : Outcome State Windows). q.reply) (sym (fetched_on v s)) ∙ q))))
        where
          refused : (f : Bool) → cond f 32 (fetched_of v s).reply ≡ 0 → ⊥
          refused true q = omega arith
          refused false q = d q
