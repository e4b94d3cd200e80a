-- 32: a plan under a task's judge is the plan on all of B, or is refused by 32 and leaves everything; which of the two, its needs tell.
use Rattle.model.proofs.Prelude.{suc, zero, ℕ, ◌+◌, ◌≤◌, Bool, cond, false, true, ◌||◌, List, [], ◌∷◌, inl, inr, ◌⊎◌, ⊎_elim, ap, refl, sym, ◌∙◌, ◌≡◌, arith}
use Rattle.model.proofs.Prelude.{eqb, length, ne_eqb, needs_of, step_on, both, inside, shape_of, Shapes, shapes_of, Windows, tell, answer, clear, looks, missing}
use Rattle.model.proofs.Prelude.{named, Outcome, perform, Plan, read, ups, worst, Sized, exception, exception_of, fetched, fetched_of, Item, item_plan, mmix}
use Rattle.model.proofs.Prelude.{refusing, step, step_of, on, said, replies_leave}
use Rattle.task_model.proofs.Prelude.{needs, State}
use Rattle.task_model.specs.Tasks.{Own, foreign, refusing_in, any_foreign, mmix_in}
use Rattle.task_model.specs.TasksMeant.{ForeignMeant}
use Rattle.task_model.proofs.Judge.{whole_judge}
use Rattle.task_model.proofs.AnyForeign.{any_append}

-- ---- a group of needs

-- none of n octabytes from a up is foreign, and the task's judge says what that of the windows says; or one is, and it says 32
record Free (p : Own) (w : Shapes) (a n : ℕ) : Type 0 where
  same : worst (refusing_in p w) a n ≡ worst (refusing w) a n
  none : any_foreign p w (ups a n) ≡ false
  none_missing : any_foreign p w (missing (refusing_in p w) a n) ≡ false

record Taken (p : Own) (w : Shapes) (a n : ℕ) : Type 0 where
  is_32 : worst (refusing_in p w) a n ≡ 32
  some : any_foreign p w (missing (refusing_in p w) a n) ≡ true

refusing_most : (w : Shapes) (a : ℕ) → refusing w a ≤ 6
unfolding refusing
refusing_most w a = on (λ (r : ℕ). r ≤ 6) (inside w a) (λ e. omega arith) (λ e. omega arith)

worst_most : (w : Shapes) (n a : ℕ) → worst (refusing w) a n ≤ 6
unfolding worst
worst_most w zero a = omega arith
worst_most w (suc n) a = let h = refusing_most w a in let t = worst_most w n (a + 8) in omega arith

group : (p : Own) (w : Shapes) (n a : ℕ) → Free p w a n ⊎ Taken p w a n
unfolding worst any_foreign ups missing
group p w zero a = inl (record { same = refl; none = refl; none_missing = refl })
group p w (suc n) a = go (foreign p w a) refl (group p w n (a + 8))
  where
    head : (b : Bool) → foreign p w a ≡ b → refusing_in p w a ≡ cond b 32 (refusing w a)
    head b e = unfold refusing_in in (ap (λ (t : Bool). cond t 32 (refusing w a)) e)

    go : (b : Bool) → foreign p w a ≡ b → Free p w (a + 8) n ⊎ Taken p w (a + 8) n → Free p w a (suc n) ⊎ Taken p w a (suc n)
    go true e (inl t) =
        let m = worst_most w n (a + 8) in
        inr (record {
          is_32 = rw (head true e, t.same) (omega arith);
          some = rw (head true e) (ap (λ (b : Bool). b || any_foreign p w (missing (refusing_in p w) (a + 8) n)) e);
        })
    go true e (inr t) = inr (record {
      is_32 = rw (head true e, t.is_32);
      some = rw (head true e) (ap (λ (b : Bool). b || any_foreign p w (missing (refusing_in p w) (a + 8) n)) e);
    })
    go false e (inl t) = inl (record {
      same = rw (head false e, t.same);
      none = rw (e, t.none);
      none_missing = any_append p w (cond (eqb (refusing_in p w a) 0) [] (a ∷ [])) (missing (refusing_in p w) (a + 8) n)
          ∙ rw t.none_missing (on (λ (xs : List ℕ). (any_foreign p w xs || false) ≡ false) (eqb (refusing_in p w a) 0) (λ f. refl) (λ f. rw e));
    })
    go false e (inr t) =
        let m = refusing_most w a in
        inr (record {
          is_32 = rw (head false e, t.is_32) (omega arith);
          some = any_append p w (cond (eqb (refusing_in p w a) 0) [] (a ∷ [])) (missing (refusing_in p w) (a + 8) n)
              ∙ rw t.some (or_true (any_foreign p w (cond (eqb (refusing_in p w a) 0) [] (a ∷ []))));
        })
      where
        or_true : (b : Bool) → (b || true) ≡ true
        or_true true = refl
        or_true false = refl

-- ---- a plan

module _ (p : Own) (w : Windows) where
  abbrev j : ℕ → ℕ
  j = refusing_in p (shapes_of w)

  abbrev r : ℕ → ℕ
  r = refusing (shapes_of w)

  -- it is as on all of B; or 32, and all is left
  record AsWhole {S : Type 0} (s : S) (pl : Plan S) : Type 0 where
    none : any_foreign p (shapes_of w) (needs both j pl w) ≡ false
    same : perform both j s pl w ≡ perform both r s pl w

  record Refused {S : Type 0} (s : S) (pl : Plan S) : Type 0 where
    some : any_foreign p (shapes_of w) (needs both j pl w) ≡ true
    left : perform both j s pl w ≡ record { reply = 32; state = s; memory = w }

  judged : {S : Type 0} (s : S) (pl : Plan S) → AsWhole s pl ⊎ Refused s pl
  judged {S} s (answer q t a vs) = ⊎_elim (λ g. inl (free g)) (λ g. inr (taken g)) (group p (shapes_of w) (length vs) a)
    where
      free : Free p (shapes_of w) a (length vs) → AsWhole s (answer q t a vs)
      free g = record {
        none = unfold needs in (on (λ (xs : List ℕ). any_foreign p (shapes_of w) xs ≡ false) (clear j a (length vs)) (λ e. g.none) (λ e. g.none_missing));
        same = unfold perform in (rw g.same);
      }

      taken : Taken p (shapes_of w) a (length vs) → Refused s (answer q t a vs)
      taken g = record { some = unfold needs in (rw g.is_32 g.some); left = unfold perform in (rw g.is_32) }
  judged {S} s (read q a n k) = ⊎_elim (λ g. free g (clear j a n) refl (judged s (k (looks both w a n)))) (λ g. inr (taken g)) (group p (shapes_of w) n a)
    where
      taken : Taken p (shapes_of w) a n → Refused s (read q a n k)
      taken g = record { some = unfold needs in (rw g.is_32 g.some); left = unfold perform named in (rw g.is_32) }

      free : Free p (shapes_of w) a n → (b : Bool) → clear j a n ≡ b → AsWhole s (k (looks both w a n)) ⊎ Refused s (k (looks both w a n)) → AsWhole s (read q a n k) ⊎ Refused s (read q a n k)
      free g true e (inl h) = inl (record {
        none = unfold needs in (rw e (any_append p (shapes_of w) (ups a n) (needs both j (k (looks both w a n)) w) ∙ rw g.none h.none));
        same = unfold perform in (rw (← g.same, e) h.same);
      })
      free g true e (inr h) = inr (record {
        some = unfold needs in (rw e (any_append p (shapes_of w) (ups a n) (needs both j (k (looks both w a n)) w) ∙ rw g.none h.some));
        left = unfold perform in (rw e h.left);
      })
      free g false e h = inl (record { none = unfold needs in (rw e g.none_missing); same = unfold perform in (rw (← g.same, e)) })

-- ---- the theorem

as_plan : (p : Own) (w : Windows) (s : State) (i : Item) → AsWhole p w s (item_plan s (shapes_of w) i) ⊎ Refused p w s (item_plan s (shapes_of w) i)
as_plan p w s i = judged p w s (item_plan s (shapes_of w) i)

-- no step, exception or fetched instruction on all of B answers 32
never : (n : ℕ) → (n ≤ 20) ⊎ ((n ≡ 22) ⊎ ((n ≡ 24) ⊎ ((n ≡ 29) ⊎ (n ≡ 31)))) → eqb n 32 ≡ false
never n h = ne_eqb n 32 (λ e. ⊎_elim (λ l. omega arith) (⊎_elim (λ f. omega arith) (⊎_elim (λ f. omega arith) (⊎_elim (λ f. omega arith) (λ f. omega arith)))) h)

few : (n : ℕ) → (n ≤ 20) ⊎ ((n ≡ 22) ⊎ ((n ≡ 29) ⊎ (n ≡ 31))) → (n ≤ 20) ⊎ ((n ≡ 22) ⊎ ((n ≡ 24) ⊎ ((n ≡ 29) ⊎ (n ≡ 31))))
few n (inl l) = inl l
few n (inr (inl f)) = inr (inl f)
few n (inr (inr f)) = inr (inr (inr f))

raised_most : (n : ℕ) → (n ≡ 0) ⊎ ((n ≡ 1) ⊎ (n ≡ 19)) → n ≤ 20
raised_most n = ⊎_elim (λ e. omega arith) (⊎_elim (λ e. omega arith) (λ e. omega arith))

whole_never : (w : Windows) (s : State) (i : Item) → Sized s → eqb (perform both (refusing (shapes_of w)) s (item_plan s (shapes_of w) i) w).reply 32 ≡ false
unfolding item_plan step_of fetched_of tell
whole_never w s (step op x y z) n = never _ (few _ (replies_leave.by_step w s op x y z n).most)
whole_never w s (exception f op x y z u v) n =
    ap (λ (o : Outcome State Windows). eqb o.reply 32) (said w s (exception_of s f op x y z u v).state (exception_of s f op x y z u v).reply)
    ∙ never _ (inl (raised_most _ (replies_leave.by_exception s f op x y z u v n).among))
whole_never w s fetched n = never _ (replies_leave.by_fetched w s n).most

either_of : (p : Own) (w : Windows) (s : State) (i : Item) → AsWhole p w s (item_plan s (shapes_of w) i) ⊎ Refused p w s (item_plan s (shapes_of w) i)
    → (step_on both (mmix_in p) s w i ≡ step_on both mmix s w i) ⊎ (step_on both (mmix_in p) s w i ≡ record { reply = 32; state = s; memory = w })
unfolding step_on mmix_in mmix both
either_of p w s i (inl h) = inl h.same
either_of p w s i (inr h) = inr h.left

told_by_law : (p : Own) (w : Windows) (s : State) (i : Item) → Sized s → AsWhole p w s (item_plan s (shapes_of w) i) ⊎ Refused p w s (item_plan s (shapes_of w) i)
    → eqb (step_on both (mmix_in p) s w i).reply 32 ≡ any_foreign p (shapes_of w) (needs_of both (mmix_in p) s w i)
unfolding step_on needs_of mmix_in both
told_by_law p w s i n (inl h) = ap (λ (o : Outcome State Windows). eqb o.reply 32) h.same ∙ whole_never w s i n ∙ sym h.none
told_by_law p w s i n (inr h) = ap (λ (o : Outcome State Windows). eqb o.reply 32) h.left ∙ sym h.some

on_whole : (w : Windows) (s : State) (i : Item) → step_on both (mmix_in (record { start = 0; size = length w.b.bytes })) s w i ≡ step_on both mmix s w i
unfolding step_on mmix_in mmix both shapes_of shape_of
on_whole w s i = ap (λ (j : ℕ → ℕ). perform both j s (item_plan s (shapes_of w) i) w) (λ k a. whole_judge (shapes_of w) a k)

pub foreign_meant : ForeignMeant
foreign_meant = record {
  either = λ p w s i. either_of p w s i (as_plan p w s i);
  thirty_two = λ p w s i n. told_by_law p w s i n (as_plan p w s i);
  whole = on_whole;
}
