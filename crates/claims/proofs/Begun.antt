-- A list of items that goes on as another does as long as the answers to what was tried are the same (`Follows`); and two runs of one grant, of which this holds.
use Rattle.model.proofs.Prelude.{suc, zero, ℕ, ◌+◌, Bool, cond, false, true, head-eq_of_cons-eq, List, tail-eq_of_cons-eq, [], ◌++◌, ◌∷◌, ◌≢◌, ⊎_elim, ap, refl}
use Rattle.model.proofs.Prelude.{subst, sym, ◌∙◌, ◌≡◌, arith, eqb, ltb, replicate, ne_eqb, Machine, runs, step_on, both, Shapes, shapes_of, Windows, admissible}
use Rattle.model.proofs.Prelude.{Sized, grant_most, run_for, run_of, Stopped, tried, fetched, fetched_of, mmix, unruled_by, on_both, items_keep, replies_leave}
use Rattle.model.proofs.Prelude.{run_by, fetched_on, by_test}
use Rattle.claims.proofs.Prelude.{State, Turn}
use Rattle.claims.specs.OneCall.{tried_items}
use Rattle.claims.specs.AnywhereCalls.{Begins}
use Rattle.claims.proofs.Twins.{answers_both}

-- js is i and then items of which Q holds
pub record Then {I : Type 0} (i : I) (js : List I) (Q : List I → Type 0) : Type 0 where
  pub rest : List I
  pub items_are : js ≡ i ∷ rest
  pub goes_on : Q rest

-- where A holds of the items of `is` before one, js has these and that one; where it holds of all, js ends there
unfoldable pub Follows : {I : Type 0} → (List I → Type 0) → List I → List I → Type 0
Follows A [] js = A [] → js ≡ []
Follows A (i ∷ is) js = A [] → Then i js (Follows (λ ps. A (i ∷ ps)) is)

module _ {I : Type 0} where
  -- what A says of no items may be assumed
  follows_given : (A : List I → Type 0) (is js : List I) → (A [] → Follows A is js) → Follows A is js
  unfolding Follows
  follows_given A [] js h = λ a. h a a
  follows_given A (i ∷ is) js h = λ a. h a a

  pub follows_same : (A : List I → Type 0) (is : List I) → Follows A is is
  unfolding Follows
  follows_same A [] = λ a. refl
  follows_same A (i ∷ is) = λ a. record { rest = is; items_are = refl; goes_on = follows_same (λ ps. A (i ∷ ps)) is }

  -- one after another
  pub follows_append : (A : List I → Type 0) (is js ks ls : List I) → Follows A is js → (A is → Follows (λ ps. A (is ++ ps)) ks ls) → Follows A (is ++ ks) (js ++ ls)
  unfolding Follows
  follows_append A [] js ks ls f h = follows_given A ks (js ++ ls) (λ a. subst (λ (l : List I). Follows A ks (l ++ ls)) (sym (f a)) (h a))
  follows_append A (i ∷ is) js ks ls f h = λ a.
      let b : Then i js (Follows (λ ps. A (i ∷ ps)) is) = f a in
      record {
        rest = b.rest ++ ls;
        items_are = ap (λ (l : List I). l ++ ls) b.items_are;
        goes_on = follows_append (λ ps. A (i ∷ ps)) is b.rest ks ls b.goes_on h;
      }

  -- once A fails, more on either side changes nothing
  follows_on : (A : List I → Type 0) (is js ks ls : List I) → Follows A is js → (A is → Follows A (is ++ ks) (js ++ ls)) → Follows A (is ++ ks) (js ++ ls)
  unfolding Follows
  follows_on A [] js ks ls f h = follows_given A ks (js ++ ls) h
  follows_on A (i ∷ is) js ks ls f h = λ a.
      let b : Then i js (Follows (λ ps. A (i ∷ ps)) is) = f a in
      let e : js ++ ls ≡ i ∷ (b.rest ++ ls) = ap (λ (l : List I). l ++ ls) b.items_are in
      record {
        rest = b.rest ++ ls;
        items_are = e;
        goes_on = follows_on (λ ps. A (i ∷ ps)) is b.rest ks ls b.goes_on (λ c.
            let d : Then i (js ++ ls) (Follows (λ ps. A (i ∷ ps)) (is ++ ks)) = h c a in
            subst (Follows (λ ps. A (i ∷ ps)) (is ++ ks)) (tail-eq_of_cons-eq (sym d.items_are ∙ e)) d.goes_on);
      }

  -- where A holds of all
  pub follows_all : (A : List I → Type 0) → ((ps rs : List I) → A (ps ++ rs) → A ps) → (is js : List I) → Follows A is js → A is → js ≡ is
  unfolding Follows
  follows_all A first [] js f a = f a
  follows_all A first (i ∷ is) js f a =
      let b : Then i js (Follows (λ ps. A (i ∷ ps)) is) = f (first [] (i ∷ is) a) in
      b.items_are ∙ ap (λ (l : List I). i ∷ l) (follows_all (λ ps. A (i ∷ ps)) (λ ps rs. first (i ∷ ps) rs) is b.rest b.goes_on a)

-- where it holds of the first
pub follows_first : (A : List Turn → Type 0) → ((ps rs : List Turn) → A (ps ++ rs) → A ps) → (ps rs js : List Turn) → Follows A (ps ++ rs) js → A ps → Begins js ps
unfolding Follows
follows_first A first [] rs js f a = record { rest = js; turns_are = refl }
follows_first A first (p ∷ ps) rs js f a =
    let b : Then p js (Follows (λ qs. A (p ∷ qs)) (ps ++ rs)) = f (first [] (p ∷ ps) a) in
    let r : Begins b.rest ps = follows_first (λ qs. A (p ∷ qs)) (λ qs us. first (p ∷ qs) us) ps rs b.rest b.goes_on a in
    record { rest = r.rest; turns_are = b.items_are ∙ ap (λ (l : List Turn). p ∷ l) r.turns_are }

-- and an item is next
pub follows_begins : (A : List Turn → Type 0) → ((ps rs : List Turn) → A (ps ++ rs) → A ps) → (ps : List Turn) (t : Turn) (rs js : List Turn)
    → Follows A (ps ++ (t ∷ rs)) js → A ps → Begins js (ps ++ (t ∷ []))
unfolding Follows
follows_begins A first [] t rs js f a = let b : Then t js (Follows (λ ps. A (t ∷ ps)) rs) = f a in record { rest = b.rest; turns_are = b.items_are }
follows_begins A first (p ∷ ps) t rs js f a =
    let b : Then p js (Follows (λ qs. A (p ∷ qs)) (ps ++ (t ∷ rs))) = f (first [] (p ∷ ps) a) in
    let r : Begins b.rest (ps ++ (t ∷ [])) = follows_begins (λ qs. A (p ∷ qs)) (λ qs us. first (p ∷ qs) us) ps t rs b.rest b.goes_on a in
    record { rest = r.rest; turns_are = b.items_are ∙ ap (λ (l : List Turn). p ∷ l) r.turns_are }

pub follows_grown : (A : List Turn → Type 0) (is js us vs : List Turn) → Begins us is → Begins vs js → Follows A is js → (A is → Follows A us vs) → Follows A us vs
follows_grown A is js us vs b c f h = rw (b.turns_are, c.turns_are) (follows_on A is js b.rest c.rest f (λ a. rw (b.turns_are, c.turns_are) at (h a)))

-- of items under a map f, item by item
pub follows_by : {I J : Type 0} (f : List I → List J) (g : I → J) → f [] ≡ [] → ((i : I) (is : List I) → f (i ∷ is) ≡ g i ∷ f is)
    → (A : List I → Type 0) (B : List J → Type 0) (is js : List I) → ((ps rs : List I) → is ≡ ps ++ rs → B (f ps) → A ps) → Follows A is js → Follows B (f is) (f js)
unfolding Follows
follows_by {I} {J} f g none one A B [] js h r = subst (λ (l : List J). Follows B l (f js)) (sym none) (λ b. ap f (r (h [] [] refl (subst B (sym none) b))) ∙ none)
follows_by {I} {J} f g none one A B (i ∷ is) js h r =
    subst (λ (l : List J). Follows B l (f js)) (sym (one i is)) (λ b.
    let t : Then i js (Follows (λ ps. A (i ∷ ps)) is) = r (h [] (i ∷ is) refl (subst B (sym none) b)) in
    record {
      rest = f t.rest;
      items_are = ap f t.items_are ∙ one i t.rest;
      goes_on = follows_by f g none one (λ ps. A (i ∷ ps)) (λ ps. B (g i ∷ ps)) is t.rest
          (λ ps rs e c. h (i ∷ ps) rs (ap (λ (l : List I). i ∷ l) e) (subst B (sym (one i ps)) c)) t.goes_on;
    })

pub follows_where : {I : Type 0} (A B : List I → Type 0) (is js : List I) → ((ps : List I) → B ps → A ps) → Follows A is js → Follows B is js
follows_where A B is js h = follows_by (λ l. l) (λ i. i) refl (λ i l. refl) A B is js (λ ps rs e. h ps)

-- ---- a run

module _ {S I : Type 0} (mc : Machine S I Shapes) where
  -- the items have the same answers
  abbrev pub Alike : S → Windows → S → Windows → List I → Type 0
  Alike s v t u is = (runs both mc s v is).answers ≡ (runs both mc t u is).answers

  pub alike_first : (s : S) (v : Windows) (t : S) (u : Windows) (ps rs : List I) → Alike s v t u (ps ++ rs) → Alike s v t u ps
  alike_first s v t u ps rs h = (answers_both mc ps rs s t v u h).0

  module _ (i : I) where
    abbrev run : ℕ → S → Windows → Stopped S Windows
    run = run_for both mc i

    -- how many are tried after the first: where that is done, and whether or not it is
    abbrev later : ℕ → S → Windows → ℕ
    later g s v = tried (run g (step_on both mc s v i).state (step_on both mc s v i).memory)

    abbrev further : ℕ → S → Windows → ℕ
    further g s v = cond (eqb (step_on both mc s v i).reply 0) (later g s v) 0

    tries : (g : ℕ) (s : S) (v : Windows) → tried (run (suc g) s v) ≡ suc (further g s v)
    unfolding run_for
    tries g s v = on_both {A = Stopped S Windows} {B = ℕ} (λ r n. tried r ≡ suc n) (eqb (step_on both mc s v i).reply 0)
        (λ e. one_more (run g (step_on both mc s v i).state (step_on both mc s v i).memory).done (eqb (run g (step_on both mc s v i).state (step_on both mc s v i).memory).reply 0))
        (λ e. rw e)
      where
        one_more : (n : ℕ) (b : Bool) → cond b (1 + n) (suc (1 + n)) ≡ suc (cond b n (suc n))
        one_more n true = omega arith
        one_more n false = omega arith

    pub run_follows : (g : ℕ) (s : S) (v : Windows) (t : S) (u : Windows) → Follows (Alike s v t u) (replicate (tried (run g s v)) i) (replicate (tried (run g t u)) i)
    unfolding Follows
    run_follows zero s v t u = unfold run_for in (λ a. refl)
    run_follows (suc g) s v t u = rw (tries g s v, tries g t u) (λ a. record {
      rest = replicate (further g t u) i;
      items_are = refl;
      goes_on = follows_given (λ ps. Alike s v t u (i ∷ ps)) (replicate (further g s v) i) (replicate (further g t u) i)
          (next (run_follows g (step_on both mc s v i).state (step_on both mc s v i).memory (step_on both mc t u i).state (step_on both mc t u i).memory));
    })
      where
        its : List I → Type 0
        its = Alike (step_on both mc s v i).state (step_on both mc s v i).memory (step_on both mc t u i).state (step_on both mc t u i).memory

        next : Follows its (replicate (later g s v) i) (replicate (later g t u) i)
            → Alike s v t u (i ∷ []) → Follows (λ ps. Alike s v t u (i ∷ ps)) (replicate (further g s v) i) (replicate (further g t u) i)
        next r h =
            let same : (step_on both mc s v i).reply ≡ (step_on both mc t u i).reply = unfold runs in (head-eq_of_cons-eq h) in
            by_test {A = ℕ} {B = ℕ} (λ m n. Follows (λ ps. Alike s v t u (i ∷ ps)) (replicate m i) (replicate n i))
            (eqb (step_on both mc s v i).reply 0) (eqb (step_on both mc t u i).reply 0) (λ j. eqb (same j) 0)
            (λ z. follows_where its (λ ps. Alike s v t u (i ∷ ps)) (replicate (later g s v) i) (replicate (later g t u) i) (λ ps e. unfold runs in (tail-eq_of_cons-eq e)) r)
            (λ z. unfold Follows in (λ a. refl))

-- ---- THE run

-- no instruction is refused by 25
not_large : (grant : ℕ) (s : State) (v : Windows) → Sized s → (run_for both mmix fetched grant s v).reply ≢ 25
not_large = run_by both mmix fetched (λ s v. Sized s) (λ r. r.reply ≢ 25) (λ n r h. h) (λ s v n e. omega arith) (λ s v n z. few s v n) (λ s v n d. items_keep.sized v s fetched n)
  where
    few : (s : State) (v : Windows) → Sized s → (step_on both mmix s v fetched).reply ≢ 25
    few s v n h =
        let e : (fetched_of v s).reply ≡ 25 = rw (fetched_on v s) at h in
        ⊎_elim (λ l. omega arith) (⊎_elim (λ q. omega arith) (⊎_elim (λ q. omega arith) (⊎_elim (λ q. omega arith) (λ q. omega arith)))) (replies_leave.by_fetched v s n).most

module _ (grant : ℕ) (s : State) (v : Windows) (t : State) (u : Windows) (n : Sized s) (m : Sized t) where
  abbrev RunFollows : Stopped State Windows → Stopped State Windows → Type 0
  RunFollows p q = Follows (Alike mmix s v t u) (tried_items p.reply p.done) (tried_items q.reply q.done)

  open_follows : RunFollows (run_for both mmix fetched grant s v) (run_for both mmix fetched grant t u)
  unfolding tried_items
  open_follows = rw (ne_eqb _ 25 (not_large grant s v n), ne_eqb _ 25 (not_large grant t u m)) (run_follows mmix fetched grant s v t u)

  -- refused whole, both are by one number
  pub ran_follows : admissible s ≡ admissible t → shapes_of v ≡ shapes_of u → RunFollows (run_of v s grant) (run_of u t grant)
  unfolding run_of
  ran_follows e f =
      by_test RunFollows (admissible s) (admissible t) e
      (λ a. by_test RunFollows (eqb (unruled_by (shapes_of v)) 0) (eqb (unruled_by (shapes_of u)) 0) (λ i. eqb (unruled_by (f i)) 0)
      (λ b. on_both RunFollows (ltb grant_most grant) (λ c. follows_same _ _) (λ c. open_follows))
      (λ b. subst (λ (x : Shapes). Follows (Alike mmix s v t u) (tried_items (unruled_by (shapes_of v)) 0) (tried_items (unruled_by x) 0)) f (follows_same _ _)))
      (λ a. follows_same _ _)
