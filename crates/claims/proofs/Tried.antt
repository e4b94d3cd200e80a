-- A run as the list of the fetched instructions that it tried; and two runs of one grant that answer alike, instruction by instruction, as long as
-- the first goes on: they have the same reply and the same count.
use Rattle.model.proofs.Prelude.{suc, zero, ℕ, ◌+◌, Bool, cond, false, true, head-eq_of_cons-eq, List, tail-eq_of_cons-eq, [], ◌++◌, ◌∷◌, ◌≢◌, ◌⊎◌, ⊎_elim, ap}
use Rattle.model.proofs.Prelude.{refl, subst, sym, ◌∙◌, ◌≡◌, arith, eqb, replicate, eqb-false, eqb-true, ne_eqb, Bytes, Fits, runs, step_on, both, ruled}
use Rattle.model.proofs.Prelude.{shapes_of, shares, Windows, Passes, refused_by, Outcome, admissible, Sized, Words, more, refused_whole, run_for, run_of, Stopped}
use Rattle.model.proofs.Prelude.{stopped_by, tried, CallPasses, Listed, fetched, fetched_of, Item, mmix, unruled_by, on, unruled_is, fetched_inadmissible}
use Rattle.model.proofs.Prelude.{fetched_unruled, items_keep, replies_leave, run_by, run_done, run_refused, call_by, fetched_on, run_is_meant, run_open}
use Rattle.model.proofs.Prelude.{run_unruled, runs_in_order}
use Rattle.claims.proofs.Prelude.{State}
use Rattle.claims.specs.OneCall.{tried_items, tried_answers}

-- ---- a run is a list

pub record RunListed (w : Windows) (s : State) (r : Stopped State Windows) : Type 0 where
  pub answers_are : (runs both mmix s w (tried_items r.reply r.done)).answers ≡ tried_answers r.reply r.done
  pub state_is : (runs both mmix s w (tried_items r.reply r.done)).state ≡ r.state
  pub memory_is : (runs both mmix s w (tried_items r.reply r.done)).memory ≡ r.memory

-- refused whole by a number by which a fetched instruction is refused too
whole_listed : (w : Windows) (s : State) (n : ℕ) → fetched_of w s ≡ refused_by n w s → eqb n 25 ≡ false → eqb n 0 ≡ false → RunListed w s (refused_whole n w s)
unfolding tried_items tried_answers runs
whole_listed w s n e f g =
    let o : step_on both mmix s w fetched ≡ refused_by n w s = fetched_on w s ∙ e in
    record {
      answers_are = rw (f, g) (ap (λ (p : Outcome State Windows). p.reply ∷ []) o);
      state_is = rw (f, g) (ap (λ (p : Outcome State Windows). p.state) o);
      memory_is = rw (f, g) (ap (λ (p : Outcome State Windows). p.memory) o);
    }

large_listed : (w : Windows) (s : State) → RunListed w s (refused_whole 25 w s)
unfolding tried_items tried_answers runs
large_listed w s = record { answers_are = refl; state_is = refl; memory_is = refl }

-- no instruction is refused by 25
below_large : (w : Windows) (s : State) (grant : ℕ) → Sized s → CallPasses w s grant → (run_of w s grant).reply ≢ 25
below_large w s grant n c e =
    let k = ((replies_leave.by_run w s grant n).refused c (λ q. let z : ◌≡◌ {A = ℕ} 0 25 = sym q ∙ e in omega arith)).leaves.most in
    ⊎_elim (λ l. omega (arith, e, l)) (⊎_elim (λ q. omega (arith, e, q)) (⊎_elim (λ q. omega (arith, e, q)) (⊎_elim (λ q. omega (arith, e, q)) (λ q. omega (arith, e, q))))) k

passed_listed : (w : Windows) (s : State) (grant : ℕ) → Sized s → CallPasses w s grant → RunListed w s (run_of w s grant)
unfolding tried_items tried_answers
passed_listed w s grant n c =
    let l : Listed w s (run_of w s grant) = run_is_meant.listed w s grant c in
    let f : eqb (run_of w s grant).reply 25 ≡ false = ne_eqb _ 25 (below_large w s grant n c) in
    record { answers_are = rw f l.answers_are; state_is = rw f l.state_is; memory_is = rw f l.memory_is }

pub run_tried : (w : Windows) (s : State) (grant : ℕ) → Sized s → RunListed w s (run_of w s grant)
run_tried w s grant n =
    call_by (RunListed w s) w s grant (λ a. whole_listed w s 1 (fetched_inadmissible w s a) refl refl)
    (λ a m. whole_listed w s (unruled_by (shapes_of w)) (fetched_unruled w s a m) (ne_eqb _ 25 (unruled_small (unruled_is (shapes_of w)))) (ne_eqb _ 0 m))
    (λ h l. large_listed w s) (λ c. subst (RunListed w s) (run_open w s grant c) (passed_listed w s grant n c))
  where
    unruled_small : (unruled_by (shapes_of w) ≡ 0) ⊎ ((unruled_by (shapes_of w) ≡ 2) ⊎ (unruled_by (shapes_of w) ≡ 22)) → unruled_by (shapes_of w) ≢ 25
    unruled_small h e = ⊎_elim (λ q. omega (arith, e, q)) (⊎_elim (λ q. omega (arith, e, q)) (λ q. omega (arith, e, q))) h

-- ---- what is in range stays so

pub record InRange (s : State) (w : Windows) : Type 0 where
  pub sized : Sized s
  pub words : Words s
  pub bytes : Bytes w

pub item_range : (i : Item) (s : State) (w : Windows) → Fits i → InRange s w → InRange (step_on both mmix s w i).state (step_on both mmix s w i).memory
item_range i s w f h = record {
  sized = items_keep.sized w s i h.sized;
  words = items_keep.words w s i f h.bytes h.words;
  bytes = items_keep.bytes w s i h.bytes;
}

pub run_range : (w : Windows) (s : State) (grant : ℕ) → InRange s w → InRange (run_of w s grant).state (run_of w s grant).memory
run_range w s grant h =
    call_by (λ r. InRange r.state r.memory) w s grant (λ a. h) (λ a m. h) (λ p l. h)
    (λ c. run_by both mmix fetched (λ t m. InRange t m) (λ r. InRange r.state r.memory) (λ n r q. q) (λ t m q. q) (λ t m q n. kept t m q) (λ t m q d. kept t m q) grant s w h)
  where
    kept : (t : State) (m : Windows) → InRange t m → InRange (step_on both mmix t m fetched).state (step_on both mmix t m fetched).memory
    kept t m q = item_range fetched t m (unfold Fits in tt) q

-- ---- two lists that answer alike

-- from s and v and from t and u the items find states of which both are admissible or neither, and windows of one shape, and have one reply each
unfoldable pub Twins : State → Windows → State → Windows → List Item → Type 0
Twins s v t u [] = (admissible s ≡ admissible t) × (shapes_of v ≡ shapes_of u)
Twins s v t u (i ∷ is) =
    ((admissible s ≡ admissible t) × (shapes_of v ≡ shapes_of u)) × ((step_on both mmix s v i).reply ≡ (step_on both mmix t u i).reply)
    × Twins (step_on both mmix s v i).state (step_on both mmix s v i).memory (step_on both mmix t u i).state (step_on both mmix t u i).memory is

pub twins_now : (is : List Item) (s : State) (v : Windows) (t : State) (u : Windows) → Twins s v t u is → (admissible s ≡ admissible t) × (shapes_of v ≡ shapes_of u)
unfolding Twins
twins_now [] s v t u h = h
twins_now (i ∷ is) s v t u h = h.0

pub twins_next : (is : List Item) (i : Item) (s : State) (v : Windows) (t : State) (u : Windows) → Twins s v t u (i ∷ is)
    → ((step_on both mmix s v i).reply ≡ (step_on both mmix t u i).reply)
    × Twins (step_on both mmix s v i).state (step_on both mmix s v i).memory (step_on both mmix t u i).state (step_on both mmix t u i).memory is
unfolding Twins
twins_next is i s v t u h = (h.1, h.2)

-- a list's beginning, and what follows it
pub twins_first : (is js : List Item) (s : State) (v : Windows) (t : State) (u : Windows) → Twins s v t u (is ++ js) → Twins s v t u is
unfolding Twins
twins_first [] js s v t u h = twins_now js s v t u h
twins_first (i ∷ is) js s v t u h = (h.0, h.1, twins_first is js _ _ _ _ h.2)

pub twins_rest : (is js : List Item) (s : State) (v : Windows) (t : State) (u : Windows) → Twins s v t u (is ++ js)
    → Twins (runs both mmix s v is).state (runs both mmix s v is).memory (runs both mmix t u is).state (runs both mmix t u is).memory js
unfolding Twins runs
twins_rest [] js s v t u h = h
twins_rest (i ∷ is) js s v t u h = twins_rest is js _ _ _ _ h.2

-- lists whose beginnings all answer alike and end in one state and shape
pub record Alongside (s : State) (v : Windows) (t : State) (u : Windows) (is : List Item) : Type 0 where
  pub answers_same : (runs both mmix s v is).answers ≡ (runs both mmix t u is).answers
  pub state_same : (runs both mmix s v is).state ≡ (runs both mmix t u is).state
  pub shapes_same : shapes_of (runs both mmix s v is).memory ≡ shapes_of (runs both mmix t u is).memory

pub twins : (is : List Item) (s : State) (v : Windows) (t : State) (u : Windows)
    → ((js ks : List Item) → is ≡ js ++ ks → Alongside s v t u js) → Twins s v t u is
unfolding Twins runs
twins [] s v t u h = (ap admissible (h [] [] refl).state_same, (h [] [] refl).shapes_same)
twins (i ∷ is) s v t u h = (
  (ap admissible (h [] (i ∷ is) refl).state_same, (h [] (i ∷ is) refl).shapes_same),
  head-eq_of_cons-eq (h (i ∷ []) is refl).answers_same,
  twins is _ _ _ _ (λ js ks e. let k = h (i ∷ js) ks (ap (λ (l : List Item). i ∷ l) e) in
      record { answers_same = tail-eq_of_cons-eq k.answers_same; state_same = k.state_same; shapes_same = k.shapes_same }),
)

-- ---- two runs of one grant

pub record SameEnd (p q : Stopped State Windows) : Type 0 where
  pub reply_same : p.reply ≡ q.reply
  pub count_same : p.done ≡ q.done

abbrev running : ℕ → State → Windows → Stopped State Windows
running = run_for both mmix fetched

running_same : (g : ℕ) (s : State) (v : Windows) (t : State) (u : Windows) → Twins s v t u (replicate (tried (running g s v)) fetched)
    → SameEnd (running g s v) (running g t u)
unfolding run_for
running_same zero s v t u = λ h. record { reply_same = refl; count_same = refl }
running_same (suc g) s v t u =
    on {A = Stopped State Windows} (λ r. Twins s v t u (replicate (tried r) fetched) → SameEnd r (running (suc g) t u)) (eqb (step_on both mmix s v fetched).reply 0)
    (λ b h. again (running g (step_on both mmix s v fetched).state (step_on both mmix s v fetched).memory) (eqb-true _ _ b)
    (running_same g (step_on both mmix s v fetched).state (step_on both mmix s v fetched).memory (step_on both mmix t u fetched).state (step_on both mmix t u fetched).memory) h)
    (λ b h. ended b h)
  where
    again : (r : Stopped State Windows) → (step_on both mmix s v fetched).reply ≡ 0
        → (Twins (step_on both mmix s v fetched).state (step_on both mmix s v fetched).memory (step_on both mmix t u fetched).state (step_on both mmix t u fetched).memory (replicate (tried r) fetched)
        → SameEnd r (running g (step_on both mmix t u fetched).state (step_on both mmix t u fetched).memory))
        → Twins s v t u (replicate (tried (more 1 r)) fetched) → SameEnd (more 1 r) (running (suc g) t u)
    again r d same h =
        let k : tried (more 1 r) ≡ suc (tried r) = tries (eqb r.reply 0) in
        let n : Twins s v t u (replicate (suc (tried r)) fetched) = subst (λ (m : ℕ). Twins s v t u (replicate m fetched)) k h in
        let p = twins_next (replicate (tried r) fetched) fetched s v t u n in
        let e : SameEnd r (running g (step_on both mmix t u fetched).state (step_on both mmix t u fetched).memory) = same p.1 in
        rw (run_done both mmix fetched g t u (sym p.0 ∙ d)) (record { reply_same = e.reply_same; count_same = ap (λ (m : ℕ). 1 + m) e.count_same })
      where
        tries : (b : Bool) → cond b (1 + r.done) (suc (1 + r.done)) ≡ suc (cond b r.done (suc r.done))
        tries true = omega arith
        tries false = omega arith

    ended : eqb (step_on both mmix s v fetched).reply 0 ≡ false → Twins s v t u (replicate (tried (stopped_by (step_on both mmix s v fetched))) fetched)
        → SameEnd (stopped_by (step_on both mmix s v fetched)) (running (suc g) t u)
    ended b h =
        let n : Twins s v t u (fetched ∷ []) = subst (λ (c : Bool). Twins s v t u (replicate (cond c 0 1) fetched)) b h in
        let e : (step_on both mmix s v fetched).reply ≡ (step_on both mmix t u fetched).reply = (twins_next [] fetched s v t u n).0 in
        rw (run_refused both mmix fetched g t u (λ q. eqb-false _ _ b (e ∙ q))) (record { reply_same = e; count_same = refl })

passes_too : (v u : Windows) (s t : State) → admissible s ≡ admissible t → shapes_of v ≡ shapes_of u → Passes v s → Passes u t
passes_too v u s t e f h = record {
  admitted = sym e ∙ h.admitted;
  windowed = ap ruled (sym f) ∙ h.windowed;
  apart = ap shares (sym f) ∙ h.apart;
}

passed_same : (grant : ℕ) (s : State) (v : Windows) (t : State) (u : Windows) → Sized s → admissible s ≡ admissible t → shapes_of v ≡ shapes_of u → CallPasses v s grant
    → Twins s v t u (tried_items (running grant s v).reply (running grant s v).done) → SameEnd (running grant s v) (run_of u t grant)
unfolding tried_items
passed_same grant s v t u n e f c h =
    let b : eqb (running grant s v).reply 25 ≡ false
    = ne_eqb _ 25 (subst (λ (r : Stopped State Windows). r.reply ≢ 25) (run_open v s grant c) (below_large v s grant n c)) in
    let k : Twins s v t u (replicate (tried (running grant s v)) fetched)
    = subst (λ (q : Bool). Twins s v t u (cond q [] (replicate (tried (running grant s v)) fetched))) b h in
    rw (run_open u t grant (record { passes = passes_too v u s t e f c.passes; granted = c.granted })) (running_same grant s v t u k)

pub run_same : (grant : ℕ) (s : State) (v : Windows) (t : State) (u : Windows) → Sized s → Twins s v t u (tried_items (run_of v s grant).reply (run_of v s grant).done)
    → SameEnd (run_of v s grant) (run_of u t grant)
run_same grant s v t u n h =
    let now = twins_now _ s v t u h in
    let e : admissible s ≡ admissible t = now.0 in
    let f : shapes_of v ≡ shapes_of u = now.1 in
    let rules : unruled_by (shapes_of u) ≡ unruled_by (shapes_of v) = ap unruled_by (sym f) in
    call_by (λ r. Twins s v t u (tried_items r.reply r.done) → SameEnd r (run_of u t grant)) v s grant
    (λ a k. rw (runs_in_order.one_first u t grant (sym e ∙ a)) (record { reply_same = refl; count_same = refl }))
    (λ a b k. rw (run_unruled u t grant (sym e ∙ a) (λ q. b (sym rules ∙ q))) (record { reply_same = sym rules; count_same = refl }))
    (λ p l k. rw (runs_in_order.twenty_five u t grant (passes_too v u s t e f p) l) (record { reply_same = refl; count_same = refl }))
    (λ c k. passed_same grant s v t u n e f c k) h
