-- A call ends: each round spends something or stops a task. What is left is what was not done; and only the n tasks have turns.
use Rattle.model.proofs.Prelude.{min, suc, zero, ℕ, ◌+◌, ◌-◌, ◌<◌, ◌≤◌, Bool, cond, false, not, true, ◌&&◌, ◌||◌, List, [], ◌∷◌, ◌≢◌, ap, refl, ◌∙◌, ◌≡◌}
use Rattle.model.proofs.Prelude.{ℕ_discrete, arith, eqb, ltb, eq-eqb, le-ltb, lt-ltb, ltb-true, ne_eqb, Stopped, on}
use Rattle.task_model.specs.Schedule.{Given, count_by, refusal_by, running, any_runs, total_of, Desk, gave, turn_of, turns_from, is_over, rounds, opened, call_by, Runs, Scheduled}
use Rattle.task_model.proofs.Schedule.{ran_by, call_keeps}
use Rattle.task_model.proofs.Waits.{call_waits}

-- ---- how many run, of those below k

unfoldable runners : ℕ → List Given → ℕ
runners zero gs = 0
runners (suc k) gs = cond (running k gs) 1 0 + runners k gs

runners_most : (k : ℕ) (gs : List Given) → runners k gs ≤ k
unfolding runners
runners_most zero gs = omega arith
runners_most (suc k) gs =
    let r : runners k gs ≤ k = runners_most k gs in on (λ (c : ℕ). c + runners k gs ≤ suc k) (running k gs) (λ e. omega arith) (λ e. omega arith)

-- after a turn of task t with reply r: who else runs is as before
runners_other : (k t d r : ℕ) (gs : List Given) → k ≤ t → runners k (record { task = t; done = d; reply = r } ∷ gs) ≡ runners k gs
unfolding runners refusal_by
runners_other zero t d r gs l = refl
runners_other (suc k) t d r gs l = rw (ne_eqb t k (λ e. omega arith), runners_other k t d r gs (omega arith))

runners_same : (k t d : ℕ) (gs : List Given) → running t gs ≡ true → runners k (record { task = t; done = d; reply = 0 } ∷ gs) ≡ runners k gs
unfolding runners refusal_by
runners_same zero t d gs h = refl
runners_same (suc k) t d gs h = go (ℕ_discrete t k) (runners_same k t d gs h)
  where
    go : Dec (t ≡ k) → runners k (record { task = t; done = d; reply = 0 } ∷ gs) ≡ runners k gs
        → cond (eqb (cond (eqb t k) 0 (refusal_by k gs)) 0) 1 0 + runners k (record { task = t; done = d; reply = 0 } ∷ gs) ≡ cond (running k gs) 1 0 + runners k gs
    go (yes e) r = let q : running k gs ≡ true = rw e at h in rw (eq-eqb t k e, q, r)
    go (no e) r = rw (ne_eqb t k e, r)

runners_less : (k t d r : ℕ) (gs : List Given) → t < k → running t gs ≡ true → r ≢ 0
    → runners k gs ≡ suc (runners k (record { task = t; done = d; reply = r } ∷ gs))
unfolding runners refusal_by
runners_less zero t d r gs l h n = absurd (omega arith)
runners_less (suc k) t d r gs l h n = go (ℕ_discrete t k) (λ q. runners_less k t d r gs q h n)
  where
    go : Dec (t ≡ k) → (t < k → runners k gs ≡ suc (runners k (record { task = t; done = d; reply = r } ∷ gs)))
        → cond (running k gs) 1 0 + runners k gs
        ≡ suc (cond (eqb (cond (eqb t k) r (refusal_by k gs)) 0) 1 0 + runners k (record { task = t; done = d; reply = r } ∷ gs))
    go (yes e) f =
        let q : running k gs ≡ true = rw e at h in rw (eq-eqb t k e, q, ne_eqb r 0 n, runners_other k t d r gs (omega arith)) (omega arith)
    go (no e) f = rw (ne_eqb t k e, f (omega arith)) (omega arith)

-- one that runs, where some do
some : (k : ℕ) (gs : List Given) → any_runs k gs ≡ true → (i : ℕ) × (i < k) × (running i gs ≡ true)
unfolding any_runs
some zero gs h = absurd (let o : ◌≡◌ {A = ℕ} 0 1 = cc in omega arith)
some (suc k) gs h = go (running k gs) refl (some k gs) h
  where
    go : (b : Bool) → running k gs ≡ b → (any_runs k gs ≡ true → (i : ℕ) × (i < k) × (running i gs ≡ true)) → (b || any_runs k gs) ≡ true
        → (i : ℕ) × (i < suc k) × (running i gs ≡ true)
    go true e r x = (k, omega arith, e)
    go false e r x = let y : (i : ℕ) × (i < k) × (running i gs ≡ true) = r x in let z : y.0 < k = y.1 in (y.0, omega arith, y.2)

-- ---- the rounds

module _ {C M : Type 0} (run : ℕ → ℕ → C → M → Stopped C M) (n q : ℕ) (known : Runs run n q) where
  -- each turn given takes one at least of these
  abbrev togo : Desk C M → ℕ
  togo d = d.left + runners n d.given

  given_less : (k : ℕ) (d : Desk C M) → 1 ≤ q → k < n → 0 < d.left → running k d.given ≡ true → togo (gave run n q k d (ran_by run n q k d)) < togo d
  given_less k d p l x h = go (ℕ_discrete r.reply 0)
    where
      r : Stopped C M
      r = run k (min q d.left) d.states d.memory

      most : r.done ≤ min q d.left
      most = known.most k (min q d.left) d.states d.memory

      go : Dec (r.reply ≡ 0) → togo (gave run n q k d r) < togo d
      go (yes e) =
          let f : r.done ≡ min q d.left = known.spends k (min q d.left) d.states d.memory e in
          let s : runners n (record { task = k; done = r.done; reply = 0 } ∷ d.given) ≡ runners n d.given = runners_same n k r.done d.given h in
          let z : runners n (gave run n q k d r).given ≡ runners n d.given
          = ap (λ (y : ℕ). runners n (record { task = k; done = r.done; reply = y } ∷ d.given)) e ∙ s in
          omega (arith, f, z)
      go (no e) =
          let z : runners n d.given ≡ suc (runners n (gave run n q k d r).given) = runners_less n k r.done r.reply d.given l h e in omega (arith, z)

  turn_less : (k : ℕ) (d : Desk C M) → 1 ≤ q → k < n → togo (turn_of run n q k d) ≤ togo d
  unfolding turn_of
  turn_less k d p l = go (ltb 0 d.left) (running k d.given) refl refl
    where
      go : (a b : Bool) → ltb 0 d.left ≡ a → running k d.given ≡ b → togo (cond {A = Desk C M} (a && b) (gave run n q k d (ran_by run n q k d)) d) ≤ togo d
      go true true e f = let z : togo (gave run n q k d (ran_by run n q k d)) < togo d = given_less k d p l (ltb-true _ _ e) f in omega arith
      go true false e f = omega arith
      go false b e f = omega arith

  turns_less : (m k : ℕ) (d : Desk C M) → 1 ≤ q → k + m ≡ n → togo (turns_from run n q k m d) ≤ togo d
  unfolding turns_from
  turns_less zero k d p e = omega arith
  turns_less (suc m) k d p e =
      let a : togo (turn_of run n q k d) ≤ togo d = turn_less k d p (omega arith) in
      let b : togo (turns_from run n q (suc k) m (turn_of run n q k d)) ≤ togo (turn_of run n q k d) = turns_less m (suc k) (turn_of run n q k d) p (omega arith) in
      omega (arith, a, b)

  -- a task from k on that runs: its turn comes, in this round
  round_less : (m k i : ℕ) (d : Desk C M) → 1 ≤ q → k + m ≡ n → 0 < d.left → k ≤ i → i < n → running i d.given ≡ true
      → togo (turns_from run n q k m d) < togo d
  unfolding turns_from
  round_less zero k i d p e x u v h = absurd (omega arith)
  round_less (suc m) k i d p e x u v h = go (running k d.given) refl (λ z. round_less m (suc k) i d p (omega arith) x z v h)
    where
      go : (b : Bool) → running k d.given ≡ b → (suc k ≤ i → togo (turns_from run n q (suc k) m d) < togo d)
          → togo (turns_from run n q (suc k) m (turn_of run n q k d)) < togo d
      go true f r =
          let t : turn_of run n q k d ≡ gave run n q k d (ran_by run n q k d) = (unfold turn_of in rw (lt-ltb 0 d.left x, f)) in
          let a : togo (turn_of run n q k d) < togo d = rw t (given_less k d p (omega arith) x f) in
          let b : togo (turns_from run n q (suc k) m (turn_of run n q k d)) ≤ togo (turn_of run n q k d) = turns_less m (suc k) (turn_of run n q k d) p (omega arith) in
          omega (arith, a, b)
      go false f r =
          let t : turn_of run n q k d ≡ d = (unfold turn_of in rw (lt-ltb 0 d.left x, f)) in
          rw t (r (later (ℕ_discrete k i)))
        where
          later : Dec (k ≡ i) → suc k ≤ i
          later (yes y) = absurd (let a : running k d.given ≡ true = rw (← y) at h in let o : ◌≡◌ {A = ℕ} 0 1 = cc in omega arith)
          later (no y) = omega arith

  rounds_over : (f : ℕ) (d : Desk C M) → 1 ≤ q → togo d ≤ f → is_over run n q (rounds run n q f d) ≡ true
  unfolding rounds
  rounds_over zero d p l = rw (le-ltb 0 d.left (omega arith))
  rounds_over (suc f) d p l =
      on {A = Desk C M} (λ c. is_over run n q c ≡ true) (is_over run n q d) (λ e. e)
      (λ e. rounds_over f (turns_from run n q 0 n d) p (step (ltb 0 d.left) (any_runs n d.given) refl refl e))
    where
      step : (a b : Bool) → ltb 0 d.left ≡ a → any_runs n d.given ≡ b → not (a && b) ≡ false → togo (turns_from run n q 0 n d) ≤ f
      step true true e g h =
          let y : (i : ℕ) × (i < n) × (running i d.given ≡ true) = some n d.given g in
          let z : togo (turns_from run n q 0 n d) < togo d = round_less n 0 y.0 d p (omega arith) (ltb-true _ _ e) (omega arith) y.1 y.2 in
          omega arith
      step true false e g h = absurd (let o : ◌≡◌ {A = ℕ} 0 1 = cc in omega arith)
      step false b e g h = absurd (let o : ◌≡◌ {A = ℕ} 0 1 = cc in omega arith)

  call_ends : (grant : ℕ) (c : C) (m : M) → 1 ≤ q → is_over run n q (call_by run n q grant c m) ≡ true
  unfolding call_by
  call_ends grant c m p = rounds_over (grant + n) (opened run n q grant c m) p (let l : runners n [] ≤ n = runners_most n [] in omega arith)

  call_spends : (grant : ℕ) (c : C) (m : M) → total_of (call_by run n q grant c m).given + (call_by run n q grant c m).left ≡ grant
  call_spends grant c m = call_keeps run n q (λ d. total_of d.given + d.left ≡ grant) kept grant c m (unfold total_of in omega arith)
    where
      kept : (k : ℕ) (d : Desk C M) → k < n → 0 < d.left → running k d.given ≡ true → total_of d.given + d.left ≡ grant
          → total_of (gave run n q k d (ran_by run n q k d)).given + (d.left - (ran_by run n q k d).done) ≡ grant
      kept k d l x r h =
          let most : (ran_by run n q k d).done ≤ min q d.left = known.most k (min q d.left) d.states d.memory in
          unfold total_of in omega (arith, most, h)

  call_beyond : (grant : ℕ) (c : C) (m : M) (j : ℕ) → n ≤ j → (count_by j (call_by run n q grant c m).given ≡ 0) × (refusal_by j (call_by run n q grant c m).given ≡ 0)
  unfolding count_by refusal_by
  call_beyond grant c m j b =
      call_keeps run n q (λ d. (count_by j d.given ≡ 0) × (refusal_by j d.given ≡ 0)) kept grant c m (refl, refl)
    where
      kept : (k : ℕ) (d : Desk C M) → k < n → 0 < d.left → running k d.given ≡ true → (count_by j d.given ≡ 0) × (refusal_by j d.given ≡ 0)
          → (count_by j (gave run n q k d (ran_by run n q k d)).given ≡ 0) × (refusal_by j (gave run n q k d (ran_by run n q k d)).given ≡ 0)
      kept k d l x r h = let o : eqb k j ≡ false = ne_eqb k j (λ e. omega arith) in (rw o (omega (arith, h.0)), rw o h.1)

pub scheduled : {C M : Type 0} (run : ℕ → ℕ → C → M → Stopped C M) (n q : ℕ) → Runs run n q → Scheduled run n q
scheduled run n q known = record {
  waits = λ grant c m few. call_waits run n q known few grant c m;
  ends = call_ends run n q known;
  spent = λ grant c m p. call_spends run n q known grant c m;
  beyond = call_beyond run n q known;
}
