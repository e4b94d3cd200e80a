-- Two schedules side by side, of states and memories that are related: where each turn does the same on both, the two calls give the same turns. `call_beside`
-- asks it only of turns that the first call gives; `call_same` is of one memory, and of turns of any kind.
use Rattle.model.proofs.Prelude.{min, suc, zero, ℕ, ◌+◌, ◌-◌, ◌<◌, ◌≤◌, not, ◌&&◌, ◌∷◌, refl, subst, ◌≡◌, arith, ltb, Stopped, on, by_test}
use Rattle.task_model.specs.Schedule.{running, any_runs, Desk, gave, turn_of, turns_from, is_over, rounds, opened, call_by}
use Rattle.task_model.proofs.Schedule.{ran_by}

-- ---- any relation of desks

pub record Beside {C D M N : Type 0} (R : Desk C M → Desk D N → Type 0) (x : Desk C M) (y : Desk D N) : Type 0 where
  pub left_same : x.left ≡ y.left
  pub given_same : x.given ≡ y.given
  pub related : R x y

-- Ok is known of the desk where the first call ends, and so of each desk before
module _ {C D M N : Type 0} (R : Desk C M → Desk D N → Type 0) (Ok : Desk C M → Type 0)
    (run : ℕ → ℕ → C → M → Stopped C M) (walk : ℕ → ℕ → D → N → Stopped D N) (n q : ℕ)
    (back : (k : ℕ) (x : Desk C M) → Ok (gave run n q k x (ran_by run n q k x)) → Ok x)
    (same : (k : ℕ) (x : Desk C M) (y : Desk D N) → k < n → Beside R x y → Ok (gave run n q k x (ran_by run n q k x))
    → Beside R (gave run n q k x (ran_by run n q k x)) (gave walk n q k y (ran_by walk n q k y))) where
  turn_back : (k : ℕ) (x : Desk C M) → Ok (turn_of run n q k x) → Ok x
  unfolding turn_of
  turn_back k x = on {A = Desk C M} (λ y. Ok y → Ok x) (ltb 0 x.left && running k x.given) (λ e. back k x) (λ e h. h)

  turns_back : (m k : ℕ) (x : Desk C M) → Ok (turns_from run n q k m x) → Ok x
  unfolding turns_from
  turns_back zero k x h = h
  turns_back (suc m) k x h = turn_back k x (turns_back m (suc k) (turn_of run n q k x) h)

  rounds_back : (f : ℕ) (x : Desk C M) → Ok (rounds run n q f x) → Ok x
  unfolding rounds
  rounds_back zero x = λ h. h
  rounds_back (suc f) x =
      on {A = Desk C M} (λ y. Ok y → Ok x) (is_over run n q x) (λ e h. h) (λ e h. turns_back n 0 x (rounds_back f (turns_from run n q 0 n x) h))

  turn_beside : (k : ℕ) (x : Desk C M) (y : Desk D N) → k < n → Beside R x y → Ok (turn_of run n q k x) → Beside R (turn_of run n q k x) (turn_of walk n q k y)
  unfolding turn_of
  turn_beside k x y l h =
      by_test {A = Desk C M} {B = Desk D N} (λ a b. Ok a → Beside R a b) (ltb 0 x.left && running k x.given) (ltb 0 y.left && running k y.given)
      (λ i. ltb 0 (h.left_same i) && running k (h.given_same i)) (λ e. same k x y l h) (λ e o. h)

  turns_beside : (m k : ℕ) (x : Desk C M) (y : Desk D N) → k + m ≡ n → Beside R x y → Ok (turns_from run n q k m x)
      → Beside R (turns_from run n q k m x) (turns_from walk n q k m y)
  unfolding turns_from
  turns_beside zero k x y e h o = h
  turns_beside (suc m) k x y e h o =
      turns_beside m (suc k) (turn_of run n q k x) (turn_of walk n q k y) (omega arith)
      (turn_beside k x y (omega arith) h (turns_back m (suc k) (turn_of run n q k x) o)) o

  rounds_beside : (f : ℕ) (x : Desk C M) (y : Desk D N) → Beside R x y → Ok (rounds run n q f x) → Beside R (rounds run n q f x) (rounds walk n q f y)
  unfolding rounds
  rounds_beside zero x y h = λ o. h
  rounds_beside (suc f) x y h =
      by_test {A = Desk C M} {B = Desk D N} (λ a b. Ok a → Beside R a b) (is_over run n q x) (is_over walk n q y)
      (λ i. not (ltb 0 (h.left_same i) && any_runs n (h.given_same i))) (λ e o. h)
      (λ e o. rounds_beside f (turns_from run n q 0 n x) (turns_from walk n q 0 n y)
      (turns_beside n 0 x y (omega arith) h (rounds_back f (turns_from run n q 0 n x) o)) o)

  pub call_beside : (grant : ℕ) (c : C) (m : M) (d : D) (l : N) → R (opened run n q grant c m) (opened walk n q grant d l) → Ok (call_by run n q grant c m)
      → Beside R (call_by run n q grant c m) (call_by walk n q grant d l)
  unfolding call_by
  call_beside grant c m d l h =
      rounds_beside (grant + n) (opened run n q grant c m) (opened walk n q grant d l) (record { left_same = refl; given_same = refl; related = h })

-- ---- one memory, and states of which R holds

module _ {C D M : Type 0} (R : C → D → M → Type 0) where
  pub record SameStop (a : Stopped C M) (b : Stopped D M) : Type 0 where
    pub done_same : a.done ≡ b.done
    pub reply_same : a.reply ≡ b.reply
    pub memory_same : a.memory ≡ b.memory
    pub states : R a.state b.state a.memory

  pub record SameDesk (x : Desk C M) (y : Desk D M) : Type 0 where
    pub left_same : x.left ≡ y.left
    pub given_same : x.given ≡ y.given
    pub memory_same : x.memory ≡ y.memory
    pub states : R x.states y.states x.memory

  abbrev Holds : Desk C M → Desk D M → Type 0
  Holds x y = (x.memory ≡ y.memory) × R x.states y.states x.memory

  module _ (run : ℕ → ℕ → C → M → Stopped C M) (walk : ℕ → ℕ → D → M → Stopped D M) (n q : ℕ)
      (same : (k g : ℕ) (c : C) (d : D) (m : M) → k < n → g ≤ q → R c d m → SameStop (run k g c m) (walk k g d m)) where
    gave_same : (k : ℕ) (x : Desk C M) (y : Desk D M) → k < n → Beside Holds x y → Beside Holds (gave run n q k x (ran_by run n q k x)) (gave walk n q k y (ran_by walk n q k y))
    gave_same k x y l h =
        let t : SameStop (ran_by run n q k x) (ran_by walk n q k y)
        = subst (SameStop (ran_by run n q k x)) (λ i. walk k (min q (h.left_same i)) y.states (h.related.0 i))
        (same k (min q x.left) x.states y.states x.memory l (omega arith) h.related.1) in
        record {
          left_same = λ i. h.left_same i - t.done_same i;
          given_same = λ i. record { task = k; done = t.done_same i; reply = t.reply_same i } ∷ h.given_same i;
          related = (t.memory_same, t.states);
        }

    pub call_same : (grant : ℕ) (c : C) (d : D) (m : M) → R c d m → SameDesk (call_by run n q grant c m) (call_by walk n q grant d m)
    call_same grant c d m h =
        let b : Beside Holds (call_by run n q grant c m) (call_by walk n q grant d m)
        = call_beside Holds (λ x. Unit {0}) run walk n q (λ k x o. tt) (λ k x y l b o. gave_same k x y l b) grant c m d m (refl, h) tt in
        record { left_same = b.left_same; given_same = b.given_same; memory_same = b.related.0; states = b.related.1 }
