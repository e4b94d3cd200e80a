-- How long a task waits: just before the turn of k, who still runs has waited for no more than q instructions of each turn since its own.
use Rattle.model.proofs.Prelude.{min, suc, zero, ℕ, ◌*◌, ◌+◌, ◌-◌, ◌<◌, ◌≤◌, Bool, cond, false, true, ◌&&◌, List, ◌≢◌, refl, sym, ◌≡◌, dec_lt, ℕ_discrete}
use Rattle.model.proofs.Prelude.{mul-le-mul_right, arith, ltb, eq-eqb, le-ltb, lt-ltb, ltb-false, ltb-true, ne_eqb, Stopped, on}
use Rattle.task_model.specs.Schedule.{Given, refusal_by, running, waited, Ever, Desk, gave, turn_of, turns_from, is_over, rounds, opened, call_by, Runs}
use Rattle.task_model.proofs.Schedule.{ran_by}

-- turns since i's own, just before the turn of k, of n tasks
abbrev gap : ℕ → ℕ → ℕ → ℕ
gap n k i = cond (ltb i k) (k - 1 - i) (n - 1 - i + k)

gap_more : (n k i : ℕ) → i ≢ k → gap n (suc k) i ≡ suc (gap n k i)
gap_more n k i h = go (dec_lt i k)
  where
    go : Dec (i < k) → gap n (suc k) i ≡ suc (gap n k i)
    go (yes l) = rw (lt-ltb i k l, lt-ltb i (suc k) (omega arith)) (omega arith)
    go (no l) = let a : k < i = omega (arith, h) in rw (le-ltb i k (omega arith), le-ltb i (suc k) (omega arith)) (omega arith)

gap_most : (n k i : ℕ) → k < n → i < n → gap n (suc k) i ≤ n - 1
gap_most n k i l m = go (dec_lt i (suc k))
  where
    go : Dec (i < suc k) → gap n (suc k) i ≤ n - 1
    go (yes a) = rw (lt-ltb i (suc k) a) (omega arith)
    go (no a) = rw (le-ltb i (suc k) (omega arith)) (omega arith)

gap_round : (n i : ℕ) → i < n → gap n n i ≡ gap n 0 i
gap_round n i l = rw (lt-ltb i n l, le-ltb i 0 (omega arith)) (omega arith)

module _ {C M : Type 0} (run : ℕ → ℕ → C → M → Stopped C M) (n q : ℕ) (known : Runs run n q) (few : n ≤ 8) where
  abbrev Bound : List Given → Type 0
  Bound gs = (i : ℕ) → i < n → running i gs ≡ true → waited i gs ≤ 7 * q

  record Inv (k : ℕ) (d : Desk C M) : Type 0 where
    near : 0 < d.left → (i : ℕ) → i < n → running i d.given ≡ true → waited i d.given ≤ gap n k i * q
    ever : Ever Bound d.given

  given_step : (k : ℕ) (d : Desk C M) (r : Stopped C M) → k < n → r.done ≤ q → 0 < d.left → Inv k d → Inv (suc k) (gave run n q k d r)
  unfolding Ever refusal_by waited
  given_step k d r l m p h = record { near = λ x. next; ever = (λ i u v. bound i u (next i u v), h.ever) }
    where
      next : (i : ℕ) → i < n → running i (gave run n q k d r).given ≡ true → waited i (gave run n q k d r).given ≤ gap n (suc k) i * q
      next i u = go (ℕ_discrete k i)
        where
          go : Dec (k ≡ i) → running i (gave run n q k d r).given ≡ true → waited i (gave run n q k d r).given ≤ gap n (suc k) i * q
          go (yes e) v = rw (eq-eqb k i e) (omega arith)
          go (no e) v =
              let w : waited i d.given ≤ gap n k i * q = h.near p i u (rw (ne_eqb k i e) at v) in
              let s : gap n (suc k) i ≡ suc (gap n k i) = gap_more n k i (λ f. e (sym f)) in
              rw (ne_eqb k i e, s) (omega arith)

      bound : (i : ℕ) → i < n → waited i (gave run n q k d r).given ≤ gap n (suc k) i * q → waited i (gave run n q k d r).given ≤ 7 * q
      bound i u v =
          let a : gap n (suc k) i ≤ n - 1 = gap_most n k i l u in
          let b : gap n (suc k) i ≤ 7 = omega (arith, a) in
          let c : gap n (suc k) i * q ≤ 7 * q = mul-le-mul_right q b in
          omega (arith, c)

  -- passed over: nothing is left, or k has stopped
  passed : (k : ℕ) (d : Desk C M) → Inv k d → (0 < d.left → running k d.given ≡ false) → Inv (suc k) d
  passed k d h f = record { near = λ p i u v. go p i u v (ℕ_discrete i k); ever = h.ever }
    where
      go : 0 < d.left → (i : ℕ) → i < n → running i d.given ≡ true → Dec (i ≡ k) → waited i d.given ≤ gap n (suc k) i * q
      go p i u v (yes e) =
          absurd (let a : running k d.given ≡ false = f p in let b : running k d.given ≡ true = rw e at v in let o : ◌≡◌ {A = ℕ} 0 1 = cc in omega arith)
      go p i u v (no e) = let w : waited i d.given ≤ gap n k i * q = h.near p i u v in rw (gap_more n k i e) (omega arith)

  turn_inv : (k : ℕ) (d : Desk C M) → k < n → Inv k d → Inv (suc k) (turn_of run n q k d)
  unfolding turn_of
  turn_inv k d l h = go (ltb 0 d.left) (running k d.given) refl refl
    where
      go : (a b : Bool) → ltb 0 d.left ≡ a → running k d.given ≡ b → Inv (suc k) (cond (a && b) (gave run n q k d (ran_by run n q k d)) d)
      go true true e f =
          let m : (ran_by run n q k d).done ≤ min q d.left = known.most k (min q d.left) d.states d.memory in
          given_step k d (ran_by run n q k d) l (omega arith) (ltb-true _ _ e) h
      go true false e f = passed k d h (λ p. f)
      go false b e f = passed k d h (λ p. absurd (let x : d.left ≤ 0 = ltb-false _ _ e in omega arith))

  turns_inv : (m k : ℕ) (d : Desk C M) → k + m ≡ n → Inv k d → Inv n (turns_from run n q k m d)
  unfolding turns_from
  turns_inv zero k d e h = let x : k ≡ n = omega arith in rw x at h
  turns_inv (suc m) k d e h = turns_inv m (suc k) (turn_of run n q k d) (omega arith) (turn_inv k d (omega arith) h)

  again : (d : Desk C M) → Inv n d → Inv 0 d
  again d h = record {
    near = λ p i u v. let w : waited i d.given ≤ gap n n i * q = h.near p i u v in let e : gap n n i ≡ gap n 0 i = gap_round n i u in rw e at w;
    ever = h.ever;
  }

  rounds_inv : (f : ℕ) (d : Desk C M) → Inv 0 d → Ever Bound (rounds run n q f d).given
  unfolding rounds
  rounds_inv zero d h = h.ever
  rounds_inv (suc f) d h =
      on {A = Desk C M} (λ c. Ever Bound c.given) (is_over run n q d) (λ e. h.ever)
      (λ e. rounds_inv f (turns_from run n q 0 n d) (again _ (turns_inv n 0 d (omega arith) h)))

  pub call_waits : (grant : ℕ) (c : C) (m : M) → Ever Bound (call_by run n q grant c m).given
  unfolding call_by Ever waited
  call_waits grant c m = rounds_inv (grant + n) (opened run n q grant c m) (record { near = λ p i u v. omega arith; ever = λ i u v. omega arith })
