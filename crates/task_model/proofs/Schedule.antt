-- What each turn of a call keeps, the call keeps: by induction over a round's turns and over the rounds.
use Rattle.model.proofs.Prelude.{min, suc, zero, ℕ, ◌+◌, ◌<◌, true, ◌&&◌, ◌≡◌, arith, ltb, ltb-true, Stopped, and_left, and_right, on}
use Rattle.task_model.specs.Schedule.{running, Desk, gave, turn_of, turns_from, is_over, rounds, opened, call_by}

module _ {C M : Type 0} (run : ℕ → ℕ → C → M → Stopped C M) (n q : ℕ) where
  -- what the turn of k is
  abbrev pub ran_by : ℕ → Desk C M → Stopped C M
  ran_by k d = run k (min q d.left) d.states d.memory

  module _ (P : Desk C M → Type 0) (kept : (k : ℕ) (d : Desk C M) → k < n → 0 < d.left → running k d.given ≡ true → P d → P (gave run n q k d (ran_by k d))) where
    turn_keeps : (k : ℕ) (d : Desk C M) → k < n → P d → P (turn_of run n q k d)
    unfolding turn_of
    turn_keeps k d l h =
        on P (ltb 0 d.left && running k d.given)
        (λ e. kept k d l (ltb-true _ _ (and_left (ltb 0 d.left) _ e)) (and_right (ltb 0 d.left) _ e) h) (λ e. h)

    turns_keep : (m k : ℕ) (d : Desk C M) → k + m ≡ n → P d → P (turns_from run n q k m d)
    unfolding turns_from
    turns_keep zero k d e h = h
    turns_keep (suc m) k d e h = turns_keep m (suc k) (turn_of run n q k d) (omega arith) (turn_keeps k d (omega arith) h)

    rounds_keep : (f : ℕ) (d : Desk C M) → P d → P (rounds run n q f d)
    unfolding rounds
    rounds_keep zero d h = h
    rounds_keep (suc f) d h = on P (is_over run n q d) (λ e. h) (λ e. rounds_keep f (turns_from run n q 0 n d) (turns_keep n 0 d (omega arith) h))

    pub call_keeps : (grant : ℕ) (c : C) (m : M) → P (opened run n q grant c m) → P (call_by run n q grant c m)
    unfolding call_by
    call_keeps grant c m h = rounds_keep (grant + n) (opened run n q grant c m) h
