-- 02, change 12: whose turn it is. "Each call starts with the first, all running. They go in order of number, q instructions a turn .. until a total granted as in
-- change 6 is spent or all have stopped. A task that is refused stops and is passed over." Over any states of tasks and any memory: `run k g c m` is the run of
-- task k with the grant g.
use Rattle.std.specs.Prelude.{ℕ, zero, suc, ◌+◌, ◌-◌, ◌*◌, ◌≤◌, ◌<◌, min, ◌≡◌, Bool, true, false, cond, not, ◌&&◌, ◌||◌, List, [], ◌∷◌, eqb, ltb}
use Rattle.model.specs.Run.{Stopped}

-- ---- the turns given, the latest first

-- whose it was, how many instructions were done, the refusal or 0
pub record Given : Type 0 where
  pub task : ℕ
  pub done : ℕ
  pub reply : ℕ

-- "each task's count", and its refusal or 0 for spent
unfoldable pub count_by : ℕ → List Given → ℕ
count_by k [] = 0
count_by k (g ∷ gs) = cond (eqb g.task k) g.done 0 + count_by k gs

unfoldable pub refusal_by : ℕ → List Given → ℕ
refusal_by k [] = 0
refusal_by k (g ∷ gs) = cond (eqb g.task k) g.reply (refusal_by k gs)

abbrev pub running : ℕ → List Given → Bool
running k gs = eqb (refusal_by k gs) 0

-- one of the first n is running
unfoldable pub any_runs : ℕ → List Given → Bool
any_runs zero gs = false
any_runs (suc n) gs = running n gs || any_runs n gs

-- all that was done
unfoldable pub total_of : List Given → ℕ
total_of [] = 0
total_of (g ∷ gs) = g.done + total_of gs

-- the instructions of others since k's last turn
unfoldable pub waited : ℕ → List Given → ℕ
waited k [] = 0
waited k (g ∷ gs) = cond (eqb g.task k) 0 (g.done + waited k gs)

-- P holds before the first turn and after each
unfoldable pub Ever : (List Given → Type 0) → List Given → Type 0
Ever P [] = P []
Ever P (g ∷ gs) = P (g ∷ gs) × Ever P gs

-- ---- the call

-- what is left of the grant, the tasks' states, the memory, the turns given
pub record Desk (C M : Type 0) : Type 0 where
  pub left : ℕ
  pub states : C
  pub memory : M
  pub given : List Given

module _ {C M : Type 0} (run : ℕ → ℕ → C → M → Stopped C M) (n q : ℕ) where
  -- a turn of k that did what r says
  abbrev pub gave : ℕ → Desk C M → Stopped C M → Desk C M
  gave k d r = record {
    left = d.left - r.done;
    states = r.state;
    memory = r.memory;
    given = record { task = k; done = r.done; reply = r.reply } ∷ d.given;
  }

  -- A turn is a run of request 6 with grant min(q, what is left); none where nothing is left or k has stopped
  unfoldable pub turn_of : ℕ → Desk C M → Desk C M
  turn_of k d = cond (ltb 0 d.left && running k d.given) (gave k d (run k (min q d.left) d.states d.memory)) d

  -- "in order of number": m turns, from k's on
  unfoldable pub turns_from : ℕ → ℕ → Desk C M → Desk C M
  turns_from k zero d = d
  turns_from k (suc m) d = turns_from (suc k) m (turn_of k d)

  -- "until a total .. is spent or all have stopped"
  abbrev pub is_over : Desk C M → Bool
  is_over d = not (ltb 0 d.left && any_runs n d.given)

  -- rounds, f at most: each spends something or stops a task, so that as many as there are instructions to spend and tasks to stop are enough (`ends`)
  unfoldable pub rounds : ℕ → Desk C M → Desk C M
  rounds zero d = d
  rounds (suc f) d = cond (is_over d) d (rounds f (turns_from 0 n d))

  -- "Each call starts with the first, all running"
  abbrev pub opened : ℕ → C → M → Desk C M
  opened grant c m = record { left = grant; states = c; memory = m; given = [] }

  unfoldable pub call_by : ℕ → C → M → Desk C M
  call_by grant c m = rounds (grant + n) (opened grant c m)

  -- ---- what is claimed of it

  -- what is known of a run: it does no more than is granted, and just that where it is not refused
  pub record Runs : Type 0 where
    pub most : (k g : ℕ) (c : C) (m : M) → (run k g c m).done ≤ g
    pub spends : (k g : ℕ) (c : C) (m : M) → (run k g c m).reply ≡ 0 → (run k g c m).done ≡ g

  pub record Scheduled : Type 0 where
    -- "a task still running waits for at most 7 × q instructions of others between its turns", and before its first
    pub waits : (grant : ℕ) (c : C) (m : M) → n ≤ 8
        → Ever (λ gs. (k : ℕ) → k < n → running k gs ≡ true → waited k gs ≤ 7 * q) (call_by grant c m).given
    -- "until a total .. is spent or all have stopped"
    pub ends : (grant : ℕ) (c : C) (m : M) → 1 ≤ q → is_over (call_by grant c m) ≡ true
    pub spent : (grant : ℕ) (c : C) (m : M) → 1 ≤ q → total_of (call_by grant c m).given + (call_by grant c m).left ≡ grant
    -- only the n tasks have turns
    pub beyond : (grant : ℕ) (c : C) (m : M) (k : ℕ) → n ≤ k → (count_by k (call_by grant c m).given ≡ 0) × (refusal_by k (call_by grant c m).given ≡ 0)
