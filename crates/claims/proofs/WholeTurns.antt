-- Items of one task on the whole of B: the turns do what the items do on that task's state, and need what they need. What a call leaves, as turns.
use Rattle.model.proofs.Prelude.{ℕ, ◌<◌, List, [], ◌++◌, ◌∷◌, ap, refl, sym, ◌∙◌, ◌≡◌, length, set, get_or-set_same, set-get_or, set-set, Bytes, needs_of, Ran}
use Rattle.model.proofs.Prelude.{run_needs_by, runs, step_on, both, shape_of, Shapes, shapes_of, Windows, map_outcome, Outcome, fresh, Item, mmix}
use Rattle.claims.proofs.Prelude.{State, studies, task_of, Turn, turn, turn_needs, whole, mmix_shape, needs_whole, turn_whole}
use Rattle.claims.specs.OneCall.{Held}
use Rattle.claims.specs.TaskCalls.{states_held, whole_of, turns_of}
use Rattle.claims.proofs.HeldLists.{AllIntact}

-- ---- turns of one task

-- the same answers and memory, and the state of task k
abbrev pub in_tasks : List State → ℕ → Ran State Windows → Ran (List State) Windows
in_tasks ss k r = record { answers = r.answers; state = set ss k r.state; memory = r.memory }

module _ (sh : Shapes) (k : ℕ) (ss : List State) (l : k < length ss) where
  -- whatever state task k is in
  turn_at : (s : State) (m : Windows) (i : Item) → shapes_of m ≡ sh
      → step_on both studies (set ss k s) m (turn k (whole sh) i) ≡ map_outcome (λ t. set ss k t) (step_on both mmix s m i)
  turn_at s m i e =
      turn_whole sh k (set ss k s) m i e
      ∙ ap (λ (t : State). map_outcome (λ u. set (set ss k s) k u) (step_on both mmix t m i)) (get_or-set_same ss k s fresh l)
      ∙ ap (λ (f : State → List State). map_outcome f (step_on both mmix s m i)) (λ j u. set-set ss k s u j)

  turns_at : (is : List Item) (s : State) (m : Windows) → shapes_of m ≡ sh
      → runs both studies (set ss k s) m (turns_of k (whole sh) is) ≡ in_tasks ss k (runs both mmix s m is)
  unfolding turns_of runs map_outcome
  turns_at [] s m e = refl
  turns_at (i ∷ is) s m e =
      let o : Outcome State Windows = step_on both mmix s m i in
      rw (turn_at s m i e) (ap (λ (r : Ran (List State) Windows). record { answers = o.reply ∷ r.answers; state = r.state; memory = r.memory })
      (turns_at is o.state o.memory (mmix_shape s m i ∙ e)))

  needs_at : (is : List Item) (s : State) (m : Windows) → shapes_of m ≡ sh
      → run_needs_by both studies turn_needs (set ss k s) m (turns_of k (whole sh) is) ≡ run_needs_by both mmix (needs_of both mmix) s m is
  unfolding turns_of run_needs_by map_outcome
  needs_at [] s m e = refl
  needs_at (i ∷ is) s m e =
      let o : Outcome State Windows = step_on both mmix s m i in
      rw (turn_at s m i e, needs_whole sh k (set ss k s) m i e, get_or-set_same ss k s fresh l)
      (ap (λ (r : List ℕ). needs_of both mmix s m i ++ r) (needs_at is o.state o.memory (mmix_shape s m i ∙ e)))

module _ (k : ℕ) (ss : List State) (m : Windows) (is : List Item) (l : k < length ss) where
  pub turns_do : runs both studies ss m (turns_of k (whole_of m) is) ≡ in_tasks ss k (runs both mmix (task_of ss k) m is)
  unfolding shapes_of shape_of
  turns_do = ap (λ (u : List State). runs both studies u m (turns_of k (whole_of m) is)) (sym (set-get_or ss k fresh)) ∙ turns_at (shapes_of m) k ss l is (task_of ss k) m refl

  pub turns_need : run_needs_by both studies turn_needs ss m (turns_of k (whole_of m) is) ≡ run_needs_by both mmix (needs_of both mmix) (task_of ss k) m is
  unfolding shapes_of shape_of
  turns_need =
      ap (λ (u : List State). run_needs_by both studies turn_needs u m (turns_of k (whole_of m) is)) (sym (set-get_or ss k fresh)) ∙ needs_at (shapes_of m) k ss l is (task_of ss k) m refl

-- ---- what a call leaves

-- ks and v are what the turns make of hs and w
pub record AsTurns (hs : List Held) (w : Windows) (is : List Turn) (ks : List Held) (v : Windows) : Type 0 where
  pub states_are : states_held ks ≡ (runs both studies (states_held hs) w is).state
  pub window_is : v ≡ (runs both studies (states_held hs) w is).memory
  pub whole : AllIntact ks
  pub bytes : Bytes v
  pub count : length ks ≡ length hs
