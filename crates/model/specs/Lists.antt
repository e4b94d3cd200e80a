-- Lists of steps, over any memory, any state and any kind of step: "The first gets the state and window that the call left,
-- each later one what the one before left, refused or not".
use Rattle.std.specs.Prelude.{ℕ, List, [], ◌∷◌, ◌++◌}
use Rattle.model.specs.Memory.{Store}
use Rattle.model.specs.Plan.{Plan, Outcome, perform, needs, wider_needs}

-- a machine: for a state, the memory's shape and a step, which number refuses an address, and what the step does
pub record Machine (S I Sh : Type 0) : Type 0 where
  pub judge : S → Sh → I → ℕ → ℕ
  pub plan : S → Sh → I → Plan S

-- what a list leaves: the answers in order, the state, the memory
pub record Ran (S M : Type 0) : Type 0 where
  pub answers : List ℕ
  pub state : S
  pub memory : M

module _ {M Sh S I : Type 0} (st : Store M Sh) (mc : Machine S I Sh) where
  unfoldable pub step_on : S → M → I → Outcome S M
  step_on s m i = perform st (mc.judge s (st.shape m) i) s (mc.plan s (st.shape m) i) m

  unfoldable pub needs_of : S → M → I → List ℕ
  needs_of s m i = needs st (mc.judge s (st.shape m) i) (mc.plan s (st.shape m) i) m

  unfoldable pub wider_needs_of : S → M → I → List ℕ
  wider_needs_of s m i = wider_needs st (mc.judge s (st.shape m) i) (mc.plan s (st.shape m) i) m

  unfoldable pub runs : S → M → List I → Ran S M
  runs s m [] = record { answers = []; state = s; memory = m }
  runs s m (i ∷ is) =
      let o : Outcome S M = step_on s m i in
      let r : Ran S M = runs o.state o.memory is in
      record { answers = o.reply ∷ r.answers; state = r.state; memory = r.memory }

  -- the needs of a list, in a reading of the needs of one step
  unfoldable pub run_needs_by : (S → M → I → List ℕ) → S → M → List I → List ℕ
  run_needs_by f s m [] = []
  run_needs_by f s m (i ∷ is) = f s m i ++ run_needs_by f (step_on s m i).state (step_on s m i).memory is

  abbrev pub run_needs : S → M → List I → List ℕ
  run_needs = run_needs_by needs_of

  abbrev pub run_wider_needs : S → M → List I → List ℕ
  run_wider_needs = run_needs_by wider_needs_of
