-- Theorem. What a run means: when it is spent and when it is refused, what a larger grant does, that it is the list of its fetched instructions, and
-- the order in which a call is refused whole.
use Rattle.std.specs.Prelude.{◌≡◌, ℕ, ◌+◌, ◌<◌, ◌≤◌, true, false, cond, ◌≢◌, List, [], ◌∷◌, ◌++◌, replicate, ◌==◌}
use Rattle.model.specs.Memory.{Windows, shapes_of, ruled, shares, both}
use Rattle.model.specs.Lists.{Ran, runs}
use Rattle.model.specs.Registers.{Sized, admissible}
use Rattle.model.specs.Step.{fetched, fetched_of, mmix}
use Rattle.model.specs.Run.{Stopped, more, stopped_by, tried, grant_most, refused_whole, run_of}
use Rattle.model.specs.Order.{Passes}
use Rattle.model.specs.declared.State.{State}

-- the fetched instructions that a run tried, as a list from where it began
abbrev pub tried_list : Windows → State → Stopped State Windows → Ran State Windows
tried_list w s r = runs both mmix s w (replicate (tried r) fetched)

-- its answers: 0 for each that was done, then the refusal where there is one
abbrev pub answers_of : Stopped State Windows → List ℕ
answers_of r = replicate r.done 0 ++ cond (r.reply == 0) [] (r.reply ∷ [])

pub record Listed (w : Windows) (s : State) (r : Stopped State Windows) : Type 0 where
  pub answers_are : (tried_list w s r).answers ≡ answers_of r
  pub state_is : (tried_list w s r).state ≡ r.state
  pub memory_is : (tried_list w s r).memory ≡ r.memory

-- a run that is refused stays; one that is spent goes on from where it ended
abbrev pub onward : Stopped State Windows → ℕ → Stopped State Windows
onward r h = cond (r.reply == 0) (more r.done (run_of r.memory r.state h)) r

-- of a call that passes 1, 2, 22 and 25
pub record CallPasses (w : Windows) (s : State) (grant : ℕ) : Type 0 where
  pub passes : Passes w s
  pub granted : grant ≤ grant_most

pub record RunIsMeant : Type 0 where
  -- "Spent means that exactly the granted number was done": 0 just where the count is the grant; a refusal only with a count below it
  pub spent : (w : Windows) (s : State) (grant : ℕ) → CallPasses w s grant → (run_of w s grant).reply ≡ 0 → (run_of w s grant).done ≡ grant
  pub spent_only : (w : Windows) (s : State) (grant : ℕ) → CallPasses w s grant → (run_of w s grant).done ≡ grant → (run_of w s grant).reply ≡ 0
  pub refused : (w : Windows) (s : State) (grant : ℕ) → CallPasses w s grant → (run_of w s grant).reply ≢ 0 → (run_of w s grant).done < grant
  -- "a grant of 0 that passes 25 does nothing and says spent"
  pub none : (w : Windows) (s : State) → Passes w s → run_of w s 0 ≡ refused_whole 0 w s
  -- one more: a fetched instruction that is done, and then the run from there; or its refusal, which isn't counted
  pub turn : (w : Windows) (s : State) (grant : ℕ) → Sized s → CallPasses w s (grant + 1)
      → run_of w s (grant + 1) ≡ cond ((fetched_of w s).reply == 0) (more 1 (run_of (fetched_of w s).memory (fetched_of w s).state grant)) (stopped_by (fetched_of w s))
  -- "a larger grant never alters the states already reached"
  pub larger : (w : Windows) (s : State) (grant further : ℕ) → Sized s → CallPasses w s (grant + further) → run_of w s (grant + further) ≡ onward (run_of w s grant) further
  -- "The count is that of the definition's steps": state, memory and answers are those of the list of fetched instructions that were tried
  pub listed : (w : Windows) (s : State) (grant : ℕ) → CallPasses w s grant → Listed w s (run_of w s grant)

-- 1, 2, 22 and 25 judged once, in this order, each whatever the later ones would say: the call is refused whole
pub record RunsInOrder : Type 0 where
  pub one_first : (w : Windows) (s : State) (grant : ℕ) → admissible s ≡ false → run_of w s grant ≡ refused_whole 1 w s
  pub two_next : (w : Windows) (s : State) (grant : ℕ) → admissible s ≡ true → ruled (shapes_of w) ≡ false → run_of w s grant ≡ refused_whole 2 w s
  pub twenty_two : (w : Windows) (s : State) (grant : ℕ) → admissible s ≡ true → ruled (shapes_of w) ≡ true → shares (shapes_of w) ≡ true
      → run_of w s grant ≡ refused_whole 22 w s
  pub twenty_five : (w : Windows) (s : State) (grant : ℕ) → Passes w s → grant_most < grant → run_of w s grant ≡ refused_whole 25 w s
  -- "a grant above 1,000,000"
  pub most : grant_most ≡ 1000000
