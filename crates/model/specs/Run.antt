-- Change 6: running a program. "The host wants one call that runs up to a given number of instructions from the tetra at PC": one item of a machine,
-- again and again, until it is refused or a grant is spent; and `run_of`, THE run, of fetched instructions.
use Rattle.std.specs.Prelude.{ℕ, zero, suc, ◌+◌, cond, ◌==◌, nat_lt}
use Rattle.model.specs.Memory.{Store, Windows, shapes_of, both}
use Rattle.model.specs.Plan.{Outcome}
use Rattle.model.specs.Lists.{Machine, step_on}
use Rattle.model.specs.Registers.{admissible}
use Rattle.model.specs.Step.{unruled_by, fetched, mmix}
use Rattle.model.specs.declared.State.{State}

-- "The reply says how many instructions were done and why it stopped: the number spent", 0, "or the refusal"; and what is left
pub record Stopped (S M : Type 0) : Type 0 where
  pub done : ℕ
  pub reply : ℕ
  pub state : S
  pub memory : M

-- n more were done before
abbrev pub more : {S M : Type 0} → ℕ → Stopped S M → Stopped S M
more n r = record { done = n + r.done; reply = r.reply; state = r.state; memory = r.memory }

-- ".. the refusal, whose instruction isn't counted"
abbrev pub stopped_by : {S M : Type 0} → Outcome S M → Stopped S M
stopped_by o = record { done = 0; reply = o.reply; state = o.state; memory = o.memory }

module _ {M Sh S I : Type 0} (st : Store M Sh) (mc : Machine S I Sh) (i : I) where
  -- "Spent means that exactly the granted number was done"
  unfoldable pub run_for : ℕ → S → M → Stopped S M
  run_for zero s m = record { done = 0; reply = 0; state = s; memory = m }
  run_for (suc g) s m =
      cond ((step_on st mc s m i).reply == 0) (more 1 (run_for g (step_on st mc s m i).state (step_on st mc s m i).memory)) (stopped_by (step_on st mc s m i))

-- how many were tried: those done, and the one refused
abbrev pub tried : {S M : Type 0} → Stopped S M → ℕ
tried r = cond (r.reply == 0) r.done (suc r.done)

-- 25: "a grant above 1,000,000, judged after 22"
abbrev pub grant_most : ℕ
grant_most = 1000000

-- a call refused whole by n
abbrev pub refused_whole : ℕ → Windows → State → Stopped State Windows
refused_whole n w s = record { done = 0; reply = n; state = s; memory = w }

-- THE run: 1, 2, 22 and 25 judged once, in this order; then instruction by instruction
unfoldable pub run_of : Windows → State → ℕ → Stopped State Windows
run_of w s grant =
    cond (admissible s)
    (cond (unruled_by (shapes_of w) == 0)
    (cond (nat_lt grant_most grant) (refused_whole 25 w s) (run_for both mmix fetched grant s w))
    (refused_whole (unruled_by (shapes_of w)) w s))
    (refused_whole 1 w s)
