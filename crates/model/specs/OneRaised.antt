-- Theorem. Change 7 leaves loads, stores and arithmetic as they were: a step raises at most one flag, and what is added to rA is as before wherever
-- at most one flag is raised and enabled. So every instruction is as before, stepped, fetched or run; exceptions alone are not.
use Rattle.std.specs.Prelude.{◌≡◌, ℕ, ◌+◌, ◌-◌, ◌%◌, ◌<◌, cond, ◌≢◌, ◌⊎◌, ◌==◌, bit_and}
use Rattle.model.specs.Plan.{Plan}
use Rattle.model.specs.Registers.{r_a, next, with_special, fresh}
use Rattle.model.specs.Opcodes.{Arm}
use Rattle.model.specs.Row.{Raise, Raises, never, raises, flags_in}
use Rattle.model.specs.Rows.{row_of}
use Rattle.model.specs.NoMemory.{Said, say}
use Rattle.model.specs.Trips.{trip_to, enables, enabled, vector_of, taken, added, flagged, raised}
use Rattle.model.specs.LoadStore.{flag_v}
use Rattle.model.specs.Arithmetic.{flag_d}
use Rattle.model.specs.Step.{plan_of}
use Rattle.model.specs.declared.State.{State}

-- ---- what a step raises

-- the flags that an arm raises: V by a store of a value that does not fit, an operation's own; no other arm raises any
abbrev pub flags_by : Raises → State → ℕ → ℕ → ℕ → ℕ
flags_by never s x y z = 0
flags_by (raises f p) s x y z = f s x y z

unfoldable pub flags_of : State → Arm → ℕ → ℕ → ℕ → ℕ
flags_of s a x y z = flags_by (flags_in (row_of a)) s x y z

-- none, V alone or D alone
abbrev pub OneFlag : ℕ → Type 0
OneFlag n = (n ≡ 0) ⊎ ((n ≡ flag_v) ⊎ (n ≡ flag_d))

-- ---- an instruction over an exception step e, in the place of `raised`

-- a plan that raises flags asks e, with these flags alone; all others are as they are
abbrev pub asked_by : Raises → Raise → Plan State → State → ℕ → ℕ → ℕ → ℕ → Plan State
asked_by never e p s op x y z = p
asked_by (raises f q) e p s op x y z = q e s op x y z

unfoldable pub plan_by : Raise → State → Arm → ℕ → ℕ → ℕ → ℕ → Plan State
plan_by e s a op x y z = asked_by (flags_in (row_of a)) e (plan_of s a op x y z) s op x y z

-- ---- the exception step before change 7, the Rust's: "Disabled ones are added to rA. Enabled ones after the taken one leave no mark"

unfoldable pub added_before : State → ℕ → ℕ
added_before s f = bit_and (f % 256) (255 - enables s)

unfoldable pub raised_before : State → ℕ → ℕ → ℕ → ℕ → Said
raised_before s f word u v =
    cond (enabled s f == 0) (say 0 (next (flagged s (added_before s f))))
    (trip_to (flagged s (added_before s f)) (vector_of (enabled s f)) word u v)

-- flags 0xC0 with rA 0xC000, P13's
abbrev both_enabled : State
both_enabled = with_special fresh r_a 0xC000

-- ---- the theorem

pub record RaisesOne : Type 0 where
  -- a step raises at most one flag, whatever the state and its bytes
  pub at_most_one : (s : State) (a : Arm) (x y z : ℕ) → OneFlag (flags_of s a x y z)
  -- these are the flags: each arm is the one that asks `raised` with them
  pub by_raised : (s : State) (a : Arm) (op x y z : ℕ) → plan_by raised s a op x y z ≡ plan_of s a op x y z
  -- the taken exception and those added are all that are raised, each once
  pub all_told : (s : State) (f : ℕ) → taken s f + added s f ≡ f % 256
  -- an exception is as before where at most one flag is raised and enabled; where two are, more is added
  pub exception_before : (s : State) (f word u v : ℕ) → enabled s f ≡ taken s f → raised_before s f word u v ≡ raised s f word u v
  pub added_differs : (s : State) (f : ℕ) → enabled s f ≢ taken s f → added_before s f < added s f
  pub smallest : (added both_enabled 0xC0 ≡ 0x40) × (added_before both_enabled 0xC0 ≡ 0)
  -- an arm is as before. Steps, fetched instructions and runs are made of arms' plans and nothing else that raises: so are they
  pub plan_before : (s : State) (a : Arm) (op x y z : ℕ) → plan_by raised_before s a op x y z ≡ plan_of s a op x y z
