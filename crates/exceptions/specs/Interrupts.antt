-- What TRIP and TRAP say, 4 judged.
use Rattle.std.specs.Prelude.{ℕ, cond, ◌&&◌, eqb}
use Rattle.model.specs.Registers.{reg}
use Rattle.model.specs.NoMemory.{Said, say}
use Rattle.model.specs.Trips.{word_of, trip_to, trap_of}
use Rattle.model.specs.Step.{is_named}
use Rattle.model.specs.declared.State.{State}

-- TRIP
unfoldable pub trip_of : State → ℕ → ℕ → ℕ → ℕ → Said
trip_of s op x y z = trip_to s 0 (word_of op x y z) (reg s y) (reg s z)

-- 4, then TRAP
unfoldable pub trap_step : State → ℕ → ℕ → ℕ → ℕ → Said
trap_step s op x y z = cond (eqb x 0 && is_named y) (say 4 s) (trap_of s (word_of op x y z) (reg s y) (reg s z))
