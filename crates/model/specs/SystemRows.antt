-- PUT, GET, SYNC, SWYM, TRIP, TRAP: system.rs's arms that touch no memory; and what is no arm. What they say, Knuth's rule, what they read; then their rows.
use Rattle.std.specs.Prelude.{ℕ, Bool, cond, ◌&&◌, ◌||◌, List, [], ◌∷◌, ◌==◌, nat_le, nat_lt}
use Rattle.model.specs.Registers.{reg, next}
use Rattle.model.specs.Plan.{Plan}
use Rattle.model.specs.Opcodes.{SystemArm, put, get, sync, swym, trip, trap}
use Rattle.model.specs.NoMemory.{Said, say, tell}
use Rattle.model.specs.Control.{xyz_of, operand_of}
use Rattle.model.specs.System.{put_refusal, put_state, put_special, get_special, got_rule, sync_of}
use Rattle.model.specs.Trips.{word_of, trip_to, trap_of, trip_rule, trap_rule}
use Rattle.model.specs.Rules.{After, read_rule, operand_rule, going, done, interrupt}
use Rattle.model.specs.Row.{Refusal, begins, no_arm, named_trap, no_special, Of, Row, Plain, plain, refusable, operand_read}

-- the Y that `TrapCode::from_u8` names
abbrev pub is_named : ℕ → Bool
is_named y = nat_le y 10 || (nat_le 0x80 y && nat_le y 0x82)

abbrev pub system_says : SystemArm → Of Said
-- "PUT's value is $Z, PUTI's Z"
system_says (put o) s op x y z = put_special s x (operand_of s o z)
system_says get s op x y z = get_special s x z
system_says sync s op x y z = sync_of s (xyz_of x y z)
system_says swym s op x y z = say 0 (next s)
-- "TRIP's vector is 0; the operands of TRIP and TRAP are $Y and $Z from before"
system_says trip s op x y z = trip_to s 0 (word_of op x y z) (reg s y) (reg s z)
system_says trap s op x y z = trap_of s (word_of op x y z) (reg s y) (reg s z)

-- KNUTH: PUT interrupts where Y is not 0, where it may not set special X, or not to this value; GET where Y is not 0 or there is no special Z;
-- SYNC where XYZ is above 3
abbrev pub system_rule : SystemArm → Of (Plan After)
system_rule (put o) s op x y z =
    cond (y == 0 && put_refusal s x (operand_rule s o z) == 0) (done (next (put_state s x (operand_rule s o z)))) interrupt
system_rule get s op x y z = cond (y == 0 && nat_le z 31) (done (next (got_rule s x z))) interrupt
system_rule sync s op x y z = cond (nat_le (xyz_of x y z) 3) (done (next s)) interrupt
system_rule swym s op x y z = done (next s)
system_rule trip s op x y z = done (trip_rule s 0 (word_of op x y z) (read_rule s y) (read_rule s z))
system_rule trap s op x y z = done (trap_rule s (word_of op x y z) (read_rule s y) (read_rule s z))

abbrev pub system_reads : SystemArm → ℕ → ℕ → ℕ → List ℕ
system_reads (put o) x y z = operand_read o z
system_reads get x y z = []
system_reads sync x y z = []
system_reads swym x y z = []
system_reads trip x y z = y ∷ z ∷ []
system_reads trap x y z = y ∷ z ∷ []

-- 5: "GET with Z above 31"
abbrev pub get_refusal : ℕ → ℕ → ℕ → Refusal
get_refusal x y z = cond (nat_lt 31 z) no_special begins

-- 4: "TRAP with X = 0 and a Y that `from_u8` names"
abbrev pub trap_refusal : ℕ → ℕ → ℕ → Refusal
trap_refusal x y z = cond (x == 0 && is_named y) named_trap begins

abbrev pub system_arm : SystemArm → Plain
system_arm c = record { says = system_says c; rule = system_rule c; reads = λ s. system_reads c }

abbrev pub system_row : SystemArm → Row
system_row (put o) = plain (system_arm (put o))
system_row get = refusable get_refusal (system_arm get)
system_row sync = plain (system_arm sync)
system_row swym = plain (system_arm swym)
system_row trip = plain (system_arm trip)
system_row trap = refusable trap_refusal (system_arm trap)

-- 3: "opcode with no arm in the two dispatch files, or RESUME (0xF9)", and none of the requests'
abbrev pub no_row : Row
no_row = refusable (λ x y z. no_arm) (record { says = λ s op x y z. say 3 s; rule = λ s op x y z. going (tell (say 3 s)); reads = λ s x y z. [] })
