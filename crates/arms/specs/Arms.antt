-- What the arms come to that the contracts cite by name: of a state, and of the windows and a state.
use Rattle.std.specs.Prelude.{ℕ, ◌+◌, ◌*◌, ◌%◌, ◌^◌, ◌≡◌, cond}
use Rattle.model.specs.Memory.{Windows, shapes_of, both}
use Rattle.model.specs.Plan.{Plan, Outcome, perform}
use Rattle.model.specs.Registers.{r_j, sp, reg, goes, next, following, set_register}
use Rattle.model.specs.Opcodes.{first_load, last_load, first_store, last_store, first_arithmetic, last_arithmetic, op_pushgo, op_pushgoi, op_pushj, op_pushjb, op_put, op_puti, width_of, sign_of, last_of, direction_of, condition_of, among}
use Rattle.model.specs.NoMemory.{Said}
use Rattle.model.specs.Control.{near, far, sum_of, yz_of, holds}
use Rattle.model.specs.Frames.{hole, push_frame, pop_frame}
use Rattle.model.specs.Trips.{word_of}
use Rattle.model.specs.LoadStore.{load_from, store_to}
use Rattle.model.specs.Step.{refusing}
use Rattle.model.specs.declared.State.{State}
use Rattle.stack.specs.GivenBack.{only_if, placed}
use Rattle.contexts.specs.SaveUnsave.{unsave_in}
use Rattle.arms.specs.NoMemoryArms.{arithmetic_of, put_of}

-- a branch
unfoldable pub branch_of : State → ℕ → ℕ → ℕ → ℕ → State
branch_of s op x y z = cond (holds (condition_of op) (reg s x)) (goes s (near s (direction_of op) y z)) (next s)

-- JMP
abbrev pub jump_of : State → ℕ → ℕ → ℕ → ℕ → State
jump_of s op x y z = goes s (far s (direction_of op) x y z)

-- GETA
abbrev pub address_of : State → ℕ → ℕ → ℕ → ℕ → State
address_of s op x y z = next (set_register s x (near s (direction_of op) y z))

-- GO, to a target that was read first
abbrev pub go_to : State → ℕ → ℕ → State
go_to s x target = goes (set_register s x (following s)) target

abbrev pub go_of : State → ℕ → ℕ → ℕ → ℕ → State
go_of s op x y z = go_to s x (sum_of s (last_of op) y z)

-- the arms of the stack ask what the stack asks in place: a call of a target with the hole that x makes,
abbrev pub call_to : Windows → State → ℕ → ℕ → Outcome State Windows
call_to w s x target = only_if (placed s) w s (push_frame s (hole s x) target)

-- and POP
abbrev pub return_of : Windows → State → ℕ → ℕ → ℕ → Outcome State Windows
return_of w s x y z = only_if (placed s) w s (pop_frame s x ((sp s r_j + 4 * yz_of y z) % 2 ^ 64))

-- UNSAVE of the context at $z
abbrev pub unsave_at : Windows → State → ℕ → Outcome State Windows
unsave_at w s z = unsave_in w s (reg s z)

-- a load, a store, once 1, 2 and 22 have passed
abbrev pub carried_out : Windows → State → Plan State → Outcome State Windows
carried_out w s p = perform both (refusing (shapes_of w)) s p w

abbrev pub load_of : Windows → State → ℕ → ℕ → ℕ → ℕ → Outcome State Windows
load_of w s op x y z = carried_out w s (load_from s (width_of op) (sign_of op) x (sum_of s (last_of op) y z))

abbrev pub store_of : Windows → State → ℕ → ℕ → ℕ → ℕ → Outcome State Windows
store_of w s op x y z = carried_out w s (store_to s (width_of op) (sign_of op) x (sum_of s (last_of op) y z) (word_of op x y z))

-- an opcode that is none of the four calls
abbrev pub NoCall : ℕ → Type 0
NoCall op = (op ≡ op_pushgo → ⊥) × (op ≡ op_pushgoi → ⊥) × (op ≡ op_pushj → ⊥) × (op ≡ op_pushjb → ⊥)

-- what is said, with the windows as they were
abbrev pub telling : Windows → Said → Outcome State Windows
telling w d = record { reply = d.reply; state = d.state; memory = w }

-- the opcodes that come in ranges, the branches apart, PUT and PUTI among them; 3 for any other
unfoldable pub ranged_of : Windows → State → ℕ → ℕ → ℕ → ℕ → Outcome State Windows
ranged_of w s op x y z =
    cond (among first_load last_load op) (load_of w s op x y z)
    (cond (among first_store last_store op) (store_of w s op x y z)
    (cond (among first_arithmetic last_arithmetic op) (telling w (arithmetic_of s op x y z))
    (cond (among op_put op_puti op) (telling w (put_of s op x z))
    (record { reply = 3; state = s; memory = w }))))
