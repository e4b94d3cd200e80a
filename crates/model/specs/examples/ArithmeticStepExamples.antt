-- Theorem. Whole-number arithmetic in a step, computed: every opcode, D and V raised, claims, registers that are both target and operand.
-- The operations at their edges: ArithmeticExamples.
use Rattle.std.specs.Prelude.{◌≡◌, ℕ, ◌+◌, ◌-◌, ◌*◌, ◌^◌, true, List, [], ◌∷◌, ◌++◌}
use Rattle.model.specs.Memory.{Windows}
use Rattle.model.specs.Registers.{r_b, r_d, r_h, r_j, r_r, r_l, r_a, r_w, r_x, r_y, r_z, stack_start, goes, halted, with_special, stored}
use Rattle.model.specs.Step.{step}
use Rattle.model.specs.Bench.{Point, all_met, start, stack_alone}
use Rattle.model.specs.examples.LoadStoreExamples.{minus}
use Rattle.model.specs.declared.State.{State}

abbrev nowhere : Windows
nowhere = stack_alone (record { base = stack_start; bytes = [] })

abbrev example : State → ℕ → ℕ → ℕ → ℕ → ℕ → State → Point
example s op x y z r t = record { begin = s; window = nowhere; items = step op x y z ∷ []; replies = r ∷ []; end = t; left = nowhere }

-- four locals, $1 = u, $2 = v, $3 = w; rH = 7 and rR = 9
abbrev having : ℕ → ℕ → ℕ → State
having u v w = with_special (with_special (stored (stored (stored (with_special start r_l 4) 1 u) 2 v) 3 w) r_h 7) r_r 9

abbrev gives : State → ℕ → ℕ → State
gives s h r = with_special (with_special s r_h h) r_r r

-- ---- every opcode: $1 from $2 = 100 and $3 = 3, and from $2 and 3; NEG and NEGU from 2 and these

abbrev does : ℕ → ℕ → ℕ → ℕ → List Point
does op v h r =
    example (having 0 100 3) op 1 2 3 0 (goes (gives (having v 100 3) h r) 4)
    ∷ example (having 0 100 0) (op + 1) 1 2 3 0 (goes (gives (having v 100 0) h r) 4) ∷ []

abbrev opcode_examples : List Point
opcode_examples =
    does 0x18 300 7 9 ++ (does 0x1A 300 0 9 ++ (does 0x1C 33 7 1 ++ (does 0x1E 33 7 1 ++ (does 0x20 103 7 9 ++ (does 0x22 103 7 9 ++ (does 0x24 97 7 9 ++ (does 0x26 97 7 9
    ++ (does 0x28 203 7 9 ++ (does 0x2A 403 7 9 ++ (does 0x2C 803 7 9 ++ (does 0x2E 1603 7 9 ++ (does 0x30 1 7 9 ++ (does 0x32 1 7 9 ++ (does 0x34 (minus 1) 7 9
    ++ (does 0x36 (minus 1) 7 9 ++ (does 0x38 800 7 9 ++ (does 0x3A 800 7 9 ++ (does 0x3C 12 7 9 ++ does 0x3E 12 7 9))))))))))))))))))

-- DIVU takes rD: 2^64 + 100 by 3 with rD = 1
abbrev wide_state : ℕ → State
wide_state u = with_special (having u 100 3) r_d 1

abbrev wide_example : Point
wide_example = example (wide_state 0) 0x1E 1 2 3 0 (goes (gives (wide_state 6148914691236517238) 7 2) 4)

-- ---- flags: DIV of 100 by zero, and ADD of the largest and 1; not enabled, enabled, enabled with no vector loaded. $255 = 7, rJ = 11

abbrev calling : State → State
calling s = with_special (stored s 255 7) r_j 11

abbrev enabling : ℕ → State → State
enabling a s = with_special (calling s) r_a a

abbrev unloaded : State → State
unloaded s = record { general = s.general; special = s.special; pc = s.pc; halt = s.halt; marks = 0; mask = s.mask }

-- $255 = rJ, rB, rW, rX, rY, rZ of an instruction op x 2 3
abbrev taken : State → ℕ → ℕ → ℕ → ℕ → ℕ → State
taken s b op x u v =
    with_special (with_special (with_special (with_special (with_special (stored s 255 11) r_b b) r_w 4) r_x (2 ^ 63 + op * 2 ^ 24 + x * 2 ^ 16 + 0x0203)) r_y u) r_z v

abbrev highest : ℕ
highest = 2 ^ 63 - 1

abbrev flag_examples : List Point
flag_examples =
    example (calling (having 1 100 0)) 0x1C 1 2 3 0 (goes (with_special (gives (calling (having 0 100 0)) 7 100) r_a 0x80) 4)
    ∷ example (enabling 0x8000 (having 1 100 0)) 0x1C 1 2 3 0 (goes (taken (gives (enabling 0x8000 (having 0 100 0)) 7 100) 7 0x1C 1 100 0) 0x10)
    ∷ example (unloaded (enabling 0x8000 (having 1 100 0))) 0x1C 1 2 3 19 (halted (taken (gives (unloaded (enabling 0x8000 (having 0 100 0))) 7 100) 7 0x1C 1 100 0))
    ∷ example (calling (having 0 highest 1)) 0x20 1 2 3 0 (goes (with_special (calling (having (2 ^ 63) highest 1)) r_a 0x40) 4)
    ∷ example (enabling 0x4000 (having 0 highest 1)) 0x20 1 2 3 0 (goes (taken (enabling 0x4000 (having (2 ^ 63) highest 1)) 7 0x20 1 highest 1) 0x20)
    ∷ example (unloaded (enabling 0x4000 (having 0 highest 1))) 0x20 1 2 3 19 (halted (taken (unloaded (enabling 0x4000 (having (2 ^ 63) highest 1))) 7 0x20 1 highest 1))
    -- rB gets the new $255
    ∷ example (enabling 0x4000 (having 0 highest 1)) 0x20 255 2 3 0 (goes (taken (enabling 0x4000 (having 0 highest 1)) (2 ^ 63) 0x20 255 highest 1) 0x20)
    -- NEG of the lowest from 2: rY is 2
    ∷ example (enabling 0x4000 (having 0 5 (2 ^ 63))) 0x34 1 2 3 0 (goes (taken (enabling 0x4000 (having (2 ^ 63 + 2) 5 (2 ^ 63))) 7 0x34 1 2 (2 ^ 63)) 0x20) ∷ []

-- ---- X = Y, X = Z, X marginal, X marginal and Y: operands are read before the claim

abbrev place_examples : List Point
place_examples =
    example (having 0 100 3) 0x24 2 2 3 0 (goes (having 0 97 3) 4)
    ∷ example (having 0 100 3) 0x24 3 2 3 0 (goes (having 0 100 97) 4)
    ∷ example (having 0 100 3) 0x20 9 2 3 0 (goes (stored (with_special (having 0 100 3) r_l 10) 9 103) 4)
    ∷ example (stored (having 0 100 3) 9 50) 0x20 9 9 3 0 (goes (stored (with_special (having 0 100 3) r_l 10) 9 53) 4) ∷ []

unfoldable pub arithmetic_step_examples : List Point
arithmetic_step_examples = opcode_examples ++ (wide_example ∷ (flag_examples ++ place_examples))

abbrev pub ArithmeticStepExamplesMet : Type 0
ArithmeticStepExamplesMet = all_met arithmetic_step_examples ≡ true
