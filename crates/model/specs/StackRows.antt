-- PUSHJ, PUSHGO, POP, SAVE, UNSAVE: the register stack. What they plan, Knuth's rule, what they read and need; then their row.
use Rattle.std.specs.Prelude.{ℕ, ◌+◌, ◌*◌, ◌%◌, ◌^◌, Bool, true, false, cond, ◌&&◌, List, [], ◌∷◌, ◌++◌, ◌==◌, nat_le, nat_lt}
use Rattle.model.specs.Fill.{tab}
use Rattle.model.specs.Memory.{Windows}
use Rattle.model.specs.Registers.{r_j, r_o, r_g, sp, reg, next}
use Rattle.model.specs.Plan.{Plan, answer}
use Rattle.model.specs.Opcodes.{StackArm, push_jump, push_go, pop, save, unsave}
use Rattle.model.specs.Control.{near, yz_of, sum_of}
use Rattle.model.specs.Frames.{hole, push_frame, pop_frame}
use Rattle.model.specs.Contexts.{extent, saved, saved_state, save_context, unsave_context}
use Rattle.model.specs.Rules.{After, read_rule, sum_rule, going, interrupt, push_rule, pop_any_rule, unsave_rule}
use Rattle.model.specs.Needs.{run, pop_needs, unsave_needs}
use Rattle.model.specs.Row.{Of, Row, touching, never, sum_read}
use Rattle.model.specs.declared.State.{State}

abbrev pub stack_plan : StackArm → Of (Plan State)
-- "PUSHGO takes its target before the push"
stack_plan (push_jump d) s op x y z = push_frame s (hole s x) (near s d y z)
stack_plan (push_go o) s op x y z = push_frame s (hole s x) (sum_of s o y z)
-- "PC is rJ + 4 × YZ"
stack_plan pop s op x y z = pop_frame s x ((sp s r_j + 4 * yz_of y z) % 2 ^ 64)
stack_plan save s op x y z = save_context s x
stack_plan unsave s op x y z = unsave_context s (reg s z)

-- KNUTH: SAVE interrupts where Y or Z is not 0 or $X is not global, UNSAVE where X or Y is not 0
abbrev pub stack_rule : StackArm → Of (Plan After)
stack_rule (push_jump d) s op x y z = going (push_rule s x (near s d y z))
stack_rule (push_go o) s op x y z = going (push_rule s x (sum_rule s o y z))
stack_rule pop s op x y z = going (pop_any_rule s x ((sp s r_j + 4 * yz_of y z) % 2 ^ 64))
stack_rule save s op x y z =
    cond (y == 0 && (z == 0 && nat_le (sp s r_g) x)) (going (answer 0 (next (saved_state s x)) (sp s r_o) (tab 0 (extent s) (saved s)))) interrupt
stack_rule unsave s op x y z = cond (x == 0 && y == 0) (going (unsave_rule s (read_rule s z))) interrupt

-- the frame of a call
abbrev pub frame_read : State → ℕ → List ℕ
frame_read s x = tab 0 (hole s x) (λ i. i)

abbrev pub stack_reads : StackArm → State → ℕ → ℕ → ℕ → List ℕ
stack_reads (push_jump d) s x y z = frame_read s x
stack_reads (push_go o) s x y z = sum_read o y z ++ frame_read s x
stack_reads pop s x y z = []
stack_reads save s x y z = []
stack_reads unsave s x y z = z ∷ []

abbrev pub stack_needs : StackArm → Windows → State → ℕ → ℕ → ℕ → List ℕ
-- "PUSH needs its frame"
stack_needs (push_jump d) w s x y z = run w (sp s r_o) (hole s x + 1) []
stack_needs (push_go o) w s x y z = run w (sp s r_o) (hole s x + 1) []
stack_needs pop w s x y z = pop_needs w s
-- "SAVE [needs] all that it stores"
stack_needs save w s x y z = cond (nat_lt x (sp s r_g)) [] (run w (sp s r_o) (extent s) [])
stack_needs unsave w s x y z = unsave_needs w (reg s z)

-- rS moves with rO
abbrev pub stack_spills : StackArm → Bool
stack_spills (push_jump d) = true
stack_spills (push_go o) = true
stack_spills pop = true
stack_spills save = false
stack_spills unsave = false

abbrev pub stack_row : StackArm → Row
stack_row c = touching (record { plan = stack_plan c; rule = stack_rule c; reads = stack_reads c; flags = never; needs = stack_needs c; spills = stack_spills c })
