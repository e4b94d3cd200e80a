-- Branches, JMP, GETA and GO: control.rs's arms that touch no memory. What they say, Knuth's rule, what they read; then their row.
use Rattle.std.specs.Prelude.{ℕ, cond, List, [], ◌∷◌}
use Rattle.model.specs.Registers.{reg, goes, following, next, set_register}
use Rattle.model.specs.Plan.{Plan}
use Rattle.model.specs.Opcodes.{ControlArm, branch, jump, get_address, go}
use Rattle.model.specs.NoMemory.{Said, say}
use Rattle.model.specs.Control.{near, far, sum_of, holds}
use Rattle.model.specs.Rules.{After, read_rule, sum_rule, done}
use Rattle.model.specs.Row.{Of, Row, plain, sum_read}

abbrev pub control_says : ControlArm → Of Said
control_says (branch c d) s op x y z = say 0 (cond (holds c (reg s x)) (goes s (near s d y z)) (next s))
control_says (jump d) s op x y z = say 0 (goes s (far s d x y z))
-- "GETA puts such a target in $X; GO puts @ + 4 there and goes to $Y + $Z or $Y + Z, read first"
control_says (get_address d) s op x y z = say 0 (next (set_register s x (near s d y z)))
control_says (go o) s op x y z = say 0 (goes (set_register s x (following s)) (sum_of s o y z))

-- KNUTH: a marginal register is read as zero
abbrev pub control_rule : ControlArm → Of (Plan After)
control_rule (branch c d) s op x y z = done (cond (holds c (read_rule s x)) (goes s (near s d y z)) (next s))
control_rule (jump d) s op x y z = done (goes s (far s d x y z))
control_rule (get_address d) s op x y z = done (next (set_register s x (near s d y z)))
control_rule (go o) s op x y z = done (goes (set_register s x (following s)) (sum_rule s o y z))

abbrev pub control_reads : ControlArm → ℕ → ℕ → ℕ → List ℕ
control_reads (branch c d) x y z = x ∷ []
control_reads (jump d) x y z = []
control_reads (get_address d) x y z = []
control_reads (go o) x y z = sum_read o y z

abbrev pub control_row : ControlArm → Row
control_row c = plain (record { says = control_says c; rule = control_rule c; reads = λ s. control_reads c })
