-- 01, 'Steps': where a step goes, and what it asks of a register (control.rs).
use Rattle.std.specs.Prelude.{ℕ, ◌+◌, ◌-◌, ◌*◌, ◌%◌, ◌^◌, Bool, not, ◌&&◌, ◌||◌, ◌==◌, nat_le}
use Rattle.model.specs.Registers.{reg}
use Rattle.model.specs.Opcodes.{Condition, negative, is_zero, positive, odd, non_negative, non_zero, non_positive, even, Direction, forward, backward, Operand, register, immediate}
use Rattle.model.specs.declared.State.{State}

-- "YZ is 256 × Y + Z and XYZ is 65536 × X + YZ"
abbrev pub yz_of : ℕ → ℕ → ℕ
yz_of y z = 256 * y + z

abbrev pub xyz_of : ℕ → ℕ → ℕ → ℕ
xyz_of x y z = 65536 * x + yz_of y z

-- how many fields YZ there are, and how many XYZ
abbrev pub branch_fields : ℕ
branch_fields = 65536

abbrev pub jump_fields : ℕ
jump_fields = 16777216

-- from address a by 4 × the signed count of a field f, one of `size` values: f itself forward, f − size backward; modulo 2^64
unfoldable pub target_of : ℕ → Direction → ℕ → ℕ → ℕ
target_of a forward size f = (a + 4 * f) % 2 ^ 64
target_of a backward size f = (a + (2 ^ 64 - 4 * (size - f))) % 2 ^ 64

-- "Forward targets are @ + 4 × YZ. A backward field is the negative count YZ − 65536, from −65536 to −1"
abbrev pub near : State → Direction → ℕ → ℕ → ℕ
near s w y z = target_of s.pc w branch_fields (yz_of y z)

-- "JMP uses XYZ, JMPB XYZ − 16777216"
abbrev pub far : State → Direction → ℕ → ℕ → ℕ → ℕ
far s w x y z = target_of s.pc w jump_fields (xyz_of x y z)

abbrev pub operand_of : State → Operand → ℕ → ℕ
operand_of s register z = reg s z
operand_of s immediate z = z

-- "$Y + $Z or $Y + Z"
abbrev pub sum_of : State → Operand → ℕ → ℕ → ℕ
sum_of s o y z = (reg s y + operand_of s o z) % 2 ^ 64

-- "A register is negative when its top bit is set"
abbrev pub is_negative : ℕ → Bool
is_negative v = nat_le (2 ^ 63) v

unfoldable pub holds : Condition → ℕ → Bool
holds negative v = is_negative v
holds is_zero v = v == 0
holds positive v = not (is_negative v) && not (v == 0)
holds odd v = v % 2 == 1
holds non_negative v = not (is_negative v)
holds non_zero v = not (v == 0)
holds non_positive v = is_negative v || v == 0
holds even v = v % 2 == 0
