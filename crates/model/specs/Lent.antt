-- A state and the windows as code lends them for a call: what they are, and that after it they are still the same ones.
use Rattle.std.specs.Prelude.{ℕ, ◌≡◌}
use Rattle.model.specs.Memory.{Windows}
use Rattle.model.specs.Parts.{made, lent}
use Rattle.model.specs.Step.{opcode_in, x_in, y_in, z_in}
use Rattle.model.specs.declared.State.{State}
use Rattle.model.specs.declared.StateMut.{StateMut}
use Rattle.model.specs.declared.WindowsMut.{WindowsMut}
use Rattle.model.specs.declared.WindowsRef.{WindowsRef}
use Rattle.model.specs.declared.Instruction.{Instruction}

abbrev pub state_lent : StateMut → State
state_lent s = made s.general.now s.special.now s.pc.now s.halt.now s.marks s.mask

abbrev pub windows_lent : WindowsMut → Windows
windows_lent w = lent w.at w.a.now w.b.now

abbrev pub windows_read : WindowsRef → Windows
windows_read w = lent w.at w.a.now w.b.now

-- what a call was lent is what it gives back: no other array, number or slice
abbrev pub SameState : StateMut → StateMut → Type 0
SameState s t =
    (t.general.ghost_name ≡ s.general.ghost_name) × (t.special.ghost_name ≡ s.special.ghost_name) × (t.pc.ghost_name ≡ s.pc.ghost_name)
    × (t.halt.ghost_name ≡ s.halt.ghost_name) × (t.marks ≡ s.marks) × (t.mask ≡ s.mask)

abbrev pub SameWindows : WindowsMut → WindowsMut → Type 0
SameWindows v w = (w.a.ghost_name ≡ v.a.ghost_name) × (w.b.ghost_name ≡ v.b.ghost_name) × (w.at ≡ v.at)

-- the instruction that a tetra says
abbrev pub SaidBy : ℕ → Instruction → Type 0
SaidBy t i = i ≡ record { op = opcode_in t; x = x_in t; y = y_in t; z = z_in t }
