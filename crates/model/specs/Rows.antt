-- The row of each arm, by families.
use Rattle.model.specs.Opcodes.{Arm, control, stack, system, memory, arithmetic, none}
use Rattle.model.specs.Row.{Row}
use Rattle.model.specs.ControlRows.{control_row}
use Rattle.model.specs.StackRows.{stack_row}
use Rattle.model.specs.SystemRows.{system_row, no_row}
use Rattle.model.specs.MemoryRows.{memory_row}
use Rattle.model.specs.ArithmeticRows.{arithmetic_row}

abbrev pub row_of : Arm → Row
row_of (control c) = control_row c
row_of (stack c) = stack_row c
row_of (system c) = system_row c
row_of (memory c) = memory_row c
row_of (arithmetic f p q) = arithmetic_row f p q
row_of none = no_row
