-- What the arms that touch no memory say, 5 judged. TRIP and TRAP: Interrupts of crate exceptions.
use Rattle.std.specs.Prelude.{ℕ, cond, ltb}
use Rattle.model.specs.Opcodes.{operation_of, first_of, last_of}
use Rattle.model.specs.NoMemory.{Said, say}
use Rattle.model.specs.Control.{operand_of}
use Rattle.model.specs.System.{put_special, get_special}
use Rattle.model.specs.Trips.{word_of}
use Rattle.model.specs.ArithmeticStep.{arithmetic_says}
use Rattle.model.specs.declared.State.{State}

-- 5, then 31, then GET
unfoldable pub get_of : State → ℕ → ℕ → Said
get_of s x z = cond (ltb 31 z) (say 5 s) (get_special s x z)

-- PUT of $z, PUTI of z
abbrev pub put_of : State → ℕ → ℕ → ℕ → Said
put_of s op x z = put_special s x (operand_of s (last_of op) z)

-- MUL to SRU
abbrev pub arithmetic_of : State → ℕ → ℕ → ℕ → ℕ → Said
arithmetic_of s op x y z = arithmetic_says s (operation_of op) x (operand_of s (first_of op) y) (operand_of s (last_of op) z) (word_of op x y z)
