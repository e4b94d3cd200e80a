-- Theorem 2. What every step, every exception and every fetched instruction keeps.
use Rattle.std.specs.Prelude.{◌≡◌, ℕ, ◌^◌, ◌<◌, true, slice_index}
use Rattle.model.specs.Memory.{Windows, both}
use Rattle.model.specs.Lists.{step_on}
use Rattle.model.specs.Registers.{Sized, Words, admissible, MarginalZero}
use Rattle.model.specs.Step.{Item, step, exception, fetched, mmix}
use Rattle.model.specs.declared.State.{State}

-- the item's own numbers are in range: opcode, X, Y, Z are bytes, operands are octabytes (flags are taken modulo 256)
pub record InstructionFits (op x y z : ℕ) : Type 0 where
  pub op_byte : op < 256
  pub x_byte : x < 256
  pub y_byte : y < 256
  pub z_byte : z < 256

unfoldable pub Fits : Item → Type 0
Fits (step op x y z) = InstructionFits op x y z
Fits (exception f op x y z u v) = InstructionFits op x y z × (u < 2 ^ 64) × (v < 2 ^ 64)
Fits fetched = Unit {0}

-- each byte of the windows is one
pub record Bytes (w : Windows) : Type 0 where
  pub byte_a : (i : ℕ) → slice_index w.a.bytes i < 256
  pub byte_b : (i : ℕ) → slice_index w.b.bytes i < 256

pub record ItemsKeep : Type 0 where
  pub sized : (w : Windows) (s : State) (i : Item) → Sized s → Sized (step_on both mmix s w i).state
  pub admitted : (w : Windows) (s : State) (i : Item) → Sized s → admissible s ≡ true → admissible (step_on both mmix s w i).state ≡ true
  -- "once all zero, they stay zero through every step and every exception"
  pub marginal : (w : Windows) (s : State) (i : Item) → Sized s → MarginalZero s → MarginalZero (step_on both mmix s w i).state
  pub words : (w : Windows) (s : State) (i : Item) → Fits i → Bytes w → Words s → Words (step_on both mmix s w i).state
  -- "no store sets a mark", and nothing else does
  pub marks : (w : Windows) (s : State) (i : Item) → (step_on both mmix s w i).state.marks ≡ s.marks
  -- No step changes the mask
  pub mask : (w : Windows) (s : State) (i : Item) → (step_on both mmix s w i).state.mask ≡ s.mask
  pub bytes : (w : Windows) (s : State) (i : Item) → Bytes w → Bytes (step_on both mmix s w i).memory
