-- Theorem 13. Change 2: a pair that is found gives exactly that target; 21 means that no field of either direction does; "There is never more than one
-- pair of direction and field"; and the machine goes there: a branch that is taken, a jump.
use Rattle.std.specs.Prelude.{◌≡◌, ℕ, ◌^◌, ◌<◌, ◌≤◌, true, ◌≢◌}
use Rattle.model.specs.Memory.{Windows}
use Rattle.model.specs.Registers.{reg, goes}
use Rattle.model.specs.Opcodes.{Condition, Direction, branch, jump, arm_of, control}
use Rattle.model.specs.Control.{branch_fields, jump_fields, target_of, near, far, holds}
use Rattle.model.specs.Step.{step_of}
use Rattle.model.specs.Field.{field_of, pair, x_in, y_in, z_in}
use Rattle.model.specs.Order.{refused_by, Passes}
use Rattle.model.specs.declared.State.{State}
use Rattle.model.specs.declared.Reach.TheVariants.{Neither}

-- of any two addresses, whatever their low bits are, and of any number of fields up to 2^61, beyond which the two directions would meet
pub record FieldReaches (size from to : ℕ) : Type 0 where
  pub found : (w : Direction) (f : ℕ) → field_of size from to ≡ pair w f → (f < size) × (target_of from w size f ≡ to)
  pub none : field_of size from to ≡ Neither → (w : Direction) (f : ℕ) → f < size → target_of from w size f ≢ to
  -- each pair that reaches the target is the one that is found
  pub all : (w : Direction) (f : ℕ) → f < size → target_of from w size f ≡ to → field_of size from to ≡ pair w f

-- two pairs that reach the same target from the same address are the same pair
abbrev pub OnePair : ℕ → ℕ → Type 0
OnePair size from = (u v : Direction) (f g : ℕ) → f < size → g < size → target_of from u size f ≡ target_of from v size g → (u ≡ v) × (f ≡ g)

-- the machine at an address, and a pair that was found for another: what it means to an instruction there
pub record YzGoes (s : State) (to : ℕ) (d : Direction) (f : ℕ) : Type 0 where
  -- a branch, PUSHJ, GETA
  pub target : near s d (y_in f) (z_in f) ≡ to
  pub branches : (w : Windows) (op x : ℕ) (c : Condition) → Passes w s → arm_of op ≡ control (branch c d) → holds c (reg s x) ≡ true
      → step_of w s op x (y_in f) (z_in f) ≡ refused_by 0 w (goes s to)

pub record XyzGoes (s : State) (to : ℕ) (d : Direction) (f : ℕ) : Type 0 where
  pub target : far s d (x_in f) (y_in f) (z_in f) ≡ to
  pub jumps : (w : Windows) (op : ℕ) → Passes w s → arm_of op ≡ control (jump d) → step_of w s op (x_in f) (y_in f) (z_in f) ≡ refused_by 0 w (goes s to)

pub record FieldTheorem : Type 0 where
  pub reaches : (size from to : ℕ) → size ≤ 2 ^ 61 → from < 2 ^ 64 → to < 2 ^ 64 → FieldReaches size from to
  pub one_pair : (size from : ℕ) → size ≤ 2 ^ 61 → from < 2 ^ 64 → OnePair size from
  pub yz_goes : (s : State) (to : ℕ) (d : Direction) (f : ℕ) → s.pc < 2 ^ 64 → to < 2 ^ 64 → field_of branch_fields s.pc to ≡ pair d f → YzGoes s to d f
  pub xyz_goes : (s : State) (to : ℕ) (d : Direction) (f : ℕ) → s.pc < 2 ^ 64 → to < 2 ^ 64 → field_of jump_fields s.pc to ≡ pair d f → XyzGoes s to d f
