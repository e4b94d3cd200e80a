-- How an instruction is done: by step, with X, Y and Z; or fetched, the tetra at PC.
use Rattle.std.specs.Prelude.{◌≡◌, ℕ}
use Rattle.model.specs.Memory.{Windows}
use Rattle.model.specs.Plan.{Outcome}
use Rattle.model.specs.Step.{Item, step, fetched, step_of, fetched_of, opcode_in, x_in, y_in, z_in, tetra_of}
use Rattle.model.specs.declared.State.{State}

pub data Way : Type 0 where
  by_step : ℕ → ℕ → ℕ → Way
  by_fetch : Way

abbrev pub item_by : Way → ℕ → Item
item_by (by_step x y z) op = step op x y z
item_by by_fetch op = fetched

-- what is fetched has that opcode
abbrev pub NamesBy : Way → ℕ → Windows → State → Type 0
NamesBy (by_step x y z) op w s = Unit {0}
NamesBy by_fetch op w s = opcode_in (tetra_of w s) ≡ op

-- and its octabyte is lent, by the judge j
abbrev pub LentBy : Way → (ℕ → ℕ) → State → Type 0
LentBy (by_step x y z) j s = Unit {0}
LentBy by_fetch j s = j s.pc ≡ 0

abbrev pub x_by : Way → Windows → State → ℕ
x_by (by_step x y z) w s = x
x_by by_fetch w s = x_in (tetra_of w s)

abbrev pub y_by : Way → Windows → State → ℕ
y_by (by_step x y z) w s = y
y_by by_fetch w s = y_in (tetra_of w s)

abbrev pub z_by : Way → Windows → State → ℕ
z_by (by_step x y z) w s = z
z_by by_fetch w s = z_in (tetra_of w s)

-- the instruction op in state s: what is fetched is op, and its octabyte is lent; by step nothing is asked
pub record MetBy (op : ℕ) (j : ℕ → ℕ) (w : Windows) (s : State) (u : Way) : Type 0 where
  pub names : NamesBy u op w s
  pub lent : LentBy u j s

abbrev pub done_by : Way → ℕ → Windows → State → Outcome State Windows
done_by (by_step x y z) op w s = step_of w s op x y z
done_by by_fetch op w s = fetched_of w s
