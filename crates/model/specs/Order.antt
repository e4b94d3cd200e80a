-- Theorem 9. The order of judging. "Order: 1, 2, [22,] then 3 to 5, then the instruction's own", 31 "after 5 for GET and before 7 for PUT". "SAVE judges 13
-- before 6; POP judges [29], 12, 6; UNSAVE judges 6, 14, 15, 6, 16, 6 as its needs appear"; an exception "judges 1, then 19".
-- Each statement holds whatever a later judgment would be: it asks nothing of what that one looks at.
use Rattle.std.specs.Prelude.{◌≡◌, ℕ, ◌+◌, ◌-◌, ◌/◌, ◌%◌, ◌^◌, ◌<◌, ◌≤◌, true, false, ◌≢◌}
use Rattle.std.specs.Int.Count.{count_leading_zeros}
use Rattle.model.specs.Registers.{r_o, r_g, sp, reg, hides, admissible, halted}
use Rattle.model.specs.Memory.{Windows, shapes_of, ruled, shares, inside, both}
use Rattle.model.specs.Plan.{Outcome, clear, look}
use Rattle.model.specs.Opcodes.{Operand, put, arm_of, op_get, op_save, op_pop, op_unsave, system}
use Rattle.model.specs.NoMemory.{say}
use Rattle.model.specs.Frames.{no_frame, misplaced}
use Rattle.model.specs.Contexts.{extent, below, packed_at, octas_of, count_below}
use Rattle.model.specs.Trips.{enabled, is_loaded}
use Rattle.model.specs.Step.{refusal_of, refusing, step_of, exception_of, opcode_in, x_in, y_in, z_in, tetra_of, fetched_of}
use Rattle.model.specs.declared.State.{State}

-- refused by n: nothing changes; or the halt code becomes 1
abbrev pub refused_by : ℕ → Windows → State → Outcome State Windows
refused_by n w s = record { reply = n; state = s; memory = w }

abbrev pub halted_by : ℕ → Windows → State → Outcome State Windows
halted_by n w s = refused_by n w (halted s)

-- neither 1 nor 2 nor 22
pub record Passes (w : Windows) (s : State) : Type 0 where
  pub admitted : admissible s ≡ true
  pub windowed : ruled (shapes_of w) ≡ true
  pub apart : shares (shapes_of w) ≡ false

-- the packed octabyte at p is there, and so are its rG and rA as saved
pub record Packed (w : Windows) (p g a : ℕ) : Type 0 where
  pub there : inside (shapes_of w) p ≡ true
  pub threshold : look both w p / 2 ^ 56 ≡ g
  pub status : look both w p % 2 ^ 56 ≡ a

-- rG and rA pass, and the local count l is there
pub record Counted (w : Windows) (p g a l : ℕ) : Type 0 where
  pub packed : Packed w p g a
  pub least : 32 ≤ g
  pub most : g ≤ 255
  pub status_fits : a ≤ 0x3FFFF
  pub count_there : inside (shapes_of w) (below p (count_below g)) ≡ true
  pub count : look both w (below p (count_below g)) ≡ l

pub record StepsInOrder : Type 0 where
  -- 1, whatever the windows and the instruction are; then 2, whatever they share and the instruction is; then 22, "judged right after 2", whatever the
  -- instruction is; then 3 to 5
  pub one_first : (w : Windows) (s : State) (op x y z : ℕ) → admissible s ≡ false → step_of w s op x y z ≡ refused_by 1 w s
  pub two_next : (w : Windows) (s : State) (op x y z : ℕ) → admissible s ≡ true → ruled (shapes_of w) ≡ false → step_of w s op x y z ≡ refused_by 2 w s
  pub twenty_two : (w : Windows) (s : State) (op x y z : ℕ) → admissible s ≡ true → ruled (shapes_of w) ≡ true → shares (shapes_of w) ≡ true
      → step_of w s op x y z ≡ refused_by 22 w s
  pub three_to_five : (w : Windows) (s : State) (op x y z : ℕ) → Passes w s → refusal_of (arm_of op) x y z ≢ 0
      → step_of w s op x y z ≡ refused_by (refusal_of (arm_of op) x y z) w s
  -- GET and PUT: 31, and PUT's whatever its value is
  pub get_thirty_one : (w : Windows) (s : State) (x y z : ℕ) → Passes w s → hides s.mask z ≡ true → step_of w s op_get x y z ≡ halted_by 31 w s
  pub put_thirty_one : (w : Windows) (s : State) (op x y z : ℕ) (o : Operand) → arm_of op ≡ system (put o) → Passes w s → hides s.mask x ≡ true
      → step_of w s op x y z ≡ halted_by 31 w s
  -- SAVE: 13, whatever lies in the window; then 6
  pub save_thirteen : (w : Windows) (s : State) (x y z : ℕ) → Passes w s → x < sp s r_g → step_of w s op_save x y z ≡ halted_by 13 w s
  pub save_six : (w : Windows) (s : State) (x y z : ℕ) → Passes w s → sp s r_g ≤ x → clear (refusing (shapes_of w)) (sp s r_o) (extent s) ≡ false
      → step_of w s op_save x y z ≡ refused_by 6 w s
  -- POP: 29, though rO be misplaced and the window empty; then 12, whatever lies in the window; then 6
  pub pop_twenty_nine : (w : Windows) (s : State) (x y z : ℕ) → Passes w s → no_frame s ≡ true → step_of w s op_pop x y z ≡ halted_by 29 w s
  pub pop_twelve : (w : Windows) (s : State) (x y z : ℕ) → Passes w s → no_frame s ≡ false → misplaced s ≡ true → step_of w s op_pop x y z ≡ halted_by 12 w s
  pub pop_six : (w : Windows) (s : State) (x y z : ℕ) → Passes w s → no_frame s ≡ false → misplaced s ≡ false → inside (shapes_of w) (sp s r_o - 8) ≡ false
      → step_of w s op_pop x y z ≡ refused_by 6 w s
  -- UNSAVE: 6 for the packed octabyte; 14, whatever rA and the count are; 15, whatever the count is, though it be missing; 6 for the count; 16,
  -- though the rest be missing; 6 for the rest
  pub unsave_packed : (w : Windows) (s : State) (x y z : ℕ) → Passes w s → inside (shapes_of w) (reg s z) ≡ false → step_of w s op_unsave x y z ≡ refused_by 6 w s
  pub unsave_fourteen : (w : Windows) (s : State) (x y z g a : ℕ) → Passes w s → Packed w (reg s z) g a → g < 32 → step_of w s op_unsave x y z ≡ halted_by 14 w s
  pub unsave_fifteen : (w : Windows) (s : State) (x y z g a : ℕ) → Passes w s → Packed w (reg s z) g a → 32 ≤ g → g ≤ 255 → 0x3FFFF < a
      → step_of w s op_unsave x y z ≡ halted_by 15 w s
  pub unsave_count : (w : Windows) (s : State) (x y z g a : ℕ) → Passes w s → Packed w (reg s z) g a → 32 ≤ g → g ≤ 255 → a ≤ 0x3FFFF
      → inside (shapes_of w) (below (reg s z) (count_below g)) ≡ false → step_of w s op_unsave x y z ≡ refused_by 6 w s
  pub unsave_sixteen : (w : Windows) (s : State) (x y z g a l : ℕ) → Passes w s → Counted w (reg s z) g a l → g < l → step_of w s op_unsave x y z ≡ halted_by 16 w s
  pub unsave_rest : (w : Windows) (s : State) (x y z g a l : ℕ) → Passes w s → Counted w (reg s z) g a l → l ≤ g
      → clear (refusing (shapes_of w)) (below (reg s z) (packed_at l g)) (octas_of l g) ≡ false → step_of w s op_unsave x y z ≡ refused_by 6 w s
  -- an exception: 1, whatever the marks are; then 19
  pub exception_one : (s : State) (f op x y z u v : ℕ) → admissible s ≡ false → exception_of s f op x y z u v ≡ say 1 s
  pub exception_nineteen : (s : State) (f op x y z u v : ℕ) → admissible s ≡ true → enabled s f ≢ 0 → is_loaded s (count_leading_zeros 8 (enabled s f) + 1) ≡ false
      → (exception_of s f op x y z u v).reply ≡ 19

-- a fetched instruction: 1, 2, 22; then 24, "judged for each instruction after 22 and before 3", whatever lies in the windows; then 3 to 5
pub record FetchedInOrder : Type 0 where
  pub one_first : (w : Windows) (s : State) → admissible s ≡ false → fetched_of w s ≡ refused_by 1 w s
  pub two_next : (w : Windows) (s : State) → admissible s ≡ true → ruled (shapes_of w) ≡ false → fetched_of w s ≡ refused_by 2 w s
  pub twenty_two : (w : Windows) (s : State) → admissible s ≡ true → ruled (shapes_of w) ≡ true → shares (shapes_of w) ≡ true → fetched_of w s ≡ refused_by 22 w s
  pub twenty_four : (w : Windows) (s : State) → Passes w s → inside (shapes_of w) s.pc ≡ false → fetched_of w s ≡ refused_by 24 w s
  pub three_to_five : (w : Windows) (s : State) → Passes w s → inside (shapes_of w) s.pc ≡ true
      → refusal_of (arm_of (opcode_in (tetra_of w s))) (x_in (tetra_of w s)) (y_in (tetra_of w s)) (z_in (tetra_of w s)) ≢ 0
      → fetched_of w s ≡ refused_by (refusal_of (arm_of (opcode_in (tetra_of w s))) (x_in (tetra_of w s)) (y_in (tetra_of w s)) (z_in (tetra_of w s))) w s
