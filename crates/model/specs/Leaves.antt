-- Theorem 1. Which replies there are, and what each leaves: 01, 'Replies', column 'left'.
use Rattle.std.specs.Prelude.{◌≡◌, ℕ, ◌*◌, ◌/◌, ◌%◌, ◌≤◌, true, false, ◌≢◌, ◌⊎◌}
use Rattle.model.specs.Memory.{Windows, Shapes, shapes_of, ruled, shares, inside, put_octa, both}
use Rattle.model.specs.Plan.{Outcome, look}
use Rattle.model.specs.Registers.{r_b, r_j, r_bb, r_w, r_x, r_y, r_z, r_ww, r_xx, r_yy, r_zz, sp, reg, following, Sized, admissible, halted}
use Rattle.model.specs.Opcodes.{Operand, Width, signed, trip, store, arithmetic, arm_of, memory, system}
use Rattle.model.specs.NoMemory.{Said}
use Rattle.model.specs.Control.{operand_of, sum_of}
use Rattle.model.specs.Trips.{word_of, with_added}
use Rattle.model.specs.LoadStore.{values_of, unit_at, operand_in, merged, flag_v}
use Rattle.model.specs.ArithmeticStep.{results_in, with_results}
use Rattle.model.specs.Step.{step_of, exception_of, opcode_in, x_in, y_in, z_in, fetched_of, tetra_of, claimed_at}
use Rattle.model.specs.Run.{Stopped, run_of}
use Rattle.model.specs.RunMeant.{CallPasses}
use Rattle.model.specs.Order.{Passes}
use Rattle.model.specs.Reader.{Part, empty_part, read_context}
use Rattle.model.specs.Numbers.{Early, Lost, Missed, Halting}
use Rattle.model.specs.Field.{FieldAnswer, field_of, answer_of}
use Rattle.model.specs.declared.State.{State}
use Rattle.model.specs.declared.Operation.{Operation}

-- 19, 20: t is s with the trip or trap registers set, under the numbers b, w, x, y, z, "PC unmoved, halt code 1"
pub record Interrupted (s t : State) (b w x y z word u v : ℕ) : Type 0 where
  pub bootstrap : sp t b ≡ reg s 255
  pub return : reg t 255 ≡ sp s r_j
  pub after : sp t w ≡ following s
  pub instruction : sp t x ≡ word
  pub first : sp t y ≡ u
  pub second : sp t z ≡ v
  pub other_special : (k : ℕ) → k ≢ b → k ≢ w → k ≢ x → k ≢ y → k ≢ z → sp t k ≡ sp s k
  pub other_general : (i : ℕ) → i ≢ 255 → reg t i ≡ reg s i
  pub pc_unmoved : t.pc ≡ s.pc
  pub halt_one : t.halt ≡ 1
  pub marks_same : t.marks ≡ s.marks
  pub mask_same : t.mask ≡ s.mask

abbrev pub Tripped : State → State → ℕ → ℕ → ℕ → Type 0
Tripped s t word u v = Interrupted s t r_b r_w r_x r_y r_z word u v

abbrev pub Trapped : State → State → ℕ → ℕ → ℕ → Type 0
Trapped s t word u v = Interrupted s t r_bb r_ww r_xx r_yy r_zz word u v

-- 19 of TRIP leaves the window
pub record TripLeaves (w : Windows) (s : State) (op x y z : ℕ) (o : Outcome State Windows) : Type 0 where
  pub arm_is : arm_of op ≡ system trip
  pub registers : Tripped s o.state (word_of op x y z) (reg s y) (reg s z)
  pub window : o.memory ≡ w

-- 19 of a store "leaves the store made": rY is its address, rZ $x
pub record StoreLeaves (w : Windows) (s : State) (op x y z : ℕ) (o : Outcome State Windows) : Type 0 where
  pub width : Width
  pub last : Operand
  pub arm_is : arm_of op ≡ memory (store width signed last)
  pub registers : Tripped (with_added s flag_v) o.state (word_of op x y z) (sum_of s last y z) (reg s x)
  pub window : o.memory ≡ put_octa w (sum_of s last y z) (merged width (sum_of s last y z) (look both w (sum_of s last y z)) (reg s x))

-- 19 of an operation "leaves $X, rH and rR as written"; rY and rZ are its operands
pub record ArithmeticLeaves (w : Windows) (s : State) (op x y z : ℕ) (o : Outcome State Windows) : Type 0 where
  pub operation : Operation
  pub first : Operand
  pub last : Operand
  pub arm_is : arm_of op ≡ arithmetic operation first last
  pub registers : Tripped
      (with_added (with_results s x (results_in s operation (operand_of s first y) (operand_of s last z))) (results_in s operation (operand_of s first y) (operand_of s last z)).flags)
      o.state (word_of op x y z) (operand_of s first y) (operand_of s last z)
  pub window : o.memory ≡ w

-- a store of u at a makes of an octabyte v one that differs in the operand's bytes alone: those left of it, those right of it, the operand
pub record StoreMade (d : Width) (a v u : ℕ) : Type 0 where
  pub left : merged d a v u / (unit_at d a * values_of d) ≡ v / (unit_at d a * values_of d)
  pub right : merged d a v u % unit_at d a ≡ v % unit_at d a
  pub operand : operand_in d a (merged d a v u) ≡ u % values_of d

-- 22 is given only where both windows obey their rules, and share
abbrev pub Sharing : Shapes → Type 0
Sharing w = (ruled w ≡ true) × (shares w ≡ true)

-- what a step leaves
pub record StepLeaves (w : Windows) (s : State) (op x y z : ℕ) (o : Outcome State Windows) : Type 0 where
  pub most : (o.reply ≤ 20) ⊎ ((o.reply ≡ 22) ⊎ ((o.reply ≡ 29) ⊎ (o.reply ≡ 31)))
  -- 1 to 6 and 22
  pub early : Early o.reply → (o.state ≡ s) × (o.memory ≡ w)
  pub lost : Lost o.reply → (o.state ≡ s) × (o.memory ≡ w)
  -- 7 to 18, 29 and 31
  pub halting : Halting o.reply → (o.state ≡ halted s) × (o.memory ≡ w)
  pub nineteen : o.reply ≡ 19 → TripLeaves w s op x y z o ⊎ (StoreLeaves w s op x y z o ⊎ ArithmeticLeaves w s op x y z o)
  pub twenty : o.reply ≡ 20 → Trapped s o.state (word_of op x y z) (reg s y) (reg s z) × (o.memory ≡ w)
  pub shared : o.reply ≡ 22 → (admissible s ≡ true) × Sharing (shapes_of w)
  pub done : o.reply ≡ 0 → o.state.halt ≡ s.halt

-- what an exception leaves
pub record ExceptionLeaves (s : State) (f op x y z u v : ℕ) (d : Said) : Type 0 where
  pub among : (d.reply ≡ 0) ⊎ ((d.reply ≡ 1) ⊎ (d.reply ≡ 19))
  pub inadmissible : d.reply ≡ 1 → d.state ≡ s
  pub not_loaded : d.reply ≡ 19 → Tripped (with_added s f) d.state (word_of op x y z) u v
  pub done : d.reply ≡ 0 → d.state.halt ≡ s.halt

-- what a fetched instruction leaves, t its tetra and c the state that its arm works on
pub record TetraLeaves (w : Windows) (s c : State) (t : ℕ) (o : Outcome State Windows) : Type 0 where
  pub most : (o.reply ≤ 20) ⊎ ((o.reply ≡ 22) ⊎ ((o.reply ≡ 24) ⊎ ((o.reply ≡ 29) ⊎ (o.reply ≡ 31))))
  -- 1 to 5 and 22; 6 and 24: the halt code too
  pub early : Early o.reply → (o.state ≡ s) × (o.memory ≡ w)
  pub missed : Missed o.reply → (o.state ≡ s) × (o.memory ≡ w)
  -- 7 to 18, 29 and 31: "An instruction refused by any number but 19 takes its claim back"
  pub halting : Halting o.reply → (o.state ≡ halted s) × (o.memory ≡ w)
  -- 19: as the step leaves it, of the claimed state
  pub nineteen : o.reply ≡ 19
      → TripLeaves w c (opcode_in t) (x_in t) (y_in t) (z_in t) o
      ⊎ (StoreLeaves w c (opcode_in t) (x_in t) (y_in t) (z_in t) o ⊎ ArithmeticLeaves w c (opcode_in t) (x_in t) (y_in t) (z_in t) o)
  -- 20: TRAP claims nothing
  pub twenty : o.reply ≡ 20 → Trapped s o.state (word_of (opcode_in t) (x_in t) (y_in t) (z_in t)) (reg s (y_in t)) (reg s (z_in t)) × (o.memory ≡ w)
  pub shared : o.reply ≡ 22 → (admissible s ≡ true) × Sharing (shapes_of w)
  -- 24 is given only where 1, 2 and 22 pass and the tetra is in neither window
  pub unfetched : o.reply ≡ 24 → Passes w s × (inside (shapes_of w) s.pc ≡ false)
  pub done : o.reply ≡ 0 → o.state.halt ≡ s.halt

abbrev pub FetchedLeaves : Windows → State → Outcome State Windows → Type 0
FetchedLeaves w s o = TetraLeaves w s (claimed_at w s) (tetra_of w s) o

-- what a run that is refused leaves: of the state and the windows that its count reached, what the refused instruction leaves
pub record LastLeaves (w : Windows) (s : State) (r : Stopped State Windows) : Type 0 where
  pub reached : State
  pub lent : Windows
  pub reached_is : run_of w s r.done ≡ record { done = r.done; reply = 0; state = reached; memory = lent }
  pub last_is : fetched_of lent reached ≡ record { reply = r.reply; state = r.state; memory = r.memory }
  pub leaves : FetchedLeaves lent reached (record { reply = r.reply; state = r.state; memory = r.memory })
  pub halt_kept : reached.halt ≡ s.halt

pub record RunLeaves (w : Windows) (s : State) (grant : ℕ) (r : Stopped State Windows) : Type 0 where
  pub most : (r.reply ≤ 20) ⊎ ((r.reply ≡ 22) ⊎ ((r.reply ≡ 24) ⊎ ((r.reply ≡ 25) ⊎ ((r.reply ≡ 29) ⊎ (r.reply ≡ 31)))))
  pub refused : CallPasses w s grant → r.reply ≢ 0 → LastLeaves w s r
  pub spent : r.reply ≡ 0 → r.state.halt ≡ s.halt

-- what the reader leaves
pub record ReaderLeaves (w : Windows) (o : Outcome Part Windows) : Type 0 where
  pub among : (o.reply ≡ 0) ⊎ ((o.reply ≡ 2) ⊎ ((o.reply ≡ 6) ⊎ ((o.reply ≡ 14) ⊎ ((o.reply ≡ 15) ⊎ ((o.reply ≡ 16) ⊎ ((o.reply ≡ 22) ⊎ (o.reply ≡ 23)))))))
  pub shared : o.reply ≡ 22 → Sharing (shapes_of w)
  pub refused : o.reply ≢ 0 → o.state ≡ empty_part
  pub unchanged : o.memory ≡ w

-- what the search for a field leaves: it is given no state; "21, no field of either direction reaches, its only refusal"
pub record FieldLeaves (a : FieldAnswer) : Type 0 where
  pub among : (a.reply ≡ 0) ⊎ (a.reply ≡ 21)
  pub refused : a.reply ≡ 21 → (a.backward ≡ 0) × (a.field ≡ 0)
  pub done : a.reply ≡ 0 → a.backward ≤ 1

pub record RepliesLeave : Type 0 where
  pub by_step : (w : Windows) (s : State) (op x y z : ℕ) → Sized s → StepLeaves w s op x y z (step_of w s op x y z)
  pub by_fetched : (w : Windows) (s : State) → Sized s → FetchedLeaves w s (fetched_of w s)
  pub by_run : (w : Windows) (s : State) (grant : ℕ) → Sized s → RunLeaves w s grant (run_of w s grant)
  pub by_exception : (s : State) (f op x y z u v : ℕ) → Sized s → ExceptionLeaves s f op x y z u v (exception_of s f op x y z u v)
  pub by_reader : (w : Windows) (p : ℕ) → ReaderLeaves w (read_context w p)
  pub by_field : (size from to : ℕ) → FieldLeaves (answer_of (field_of size from to))
  pub by_store : (d : Width) (a v u : ℕ) → StoreMade d a v u
