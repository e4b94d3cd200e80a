-- Theorem 8, "recorded differences apart": where the steps depart from Knuth's rules, step and rule are equal outside the condition that is
-- named with each departure; and so, outside them all, is the whole step, the fetched instruction, and the whole exception.
-- docs/DIFFERENCES.md has the smallest example of each; DepartureExamples computes them.
use Rattle.std.specs.Prelude.{◌≡◌, ℕ, ◌+◌, ◌/◌, ◌%◌, ◌^◌, Bool, true, false, cond, ◌&&◌, ◌≢◌, ◌==◌, nat_eq, nat_le, nat_lt}
use Rattle.std.specs.Int.Count.{count_leading_zeros}
use Rattle.model.specs.Octa.{octa}
use Rattle.model.specs.Registers.{with_parts, r_c, r_o, r_s, r_i, r_u, r_g, r_l, r_k, sp, reg, hides, Sized, Words, MarginalZero, is_marginal, spilled}
use Rattle.model.specs.Memory.{Windows, shapes_of, inside, both}
use Rattle.model.specs.Plan.{All, Outcome, look, map_outcome, perform}
use Rattle.model.specs.Opcodes.{Operand, Width, Sign, Arm, pop, put, get, save, unsave, sync, trip, trap, load, store, arithmetic, arm_of, memory, stack, system}
use Rattle.model.specs.NoMemory.{Said, say}
use Rattle.model.specs.Control.{xyz_of, sum_of, operand_of, is_negative}
use Rattle.model.specs.Frames.{hole, framed, framed_rule, no_frame, misplaced, pop_rule, pop_frame}
use Rattle.model.specs.Contexts.{below, unsave_context, count_below}
use Rattle.model.specs.System.{put_refusal, unless_hidden, got, got_rule}
use Rattle.model.specs.Trips.{is_loaded, trip_rule, trip_to, trap_rule, trap_of, enabled, added, exact_underflow, added_rule}
use Rattle.model.specs.LoadStore.{fits, flag_v}
use Rattle.model.specs.ArithmeticStep.{results_in, with_results}
use Rattle.model.specs.Step.{refusing, step_of, claims, opcode_in, x_in, y_in, z_in, keeps_claim, fetched_of, tetra_of, claimed_at, exception_of}
use Rattle.model.specs.Fetched.{Fetches}
use Rattle.model.specs.Rules.{read_rule, After, goes_on, interrupts, unsave_rule, exception_rule, counted}
use Rattle.model.specs.Row.{reads_in}
use Rattle.model.specs.Rows.{row_of}
use Rattle.model.specs.StepRule.{step_rule, settled_rule}
use Rattle.model.specs.declared.State.{State}
use Rattle.model.specs.declared.Operation.{Operation}

-- ---- conditions

-- $k reads by the rule as it is held: it is not marginal, or it is zero
abbrev pub ReadsZero : State → ℕ → Type 0
ReadsZero s k = reg s k ≡ read_rule s k

-- so does each register that an arm reads and that may be marginal
unfoldable pub ReadsAlike : State → Arm → ℕ → ℕ → ℕ → Type 0
ReadsAlike s a x y z = All (ReadsZero s) (reads_in (row_of a) s x y z)

-- the context whose packed octabyte is at p passes what UNSAVE asks of the octabytes that it finds: 14, 15 and 16 are not met
abbrev saved_threshold : Windows → ℕ → ℕ
saved_threshold w p = look both w p / 2 ^ 56

unfoldable pub count_taken : Windows → ℕ → ℕ → Bool
count_taken w p g = cond (inside (shapes_of w) (below p (count_below g))) (nat_le (look both w (below p (count_below g))) g) true

unfoldable pub context_taken : Windows → ℕ → Bool
context_taken w p =
    cond (inside (shapes_of w) p)
    (nat_le 32 (saved_threshold w p) && (nat_le (saved_threshold w p) 255 && (nat_le (look both w p % 2 ^ 56) 0x3FFFF && count_taken w p (saved_threshold w p))))
    true

-- the state in which an operation raises its flag
abbrev computed : State → Operation → Operand → Operand → ℕ → ℕ → ℕ → State
computed s f p q x y z = with_results s x (results_in s f (operand_of s p y) (operand_of s q z))

-- No departure is met by arm a with X, Y, Z in state s on window w, but that rS moves with rO. One field a condition.
pub record Outside (w : Windows) (s : State) (a : Arm) (x y z : ℕ) : Type 0 where
  -- no marginal register that is not zero is read
  pub reads : ReadsAlike s a x y z
  -- bytes that Knuth wants to be zero are zero
  pub put_y : (o : Operand) → a ≡ system (put o) → y ≡ 0
  pub get_y : a ≡ system get → y ≡ 0
  pub save_yz : a ≡ stack save → (y ≡ 0) × (z ≡ 0)
  pub unsave_xy : a ≡ stack unsave → (x ≡ 0) × (y ≡ 0)
  -- nothing that a number refuses here and an interrupt there: 7 to 11, 5, 13, 17 and 18
  pub put_legal : (o : Operand) → a ≡ system (put o) → put_refusal s x (operand_of s o z) ≡ 0
  pub get_known : a ≡ system get → nat_le z 31 ≡ true
  pub save_global : a ≡ stack save → nat_le (sp s r_g) x ≡ true
  pub sync_legal : a ≡ system sync → nat_le (xyz_of x y z) 3 ≡ true
  -- no hidden register is named: 31
  pub put_seen : (o : Operand) → a ≡ system (put o) → hides s.mask x ≡ false
  pub get_seen : a ≡ system get → hides s.mask z ≡ false
  -- GET does not read rL into a marginal register
  pub get_local : a ≡ system get → (z == r_l && is_marginal s x) ≡ false
  -- POP has a frame, at a place for one
  pub pop_frame' : a ≡ stack pop → no_frame s ≡ false
  pub pop_placed : a ≡ stack pop → misplaced s ≡ false
  -- UNSAVE's address has no low bits, and its context is taken
  pub unsave_low : a ≡ stack unsave → octa (reg s z) ≡ reg s z
  pub unsave_taken : a ≡ stack unsave → context_taken w (reg s z) ≡ true
  -- TRIP's vector is loaded
  pub trip_loaded : a ≡ system trip → is_loaded s 0 ≡ true
  -- no TRAP
  pub no_trap : a ≢ (system trap)
  -- a load's or a store's address is not the kernel's
  pub load_low : (d : Width) (g : Sign) (o : Operand) → a ≡ memory (load d g o) → is_negative (sum_of s o y z) ≡ false
  pub store_low : (d : Width) (g : Sign) (o : Operand) → a ≡ memory (store d g o) → is_negative (sum_of s o y z) ≡ false
  -- the vector of a store that raises V, where that is enabled, is loaded
  pub store_loaded : (d : Width) (g : Sign) (o : Operand) → a ≡ memory (store d g o) → fits d g (reg s x) ≡ false → (enabled s flag_v == 0) ≡ false
      → is_loaded s (count_leading_zeros 8 (enabled s flag_v) + 1) ≡ true
  -- and so is that of an operation that raises D or V
  pub arithmetic_loaded : (f : Operation) (p q : Operand) → a ≡ arithmetic f p q
      → (enabled (computed s f p q x y z) (results_in s f (operand_of s p y) (operand_of s q z)).flags == 0) ≡ false
      → is_loaded (computed s f p q x y z) (count_leading_zeros 8 (enabled (computed s f p q x y z) (results_in s f (operand_of s p y) (operand_of s q z)).flags) + 1) ≡ true

-- The same of an exception
pub record OutsideException (s : State) (f : ℕ) : Type 0 where
  -- U is not raised without X, or is enabled
  pub inexact : exact_underflow s f ≡ false
  -- its vector is loaded
  pub loaded : nat_eq (enabled s f) 0 ≡ false → is_loaded s (count_leading_zeros 8 (enabled s f) + 1) ≡ true

-- rS is rO
unfoldable pub AtTop : After → Type 0
AtTop (goes_on t) = sp t r_s ≡ sp t r_o
AtTop interrupts = Unit {0}

-- Knuth's outcome of an instruction that was fetched in state s: a refusal by any number but 19 takes its claim back, as here
abbrev back_to : State → After → After
back_to s (goes_on t) = goes_on (with_parts t s.general s.special)
back_to s interrupts = interrupts

unfoldable pub fetched_rule : State → ℕ → Outcome After Windows → Outcome After Windows
fetched_rule s op o =
    cond (claims op) (record { reply = o.reply; state = cond (keeps_claim o.reply) o.state (back_to s o.state); memory = o.memory }) o

-- ---- the theorem

pub record Departures : Type 0 where
  -- THE STEP is Knuth's, outside the conditions, rS apart; and whole, where his rS has caught up with rO
  pub by_step : (w : Windows) (s : State) (op x y z : ℕ) → Outside w s (arm_of op) x y z
      → map_outcome goes_on (step_of w s op x y z) ≡ settled_rule w s op x y z
  pub by_step_whole : (w : Windows) (s : State) (op x y z : ℕ) → Outside w s (arm_of op) x y z → AtTop (step_rule w s op x y z).state
      → map_outcome goes_on (step_of w s op x y z) ≡ step_rule w s op x y z
  -- and so is THE FETCHED INSTRUCTION, of the state in which $X is claimed: the conditions are of that state
  pub by_fetched : (w : Windows) (s : State) → Sized s → Fetches w s
      → Outside w (claimed_at w s) (arm_of (opcode_in (tetra_of w s))) (x_in (tetra_of w s)) (y_in (tetra_of w s)) (z_in (tetra_of w s))
      → map_outcome goes_on (fetched_of w s)
      ≡ fetched_rule s (opcode_in (tetra_of w s)) (settled_rule w (claimed_at w s) (opcode_in (tetra_of w s)) (x_in (tetra_of w s)) (y_in (tetra_of w s)) (z_in (tetra_of w s)))
  -- and so is THE EXCEPTION
  pub by_exception : (s : State) (f op x y z u v : ℕ) → OutsideException s f → exception_of s f op x y z u v ≡ exception_rule s f op x y z u v
  -- one by one. Reading: only where a marginal register is not zero; the frame of PUSH is an instance
  pub read_marginal : (s : State) (k : ℕ) → MarginalZero s → ReadsZero s k
  pub reads_marginal : (s : State) (a : Arm) (x y z : ℕ) → MarginalZero s → ReadsAlike s a x y z
  pub push_reads : (s : State) (x i : ℕ) → framed_rule s x i ≡ cond (nat_lt i (hole s x)) (read_rule s i) (hole s x)
  pub push_marginal : (s : State) (x i : ℕ) → Sized s → MarginalZero s → framed s (hole s x) i ≡ framed_rule s x i
  -- rS moves with rO, at PUSH and POP: only where rS is not rO; and nothing else moves
  pub spill : (s : State) → Sized s → sp s r_s ≡ sp s r_o → spilled s ≡ s
  pub spill_general : (s : State) → (spilled s).general ≡ s.general
  pub spill_special : (s : State) (k : ℕ) → k ≢ r_s → sp (spilled s) k ≡ sp s k
  pub spill_rest : (s : State) → ((spilled s).pc ≡ s.pc) × ((spilled s).halt ≡ s.halt) × ((spilled s).marks ≡ s.marks) × ((spilled s).mask ≡ s.mask)
  -- POP without a frame, and with a misplaced rO
  pub pop_frame' : (s : State) (x t : ℕ) → no_frame s ≡ false → misplaced s ≡ false → pop_frame s x t ≡ pop_rule s x t
  -- UNSAVE: 14, 15 and 16, and the low bits of the address
  pub unsave_taken : (w : Windows) (s : State) (p : ℕ) → octa p ≡ p → context_taken w p ≡ true
      → perform both (refusing (shapes_of w)) s (unsave_context s p) w ≡ perform both (refusing (shapes_of w)) s (unsave_rule s p) w
  -- GET and PUT of a hidden register
  pub unhidden : (s : State) (k : ℕ) (d : Said) → hides s.mask k ≡ false → unless_hidden s k d ≡ d
  -- GET of rL into a marginal register
  pub get_local : (s : State) (x z : ℕ) → (z == r_l && is_marginal s x) ≡ false → got s x z ≡ got_rule s x z
  -- U without X: only where it is raised so
  pub added_inexact : (s : State) (f : ℕ) → exact_underflow s f ≡ false → added s f ≡ added_rule s f
  -- a trip through a vector that is not loaded
  pub trip_loaded : (s : State) (k word u v : ℕ) → is_loaded s k ≡ true → trip_to s k word u v ≡ say 0 (trip_rule s k word u v)
  -- a trap halts: the registers that a handler would find are Knuth's, but rK
  pub trap_general : (s : State) (word u v : ℕ) → (trap_of s word u v).state.general ≡ (trap_rule s word u v).general
  pub trap_special : (s : State) (word u v k : ℕ) → k ≢ r_k → sp (trap_of s word u v).state k ≡ sp (trap_rule s word u v) k
  -- rC, rU and rI do not count: only where time passes, and nothing else moves
  pub count_none : (s : State) → Sized s → Words s → counted 0 0 0 s ≡ s
  pub count_general : (s : State) (c u i : ℕ) → (counted c u i s).general ≡ s.general
  pub count_special : (s : State) (c u i k : ℕ) → k ≢ r_c → k ≢ r_u → k ≢ r_i → sp (counted c u i s) k ≡ sp s k
  pub count_rest : (s : State) (c u i : ℕ)
      → ((counted c u i s).pc ≡ s.pc) × ((counted c u i s).halt ≡ s.halt) × ((counted c u i s).marks ≡ s.marks) × ((counted c u i s).mask ≡ s.mask)
