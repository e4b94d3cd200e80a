-- Which numbers the functions return, and what each leaves, of an image every byte: 01, 'Replies', column 'left'. It is said of any
-- call that meets its contract, on an image of any length. (mmix_context, mmix_branch_field and mmix_jump_field are given no state: refused,
-- they leave their outputs 0. mmix_version is given nothing.)
use Rattle.std.specs.Prelude.{ℕ, ◌+◌, ◌*◌, ◌≤◌, ◌<◌, ◌≡◌, ◌⊎◌, ◌≢◌, true, false, List, [], ◌∷◌, length, get_or}
use Rattle.model.specs.Octa.{part, written, bytes_of}
use Rattle.model.specs.Memory.{Windows, shapes_of, inside, put_octa, both}
use Rattle.model.specs.Plan.{look}
use Rattle.model.specs.Registers.{r_b, r_j, r_bb, r_a, r_w, r_x, r_y, r_z, r_ww, r_xx, r_yy, r_zz, sp, reg, following, Sized, admissible}
use Rattle.model.specs.Opcodes.{Operand, Width, signed, trip, store, arithmetic, arm_of, memory, system}
use Rattle.model.specs.NoMemory.{say}
use Rattle.model.specs.Control.{operand_of, sum_of}
use Rattle.model.specs.Trips.{word_of, with_added}
use Rattle.model.specs.LoadStore.{merged, flag_v}
use Rattle.model.specs.ArithmeticStep.{results_in, with_results}
use Rattle.model.specs.Step.{opcode_in, x_in, y_in, z_in, tetra_of, claimed_at}
use Rattle.model.specs.RunMeant.{CallPasses}
use Rattle.model.specs.Order.{Passes}
use Rattle.model.specs.Invariants.{Bytes}
use Rattle.model.specs.Numbers.{Early, Lost, Missed, Halting}
use Rattle.model.specs.Field.{field_of, answer_of}
use Rattle.model.specs.Leaves.{Sharing, StepLeaves, RunLeaves, ExceptionLeaves, FieldLeaves}
use Rattle.model.specs.declared.State.{State}
use Rattle.image.specs.Image.{is_image, state_of, image_as}
use Rattle.sets.specs.Sets.{Pair, set_says, PutSet}
use Rattle.sets.specs.SetMeant.{SetLeaves}
use Rattle.mmix.specs.Entries.{Stepped, RanImage, Raised, SetImage, SteppedState, RanState, RaisedState, ContextAt, FieldTold}
use Rattle.model.specs.declared.Operation.{Operation}

-- the image with octabytes replaced, one after another: by its number among the 292, of which an old image has 291, and what it becomes
unfoldable pub replaced : List ℕ → List (ℕ × ℕ) → List ℕ
replaced l [] = l
replaced l (p ∷ ps) = replaced (written l (8 * p.0) (bytes_of p.1)) ps

-- their numbers: $k is octabyte k
abbrev pub at_special : ℕ → ℕ
at_special k = 256 + k

abbrev pub at_halt : ℕ
at_halt = 289

-- the eight bytes of the halt code
abbrev pub halt_bytes : List ℕ → List ℕ
halt_bytes l = part l 2312 8

-- 19, 20: $255, the trip or trap registers under the numbers b, w, x, y, z, and halt code 1, from the state s
abbrev pub interrupt_octas : State → ℕ → ℕ → ℕ → ℕ → ℕ → ℕ → ℕ → ℕ → List (ℕ × ℕ)
interrupt_octas s b w x y z word u v =
    (255, sp s r_j) ∷ (at_special b, reg s 255) ∷ (at_special w, following s) ∷ (at_special x, word) ∷ (at_special y, u) ∷ (at_special z, v) ∷ (at_halt, 1) ∷ []

abbrev pub trip_octas : State → ℕ → ℕ → ℕ → List (ℕ × ℕ)
trip_octas s word u v = interrupt_octas s r_b r_w r_x r_y r_z word u v

abbrev pub trap_octas : State → ℕ → ℕ → ℕ → List (ℕ × ℕ)
trap_octas s word u v = interrupt_octas s r_bb r_ww r_xx r_yy r_zz word u v

-- the state with an operation's results written and its flag raised
abbrev pub raised_in : State → Operation → Operand → Operand → ℕ → ℕ → ℕ → State
raised_in s f p q x y z = with_added (with_results s x (results_in s f (operand_of s p y) (operand_of s q z))) (results_in s f (operand_of s p y) (operand_of s q z)).flags

-- 19 of TRIP leaves the windows
pub record TripCallLeaves (l : List ℕ) (w : Windows) (op x y z : ℕ) (m : List ℕ) (v : Windows) : Type 0 where
  pub arm_is : arm_of op ≡ system trip
  pub image_is : m ≡ replaced l (trip_octas (state_of l) (word_of op x y z) (reg (state_of l) y) (reg (state_of l) z))
  pub window_is : v ≡ w

-- 19 of a store leaves the store made
pub record StoreCallLeaves (l : List ℕ) (w : Windows) (op x y z : ℕ) (m : List ℕ) (v : Windows) : Type 0 where
  pub width : Width
  pub last : Operand
  pub arm_is : arm_of op ≡ memory (store width signed last)
  pub image_is : m ≡ replaced l ((at_special r_a, sp (with_added (state_of l) flag_v) r_a) ∷ trip_octas (state_of l) (word_of op x y z) (sum_of (state_of l) last y z) (reg (state_of l) x))
  pub window_is : v ≡ put_octa w (sum_of (state_of l) last y z) (merged width (sum_of (state_of l) last y z) (look both w (sum_of (state_of l) last y z)) (reg (state_of l) x))

-- 19 of an operation leaves $X, rH and rR as written
pub record ArithmeticCallLeaves (l : List ℕ) (w : Windows) (op x y z : ℕ) (m : List ℕ) (v : Windows) : Type 0 where
  pub operation : Operation
  pub first : Operand
  pub last : Operand
  pub arm_is : arm_of op ≡ arithmetic operation first last
  pub image_is : m ≡ replaced (image_as l (raised_in (state_of l) operation first last x y z))
      (trip_octas (raised_in (state_of l) operation first last x y z) (word_of op x y z) (operand_of (state_of l) first y) (operand_of (state_of l) last z))
  pub window_is : v ≡ w

-- what 19 leaves
abbrev pub NotLoadedLeaves : List ℕ → Windows → ℕ → ℕ → ℕ → ℕ → List ℕ → Windows → Type 0
NotLoadedLeaves l w op x y z m v = TripCallLeaves l w op x y z m v ⊎ (StoreCallLeaves l w op x y z m v ⊎ ArithmeticCallLeaves l w op x y z m v)

-- what mmix_step leaves
pub record StepCallLeaves (l : List ℕ) (w : Windows) (op x y z r : ℕ) (m : List ℕ) (v : Windows) : Type 0 where
  pub most : (r ≤ 20) ⊎ ((r ≡ 22) ⊎ ((r ≡ 29) ⊎ (r ≡ 31)))
  -- 1 to 6 and 22
  pub early : Early r → (m ≡ l) × (v ≡ w)
  pub lost : Lost r → (m ≡ l) × (v ≡ w)
  -- 7 to 18, 29 and 31
  pub halting : Halting r → (m ≡ replaced l ((at_halt, 1) ∷ [])) × (v ≡ w)
  pub nineteen : r ≡ 19 → NotLoadedLeaves l w op x y z m v
  pub twenty : r ≡ 20 → (m ≡ replaced l (trap_octas (state_of l) (word_of op x y z) (reg (state_of l) y) (reg (state_of l) z))) × (v ≡ w)
  pub shared : r ≡ 22 → (admissible (state_of l) ≡ true) × Sharing (shapes_of w)
  pub done : r ≡ 0 → halt_bytes m ≡ halt_bytes l

-- the tetra at PC, and the image with $X claimed where its opcode claims it
abbrev pub tetra_in : Windows → List ℕ → ℕ
tetra_in w l = tetra_of w (state_of l)

abbrev pub claimed_image : Windows → List ℕ → List ℕ
claimed_image w l = image_as l (claimed_at w (state_of l))

-- what the last instruction of a run leaves, t its tetra, l and w the image and the windows that it found
pub record TetraCallLeaves (l : List ℕ) (w : Windows) (t r : ℕ) (m : List ℕ) (v : Windows) : Type 0 where
  pub most : (r ≤ 20) ⊎ ((r ≡ 22) ⊎ ((r ≡ 24) ⊎ ((r ≡ 29) ⊎ (r ≡ 31))))
  -- 1 to 5 and 22; 6 and 24: the halt code too
  pub early : Early r → (m ≡ l) × (v ≡ w)
  pub missed : Missed r → (m ≡ l) × (v ≡ w)
  -- 7 to 18, 29 and 31: the claim is taken back
  pub halting : Halting r → (m ≡ replaced l ((at_halt, 1) ∷ [])) × (v ≡ w)
  -- 19 keeps it
  pub nineteen : r ≡ 19 → NotLoadedLeaves (claimed_image w l) w (opcode_in t) (x_in t) (y_in t) (z_in t) m v
  -- 20: TRAP claims nothing
  pub twenty : r ≡ 20
      → (m ≡ replaced l (trap_octas (state_of l) (word_of (opcode_in t) (x_in t) (y_in t) (z_in t)) (reg (state_of l) (y_in t)) (reg (state_of l) (z_in t)))) × (v ≡ w)
  pub shared : r ≡ 22 → (admissible (state_of l) ≡ true) × Sharing (shapes_of w)
  -- 24 is given only where the tetra is in neither window
  pub unfetched : r ≡ 24 → Passes w (state_of l) × (inside (shapes_of w) (state_of l).pc ≡ false)

-- a run that is refused: the image and the windows that its count reached, and what the refused instruction leaves of them
pub record LastCallLeaves (l : List ℕ) (w : Windows) (r n : ℕ) (m : List ℕ) (v : Windows) : Type 0 where
  pub reached : List ℕ
  pub lent : Windows
  pub reached_is : RanImage l w n 0 n reached lent
  pub leaves : TetraCallLeaves reached lent (tetra_in lent reached) r m v
  pub halt_kept : halt_bytes reached ≡ halt_bytes l

-- the numbers of a call that is refused whole
abbrev pub OfCall : ℕ → Type 0
OfCall r = (r ≡ 1) ⊎ ((r ≡ 2) ⊎ ((r ≡ 22) ⊎ (r ≡ 25)))

-- what mmix_run leaves
pub record RunCallLeaves (l : List ℕ) (w : Windows) (grant r n : ℕ) (m : List ℕ) (v : Windows) : Type 0 where
  pub most : (r ≤ 20) ⊎ ((r ≡ 22) ⊎ ((r ≡ 24) ⊎ ((r ≡ 25) ⊎ ((r ≡ 29) ⊎ (r ≡ 31)))))
  -- refused whole: by the image's length, 1, 2, 22 or 25; and these numbers alone say so, since no instruction that is fetched on the way has one of them
  pub whole : (is_image l ≡ true → CallPasses w (state_of l) grant → ⊥) → OfCall r × (n ≡ 0) × (m ≡ l) × (v ≡ w)
  pub whole_by : OfCall r → (n ≡ 0) × (m ≡ l) × (v ≡ w)
  pub refused : is_image l ≡ true → CallPasses w (state_of l) grant → r ≢ 0 → LastCallLeaves l w r n m v
  pub spent : r ≡ 0 → halt_bytes m ≡ halt_bytes l

-- what mmix_exceptions leaves; with 19, rA's additions too
pub record ExceptionCallLeaves (l : List ℕ) (f op x y z u v r : ℕ) (m : List ℕ) : Type 0 where
  pub among : (r ≡ 0) ⊎ ((r ≡ 1) ⊎ (r ≡ 19))
  pub refused : r ≡ 1 → m ≡ l
  pub nineteen : r ≡ 19 → m ≡ replaced l ((at_special r_a, sp (with_added (state_of l) f) r_a) ∷ trip_octas (state_of l) (word_of op x y z) u v)
  pub done : r ≡ 0 → halt_bytes m ≡ halt_bytes l

-- what mmix_put_set leaves: 1 and 30 every byte; 7 to 11 the halt code's alone; the place is 0 unless a pair fails
pub record SetCallLeaves (l : List ℕ) (ps : List Pair) (r place : ℕ) (m : List ℕ) : Type 0 where
  pub among : (r ≡ 0) ⊎ ((r ≡ 1) ⊎ (((7 ≤ r) × (r ≤ 11)) ⊎ (r ≡ 30)))
  pub whole : (r ≡ 1) ⊎ (r ≡ 30) → (place ≡ 0) × (m ≡ l)
  pub seven_to_eleven : 7 ≤ r → r ≤ 11 → (place < length ps) × (m ≡ replaced l ((at_halt, 1) ∷ []))
  pub done : r ≡ 0 → (place ≡ 0) × (halt_bytes m ≡ halt_bytes l)

-- what mmix_context leaves: "refusing, by 22 and 23 too", *which, *start and *length are 0. It is lent the windows to read
pub record ContextCallLeaves (w : Windows) (r which start length : ℕ) : Type 0 where
  pub among : (r ≡ 0) ⊎ ((r ≡ 2) ⊎ ((r ≡ 6) ⊎ ((r ≡ 14) ⊎ ((r ≡ 15) ⊎ ((r ≡ 16) ⊎ ((r ≡ 22) ⊎ (r ≡ 23)))))))
  pub shared : r ≡ 22 → Sharing (shapes_of w)
  pub refused : r ≢ 0 → (which ≡ 0) × (start ≡ 0) × (length ≡ 0)

-- THEOREM
pub record CallsLeave : Type 0 where
  pub by_step : (l : List ℕ) (w : Windows) (op x y z r : ℕ) (m : List ℕ) (v : Windows) → ((i : ℕ) → get_or l i 0 < 256)
      → Stepped l w op x y z r m v → StepCallLeaves l w op x y z r m v
  pub by_run : (l : List ℕ) (w : Windows) (grant r n : ℕ) (m : List ℕ) (v : Windows) → ((i : ℕ) → get_or l i 0 < 256) → Bytes w
      → RanImage l w grant r n m v → RunCallLeaves l w grant r n m v
  pub by_exception : (l : List ℕ) (f op x y z u v r : ℕ) (m : List ℕ) → ((i : ℕ) → get_or l i 0 < 256)
      → Raised l f op x y z u v r m → ExceptionCallLeaves l f op x y z u v r m
  pub by_set : (l : List ℕ) (ps : List Pair) (r place : ℕ) (m : List ℕ) → ((i : ℕ) → get_or l i 0 < 256)
      → SetImage l ps r place m → SetCallLeaves l ps r place m
  -- on a struct or its parts: what model's `RepliesLeave` says, and `SetsLeave` of sets
  pub by_state_step : (w : Windows) (s : State) (op x y z r : ℕ) (t : State) (v : Windows) → Sized s
      → SteppedState w s op x y z r t v → StepLeaves w s op x y z (record { reply = r; state = t; memory = v })
  pub by_state_run : (w : Windows) (s : State) (grant r n : ℕ) (t : State) (v : Windows) → Sized s
      → RanState w s grant r n t v → RunLeaves w s grant (record { done = n; reply = r; state = t; memory = v })
  pub by_state_exception : (s : State) (f op x y z u v r : ℕ) (t : State) → Sized s
      → RaisedState s f op x y z u v r t → ExceptionLeaves s f op x y z u v (say r t)
  pub by_state_set : (s : State) (ps : List Pair) (r place : ℕ) (t : State) → PutSet s ps r place t → SetLeaves s ps (set_says r place t)
  -- the context reader: it is given no state; refused, all three outputs are 0
  pub by_context : (w : Windows) (p r which start length : ℕ) → ContextAt w p r which start length → ContextCallLeaves w r which start length
  -- the search for a field: 0 or 21, and then both outputs are 0
  pub by_field : (size from to r backward field : ℕ) → FieldTold (answer_of (field_of size from to)) r backward field
      → FieldLeaves (record { reply = r; backward = backward; field = field })
