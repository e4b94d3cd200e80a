-- Theorems. What a set is: one pair is PUT but for PC, where the register is not hidden: a set ignores the mask; a set that passes is its pairs one after another; the first pair that fails; what each number leaves;
-- what every set keeps.
use Rattle.std.specs.Prelude.{ℕ, ◌^◌, ◌≤◌, ◌<◌, ◌≡◌, ◌⊎◌, ◌≢◌, true, false, List, [], ◌∷◌, ◌++◌, length}
use Rattle.model.specs.Registers.{reg, hides, Sized, Words, admissible, MarginalZero, masked, goes, halted}
use Rattle.model.specs.Memory.{Windows}
use Rattle.model.specs.Plan.{Outcome}
use Rattle.model.specs.Opcodes.{op_put, op_puti}
use Rattle.model.specs.Step.{step_of}
use Rattle.model.specs.Order.{Passes}
use Rattle.model.specs.declared.State.{State}
use Rattle.sets.specs.Sets.{Pair, pair, SetOutcome, set_says, pairs_max, put_set_of}

-- ---- one pair

-- a set's outcome is a step's but for PC, which the set leaves; the step stores nothing
pub record ButPc (w : Windows) (s : State) (o : SetOutcome) (d : Outcome State Windows) : Type 0 where
  pub reply_is : o.reply ≡ d.reply
  pub place_is : o.place ≡ 0
  pub state_is : o.state ≡ goes d.state s.pc
  pub memory_is : d.memory ≡ w

-- "PUT's value is $Z, PUTI's Z"; X is a byte, so these are the pairs with a number below 256, and any windows serve that 2 and 22 pass; where the
-- register is hidden, PUT is 31 and the pair takes effect
pub record OnePair : Type 0 where
  pub put : (w : Windows) (s : State) (x y z : ℕ) → Passes w s → hides s.mask x ≡ false → ButPc w s (put_set_of s (pair x (reg s z) ∷ [])) (step_of w s op_put x y z)
  pub put_immediate : (w : Windows) (s : State) (x y z : ℕ) → Passes w s → hides s.mask x ≡ false → ButPc w s (put_set_of s (pair x z ∷ [])) (step_of w s op_puti x y z)

-- "the list of change 10 ignores the mask": under any that a state may have, the set is as under another, and the state keeps its own
abbrev pub IgnoresMask : Type 0
IgnoresMask = (s : State) (m : ℕ) (ps : List Pair) → admissible s ≡ true → admissible (masked s m) ≡ true
    → put_set_of (masked s m) ps ≡ set_says (put_set_of s ps).reply (put_set_of s ps).place (masked (put_set_of s ps).state m)

-- ---- one after another

-- each pair as a set of its own is done, on what the one before left; t is what the last leaves
unfoldable pub OneByOne : State → List Pair → State → Type 0
OneByOne s [] t = t ≡ s
OneByOne s (p ∷ ps) t = ((put_set_of s (p ∷ [])).reply ≡ 0) × OneByOne (put_set_of s (p ∷ [])).state ps t

-- "the first failing pair's place, from 0, and PUT's own number": those before it pass, and it is refused in the state that they left
pub record FirstFails (s : State) (ps : List Pair) (n place : ℕ) : Type 0 where
  pub before : List Pair
  pub failing : Pair
  pub after : List Pair
  pub reached : State
  pub pairs_are : ps ≡ before ++ (failing ∷ after)
  pub earlier_pass : OneByOne s before reached
  pub number_is : n ≡ (put_set_of reached (failing ∷ [])).reply
  pub place_is : place ≡ length before

pub record InTurn : Type 0 where
  -- a set that is done is its pairs one after another; and pairs that pass one after another are such a set
  pub done : (s : State) (ps : List Pair) → Sized s → (put_set_of s ps).reply ≡ 0 → OneByOne s ps (put_set_of s ps).state
  pub passed : (s : State) (ps : List Pair) (t : State) → Sized s → admissible s ≡ true → length ps ≤ pairs_max → OneByOne s ps t
      → put_set_of s ps ≡ set_says 0 0 t
  -- one that is refused by 7 to 11 has a first pair that fails; and where one fails, the set does, with its place and number, whatever follows it
  pub refused : (s : State) (ps : List Pair) → Sized s → 7 ≤ (put_set_of s ps).reply → (put_set_of s ps).reply ≤ 11
      → FirstFails s ps (put_set_of s ps).reply (put_set_of s ps).place
  pub failed : (s : State) (before : List Pair) (p : Pair) (after : List Pair) (t : State) → Sized s → admissible s ≡ true
      → length (before ++ (p ∷ after)) ≤ pairs_max → OneByOne s before t → (put_set_of t (p ∷ [])).reply ≢ 0
      → put_set_of s (before ++ (p ∷ after)) ≡ set_says (put_set_of t (p ∷ [])).reply (length before) (halted s)

-- ---- what each number leaves: all or none

pub record SetLeaves (s : State) (ps : List Pair) (o : SetOutcome) : Type 0 where
  pub among : (o.reply ≡ 0) ⊎ ((o.reply ≡ 1) ⊎ (((7 ≤ o.reply) × (o.reply ≤ 11)) ⊎ (o.reply ≡ 30)))
  pub one : o.reply ≡ 1 → (admissible s ≡ false) × (o.place ≡ 0) × (o.state ≡ s)
  pub thirty : o.reply ≡ 30 → (admissible s ≡ true) × (pairs_max < length ps) × (o.place ≡ 0) × (o.state ≡ s)
  -- "sets the halt code to 1 and changes nothing else"
  pub seven_to_eleven : 7 ≤ o.reply → o.reply ≤ 11 → (o.place < length ps) × (o.state ≡ halted s)
  pub done : o.reply ≡ 0 → (o.place ≡ 0) × (o.state.halt ≡ s.halt)
  -- "PC doesn't move"
  pub pc_unmoved : o.state.pc ≡ s.pc
  pub marks_same : o.state.marks ≡ s.marks
  pub mask_same : o.state.mask ≡ s.mask

abbrev pub SetsLeave : Type 0
SetsLeave = (s : State) (ps : List Pair) → SetLeaves s ps (put_set_of s ps)

abbrev pub EmptySucceeds : Type 0
EmptySucceeds = (s : State) → admissible s ≡ true → put_set_of s [] ≡ set_says 0 0 s

-- ---- what every set keeps

-- each value is an octabyte
unfoldable pub ValueWords : List Pair → Type 0
ValueWords [] = Unit {0}
ValueWords (p ∷ ps) = (p.value < 2 ^ 64) × ValueWords ps

pub record SetsKeep : Type 0 where
  pub sized : (s : State) (ps : List Pair) → Sized s → Sized (put_set_of s ps).state
  pub admitted : (s : State) (ps : List Pair) → Sized s → admissible s ≡ true → admissible (put_set_of s ps).state ≡ true
  -- "once all zero, they stay zero"
  pub marginal : (s : State) (ps : List Pair) → Sized s → MarginalZero s → MarginalZero (put_set_of s ps).state
  pub words : (s : State) (ps : List Pair) → ValueWords ps → Words s → Words (put_set_of s ps).state
