-- Theorem (02, change 11). Who may see the kernel's registers. What a mask may hold; and that what is hidden is not seen: "Two states with one mask that differ
-- only in hidden registers give a program on equal windows the same replies, memory and other state, until a return to a point", which no step is.
use Rattle.std.specs.Prelude.{◌≡◌, ℕ, ◌/◌, ◌%◌, ◌^◌, Bool, true, false, List, length, ◌==◌, slice_index}
use Rattle.model.specs.Memory.{Windows, both}
use Rattle.model.specs.Lists.{Ran, runs}
use Rattle.model.specs.Registers.{hideable, hides, admissible, masked}
use Rattle.model.specs.Step.{Item, mmix}
use Rattle.model.specs.Run.{Stopped, run_of}
use Rattle.model.specs.declared.State.{State}

-- ---- what a mask may hold

-- bit k of the mask m is set
abbrev pub is_set : ℕ → ℕ → Bool
is_set m k = m / 2 ^ k % 2 == 1

pub record MaskMeant : Type 0 where
  -- "any other bit of the mask's octabyte makes a state not admissible": one of a special register that may not be hidden, or above 31
  pub other_bit : (s : State) (k : ℕ) → is_set s.mask k ≡ true → hideable k ≡ false → admissible s ≡ false
  -- no other mask does
  pub no_other_bit : (s : State) → ((k : ℕ) → is_set s.mask k ≡ true → hideable k ≡ true) → admissible s ≡ admissible (masked s 0)
  -- "bit k for special k"
  pub hidden_bit : (s : State) (k : ℕ) → admissible s ≡ true → hides s.mask k ≡ is_set s.mask k

-- ---- what is hidden is not seen

-- special registers that are equal where the mask m does not hide them
pub record SameSpecials (m : ℕ) (ks ls : List ℕ) : Type 0 where
  pub count_same : length ks ≡ length ls
  pub seen_same : (k : ℕ) → hides m k ≡ false → slice_index ks k ≡ slice_index ls k

-- "Two states with one mask that differ only in hidden registers"
pub record SameSeen (s t : State) : Type 0 where
  pub general_same : s.general ≡ t.general
  pub special_same : SameSpecials s.mask s.special t.special
  pub pc_same : s.pc ≡ t.pc
  pub halt_same : s.halt ≡ t.halt
  pub marks_same : s.marks ≡ t.marks
  pub mask_same : s.mask ≡ t.mask

-- "the same replies, memory and other state", of a list and of a run
pub record SameRan (a b : Ran State Windows) : Type 0 where
  pub answers_same : a.answers ≡ b.answers
  pub seen_same : SameSeen a.state b.state
  pub memory_same : a.memory ≡ b.memory

pub record SameStopped (a b : Stopped State Windows) : Type 0 where
  pub done_same : a.done ≡ b.done
  pub reply_same : a.reply ≡ b.reply
  pub seen_same : SameSeen a.state b.state
  pub memory_same : a.memory ≡ b.memory

pub record HiddenUnseen : Type 0 where
  -- every list of steps, exceptions and fetched instructions, refused ones included
  pub by_list : (w : Windows) (s t : State) (is : List Item) → SameSeen s t → SameRan (runs both mmix s w is) (runs both mmix t w is)
  -- every run
  pub by_run : (w : Windows) (s t : State) (grant : ℕ) → SameSeen s t → SameStopped (run_of w s grant) (run_of w t grant)
