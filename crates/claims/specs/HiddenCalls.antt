-- Theorem. What is hidden is not seen, of the C functions: two hosts that hold images, or structs, with one mask that differ only in hidden registers get the same
-- replies, counts and windows from the same calls, mmix_tasks among them, and hold the same bytes outside those registers.
use Rattle.std.specs.Prelude.{ℕ, ◌-◌, ◌/◌, ◌<◌, ◌≡◌, Bool, false, ◌&&◌, List, [], ◌∷◌, leb, ltb, length, get_or}
use Rattle.model.specs.Memory.{Windows}
use Rattle.model.specs.Registers.{hides}
use Rattle.model.specs.Invariants.{Bytes}
use Rattle.model.specs.Unseen.{SameSeen}
use Rattle.image.specs.Image.{state_of}
use Rattle.claims.specs.OneCall.{Held, image, struct}
use Rattle.claims.specs.TaskCalls.{held_by, TaskMade, TaskChain, task_entries, tallies, task_last_held, task_last_window, AllFitIn}
use Rattle.claims.specs.AnywhereCalls.{AllHeldFit}

-- byte i of an image is of a special register that the mask m hides
unfoldable pub hidden_byte : ℕ → ℕ → Bool
hidden_byte m i = (leb 2048 i && ltb i 2304) && hides m ((i - 2048) / 8)

-- two images of one length, equal byte by byte outside hidden registers; the mask itself is not hidden
pub record SameShown (l m : List ℕ) : Type 0 where
  pub length_same : length l ≡ length m
  pub byte_same : (i : ℕ) → hidden_byte (state_of l).mask i ≡ false → get_or l i 0 ≡ get_or m i 0

unfoldable pub HeldShown : Held → Held → Type 0
HeldShown (image l) (image m) = SameShown l m
HeldShown (image l) (struct t) = ⊥
HeldShown (struct s) (image m) = ⊥
HeldShown (struct s) (struct t) = SameSeen s t

pub record AllShown (hs ks : List Held) : Type 0 where
  pub count_same : length hs ≡ length ks
  pub each_shown : (k : ℕ) → k < length hs → HeldShown (held_by hs k) (held_by ks k)

-- every reply, that of mmix_context too
unfoldable pub every_reply : List TaskMade → List ℕ
every_reply [] = []
every_reply (c ∷ cs) = c.reply ∷ every_reply cs

pub record SameToBoth (hs ks : List Held) (w : Windows) (cs ds : List TaskMade) : Type 0 where
  pub replies_same : every_reply cs ≡ every_reply ds
  pub tallies_same : tallies cs ≡ tallies ds
  pub window_same : task_last_window w cs ≡ task_last_window w ds
  pub held_shown : AllShown (task_last_held hs cs) (task_last_held ks ds)

abbrev pub HiddenCalls : Type 0
HiddenCalls = (hs ks : List Held) (w : Windows) (cs ds : List TaskMade) → AllHeldFit hs → AllHeldFit ks → Bytes w → AllFitIn cs → task_entries ds ≡ task_entries cs
    → TaskChain hs w cs → TaskChain ks w ds → AllShown hs ks → SameToBoth hs ks w cs ds
