-- 02, change 12: the tasks' states as a host lends them, images one after another, all of one length; and what a call on them answers and leaves.
use Rattle.std.specs.Prelude.{ℕ, zero, suc, ◌*◌, ◌≡◌, Bool, cond, ◌||◌, List, [], ◌∷◌, eqb, length}
use Rattle.model.specs.Octa.{part, written}
use Rattle.model.specs.Memory.{Windows}
use Rattle.model.specs.Kept.{image_length, old_image_length}
use Rattle.model.specs.declared.State.{State}
use Rattle.image.specs.Image.{state_of, image_as}
use Rattle.task_model.specs.Call.{tasks_in, Tasked, tasks_of}

-- images_len is n × 2,336 or n × 2,328
unfoldable pub images_fit : ℕ → List ℕ → Bool
images_fit n l = eqb (length l) (n * image_length) || eqb (length l) (n * old_image_length)

-- how long each is
unfoldable pub each_length : ℕ → List ℕ → ℕ
each_length n l = cond (eqb (length l) (n * image_length)) image_length old_image_length

-- image k of those of e bytes each
abbrev pub image_in : ℕ → List ℕ → ℕ → List ℕ
image_in e l k = part l (k * e) e

-- the states of m of them, from image k on
unfoldable pub states_from : ℕ → List ℕ → ℕ → ℕ → List State
states_from e l k zero = []
states_from e l k (suc m) = state_of (image_in e l k) ∷ states_from e l (suc k) m

-- the states of n tasks; none where the images are not as long as they should be, which is then 1
unfoldable pub states_in : ℕ → List ℕ → List State
states_in n l = cond (images_fit n l) (states_from (each_length n l) l 0 n) []

-- the images with states in them, from image k on; each keeps its length
unfoldable pub images_with : ℕ → List ℕ → ℕ → List State → List ℕ
images_with e l k [] = l
images_with e l k (s ∷ ss) = images_with e (written l (k * e) (image_as (image_in e l k) s)) (suc k) ss

-- what a call on the images l and the windows w answers (r, counts, refusals), and the images and windows after it, m and v; o is THE call on their states
pub record Leaves (o : Tasked) (n : ℕ) (l : List ℕ) (r : ℕ) (m : List ℕ) (v : Windows) (counts refusals : List ℕ) : Type 0 where
  pub reply_is : r ≡ o.reply
  pub counts_are : counts ≡ o.counts
  pub refusals_are : refusals ≡ o.refusals
  pub images_are : m ≡ cond (eqb o.reply 0) (images_with (each_length n l) l 0 o.states) l
  pub windows_are : v ≡ o.memory

abbrev pub TasksRan : List ℕ → Windows → List ℕ → ℕ → ℕ → ℕ → List ℕ → Windows → List ℕ → List ℕ → Type 0
TasksRan l w ns q grant r m v counts refusals = Leaves (tasks_of w (states_in (tasks_in ns) l) ns q grant) (tasks_in ns) l r m v counts refusals
