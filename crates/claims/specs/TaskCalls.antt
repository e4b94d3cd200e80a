-- Demand 3 as a host meets it with several tasks: lists of calls of the C functions, in any mix, each on what the one before left. The host holds each task
-- as an image or a struct, and lends two windows. A call is one of OneCall on what one task holds, with all of B; or mmix_tasks on the images
-- of all tasks, each with its part of B. `TasksRan` is the contract of mmix_tasks.
use Rattle.std.specs.Prelude.{ℕ, zero, suc, ◌+◌, ◌*◌, ◌<◌, ◌≡◌, ◌≢◌, ◌⊎◌, cond, List, [], ◌∷◌, ◌++◌, eqb, length, get_or, set}
use Rattle.model.specs.Memory.{Windows, both}
use Rattle.model.specs.Plan.{All, Off}
use Rattle.model.specs.Lists.{run_needs_by}
use Rattle.model.specs.Registers.{r_o, sp, fresh}
use Rattle.model.specs.Frames.{hole}
use Rattle.model.specs.Step.{Item, step}
use Rattle.model.specs.Kept.{image_length, old_image_length}
use Rattle.model.specs.Invariants.{InstructionFits, Bytes}
use Rattle.model.specs.Demand.{Within, Call, opcode_of, Alike, SameOutside, AtPop}
use Rattle.model.specs.declared.State.{State}
use Rattle.task_model.specs.Tasks.{Own, Turn, turn, studies, turn_needs}
use Rattle.task_model.specs.Call.{call_of}
use Rattle.task_model.specs.TasksMeant.{tried_turns}
use Rattle.task_model.specs.Lent.{Once, picked, put_back, renamed}
use Rattle.tasks.specs.Images.{image_in, TasksRan}
use Rattle.claims.specs.OneCall.{Held, image, struct, held_state, HeldFits, Entry, asked_by, counted_by, replied_by, MeetsBy}
use Rattle.claims.specs.Calls.{AllFit, Returns}

-- ---- what a host holds

-- of task k
abbrev pub held_by : List Held → ℕ → Held
held_by hs k = get_or hs k (struct fresh)

unfoldable pub states_held : List Held → List State
states_held [] = []
states_held (h ∷ hs) = held_state h ∷ states_held hs

-- m images of e bytes each, one after another in l, from image k on
unfoldable pub images_held : ℕ → List ℕ → ℕ → ℕ → List Held
images_held e l k zero = []
images_held e l k (suc m) = image (image_in e l k) ∷ images_held e l (suc k) m

-- ---- one call

-- a function on what task k holds; or mmix_tasks: which tasks are lent, in this order, how long each image is, the parts, q and the grant
pub data TaskEntry : Type 0 where
  alone : ℕ → Entry → TaskEntry
  together : List ℕ → ℕ → List ℕ → ℕ → ℕ → TaskEntry

-- a call that was made: its reply, of a run its count, of mmix_tasks counts and refusals; what is held and the windows after it
pub record TaskMade : Type 0 where
  pub entry : TaskEntry
  pub reply : ℕ
  pub count : ℕ
  pub counts : List ℕ
  pub refusals : List ℕ
  pub held : List Held
  pub window : Windows

-- the contract of a function on what task k holds; what the others hold stays
pub record AloneMet (hs : List Held) (w : Windows) (k : ℕ) (e : Entry) (c : TaskMade) : Type 0 where
  pub there : k < length hs
  pub contract : MeetsBy (held_by hs k) w e c.reply c.count (held_by c.held k) c.window
  pub others : c.held ≡ set hs k (held_by c.held k)

-- the contract of mmix_tasks on those that are lent: they hold images of e bytes, which stand one after another in `before` and then in `after`
pub record TogetherMet (hs : List Held) (w : Windows) (e : ℕ) (ns : List ℕ) (q grant : ℕ) (c : TaskMade) : Type 0 where
  pub before : List ℕ
  pub after : List ℕ
  pub long : length before ≡ length hs * e
  pub each : (e ≡ image_length) ⊎ (e ≡ old_image_length)
  pub lent : hs ≡ images_held e before 0 (length hs)
  pub contract : TasksRan before w ns q grant c.reply after c.window c.counts c.refusals
  pub left : c.held ≡ images_held e after 0 (length hs)

-- what the tasks js hold
abbrev pub lent_held : List Held → List ℕ → List Held
lent_held hs js = picked (struct fresh) hs js

-- the call as those see it that are lent
abbrev pub lent_made : List ℕ → TaskMade → TaskMade
lent_made js c = record { entry = c.entry; reply = c.reply; count = c.count; counts = c.counts; refusals = c.refusals; held = lent_held c.held js; window = c.window }

-- the tasks js are lent, each once; what the others hold stays
pub record LentMet (hs : List Held) (w : Windows) (js : List ℕ) (e : ℕ) (ns : List ℕ) (q grant : ℕ) (c : TaskMade) : Type 0 where
  pub once : Once (length hs) js
  pub those : TogetherMet (lent_held hs js) w e ns q grant (lent_made js c)
  pub others : c.held ≡ put_back hs js (lent_held c.held js)

unfoldable pub TaskMeetsBy : List Held → Windows → TaskEntry → TaskMade → Type 0
TaskMeetsBy hs w (alone k e) c = AloneMet hs w k e c
TaskMeetsBy hs w (together js e ns q grant) c = LentMet hs w js e ns q grant c

-- ---- what is asked for

-- all of B
abbrev pub whole_of : Windows → Own
whole_of w = record { start = 0; size = length w.b.bytes }

-- items of task k on a part
unfoldable pub turns_of : ℕ → Own → List Item → List Turn
turns_of k p [] = []
turns_of k p (i ∷ is) = turn k p i ∷ turns_of k p is

-- the turns that a call on hs and w asks for where it replies r, with the count n of a run; of mmix_tasks those that it tried, none where it is
-- refused whole
unfoldable pub turns_lent : List Held → Windows → List ℕ → ℕ → ℕ → ℕ → List Turn
turns_lent gs w ns q grant r = cond (eqb r 0) (tried_turns ns (call_of w (states_held gs) ns q grant).given) []

unfoldable pub turns_by : List Held → Windows → TaskEntry → ℕ → ℕ → List Turn
turns_by hs w (alone k e) r n = turns_of k (whole_of w) (asked_by e r n)
turns_by hs w (together js e ns q grant) r n = renamed js (turns_lent (lent_held hs js) w ns q grant r)

-- what is given fits C's types
unfoldable pub FitsBy : TaskEntry → ℕ → ℕ → Type 0
FitsBy (alone k e) r n = AllFit (asked_by e r n)
FitsBy (together js e ns q grant) r n = Unit {0}

-- the count of a run; counts and refusals of mmix_tasks
unfoldable pub tallies_by : TaskEntry → ℕ → List ℕ → List ℕ → List ℕ
tallies_by (alone k e) n cs rs = counted_by e n
tallies_by (together js e ns q grant) n cs rs = cs ++ rs

-- ---- a list of calls

-- "each later one what the one before left, refused or not"
unfoldable pub TaskChain : List Held → Windows → List TaskMade → Type 0
TaskChain hs w [] = Unit {0}
TaskChain hs w (c ∷ cs) = TaskMeetsBy hs w c.entry c × TaskChain c.held c.window cs

unfoldable pub task_entries : List TaskMade → List TaskEntry
task_entries [] = []
task_entries (c ∷ cs) = c.entry ∷ task_entries cs

-- a function's reply (`replied_by`), and that of mmix_tasks
unfoldable pub task_replied_by : TaskEntry → ℕ → List ℕ
task_replied_by (alone k e) r = replied_by e r
task_replied_by (together js e ns q grant) r = r ∷ []

unfoldable pub task_replies : List TaskMade → List ℕ
task_replies [] = []
task_replies (c ∷ cs) = task_replied_by c.entry c.reply ++ task_replies cs

unfoldable pub tallies : List TaskMade → List ℕ
tallies [] = []
tallies (c ∷ cs) = tallies_by c.entry c.count c.counts c.refusals ++ tallies cs

unfoldable pub task_last_held : List Held → List TaskMade → List Held
task_last_held hs [] = hs
task_last_held hs (c ∷ cs) = task_last_held c.held cs

unfoldable pub task_last_window : Windows → List TaskMade → Windows
task_last_window w [] = w
task_last_window w (c ∷ cs) = task_last_window c.window cs

unfoldable pub AllFitIn : List TaskMade → Type 0
AllFitIn [] = Unit {0}
AllFitIn (c ∷ cs) = FitsBy c.entry c.reply c.count × AllFitIn cs

-- all turns that the calls asked for
unfoldable pub all_turns : List Held → Windows → List TaskMade → List Turn
all_turns hs w [] = []
all_turns hs w (c ∷ cs) = turns_by hs w c.entry c.reply c.count ++ all_turns c.held c.window cs

-- what the turns of the calls need
unfoldable pub calls_need : List Held → Windows → List TaskMade → List ℕ
calls_need hs w [] = []
calls_need hs w (c ∷ cs) =
    run_needs_by both studies turn_needs (states_held hs) w (turns_by hs w c.entry c.reply c.count) ++ calls_need c.held c.window cs

-- ---- demand 3

-- "each on its own task's state, equal in both runs before the call": what the others hold, byte for byte; task c's state but for its locals below the hole
pub record HeldAlike (c h : ℕ) (hs ks : List Held) : Type 0 where
  pub count_same : length hs ≡ length ks
  pub caller : Alike h (held_state (held_by hs c)) (held_state (held_by ks c))
  pub others : (k : ℕ) → k ≢ c → held_by hs k ≡ held_by ks k

-- what holds of two lists of calls after a call of task c, a and b: on hs and on ks; and the POP by that task, by any function, in each
pub record PrivateTaskCalls (c h : ℕ) (hs ks : List Held) (a b : TaskMade) (cs ds : List TaskMade) : Type 0 where
  pub call_same : b.reply ≡ a.reply
  pub replies_same : task_replies cs ≡ task_replies ds
  pub tallies_same : tallies cs ≡ tallies ds
  pub held_same : task_last_held a.held cs ≡ task_last_held b.held ds
  pub window_same : SameOutside (Within (sp (held_state (held_by hs c)) r_o) h) (task_last_window a.window cs) (task_last_window b.window ds)
  pub first_back : AtPop h (sp (held_state (held_by a.held c)) r_o) (held_state (held_by (task_last_held a.held cs) c))
      → Returns h (held_state (held_by hs c)) (held_by (task_last_held a.held cs) c) (task_last_window a.window cs)
  pub second_back : AtPop h (sp (held_state (held_by a.held c)) r_o) (held_state (held_by (task_last_held a.held cs) c))
      → Returns h (held_state (held_by ks c)) (held_by (task_last_held b.held ds) c) (task_last_window b.window ds)

-- THEOREM: demand 3 of the C functions, mmix_tasks among them. The call is by any function that steps, on what task c holds; "It is enough that the first run's
-- needs keep off the frame"
abbrev pub Demand3TaskCalls : Type 0
Demand3TaskCalls = (w : Windows) (hs ks : List Held) (c : ℕ) (f : Call) (x y z : ℕ) (e : Entry) (a b : TaskMade) (cs ds : List TaskMade)
    → c < length hs → ((k : ℕ) → k < length hs → HeldFits (held_by hs k)) → ((k : ℕ) → k < length ks → HeldFits (held_by ks k))
    → Bytes w → InstructionFits (opcode_of f) x y z → AllFitIn cs
    → HeldAlike c (hole (held_state (held_by hs c)) x) hs ks
    → a.entry ≡ alone c e → asked_by e a.reply a.count ≡ step (opcode_of f) x y z ∷ [] → b.entry ≡ a.entry → task_entries ds ≡ task_entries cs
    → TaskChain hs w (a ∷ cs) → TaskChain ks w (b ∷ ds)
    → a.reply ≡ 0
    → (held_state (held_by a.held c)).pc ≡ (held_state (held_by b.held c)).pc
    → All (Off (Within (sp (held_state (held_by hs c)) r_o) (hole (held_state (held_by hs c)) x + 1))) (calls_need a.held a.window cs)
    → PrivateTaskCalls c (hole (held_state (held_by hs c)) x) hs ks a b cs ds
