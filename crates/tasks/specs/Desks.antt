-- The desk as code has it: the tasks' states are the images' bytes, and counts and refusals stand in the place of the turns given.
use Rattle.std.specs.Prelude.{ℕ, ◌+◌, ◌*◌, ◌^◌, ◌≤◌, ◌≡◌, true, List, length, get_or}
use Rattle.model.specs.Fill.{tab}
use Rattle.model.specs.Octa.{written}
use Rattle.model.specs.Memory.{Windows}
use Rattle.model.specs.Run.{Stopped}
use Rattle.image.specs.Image.{state_of, stored_in}
use Rattle.task_model.specs.Tasks.{Own}
use Rattle.task_model.specs.Schedule.{count_by, refusal_by, Desk}
use Rattle.task_model.specs.Call.{tasks_in, part_at, tasks_most}
use Rattle.task_run.specs.RunIn.{run_in}
use Rattle.tasks.specs.Images.{images_fit, each_length, image_in}

-- the turn of a task on its image
unfoldable pub image_turn : Windows → List ℕ → Own → ℕ → Stopped (List ℕ) Windows
image_turn w l p g = record {
  done = (run_in w (state_of l) p g).done;
  reply = (run_in w (state_of l) p g).reply;
  state = stored_in l (run_in w (state_of l) p g).state;
  memory = (run_in w (state_of l) p g).memory;
}

-- of task k on all images, of e bytes each
unfoldable pub images_turn : ℕ → List ℕ → ℕ → ℕ → List ℕ → Windows → Stopped (List ℕ) Windows
images_turn e ns k g l w = record {
  done = (image_turn w (image_in e l k) (part_at ns k) g).done;
  reply = (image_turn w (image_in e l k) (part_at ns k) g).reply;
  state = written l (k * e) (image_turn w (image_in e l k) (part_at ns k) g).state;
  memory = (image_turn w (image_in e l k) (part_at ns k) g).memory;
}

-- .. of as many as there are parts
abbrev pub tasks_turn : List ℕ → List ℕ → ℕ → ℕ → List ℕ → Windows → Stopped (List ℕ) Windows
tasks_turn ns l = images_turn (each_length (tasks_in ns) l) ns

-- a turn that replied r and did n
pub record Turned (o : Stopped (List ℕ) Windows) (r n : ℕ) (m : List ℕ) (v : Windows) : Type 0 where
  pub reply_is : r ≡ o.reply
  pub count_is : n ≡ o.done
  pub image_is : m ≡ o.state
  pub windows_are : v ≡ o.memory

-- what code has of a desk
pub record At (d : Desk (List ℕ) Windows) (left : ℕ) (images : List ℕ) (w : Windows) (counts refusals : List ℕ) : Type 0 where
  pub left_is : left ≡ d.left
  pub images_are : images ≡ d.states
  pub windows_are : w ≡ d.memory
  pub counts_are : counts ≡ tab 0 tasks_most (λ k. count_by k d.given)
  pub refusals_are : refusals ≡ tab 0 tasks_most (λ k. refusal_by k d.given)

-- the same of a desk where a call ends: what is left of the grant is not told
abbrev pub Shown : Desk (List ℕ) Windows → List ℕ → Windows → List ℕ → List ℕ → Type 0
Shown d images w counts refusals = At d d.left images w counts refusals

-- where turns can be given: no more than eight tasks, images that fit, and no count passes a number of 32 bits, nor does it with all that is left
pub record Ready (ns images : List ℕ) (left : ℕ) (counts : List ℕ) : Type 0 where
  pub few : tasks_in ns ≤ tasks_most
  pub fit : images_fit (tasks_in ns) images ≡ true
  pub small : (k : ℕ) → get_or counts k 0 + left ≤ 2 ^ 32

-- what code has of each desk d becomes what it has of f d
pub record Played (ns : List ℕ) (f : Desk (List ℕ) Windows → Desk (List ℕ) Windows) (left : ℕ) (l : List ℕ) (w : Windows) (cs rs : List ℕ)
    (left' : ℕ) (m : List ℕ) (v : Windows) (ds ts : List ℕ) : Type 0 where
  pub at : (d : Desk (List ℕ) Windows) → At d left l w cs rs → At (f d) left' m v ds ts
  pub ready : Ready ns m left' ds
  pub long : length m ≡ length l
