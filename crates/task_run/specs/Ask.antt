-- What is asked of an instruction that was refused: whether an octabyte that it needs on A and the part lies in B outside the part.
use Rattle.std.specs.Prelude.{ℕ, ◌≤◌, ◌≡◌, Bool, true, false, cond, ◌&&◌, List, get_or}
use Rattle.model.specs.Memory.{Windows, Shapes, shapes_of, inside}
use Rattle.model.specs.Registers.{r_g, r_l}
use Rattle.model.specs.Step.{fetched_needs}
use Rattle.model.specs.Run.{Stopped}
use Rattle.model.specs.declared.State.{State}
use Rattle.task_model.specs.Tasks.{Own, foreign, any_foreign}
use Rattle.task_run.specs.RunIn.{own, lost}
use Rattle.task_run.specs.declared.ask.Whole.{Whole}

abbrev pub own_of : Whole → Own
own_of h = own h.part

-- the shape of B; `foreign` asks nothing of A
abbrev pub whole_of : Whole → Shapes
whole_of h = record { a = record { from = 0; size = 0 }; b = record { from = h.base; size = h.len } }

abbrev pub is_foreign : Whole → ℕ → Bool
is_foreign h x = foreign (own_of h) (whole_of h) x

-- one of these octabytes is
abbrev pub asks : Whole → List ℕ → Bool
asks h l = any_foreign (own_of h) (whole_of h) l

-- none that these windows have is: they are A and the part
pub record OwnOnly (h : Whole) (w : Windows) : Type 0 where
  pub none_foreign : (x : ℕ) → inside (shapes_of w) x ≡ true → is_foreign h x ≡ false

-- rG and rL are numbers of registers
pub record CountsInRange (special : List ℕ) : Type 0 where
  pub threshold : get_or special r_g 0 ≤ 255
  pub locals : get_or special r_l 0 ≤ 255

-- a run on A and the part, and 32 where it ends at an instruction that 6 or 24 refuses and that asks for what is foreign
unfoldable pub told : Whole → Stopped State Windows → Stopped State Windows
told h r = record {
  done = r.done;
  reply = cond (lost r.reply && asks h (fetched_needs r.memory r.state)) 32 r.reply;
  state = r.state;
  memory = r.memory;
}
