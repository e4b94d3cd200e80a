-- What push_frame and pop_frame, and push_frame_judged and pop_frame_judged in place, answer and leave, and what the private functions go by.
use Rattle.std.specs.Prelude.{ℕ, ◌+◌, ◌-◌, ◌*◌, ◌%◌, ◌^◌, ◌≤◌, ◌<◌, min, ◌≡◌, cond, List, eqb, length, get_or}
use Rattle.model.specs.Memory.{Windows, both}
use Rattle.model.specs.Plan.{Outcome, looks}
use Rattle.model.specs.Registers.{r_j, r_o, r_g, r_l, stack_start, sp, goes}
use Rattle.model.specs.Frames.{hole, push_frame, popped, pop_frame}
use Rattle.model.specs.PopOrder.{between}
use Rattle.stack.specs.GivenBack.{guarded_on, only_if, placed, Gives}
use Rattle.model.specs.declared.State.{State}
use Rattle.model.specs.declared.Reply.{Reply}
use Rattle.stack.specs.declared.frame.PopFrame.{PopFrame}
use Rattle.stack.specs.declared.frame.PopFrame.TheVariants.{Frame, NoFrame, Rejected, Missing, NotAdmissible, WindowRule, Shared}

-- PUSH with x; where the call goes is the arm's business
unfoldable pub push_of : Windows → State → ℕ → Outcome State Windows
push_of w s x = guarded_on w s (push_frame s (hole s x) s.pc)

-- the same in place
unfoldable pub push_in : Windows → State → ℕ → Outcome State Windows
push_in w s x = only_if (placed s) w s (push_frame s (hole s x) s.pc)

-- PUSH with x of s and w answers r and leaves t and v
abbrev pub PushGives : Windows → State → ℕ → Reply → State → Windows → Type 0
PushGives w s x r t v = Gives (push_of w s x) s r t v

-- POP with x; where it goes is the arm's business
unfoldable pub pop_of : Windows → State → ℕ → Outcome State Windows
pop_of w s x = guarded_on w s (pop_frame s x s.pc)

-- the same in place
unfoldable pub pop_in : Windows → State → ℕ → Outcome State Windows
pop_in w s x = only_if (placed s) w s (pop_frame s x s.pc)

-- "PC is rJ + 4 × YZ"
abbrev pub return_to : State → ℕ → ℕ
return_to s yz = (sp s r_j + 4 * yz) % 2 ^ 64

-- 01's number of each case
unfoldable pub pop_number : PopFrame → ℕ
pop_number (Frame target) = 0
pop_number NoFrame = 29
pop_number Rejected = 12
pop_number Missing = 6
pop_number NotAdmissible = 1
pop_number WindowRule = 2
pop_number Shared = 22

-- the case of each number, with its value
unfoldable pub pop_answer : State → ℕ → ℕ → PopFrame
pop_answer s yz n =
    cond (eqb n 0) (Frame (return_to s yz))
    (cond (eqb n 29) NoFrame (cond (eqb n 12) Rejected (cond (eqb n 6) Missing (cond (eqb n 1) NotAdmissible (cond (eqb n 2) WindowRule Shared)))))

-- a POP of s whose outcome is o answers r and leaves t; it writes nothing
pub record PopGives (o : Outcome State Windows) (s : State) (yz : ℕ) (r : PopFrame) (t : State) : Type 0 where
  pub answer_is : r ≡ pop_answer s yz o.reply
  pub number_is : pop_number r ≡ o.reply
  pub state_is : t ≡ goes o.state s.pc

-- ---- what the private functions go by

-- the special registers of a state whose rG and rL are placed
pub record Held (special : List ℕ) : Type 0 where
  pub long : r_o < length special
  pub g_high : get_or special r_g 0 ≤ 255
  pub l_g : get_or special r_l 0 ≤ get_or special r_g 0

-- rO where a frame can stand below it
pub record Placed (special : List ℕ) : Type 0 where
  pub above : stack_start < get_or special r_o 0
  pub beneath : get_or special r_o 0 < 0x8000000000000000

-- where the frame with hole h below rO starts
abbrev pub bottom_of : List ℕ → ℕ → ℕ
bottom_of special h = get_or special r_o 0 - 8 * (h + 1)

-- the state that POP makes of s by the frame with hole h
abbrev pub popped_as : Windows → State → ℕ → ℕ → State
popped_as w s x h = popped s x h (looks both w (bottom_of s.special h) (min h (sp s r_g)))

-- the state between POP's two stages, by the frame with hole h that starts at `bottom`
abbrev pub between_by : Windows → ℕ → State → ℕ → ℕ → State
between_by w bottom s x h = between s x h (looks both w bottom (min h (sp s r_g)))
