-- Theorem. A step that touches few general registers: $X, $Y, $Z and $255. It is the same on any two states that agree there and in all that is no general
-- register, and it leaves the other general registers as they were. So of an image a step may decode these alone.
use Rattle.std.specs.Prelude.{◌≡◌, ℕ, ◌<◌, Bool, true, not, ◌&&◌, ◌||◌, length, ◌==◌, slice_set}
use Rattle.model.specs.Memory.{Windows}
use Rattle.model.specs.Plan.{map_outcome}
use Rattle.model.specs.Registers.{r_g, r_l, reg, is_marginal, with_parts}
use Rattle.model.specs.Opcodes.{op_pushgo, op_pushgoi, op_pushj, op_pushjb, op_put, op_puti, op_pop, op_unsave, among}
use Rattle.model.specs.NoMemory.{say}
use Rattle.model.specs.Step.{claims, step_of, exception_of}
use Rattle.model.specs.declared.State.{State}

-- ---- which steps do

-- PUSH, POP, SAVE and UNSAVE; and RESUME, which stands among them and has no arm
abbrev pub of_stack : ℕ → Bool
of_stack op = among op_pushgo op_pushgoi op || (among op_pushj op_pushjb op || among op_pop op_unsave op)

-- PUT of rL or rG
abbrev pub puts_bound : ℕ → ℕ → Bool
puts_bound op x = among op_put op_puti op && (x == r_l || x == r_g)

-- none of these, and none that claims a marginal $x
unfoldable pub touches_few : State → ℕ → ℕ → Bool
touches_few s op x = not (of_stack op || (puts_bound op x || (is_marginal s x && claims op)))

-- ---- what they touch

-- two states that agree in $x, $y, $z and $255, and in what is no general register
pub record SameTouched (x y z : ℕ) (s t : State) : Type 0 where
  pub count_same : length s.general ≡ length t.general
  pub x_same : reg s x ≡ reg t x
  pub y_same : reg s y ≡ reg t y
  pub z_same : reg s z ≡ reg t z
  pub last_same : reg s 255 ≡ reg t 255
  pub special_same : s.special ≡ t.special
  pub pc_same : s.pc ≡ t.pc
  pub halt_same : s.halt ≡ t.halt
  pub marks_same : s.marks ≡ t.marks
  pub mask_same : s.mask ≡ t.mask

-- t with the general registers of s, but $x and $255
abbrev pub joined : State → ℕ → State → State
joined s x t = with_parts t (slice_set (slice_set s.general x (reg t x)) 255 (reg t 255)) t.special

pub record FewTouched : Type 0 where
  -- of a step on t, with the rest of s, comes the step on s
  pub by_step : (w : Windows) (s t : State) (op x y z : ℕ) → op < 256 → touches_few s op x ≡ true → SameTouched x y z s t
      → step_of w s op x y z ≡ map_outcome (joined s x) (step_of w t op x y z)
  -- an exception touches $255 alone
  pub by_exception : (s t : State) (f op x y z u v : ℕ) → SameTouched 255 255 255 s t
      → exception_of s f op x y z u v ≡ say (exception_of t f op x y z u v).reply (joined s 255 (exception_of t f op x y z u v).state)
