-- Theorem 4. What a step needs, arm by arm, as 01 says it; and that bytes which an arm does not use are not looked at.
use Rattle.std.specs.Prelude.{◌≡◌, ℕ, ◌+◌, cond, ◌&&◌, List, [], ◌∷◌, ◌==◌}
use Rattle.model.specs.Memory.{Windows, shapes_of, inside, both}
use Rattle.model.specs.Plan.{ups}
use Rattle.model.specs.Lists.{needs_of}
use Rattle.model.specs.Registers.{r_o, sp, admissible}
use Rattle.model.specs.Opcodes.{Arm, arm_of, op_pushj, op_pushjb, op_pushgo, op_pushgoi, op_save, op_unsave, op_put, op_puti, op_get, op_swym}
use Rattle.model.specs.Row.{needs_in}
use Rattle.model.specs.Rows.{row_of}
unfoldable pub use Rattle.model.specs.Needs.{run, hole_below, pop_needs, unsave_needs_rest, unsave_needs_count, unsave_needs}
use Rattle.model.specs.Frames.{hole}
use Rattle.model.specs.Contexts.{extent}
use Rattle.model.specs.Step.{judged, unruled_by, refusal_of, step_of, step_needs, claimed_at, opcode_in, x_in, y_in, z_in, tetra_of, fetched_needs, exception, mmix}
use Rattle.model.specs.declared.State.{State}

-- "PUSH needs its frame, SAVE all that it stores. .. Other steps and exceptions need none.": as the arm's row says it
unfoldable pub arm_needs : Windows → State → Arm → ℕ → ℕ → ℕ → List ℕ
arm_needs w s a x y z = needs_in (row_of a) w s x y z

-- what a tetra's instruction needs on the state that its arm works on; what 3 to 5 refuse needs nothing
unfoldable pub tetra_needs : Windows → ℕ → State → List ℕ
tetra_needs w t s = cond (refusal_of (arm_of (opcode_in t)) (x_in t) (y_in t) (z_in t) == 0) (arm_needs w s (arm_of (opcode_in t)) (x_in t) (y_in t) (z_in t)) []

-- two ways to write an instruction that come to the same
pub record SameWritten (w : Windows) (s : State) (op x y z x' y' z' : ℕ) : Type 0 where
  pub outcome_same : step_of w s op x y z ≡ step_of w s op x' y' z'
  pub needs_same : step_needs w s op x y z ≡ step_needs w s op x' y' z'

pub record NeedsAre : Type 0 where
  -- what 1 to 5 refuse needs nothing
  pub by_step : (w : Windows) (s : State) (op x y z : ℕ)
      → step_needs w s op x y z ≡ cond (judged s (shapes_of w) (arm_of op) x y z == 0) (arm_needs w s (arm_of op) x y z) []
  -- "Fetching counts as a need": the octabyte of PC; where it is there, then the arm's needs on the claimed state. What 1, 2 and 22 refuse needs nothing
  pub by_fetched : (w : Windows) (s : State)
      → fetched_needs w s
      ≡ cond (admissible s && unruled_by (shapes_of w) == 0) (s.pc ∷ cond (inside (shapes_of w) s.pc) (tetra_needs w (tetra_of w s) (claimed_at w s)) []) []
  pub by_exception : (w : Windows) (s : State) (f op x y z u v : ℕ) → needs_of both mmix s w (exception f op x y z u v) ≡ []
  -- a PUSH that is done: rO + 8i for i ≤ H; a SAVE that is done: all rL + 270 − rG
  pub push_done : (w : Windows) (s : State) (x y z : ℕ) → (step_of w s op_pushj x y z).reply ≡ 0 → step_needs w s op_pushj x y z ≡ ups (sp s r_o) (hole s x + 1)
  pub push_back_done : (w : Windows) (s : State) (x y z : ℕ) → (step_of w s op_pushjb x y z).reply ≡ 0 → step_needs w s op_pushjb x y z ≡ ups (sp s r_o) (hole s x + 1)
  pub push_go_done : (w : Windows) (s : State) (x y z : ℕ) → (step_of w s op_pushgo x y z).reply ≡ 0 → step_needs w s op_pushgo x y z ≡ ups (sp s r_o) (hole s x + 1)
  pub push_go_immediate_done : (w : Windows) (s : State) (x y z : ℕ) → (step_of w s op_pushgoi x y z).reply ≡ 0 → step_needs w s op_pushgoi x y z ≡ ups (sp s r_o) (hole s x + 1)
  pub save_done : (w : Windows) (s : State) (x y z : ℕ) → (step_of w s op_save x y z).reply ≡ 0 → step_needs w s op_save x y z ≡ ups (sp s r_o) (extent s)

-- "Bytes that an arm doesn't use are not looked at"
pub record BytesUnused : Type 0 where
  pub save_yz : (w : Windows) (s : State) (x y z y' z' : ℕ) → SameWritten w s op_save x y z x y' z'
  pub unsave_xy : (w : Windows) (s : State) (x y z x' y' : ℕ) → SameWritten w s op_unsave x y z x' y' z
  pub put_y : (w : Windows) (s : State) (x y z y' : ℕ) → SameWritten w s op_put x y z x y' z
  pub puti_y : (w : Windows) (s : State) (x y z y' : ℕ) → SameWritten w s op_puti x y z x y' z
  pub get_y : (w : Windows) (s : State) (x y z y' : ℕ) → SameWritten w s op_get x y z x y' z
  pub swym_xyz : (w : Windows) (s : State) (x y z x' y' z' : ℕ) → SameWritten w s op_swym x y z x' y' z'
