-- How an answer, a state and windows given back stand to an outcome of the model.
use Rattle.std.specs.Prelude.{◌≡◌, ◌⊎◌, Bool, cond, ◌&&◌, ℕ, leb}
use Rattle.model.specs.Memory.{Windows, shapes_of, both}
use Rattle.model.specs.Plan.{Plan, Outcome, perform}
use Rattle.model.specs.Registers.{r_g, r_l, sp, admissible, goes}
use Rattle.model.specs.Step.{unruled_by, refusing, guarded}
use Rattle.model.specs.Numbers.{reply_of}
use Rattle.model.specs.declared.State.{State}
use Rattle.model.specs.declared.Reply.{Reply}

-- a number by which state or windows are refused
abbrev pub Refused : ℕ → Type 0
Refused n = (n ≡ 1) ⊎ ((n ≡ 2) ⊎ (n ≡ 22))

-- a number by which windows are refused
abbrev pub Unruled : ℕ → Type 0
Unruled n = (n ≡ 2) ⊎ (n ≡ 22)

-- 1, then 2 and 22, then the plan
unfoldable pub guarded_on : Windows → State → Plan State → Outcome State Windows
guarded_on w s p = perform both (refusing (shapes_of w)) s (guarded s s (shapes_of w) p) w

-- the number by which state or windows are refused, 0 where both pass: 1, then 2 and 22
unfoldable pub refusal_on : Windows → State → ℕ
refusal_on w s = cond (admissible s) (unruled_by (shapes_of w)) 1

-- in place state and windows are judged by the layer above. What is asked here is what the work rests on, and 1 is told where it fails: it
-- holds of every admissible state
unfoldable pub only_if : Bool → Windows → State → Plan State → Outcome State Windows
only_if t w s p = cond t (perform both (refusing (shapes_of w)) s p w) (record { reply = 1; state = s; memory = w })

-- rG and rL are numbers of registers, in order
unfoldable pub placed : State → Bool
placed s = leb (sp s r_g) 255 && leb (sp s r_l) (sp s r_g)

-- the outcome o, PC apart, which is as it was in s
pub record Gives (o : Outcome State Windows) (s : State) (r : Reply) (t : State) (v : Windows) : Type 0 where
  pub reply_is : r ≡ reply_of o.reply
  pub state_is : t ≡ goes o.state s.pc
  pub window_is : v ≡ o.memory
