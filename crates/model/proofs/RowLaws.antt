-- The laws of a row, from which the theorems go by rows and not by arms: ArmLaws. The families' files prove them.
use Rattle.model.proofs.Logic.{ℕ, List, [], ◌≡◌}
use Rattle.model.specs.Memory.{Windows}
use Rattle.model.specs.Plan.{Plan}
use Rattle.model.specs.Opcodes.{Arm}
use Rattle.model.specs.NoMemory.{tell}
use Rattle.model.specs.Row.{Raise, Raises, never, raises, Of, Quiet, Touching, Row, quiet, touching}
use Rattle.model.specs.Trips.{raised}
use Rattle.model.specs.Departures.{Outside}
use Rattle.model.specs.OneRaised.{OneFlag}
use Rattle.model.specs.declared.State.{State}
use Rattle.model.proofs.ArmAnswers.{Answers, Meets, MeetsInterrupt, Tells}
use Rattle.model.proofs.Related.{Related}
use Rattle.model.proofs.SeenStates.{Seen}
use Rattle.model.proofs.SeenArms.{Says}
use Rattle.model.proofs.ArmNeeds.{by}
use Rattle.model.proofs.ArmRules.{ArmSame}

-- ---- flags

-- two exception steps that agree where at most one flag is raised
abbrev pub Alike : Raise → Raise → Type 0
Alike e h = (s : State) (f word u v : ℕ) → OneFlag f → e s f word u v ≡ h s f word u v

-- an arm of plan p that raises the flags f and has the plan q over an exception step
pub record Raising (f : State → ℕ → ℕ → ℕ → ℕ) (q : Raise → Of (Plan State)) (p : Of (Plan State)) : Type 0 where
  pub one : (s : State) (x y z : ℕ) → OneFlag (f s x y z)
  pub alike : (e h : Raise) → Alike e h → (s : State) (op x y z : ℕ) → q e s op x y z ≡ q h s op x y z
  pub by_raised : (s : State) (op x y z : ℕ) → q raised s op x y z ≡ p s op x y z

abbrev pub RaisesLaws : Raises → Of (Plan State) → Type 0
RaisesLaws never p = Unit {0}
RaisesLaws (raises f q) p = Raising f q p

-- ---- rows

pub record QuietLaws (a : Arm) (q : Quiet) : Type 1 where
  -- every answer meets what is asked of the state builders
  pub meets : (s : State) (W : ℕ → Type 0) (Read : List ℕ → Type 0) (R : ℕ → State → List ℕ → Type 0) (m : Meets s W Read R) (op x y z : ℕ) → W y → W z
      → MeetsInterrupt s W R a op x y z → Tells (λ r t. R r t []) (q.says s op x y z)
  -- what the mask m hides is not seen
  pub seen : (m : ℕ) (s t : State) (op x y z : ℕ) → Seen m s t → Says m (q.says s op x y z) (q.says t op x y z)
  -- outside the departures the rule is the plan
  pub same : (w : Windows) (s : State) (op x y z : ℕ) → Outside w s a x y z → ArmSame w s a op x y z
  pub flags : RaisesLaws q.flags (λ s op x y z. tell (q.says s op x y z))

pub record TouchingLaws (a : Arm) (q : Touching) : Type 1 where
  pub meets : (s : State) (W : ℕ → Type 0) (Read : List ℕ → Type 0) (R : ℕ → State → List ℕ → Type 0) (m : Meets s W Read R) (op x y z : ℕ) → W y → W z
      → MeetsInterrupt s W R a op x y z → Answers Read R (q.plan s op x y z)
  pub seen : (m : ℕ) (s t : State) (op x y z : ℕ) → Seen m s t → Related (Seen m) (q.plan s op x y z) (q.plan t op x y z)
  pub same : (w : Windows) (s : State) (op x y z : ℕ) → Outside w s a x y z → ArmSame w s a op x y z
  pub flags : RaisesLaws q.flags q.plan
  -- 01's words on needs are what the plan needs
  pub needs : (w : Windows) (s : State) (op x y z : ℕ) → by w (q.plan s op x y z) ≡ q.needs w s x y z

abbrev pub Laws : Arm → Row → Type 1
Laws a (quiet q) = QuietLaws a q
Laws a (touching q) = TouchingLaws a q
