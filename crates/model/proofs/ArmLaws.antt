-- The laws of each arm's row, the one list of all arms in proofs; and from them, by rows, what the theorems cite of every arm.
use Rattle.model.proofs.Logic.{ℕ, List, inl, refl, ◌≡◌}
use Rattle.model.specs.Memory.{Windows}
use Rattle.model.specs.Plan.{Plan}
use Rattle.model.specs.Opcodes.{Arm, control, stack, system, memory, arithmetic, none}
use Rattle.model.specs.NoMemory.{tell}
use Rattle.model.specs.Trips.{raised}
use Rattle.model.specs.Row.{Raise, Raises, never, raises, Of, Row, quiet, touching, plan_in, needs_in, flags_in}
use Rattle.model.specs.Rows.{row_of}
use Rattle.model.specs.Step.{plan_of}
use Rattle.model.specs.StepNeeds.{arm_needs}
use Rattle.model.specs.Departures.{Outside}
use Rattle.model.specs.OneRaised.{OneFlag, flags_by, flags_of, asked_by, plan_by}
use Rattle.model.specs.declared.State.{State}
use Rattle.model.proofs.ArmAnswers.{Answers, Meets, MeetsInterrupt}
use Rattle.model.proofs.Related.{Related}
use Rattle.model.proofs.SeenStates.{Seen}
use Rattle.model.proofs.SeenArms.{tells}
use Rattle.model.proofs.ArmNeeds.{by, tell_none}
use Rattle.model.proofs.ArmRules.{ArmSame}
use Rattle.model.proofs.RowLaws.{Alike, RaisesLaws, Laws}
use Rattle.model.proofs.ControlLaws.{control_laws}
use Rattle.model.proofs.StackLaws.{stack_laws}
use Rattle.model.proofs.SystemLaws.{system_laws, no_laws}
use Rattle.model.proofs.MemoryLaws.{memory_laws}
use Rattle.model.proofs.ArithmeticLaws.{arithmetic_laws}

pub laws_of : (a : Arm) → Laws a (row_of a)
laws_of (control c) = control_laws c
laws_of (stack c) = stack_laws c
laws_of (system c) = system_laws c
laws_of (memory c) = memory_laws c
laws_of (arithmetic f p q) = arithmetic_laws f p q
laws_of none = no_laws

module _ (s : State) (W : ℕ → Type 0) (Read : List ℕ → Type 0) (R : ℕ → State → List ℕ → Type 0) (m : Meets s W Read R) where
  pub plan_meets : (a : Arm) (op x y z : ℕ) → W y → W z → MeetsInterrupt s W R a op x y z → Answers Read R (plan_of s a op x y z)
  unfolding plan_of
  plan_meets a op x y z wy wz mi = go (row_of a) (laws_of a)
    where
      go : (r : Row) → Laws a r → Answers Read R (plan_in r s op x y z)
      go (quiet q) l = unfold tell Answers in (l.meets s W Read R m op x y z wy wz mi)
      go (touching q) l = l.meets s W Read R m op x y z wy wz mi

pub arm_seen : (m : ℕ) (s t : State) (a : Arm) (op x y z : ℕ) → Seen m s t → Related (Seen m) (plan_of s a op x y z) (plan_of t a op x y z)
unfolding plan_of
arm_seen m s t a op x y z h = go (row_of a) (laws_of a)
  where
    go : (r : Row) → Laws a r → Related (Seen m) (plan_in r s op x y z) (plan_in r t op x y z)
    go (quiet q) l = tells m _ _ (l.seen m s t op x y z h)
    go (touching q) l = l.seen m s t op x y z h

pub arm_needs_law : (w : Windows) (s : State) (a : Arm) (op x y z : ℕ) → by w (plan_of s a op x y z) ≡ arm_needs w s a x y z
unfolding plan_of arm_needs
arm_needs_law w s a op x y z = go (row_of a) (laws_of a)
  where
    go : (r : Row) → Laws a r → by w (plan_in r s op x y z) ≡ needs_in r w s x y z
    go (quiet q) l = tell_none w _
    go (touching q) l = l.needs w s op x y z

pub arm_same : (w : Windows) (s : State) (a : Arm) (op x y z : ℕ) → Outside w s a x y z → ArmSame w s a op x y z
arm_same w s a op x y z h = go (row_of a) (laws_of a)
  where
    go : (r : Row) → Laws a r → ArmSame w s a op x y z
    go (quiet q) l = l.same w s op x y z h
    go (touching q) l = l.same w s op x y z h

-- ---- flags

flags_in_law : (a : Arm) (r : Row) → Laws a r → RaisesLaws (flags_in r) (plan_in r)
flags_in_law a (quiet q) l = l.flags
flags_in_law a (touching q) l = l.flags

flags_laws : (a : Arm) → RaisesLaws (flags_in (row_of a)) (plan_in (row_of a))
flags_laws a = flags_in_law a (row_of a) (laws_of a)

pub flags_are : (s : State) (a : Arm) (x y z : ℕ) → OneFlag (flags_of s a x y z)
unfolding flags_of
flags_are s a x y z = go (flags_in (row_of a)) (plan_in (row_of a)) (flags_laws a)
  where
    go : (k : Raises) (p : Of (Plan State)) → RaisesLaws k p → OneFlag (flags_by k s x y z)
    go never p l = inl refl
    go (raises f q) p l = l.one s x y z

pub plan_alike : (e h : Raise) → Alike e h → (s : State) (a : Arm) (op x y z : ℕ) → plan_by e s a op x y z ≡ plan_by h s a op x y z
unfolding plan_by
plan_alike e h n s a op x y z = go (flags_in (row_of a)) (plan_in (row_of a)) (flags_laws a)
  where
    go : (k : Raises) (p : Of (Plan State)) → RaisesLaws k p → asked_by k e (plan_of s a op x y z) s op x y z ≡ asked_by k h (plan_of s a op x y z) s op x y z
    go never p l = refl
    go (raises f q) p l = l.alike e h n s op x y z

-- over `raised` an arm is the machine's
pub plan_raised : (s : State) (a : Arm) (op x y z : ℕ) → plan_by raised s a op x y z ≡ plan_of s a op x y z
unfolding plan_by plan_of
plan_raised s a op x y z = go (flags_in (row_of a)) (flags_laws a)
  where
    go : (k : Raises) → RaisesLaws k (plan_in (row_of a)) → asked_by k raised (plan_in (row_of a) s op x y z) s op x y z ≡ plan_in (row_of a) s op x y z
    go never l = refl
    go (raises f q) l = l.by_raised s op x y z
