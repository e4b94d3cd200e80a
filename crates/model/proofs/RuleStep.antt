-- Outside the departures the rule of each arm is its plan, and so Knuth's step is the step. Rules has the laws of each rule.
use Rattle.model.proofs.Logic.{ℕ, Bool, cond, false, true, [], ap, refl, sym, ◌≡◌, eqb, set, set-get_or}
use Rattle.model.specs.Registers.{with_parts, r_o, r_s, sp, admissible, with_special, spilled}
use Rattle.model.specs.Memory.{Windows, shapes_of, both}
use Rattle.model.specs.Plan.{Plan, answer, Outcome, perform, map_plan, map_outcome}
use Rattle.model.specs.Opcodes.{Arm, arm_of}
use Rattle.model.specs.Step.{unruled_by, refusing, guarded, from_three, step_plan, step_of}
use Rattle.model.specs.Rules.{After, goes_on, interrupts}
use Rattle.model.specs.StepRule.{rule_of, step_rule, spilled_after, spilled_by, settled_rule}
use Rattle.model.specs.Row.{spills_in}
use Rattle.model.specs.Rows.{row_of}
use Rattle.model.specs.Departures.{Outside, AtTop}
use Rattle.model.specs.declared.State.{State}
use Rattle.model.proofs.Plan.{perform_map, perform_left}
use Rattle.model.proofs.ArmRules.{ArmSame}
use Rattle.model.proofs.ArmLaws.{arm_same}

-- ---- the step

pub step_same : (w : Windows) (s : State) (op x y z : ℕ) → Outside w s (arm_of op) x y z → map_outcome goes_on (step_of w s op x y z) ≡ settled_rule w s op x y z
unfolding step_of step_plan settled_rule guarded map_plan
step_same w s op x y z h = go (admissible s) (eqb (unruled_by (shapes_of w)) 0)
  where
    a : Arm
    a = arm_of op

    n : ℕ
    n = unruled_by (shapes_of w)

    go : (b c : Bool)
        → map_outcome goes_on (perform both (refusing (shapes_of w)) s (cond b (cond c (from_three s a op x y z) (answer n s 0 [])) (answer 1 s 0 [])) w)
        ≡ perform both (refusing (shapes_of w)) (goes_on s)
        (cond b (cond c (map_plan (spilled_by a) (rule_of s a op x y z)) (answer n (goes_on s) 0 [])) (answer 1 (goes_on s) 0 [])) w
    go true true = sym (unfold ArmSame in arm_same w s a op x y z h)
    go true false = sym (perform_map both goes_on (refusing (shapes_of w)) s (answer n s 0 []) w)
    go false c = sym (perform_map both goes_on (refusing (shapes_of w)) s (answer 1 s 0 []) w)

-- where rS is rO nothing is to be settled
pub spilled_same : (s : State) → sp s r_s ≡ sp s r_o → spilled s ≡ s
unfolding spilled with_special
spilled_same s e = λ i. with_parts s s.general (same i)
  where
    same : set s.special r_s (sp s r_o) ≡ s.special
    same = rw (← e) (set-get_or s.special r_s 0)

settled_top : (a : Arm) (t : After) → AtTop t → spilled_by a t ≡ t
unfolding spilled_by AtTop
settled_top a t h = go (spills_in (row_of a)) t h
  where
    go : (b : Bool) (t : After) → AtTop t → cond b (spilled_after t) t ≡ t
    go false t h = refl
    go true (goes_on t) h = ap goes_on (spilled_same t h)
    go true interrupts h = refl

pub rule_settled : (w : Windows) (s : State) (op x y z : ℕ) → AtTop (step_rule w s op x y z).state → settled_rule w s op x y z ≡ step_rule w s op x y z
unfolding step_rule settled_rule guarded
rule_settled w s op x y z = go (admissible s) (eqb (unruled_by (shapes_of w)) 0)
  where
    refused : ℕ → Plan After
    refused n = answer n (goes_on s) 0 []

    n : ℕ
    n = unruled_by (shapes_of w)

    r : Plan After
    r = rule_of s (arm_of op) op x y z

    at : Plan After → Outcome After Windows
    at p = perform both (refusing (shapes_of w)) (goes_on s) p w

    go : (b c : Bool) → AtTop (at (cond b (cond c r (refused n)) (refused 1))).state
        → at (cond b (cond c (map_plan (spilled_by (arm_of op)) r) (refused n)) (refused 1)) ≡ at (cond b (cond c r (refused n)) (refused 1))
    go true true h = perform_left both (spilled_by (arm_of op)) (refusing (shapes_of w)) (goes_on s) r w (settled_top (arm_of op) (at r).state h)
    go true false h = refl
    go false c h = refl
