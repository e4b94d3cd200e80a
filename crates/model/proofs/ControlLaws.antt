-- The laws of ControlRows.
use Rattle.model.proofs.Logic.{◌+◌, [], refl}
use Rattle.model.specs.Plan.{All, map_plan}
use Rattle.model.specs.Registers.{reg, following, set_register}
use Rattle.model.specs.Opcodes.{ControlArm, branch, jump, get_address, go, control}
use Rattle.model.specs.NoMemory.{tell}
use Rattle.model.specs.Control.{branch_fields, jump_fields, target_of, near, far, yz_of, xyz_of, sum_of, operand_of, holds}
use Rattle.model.specs.ControlRows.{control_row}
use Rattle.model.specs.Step.{refusal_of, plan_of, from_three}
use Rattle.model.specs.StepRule.{rule_of, spilled_by}
use Rattle.model.specs.Departures.{ReadsAlike}
use Rattle.model.specs.declared.State.{State}
use Rattle.model.proofs.Bools.{on}
use Rattle.model.proofs.ArmAnswers.{small, target_small, onward}
use Rattle.model.proofs.SeenStates.{Seen, reg_same, following_same, goes_seen, next_seen, write_seen}
use Rattle.model.proofs.SeenArms.{by_test, done, sum_same}
use Rattle.model.proofs.ArmRules.{by_plans, sum_read_law}
use Rattle.model.proofs.RowLaws.{Laws}

pub control_laws : (c : ControlArm) → Laws (control c) (control_row c)
unfolding rule_of plan_of refusal_of from_three map_plan spilled_by tell ReadsAlike All
control_laws (branch c d) = record {
  meets = λ s W Read R m op x y z wy wz mi. on (λ (t : State). R 0 t []) (holds c (reg s x))
      (λ e. m.moves (near s d y z) (m.word _ (target_small s.pc d branch_fields (yz_of y z)))) (λ e. m.moves (following s) (onward s W Read R m s));
  seen = λ m s t op x y z h. done m _ _ (by_test (Seen m) (holds c (reg s x)) (holds c (reg t x)) (λ i. holds c (reg_same m s t x h i))
      (λ e. goes_seen m s t _ _ (λ i. target_of (h.pc_same i) d branch_fields (yz_of y z)) h) (λ e. next_seen m s t h));
  same = λ w s op x y z h. by_plans w s (control (branch c d)) op x y z (rw h.reads.0);
  flags = tt;
}
control_laws (jump d) = record {
  meets = λ s W Read R m op x y z wy wz mi. m.moves (far s d x y z) (m.word _ (target_small s.pc d jump_fields (xyz_of x y z)));
  seen = λ m s t op x y z h. done m _ _ (goes_seen m s t _ _ (λ i. target_of (h.pc_same i) d jump_fields (xyz_of x y z)) h);
  same = λ w s op x y z h. by_plans w s (control (jump d)) op x y z refl;
  flags = tt;
}
control_laws (get_address d) = record {
  meets = λ s W Read R m op x y z wy wz mi.
      m.writes x (near s d y z) _ (m.word _ (target_small s.pc d branch_fields (yz_of y z))) (onward s W Read R m (set_register s x (near s d y z)));
  seen = λ m s t op x y z h. done m _ _ (next_seen m _ _ (write_seen m s t x _ _ (λ i. target_of (h.pc_same i) d branch_fields (yz_of y z)) h));
  same = λ w s op x y z h. by_plans w s (control (get_address d)) op x y z refl;
  flags = tt;
}
control_laws (go o) = record {
  meets = λ s W Read R m op x y z wy wz mi. m.writes x (following s) (sum_of s o y z) (onward s W Read R m s) (m.word _ (small (reg s y + operand_of s o z)));
  seen = λ m s t op x y z h. done m _ _ (goes_seen m _ _ _ _ (sum_same m s t o y z h) (write_seen m s t x _ _ (following_same m s t h) h));
  same = λ w s op x y z h. by_plans w s (control (go o)) op x y z (rw (sum_read_law s o y z h.reads));
  flags = tt;
}
