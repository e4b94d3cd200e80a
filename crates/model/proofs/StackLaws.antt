-- The laws of StackRows.
use Rattle.model.proofs.Logic.{◌%◌, ◌*◌, ◌+◌, ◌^◌, inl, refl, arith}
use Rattle.model.specs.Plan.{All, map_plan}
use Rattle.model.specs.Registers.{r_j, sp, reg, halted}
use Rattle.model.specs.Opcodes.{StackArm, push_jump, push_go, pop, save, unsave, stack}
use Rattle.model.specs.NoMemory.{tell}
use Rattle.model.specs.Control.{branch_fields, target_of, near, yz_of, sum_of, operand_of}
use Rattle.model.specs.Frames.{hole, push_frame}
use Rattle.model.specs.Contexts.{unsaved, unsave_context}
use Rattle.model.specs.Row.{sum_read}
use Rattle.model.specs.StackRows.{frame_read, stack_row}
use Rattle.model.specs.Step.{refusal_of, plan_of, from_three}
use Rattle.model.specs.StepRule.{rule_of, spilled_by}
use Rattle.model.specs.Departures.{ReadsZero, ReadsAlike}
use Rattle.model.proofs.ArmAnswers.{Answers, small, target_small, onward, pop_meets, save_meets, context_meets}
use Rattle.model.proofs.SeenStates.{j_same, reg_same, next_seen, halted_seen, unsaved_seen}
use Rattle.model.proofs.SeenArms.{call_seen, pop_seen, save_seen, context_seen, sum_same}
use Rattle.model.proofs.ArmNeeds.{push_needs, pop_needs', save_needs, unsave_needs'}
use Rattle.model.proofs.Plan.{All_left, All_right}
use Rattle.model.proofs.ArmRules.{by_plans, sum_read_law, frame_read_law, pop_framed, save_done, unsave_arm}
use Rattle.model.proofs.Rules.{pop_plans, push_plans}
use Rattle.model.proofs.RowLaws.{Laws}

pub stack_laws : (c : StackArm) → Laws (stack c) (stack_row c)
unfolding rule_of plan_of refusal_of from_three map_plan spilled_by tell ReadsAlike All Answers push_frame unsave_context
stack_laws (push_jump d) = record {
  meets = λ s W Read R m op x y z wy wz mi. m.pushes x (near s d y z) (m.word _ (target_small s.pc d branch_fields (yz_of y z)));
  seen = λ m s t op x y z h. call_seen m s t x _ _ (λ i. target_of (h.pc_same i) d branch_fields (yz_of y z)) h;
  same = λ w s op x y z h. by_plans w s (stack (push_jump d)) op x y z (push_plans s x (near s d y z) (frame_read_law s x h.reads));
  flags = tt;
  needs = λ w s op x y z. push_needs w s (hole s x) (near s d y z);
}
stack_laws (push_go o) = record {
  meets = λ s W Read R m op x y z wy wz mi. m.pushes x (sum_of s o y z) (m.word _ (small (reg s y + operand_of s o z)));
  seen = λ m s t op x y z h. call_seen m s t x _ _ (sum_same m s t o y z h) h;
  same = λ w s op x y z h. by_plans w s (stack (push_go o)) op x y z
      (rw (sum_read_law s o y z (All_left (ReadsZero s) (sum_read o y z) (frame_read s x) h.reads))
      (push_plans s x (sum_of s o y z) (frame_read_law s x (All_right (ReadsZero s) (sum_read o y z) (frame_read s x) h.reads))));
  flags = tt;
  needs = λ w s op x y z. push_needs w s (hole s x) (sum_of s o y z);
}
stack_laws pop = record {
  meets = λ s W Read R m op x y z wy wz mi. pop_meets s W Read R m x _ (m.word _ (small (sp s r_j + 4 * yz_of y z)));
  seen = λ m s t op x y z h. pop_seen m s t x _ _ (λ i. (j_same m s t h i + 4 * yz_of y z) % 2 ^ 64) h;
  same = λ w s op x y z h. by_plans w s (stack pop) op x y z
      (rw (pop_framed s x ((sp s r_j + 4 * yz_of y z) % 2 ^ 64) (h.pop_frame' refl) (h.pop_placed refl))
      (pop_plans s x ((sp s r_j + 4 * yz_of y z) % 2 ^ 64) (h.pop_frame' refl) (h.pop_placed refl)));
  flags = tt;
  needs = λ w s op x y z. pop_needs' w s x _;
}
stack_laws save = record {
  meets = λ s W Read R m op x y z wy wz mi. save_meets s W Read R m x;
  seen = λ m s t op x y z h. save_seen m s t x h;
  same = λ w s op x y z h. by_plans w s (stack save) op x y z (rw ((h.save_yz refl).0, (h.save_yz refl).1, save_done s x (h.save_global refl), h.save_global refl));
  flags = tt;
  needs = λ w s op x y z. save_needs w s x;
}
stack_laws unsave = record {
  meets = λ s W Read R m op x y z wy wz mi. context_meets (halted s) _ (reg s z) Read R (λ n a b. m.halts n (inl (omega arith, omega arith)))
      (λ o g a l vs c. m.unsaves o g a l vs _ (onward s W Read R m (unsaved s o g a l vs)) (m.word o c));
  seen = λ m s t op x y z h. context_seen m _ _ _ _ _ _ (reg_same m s t z h) (halted_seen m s t h) (λ o g a l vs. next_seen m _ _ (unsaved_seen m s t o g a l vs h));
  same = λ w s op x y z h. unsave_arm w s op x y z (h.unsave_xy refl).0 (h.unsave_xy refl).1 h.reads.0 (h.unsave_low refl) (h.unsave_taken refl);
  flags = tt;
  needs = λ w s op x y z. unsave_needs' w s (reg s z);
}
