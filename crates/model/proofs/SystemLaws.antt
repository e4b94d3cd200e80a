-- The laws of SystemRows.
use Rattle.model.proofs.Logic.{[], refl, arith, le-ltb, leb-true}
use Rattle.model.specs.Plan.{All, map_plan}
use Rattle.model.specs.Registers.{reg, following}
use Rattle.model.specs.Opcodes.{SystemArm, put, get, sync, swym, trip, trap, system, none}
use Rattle.model.specs.NoMemory.{tell}
use Rattle.model.specs.Control.{xyz_of, operand_of}
use Rattle.model.specs.Trips.{word_of, trap_of}
use Rattle.model.specs.SystemRows.{system_row, no_row}
use Rattle.model.specs.Step.{refusal_of, plan_of, from_three}
use Rattle.model.specs.StepRule.{rule_of, spilled_by}
use Rattle.model.specs.Departures.{ReadsAlike}
use Rattle.model.proofs.ArmAnswers.{onward, operand_is, put_meets, get_meets, sync_meets, trip_meets}
use Rattle.model.proofs.SeenStates.{reg_same, next_seen}
use Rattle.model.proofs.SeenArms.{done, put_at, get_seen, sync_seen, trip_at, trap_at, operand_same}
use Rattle.model.proofs.ArmRules.{by_plans, operand_read_law, put_done_law, get_done, sync_done}
use Rattle.model.proofs.RaisedRule.{trip_same}
use Rattle.model.proofs.Rules.{got_same}
use Rattle.model.proofs.RowLaws.{Laws}

pub system_laws : (c : SystemArm) → Laws (system c) (system_row c)
unfolding rule_of plan_of refusal_of from_three map_plan spilled_by tell ReadsAlike All trap_of
system_laws (put o) = record {
  meets = λ s W Read R m op x y z wy wz mi. put_meets s W Read R m x (operand_of s o z) (operand_is s W Read R m o z wz);
  seen = λ m s t op x y z h. put_at m s t x _ _ (operand_same m s t o z h) h;
  same = λ w s op x y z h. by_plans w s (system (put o)) op x y z
      (rw (← operand_read_law s o z h.reads, h.put_y o refl, put_done_law s x (operand_of s o z) (h.put_seen o refl) (h.put_legal o refl), h.put_legal o refl));
  flags = tt;
}
system_laws get = record {
  meets = λ s W Read R m op x y z wy wz mi. get_meets s W Read R m x z;
  seen = λ m s t op x y z h. get_seen m s t x z h;
  same = λ w s op x y z h. by_plans w s (system get) op x y z
      (rw (h.get_y refl, h.get_known refl, le-ltb 31 z (leb-true z 31 (h.get_known refl)), get_done s x z (h.get_seen refl), got_same s x z (h.get_local refl)));
  flags = tt;
}
system_laws sync = record {
  meets = λ s W Read R m op x y z wy wz mi. sync_meets s W Read R m (xyz_of x y z);
  seen = λ m s t op x y z h. sync_seen m s t (xyz_of x y z) h;
  same = λ w s op x y z h. by_plans w s (system sync) op x y z (rw (sync_done s (xyz_of x y z) (h.sync_legal refl), h.sync_legal refl));
  flags = tt;
}
system_laws swym = record {
  meets = λ s W Read R m op x y z wy wz mi. m.moves (following s) (onward s W Read R m s);
  seen = λ m s t op x y z h. done m _ _ (next_seen m s t h);
  same = λ w s op x y z h. by_plans w s (system swym) op x y z refl;
  flags = tt;
}
system_laws trip = record {
  meets = λ s W Read R m op x y z wy wz mi. trip_meets s W (λ r t. R r t []) m.word 0 (word_of op x y z) (reg s y) (reg s z) (omega arith) (mi.trips refl);
  seen = λ m s t op x y z h. trip_at m s t _ _ _ _ _ (reg_same m s t y h) (reg_same m s t z h) h;
  same = λ w s op x y z h. by_plans w s (system trip) op x y z (rw (trip_same s 0 (word_of op x y z) (reg s y) (reg s z) (h.trip_loaded refl), h.reads.0, h.reads.1.0));
  flags = tt;
}
system_laws trap = record {
  meets = λ s W Read R m op x y z wy wz mi. mi.traps refl;
  seen = λ m s t op x y z h. trap_at m s t _ _ _ _ _ (reg_same m s t y h) (reg_same m s t z h) h;
  same = λ w s op x y z h. absurd (h.no_trap refl);
  flags = tt;
}

pub no_laws : Laws none no_row
unfolding rule_of plan_of refusal_of from_three map_plan spilled_by tell ReadsAlike All
no_laws = record {
  meets = λ s W Read R m op x y z wy wz mi. m.refuses;
  seen = λ m s t op x y z h. record { reply_same = refl; states = h };
  same = λ w s op x y z h. by_plans w s none op x y z refl;
  flags = tt;
}
