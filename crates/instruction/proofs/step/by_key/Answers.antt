-- `by_key` meets its contract: the key that matched names the arm, and what the arm ensures is the step; no key, then a range's arm or none.
use Rattle.model.proofs.Prelude.{ℕ, false, List, [], ◌∷◌, refl, ◌≡◌, ne_eqb, among, arm_of, control, direction_of, first_branch, get_address, go, jump}
use Rattle.model.proofs.Prelude.{last_branch, last_of, none, op_get, op_geta, op_getab, op_go, op_goi, op_jmp, op_jmpb, op_pop, op_pushgo, op_pushgoi, op_pushj, op_pushjb}
use Rattle.model.proofs.Prelude.{op_put, op_puti, op_save, op_swym, op_sync, op_trap, op_trip, op_unsave, pop, save, stack, swym, sync, system, trip, unsave, state_lent}
use Rattle.model.proofs.Prelude.{Missed, missed}
use Rattle.instruction.proofs.Prelude.{admissible_placed, NoCall, only_step, quiet_step, touching_step}
use Rattle.contexts.specs.SaveUnsave.{save_in, unsave_in}
use Rattle.exceptions.specs.Interrupts.{trip_of}
use Rattle.arms.proofs.RefusableArms.{get_step, trap_step'}
use Rattle.arms.proofs.Keys.{outside}
use Rattle.arms.proofs.LoadStoreArms.{OutOfRange, ranged_step}
use Rattle.instruction.proofs.step.by_key.Goals as goal

-- the keys in their order: what is none of them, no branch, no call and in no range has no arm
abbrev keys : List ℕ
keys = op_trap ∷ op_go ∷ op_goi ∷ op_jmp ∷ op_jmpb ∷ op_geta ∷ op_getab
    ∷ op_pop ∷ op_save ∷ op_unsave ∷ op_sync ∷ op_swym ∷ op_get ∷ op_trip ∷ []

no_arm : (op : ℕ) → among first_branch last_branch op ≡ false → NoCall op → Missed keys op → OutOfRange op → arm_of op ≡ none
unfolding arm_of
no_arm op b n m r =
    simp (
      b,
      r.no_load,
      r.no_store,
      r.no_arithmetic,
      outside op op_put op_puti op_put refl r.no_put,
      outside op op_put op_puti op_puti refl r.no_put,
      ne_eqb op op_pushgo n.0,
      ne_eqb op op_pushgoi n.1,
      ne_eqb op op_pushj n.2,
      ne_eqb op op_pushjb n.3,
      missed keys op m,
    )

pub returns-in-0-clause-replied : goal.returns-in-0-clause-replied
unfolding arm_of
returns-in-0-clause-replied c =
    trap_step' _ _ c.requires.0 c.requires.1 _ _ _ _ _ _ (rw c.in-0.is) (c.trap_arm.ensures.told)

pub returns-in-158-clause-replied : goal.returns-in-158-clause-replied
unfolding arm_of
returns-in-158-clause-replied c =
    quiet_step _ _ c.requires.0 c.requires.1 _ _ _ _ _ _ (control (go (last_of c.args.i.now.op))) (rw c.in-158.is) _ refl refl (c.go_by.ensures.told)

pub returns-in-159-clause-replied : goal.returns-in-159-clause-replied
unfolding arm_of
returns-in-159-clause-replied c =
    quiet_step _ _ c.requires.0 c.requires.1 _ _ _ _ _ _ (control (go (last_of c.args.i.now.op))) (rw c.in-159.is) _ refl refl (c.go_by-in-159.ensures.told)

pub returns-in-240-clause-replied : goal.returns-in-240-clause-replied
unfolding arm_of
returns-in-240-clause-replied c =
    quiet_step _ _ c.requires.0 c.requires.1 _ _ _ _ _ _ (control (jump (direction_of c.args.i.now.op))) (rw c.in-240.is) _ refl refl (let s = state_lent c.args.s.now in c.jump.ensures s.general s.special s.halt s.marks s.mask)

pub returns-in-241-clause-replied : goal.returns-in-241-clause-replied
unfolding arm_of
returns-in-241-clause-replied c =
    quiet_step _ _ c.requires.0 c.requires.1 _ _ _ _ _ _ (control (jump (direction_of c.args.i.now.op))) (rw c.in-241.is) _ refl refl (let s = state_lent c.args.s.now in c.jump-in-241.ensures s.general s.special s.halt s.marks s.mask)

pub returns-in-244-clause-replied : goal.returns-in-244-clause-replied
unfolding arm_of
returns-in-244-clause-replied c =
    quiet_step _ _ c.requires.0 c.requires.1 _ _ _ _ _ _ (control (get_address (direction_of c.args.i.now.op))) (rw c.in-244.is) _ refl refl (c.get_address.ensures.told)

pub returns-in-245-clause-replied : goal.returns-in-245-clause-replied
unfolding arm_of
returns-in-245-clause-replied c =
    quiet_step _ _ c.requires.0 c.requires.1 _ _ _ _ _ _ (control (get_address (direction_of c.args.i.now.op))) (rw c.in-245.is) _ refl refl (c.get_address-in-245.ensures.told)

pub returns-in-248-clause-replied : goal.returns-in-248-clause-replied
unfolding arm_of
returns-in-248-clause-replied c =
    only_step _ _ c.requires.0 c.requires.1 _ _ _ _ _ _ (stack pop) (rw c.in-248.is) _ refl _ _ (admissible_placed _ c.requires.0) _ refl (rw c.read.ensures at c.pop_to_judged.ensures.replied)

pub returns-in-250-clause-replied : goal.returns-in-250-clause-replied
unfolding arm_of save_in
returns-in-250-clause-replied c =
    only_step _ _ c.requires.0 c.requires.1 _ _ _ _ _ _ (stack save) (rw c.in-250.is) _ refl _ _ c.requires.0 _ refl c.save_to_judged.ensures.replied

pub returns-in-251-clause-replied : goal.returns-in-251-clause-replied
unfolding arm_of unsave_in
returns-in-251-clause-replied c =
    touching_step _ _ c.requires.0 c.requires.1 _ _ _ _ _ _ (stack unsave) (rw c.in-251.is) _ refl _ (rw c.read-in-251.ensures at c.unsave_register.ensures.replied)

pub returns-in-252-clause-replied : goal.returns-in-252-clause-replied
unfolding arm_of
returns-in-252-clause-replied c =
    quiet_step _ _ c.requires.0 c.requires.1 _ _ _ _ _ _ (system sync) (rw c.in-252.is) _ refl refl (let s = state_lent c.args.s.now in c.synchronize.ensures s.general s.special s.marks s.mask)

pub returns-in-253-clause-replied : goal.returns-in-253-clause-replied
unfolding arm_of
returns-in-253-clause-replied c =
    quiet_step _ _ c.requires.0 c.requires.1 _ _ _ _ _ _ (system swym) (rw c.in-253.is) _ refl refl (let s = state_lent c.args.s.now in c.skip.ensures s.general s.special s.halt s.marks s.mask)

pub returns-in-254-clause-replied : goal.returns-in-254-clause-replied
unfolding arm_of
returns-in-254-clause-replied c =
    get_step _ _ c.requires.0 c.requires.1 _ _ _ _ _ _ (rw c.in-254.is) (c.get_special.ensures.told)

pub returns-in-255-clause-replied : goal.returns-in-255-clause-replied
unfolding arm_of trip_of
returns-in-255-clause-replied c =
    quiet_step _ _ c.requires.0 c.requires.1 _ _ _ _ _ _ (system trip) (rw c.in-255.is) _ refl refl (c.trip_arm.ensures.told)

pub returns-in_default-clause-replied : goal.returns-in_default-clause-replied
returns-in_default-clause-replied c =
    ranged_step _ _ c.requires.0 c.requires.1 _ _ _ _ _ _ _ (no_arm _ c.requires.2 c.requires.3 c.in_default.in_default-own.rest) c.by_range.ensures.replied
