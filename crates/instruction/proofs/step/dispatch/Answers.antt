-- `dispatch` meets its contract: the branches' question or the key of a call names the arm, and what the arm ensures is the step; the rest is `by_key`'s.
use Rattle.model.proofs.Prelude.{ap, refl, sym, ◌∙◌, hole, push_frame, arm_of, direction_of, last_of, push_go, push_jump, stack, windows_lent, state_lent}
use Rattle.instruction.proofs.Prelude.{branch_arm, admissible_placed, branch_of, only_step, quiet_step}
use Rattle.instruction.proofs.step.dispatch.Goals.{in-190, in-191, in-242, in-243}
use Rattle.instruction.proofs.step.dispatch.Goals as goal

pub returns-then-is_among-clause-replied : goal.returns-then-is_among-clause-replied
unfolding branch_of
returns-then-is_among-clause-replied c =
    quiet_step _ _ c.requires.0 c.requires.1 _ _ _ _ _ _ _ (branch_arm _ (sym c.is_among.ensures ∙ c.if-is_among.true)) _ refl refl (let s = state_lent c.args.s.now in c.branch-s.ensures s.special s.halt s.marks s.mask)

pub by_key-requires : goal.by_key-requires
by_key-requires c =
    let missed = c.in_default.in_default-own.rest in
    (c.requires.0, c.requires.1, sym c.is_among.ensures ∙ c.if-is_among.false, (missed.0.0.0.1, missed.0.0.1, missed.0.1, missed.1))

pub returns-clause-replied : goal.returns-clause-replied
unfolding arm_of
returns-clause-replied c =
    let a = c.args in
    let w1 = windows_lent a.w.now in
    let s = state_lent a.s.now in
    let called = c.push_to_judged.ensures.replied in
    elim c.match-i.branch [
      | in-190 w ↦ only_step w1 s c.requires.0 c.requires.1 _ _ _ _ _ _ (stack (push_go (last_of a.i.now.op))) (rw w.in-190.is) _ refl _ _ (admissible_placed s c.requires.0) _ (ap (push_frame s (hole s _)) (sym (w.target-is ∙ w.sum-target.ensures s.special s.pc s.halt s.marks s.mask))) called
      | in-191 w ↦ only_step w1 s c.requires.0 c.requires.1 _ _ _ _ _ _ (stack (push_go (last_of a.i.now.op))) (rw w.in-191.is) _ refl _ _ (admissible_placed s c.requires.0) _ (ap (push_frame s (hole s _)) (sym (w.target-is ∙ w.sum-target-in-191.ensures s.special s.pc s.halt s.marks s.mask))) called
      | in-242 w ↦ only_step w1 s c.requires.0 c.requires.1 _ _ _ _ _ _ (stack (push_jump (direction_of a.i.now.op))) (rw w.in-242.is) _ refl _ _ (admissible_placed s c.requires.0) _ (ap (push_frame s (hole s _)) (sym (w.target-is ∙ w.near-target.ensures))) called
      | in-243 w ↦ only_step w1 s c.requires.0 c.requires.1 _ _ _ _ _ _ (stack (push_jump (direction_of a.i.now.op))) (rw w.in-243.is) _ refl _ _ (admissible_placed s c.requires.0) _ (ap (push_frame s (hole s _)) (sym (w.target-is ∙ w.near-target-in-243.ensures))) called
    ]
