-- `go_by` meets its contract: the sum is read before $X is written.
use Rattle.model.proofs.Prelude.{ap, refl, ◌∙◌, reply_of, state_lent}
use Rattle.arms.specs.Arms.{go_to}
use Rattle.arms.proofs.control.go_by.Goals as goal

pub returns-clause-told : goal.returns-clause-told
unfolding reply_of
returns-clause-told c =
    let a = c.args in
    let s = state_lent a.s.now in
    record {
      reply_is = refl;
      state_is = c.go_to.ensures.went ∙ ap (go_to s a.i.now.x) (c.sum-target.ensures s.special s.pc s.halt s.marks s.mask);
    }
