-- `go_to` meets its contract: the next tetra's address goes into $X, and PC to the target.
use Rattle.model.proofs.Prelude.{ap, ◌∙◌, state_lent, set_register, with_parts}
use Rattle.arms.proofs.Prelude.{goes_is}
use Rattle.arms.proofs.registers.go_to.Goals as goal

pub returns-clause-went : goal.returns-clause-went
returns-clause-went c =
    let a = c.args in
    let s = state_lent a.s.now in
    goes_is (with_parts s _ _) _ (c.set_register.ensures s ∙ ap (set_register s a.x) c.following.ensures) _
