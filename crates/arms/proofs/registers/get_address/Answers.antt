-- `get_address` meets its contract: the target goes into $X, and PC to the next tetra.
use Rattle.model.proofs.Prelude.{ap, refl, ◌∙◌, reply_of, state_lent, set_register, with_parts}
use Rattle.arms.proofs.Prelude.{next_is}
use Rattle.arms.proofs.registers.get_address.Goals as goal

pub returns-clause-told : goal.returns-clause-told
unfolding reply_of
returns-clause-told c =
    let a = c.args in
    let s = state_lent a.s.now in
    record {
      reply_is = refl;
      state_is = next_is (with_parts s _ _) _ (c.set_register.ensures s ∙ ap (set_register s a.i.now.x) c.near.ensures) _ c.following-s.ensures;
    }
