-- `skip` meets its contract: PC goes to the next tetra and nothing else moves.
use Rattle.model.proofs.Prelude.{refl, reply_of, made}
use Rattle.arms.proofs.Prelude.{next_is}
use Rattle.arms.proofs.system.skip.Goals as goal

pub returns : goal.returns
unfolding reply_of
returns c =
    λ general special halt marks mask.
    let s = made general special c.args.pc.now halt marks mask in
    record { reply_is = refl; state_is = next_is s s refl _ c.following.ensures }
