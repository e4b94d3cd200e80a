-- `jump` meets its contract: PC goes to the target, reckoned from PC as it was.
use Rattle.model.proofs.Prelude.{ap, refl, reply_of, made, goes}
use Rattle.arms.proofs.control.jump.Goals as goal

pub returns : goal.returns
unfolding goes reply_of
returns c =
    λ general special halt marks mask.
    record { reply_is = refl; state_is = ap (goes (made general special c.args.pc.now halt marks mask)) c.far.ensures }
