-- The state that is made is `fresh_at`.
use Rattle.model.proofs.Logic.{rules}
use Rattle.model.specs.Registers.{fresh, with_special, fresh_at}
use Rattle.model.proofs.State.initialize_at.Goals as goal

pub returns : goal.returns
unfolding fresh with_special fresh_at
returns c = search rules
