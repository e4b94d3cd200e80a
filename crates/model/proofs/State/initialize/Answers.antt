-- With the stack at its usual start the state is `fresh`.
use Rattle.model.proofs.Logic.{refl, ◌∙◌, ◌≡◌}
use Rattle.model.specs.Registers.{stack_start, fresh, with_special, fresh_at}
use Rattle.model.proofs.State.initialize.Goals as goal

at_start : fresh_at stack_start ≡ fresh
unfolding fresh with_special fresh_at
at_start = refl

pub returns : goal.returns
returns c = c.initialize_at.ensures ∙ at_start
