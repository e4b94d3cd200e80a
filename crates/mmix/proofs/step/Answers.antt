-- `step` meets its contract: the state in parts takes the step, and is put together again.
use Rattle.mmix.proofs.step.Goals as goal

pub returns : goal.returns
returns c = c.mmix_step_parts-reply.ensures
