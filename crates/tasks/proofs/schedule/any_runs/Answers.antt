-- `any_runs` meets its contract: a task that runs is one whose refusal is 0.
use Rattle.model.proofs.Prelude.{◌∙◌}
use Rattle.tasks.proofs.Rounds.{one_among}
use Rattle.tasks.proofs.schedule.any_runs.Goals as goal

pub returns : goal.returns
returns c = λ gs e. c.contains.ensures.value ∙ one_among c.args.refusals.now gs e c.args.n c.requires
