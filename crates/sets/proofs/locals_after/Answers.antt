-- `locals_after` meets its contract: PUT rL lowers it, and nothing else moves it.
use Rattle.model.proofs.Prelude.{eq-eqb, ne_eqb}
use Rattle.sets.specs.Judged.{locals_after}
use Rattle.sets.proofs.locals_after.Goals as goal

pub returns-then-x-eq-RL : goal.returns-then-x-eq-RL
unfolding locals_after
returns-then-x-eq-RL c = rw (eq-eqb _ 20 c.if-x-eq-RL.true) c.min.ensures

pub returns : goal.returns
unfolding locals_after
returns c = rw (ne_eqb _ 20 c.if-x-eq-RL.false)
