-- `save_asks` meets its contract: nothing below rG, and else the context.
use Rattle.model.proofs.Prelude.{le-ltb, lt-ltb}
use Rattle.task_run.proofs.Prelude.{any_foreign}
use Rattle.task_run.proofs.ask.save_asks.Goals as goal

pub returns-then-x-rg : goal.returns-then-x-rg
unfolding any_foreign
returns-then-x-rg c = λ general pc halt marks mask. simp (lt-ltb _ _ c.if-x-rg.true)

pub returns : goal.returns
returns c = λ general pc halt marks mask. simp (le-ltb _ _ c.if-x-rg.false) c.has_foreign.ensures
