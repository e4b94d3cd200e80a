-- `step` meets its contract: the step is the instruction layer's, and its reply says whether the script goes on.
use Rattle.model.proofs.Prelude.{sym, ◌∙◌, done_zero, zero_done, is_done, is_refused}
use Rattle.script.proofs.Carries.{leaves_done, leaves_refused}
use Rattle.script.proofs.script.step.Goals as goal

pub returns-then-eq-clause-written : goal.returns-then-eq-clause-written
returns-then-eq-clause-written c n = leaves_done n _ _ c.args.i _ _ _ _ _ c.step-stepped.ensures.numbered _ _ c.put_step-end.ensures (done_zero _ (is_done (sym c.eq.ensures ∙ c.if-eq.true)))

pub returns-else-eq-clause-written : goal.returns-else-eq-clause-written
returns-else-eq-clause-written c n = leaves_refused n _ _ c.args.i _ _ _ _ _ c.step-stepped.ensures.numbered _ _ c.put_step-end.ensures (λ z. is_refused (sym c.eq.ensures ∙ c.if-eq.false) (zero_done _ z))
