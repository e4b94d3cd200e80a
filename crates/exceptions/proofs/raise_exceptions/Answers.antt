-- `raise_exceptions` meets its contract: 1, then what is raised.
use Rattle.model.proofs.Prelude.{not, ap, sym, ◌∙◌, not-false, not-true, state_lent}
use Rattle.exceptions.proofs.Interrupts.{not_admissible, exception_told}
use Rattle.exceptions.proofs.raise_exceptions.Goals as goal

pub returns-then-not-admissible-clause-told : goal.returns-then-not-admissible-clause-told
returns-then-not-admissible-clause-told c = not_admissible (state_lent c.args.s.now) _ _ _ _ _ _ _ (sym (c.admissible.ensures _ _ _) ∙ not-true _ (ap not c.if-not-admissible.true))

pub returns-clause-told : goal.returns-clause-told
returns-clause-told c =
    exception_told (state_lent c.args.s.now) _ _ _ _ _ _ _ _ _ (sym (c.admissible.ensures _ _ _) ∙ not-false _ (ap not c.if-not-admissible.false)) (rw c.word_of-word.ensures at c.raise.ensures.told)
