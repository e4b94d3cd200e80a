-- `pop_asks` meets its contract: with no frame, nothing; the octabyte below rO; then the locals.
use Rattle.model.proofs.Prelude.{no_holder, some_holder, sym, ◌∙◌, arith, made}
use Rattle.task_run.proofs.Asks.{differ, pop_nothing, pop_foreign, pop_missing, pop_rest}
use Rattle.task_run.proofs.ask.pop_asks.Goals as goal

pub returns-then-ro-le-STACK_START : goal.returns-then-ro-le-STACK_START
returns-then-ro-le-STACK_START c = λ general pc halt marks mask. pop_nothing _ _ (made general _ pc halt marks mask) (λ q. omega (arith, q.above))

pub returns-then-ro-ne0 : goal.returns-then-ro-ne0
returns-then-ro-ne0 c = λ general pc halt marks mask. pop_nothing _ _ (made general _ pc halt marks mask) (λ q. c.if-ro-ne0.true q.even)

pub returns-then-is_negative : goal.returns-then-is_negative
returns-then-is_negative c = λ general pc halt marks mask.
    pop_nothing _ _ (made general _ pc halt marks mask) (λ q. differ (sym c.if-is_negative.true ∙ c.is_negative.ensures ∙ q.positive))

pub returns-then-is_foreign : goal.returns-then-is_foreign
returns-then-is_foreign c = λ general pc halt marks mask.
    pop_foreign _ _ (made general _ pc halt marks mask) c.requires (record { above = c.if-ro-le-STACK_START.false; even = c.if-ro-ne0.false; positive = sym c.is_negative.ensures ∙ c.if-is_negative.false }) _ c.is_foreign.ensures c.if-is_foreign.true

pub returns-then-is_none : goal.returns-then-is_none
returns-then-is_none c = λ general pc halt marks mask.
    pop_missing _ _ (made general _ pc halt marks mask) c.requires (record { above = c.if-ro-le-STACK_START.false; even = c.if-ro-ne0.false; positive = sym c.is_negative.ensures ∙ c.if-is_negative.false }) _ c.is_foreign.ensures c.if-is_foreign.false
    _ c.read_octa-octa.ensures.1 (no_holder _ _ c.is_none.ensures c.if-is_none.true)

pub returns : goal.returns
returns c = λ general pc halt marks mask.
    pop_rest _ _ (made general _ pc halt marks mask) c.requires (record { above = c.if-ro-le-STACK_START.false; even = c.if-ro-ne0.false; positive = sym c.is_negative.ensures ∙ c.if-is_negative.false }) _ c.is_foreign.ensures c.if-is_foreign.false
    _ c.read_octa-octa.ensures.1 (some_holder _ _ c.is_none.ensures c.if-is_none.false) _ _ c.read_octa-octa.ensures.0 c.min-n.ensures _ c.has_foreign.ensures
