-- `save_context_layout` meets its contract: the count outside, above the threshold, and the layout.
use Rattle.model.proofs.Prelude.{sym, ◌∙◌, reply_by, told_done, told_refused}
use Rattle.contexts.proofs.Prelude.{missing_by}
use Rattle.contexts.proofs.ContextPlaces.{layout_outside, layout_excess, layout_found}
use Rattle.contexts.proofs.layout.save_context_layout.Goals as goal

pub returns-then-ne : goal.returns-then-ne
returns-then-ne c =
    let run = c.run_refusal-reply.ensures in
    let refused = told_refused _ _ c.ne.ensures c.if-ne.true in
    layout_outside _ _ _ _ c.wrapping_sub-marker.ensures (λ z. refused (run ∙ z)) _ (missing_by _ _ _ _ run refused _ (reply_by _))

pub returns-then-rg-count : goal.returns-then-rg-count
returns-then-rg-count c =
    let lent = sym c.run_refusal-reply.ensures ∙ told_done _ _ c.ne.ensures c.if-ne.false in
    layout_excess _ _ _ _ c.wrapping_sub-marker.ensures _ lent c.read_octa-octa.ensures.0 c.if-rg-count.true

pub returns : goal.returns
returns c =
    let lent = sym c.run_refusal-reply.ensures ∙ told_done _ _ c.ne.ensures c.if-ne.false in
    layout_found _ _ _ _ c.wrapping_sub-marker.ensures _ lent c.read_octa-octa.ensures.0 _
    c.if-rg-count.false c.wrapping_sub-locals_base.ensures
