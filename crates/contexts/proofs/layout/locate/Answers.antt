-- `locate` meets its contract: each way out is a stage of the context plan, in its order 6, 14, 15, 6, 16, 6.
use Rattle.model.proofs.Prelude.{sym, ◌∙◌, arith, reply_by, told_done, told_refused}
use Rattle.std.proofs.lemmas.Result.{err_from_is_err_and}
use Rattle.contexts.proofs.Prelude.{missing_by}
use Rattle.contexts.proofs.ContextPlaces.{told_count, way_lost, way_threshold, way_status, way_from, way_short, way_found}
use Rattle.contexts.proofs.layout.locate.Goals as goal

pub returns-then-ne : goal.returns-then-ne
returns-then-ne c =
    let run = c.run_refusal-reply.ensures in
    let refused = told_refused _ _ c.ne.ensures c.if-ne.true in
    way_lost _ _ (λ z. refused (run ∙ z)) _ (missing_by _ _ _ _ run refused _ (reply_by _))

pub returns-then-rg-lt-THRESHOLD_MIN : goal.returns-then-rg-lt-THRESHOLD_MIN
returns-then-rg-lt-THRESHOLD_MIN c =
    let lent = sym c.run_refusal-reply.ensures ∙ told_done _ _ c.ne.ensures c.if-ne.false in
    way_threshold _ _ _ lent c.read_octa-octa.ensures.0 c.if-rg-lt-THRESHOLD_MIN.true

pub returns-then-ra-gt-STATUS_MAX : goal.returns-then-ra-gt-STATUS_MAX
returns-then-ra-gt-STATUS_MAX c =
    let lent = sym c.run_refusal-reply.ensures ∙ told_done _ _ c.ne.ensures c.if-ne.false in
    way_status _ _ _ lent c.read_octa-octa.ensures.0 c.if-rg-lt-THRESHOLD_MIN.false (omega arith) c.if-ra-gt-STATUS_MAX.true

pub returns-in_err-layout : goal.returns-in_err-layout
returns-in_err-layout c =
    let lent = sym c.run_refusal-reply.ensures ∙ told_done _ _ c.ne.ensures c.if-ne.false in
    let p = err_from_is_err_and c.from_residual.result c.from_residual.ensures.1 in
    rw p.1 (way_from _ _ _ lent c.read_octa-octa.ensures.0 c.if-rg-lt-THRESHOLD_MIN.false (omega arith) c.if-ra-gt-STATUS_MAX.false _ c.save_context_layout.ensures
    _ _ c.in_err-layout.was p.2)

pub overflow_add-count : goal.overflow_add-count
overflow_add-count c = omega (arith, told_count _ _ _ _ c.save_context_layout.ensures _ c.in_ok-layout.was)

pub returns-then-ne-2 : goal.returns-then-ne-2
returns-then-ne-2 c =
    let lent = sym c.run_refusal-reply.ensures ∙ told_done _ _ c.ne.ensures c.if-ne.false in
    let run = c.run_refusal-short.ensures in
    let refused = told_refused _ _ c.ne-2.ensures c.if-ne-2.true in
    way_short _ _ _ lent c.read_octa-octa.ensures.0 c.if-rg-lt-THRESHOLD_MIN.false (omega arith) c.if-ra-gt-STATUS_MAX.false _ c.save_context_layout.ensures
    _ c.in_ok-layout.was (λ z. refused (run ∙ z)) _ (missing_by _ _ _ _ run refused _ (reply_by _))

pub returns : goal.returns
returns c =
    let lent = sym c.run_refusal-reply.ensures ∙ told_done _ _ c.ne.ensures c.if-ne.false in
    way_found _ _ _ lent c.read_octa-octa.ensures.0 c.if-rg-lt-THRESHOLD_MIN.false (omega arith) c.if-ra-gt-STATUS_MAX.false _ c.save_context_layout.ensures
    _ c.in_ok-layout.was (sym c.run_refusal-short.ensures ∙ told_done _ _ c.ne-2.ensures c.if-ne-2.false)
