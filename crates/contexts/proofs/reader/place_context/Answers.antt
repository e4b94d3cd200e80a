-- `place_context` meets its contract: a context that `locate` found is a part of the window that holds it, and any other part is empty.
use Rattle.model.proofs.Prelude.{reply_by, told_done, told_refused, sym, ◌∙◌, arith, lent}
use Rattle.contexts.proofs.LocateAnswers.{at_err, Standing, stands_at}
use Rattle.contexts.proofs.ReaderAnswers.{context_lent, place_unruled, place_part, place_bad, place_lost}
use Rattle.contexts.proofs.reader.place_context.Goals as goal

pub returns-then-ne : goal.returns-then-ne
returns-then-ne c = place_unruled _ _ _ c.windows_refusal-refusal.ensures (told_refused _ _ c.ne.ensures c.if-ne.true) _ (reply_by _) _ c.nowhere.ensures

pub overflow_add-octas : goal.overflow_add-octas
overflow_add-octas c =
    let s : Standing (lent c.args.at c.args.a.now c.args.b.now) c.in-Ok.context = stands_at _ _ _ c.locate-located.ensures _ c.in-Ok.is in
    omega arith

pub overflow_sub-octas : goal.overflow_sub-octas
overflow_sub-octas c =
    let s : Standing (lent c.args.at c.args.a.now c.args.b.now) c.in-Ok.context = stands_at _ _ _ c.locate-located.ensures _ c.in-Ok.is in
    omega arith

pub held_part-requires : goal.held_part-requires
held_part-requires c =
    let l = context_lent _ _ (sym c.windows_refusal-refusal.ensures ∙ (told_done _ _ c.ne.ensures c.if-ne.false)) _ c.locate-located.ensures _ c.in-Ok.is in
    (l.0, l.1, (sym c.windows_refusal-refusal.ensures ∙ (told_done _ _ c.ne.ensures c.if-ne.false)), l.2)

pub returns-in-Ok : goal.returns-in-Ok
returns-in-Ok c = place_part _ _ (sym c.windows_refusal-refusal.ensures ∙ (told_done _ _ c.ne.ensures c.if-ne.false)) _ c.locate-located.ensures _ c.in-Ok.is _ c.held_part.ensures

pub returns-in-Err-Bad : goal.returns-in-Err-Bad
returns-in-Err-Bad c = place_bad _ _ (sym c.windows_refusal-refusal.ensures ∙ (told_done _ _ c.ne.ensures c.if-ne.false)) _ c.locate-located.ensures _ (at_err _ _ _ c.in-Err-Bad.is (rw c.in-Err-Bad.is at c.in-Err-Bad.field-0-is)) _ c.nowhere-in-Err-Bad.ensures

pub returns-in-Err-Lost : goal.returns-in-Err-Lost
returns-in-Err-Lost c = place_lost _ _ (sym c.windows_refusal-refusal.ensures ∙ (told_done _ _ c.ne.ensures c.if-ne.false)) _ c.locate-located.ensures _ (at_err _ _ _ c.in-Err-Lost.is (rw c.in-Err-Lost.is at c.in-Err-Lost.field-0-is)) _ c.nowhere-in-Err-Lost.ensures
