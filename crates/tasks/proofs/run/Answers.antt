-- `run` meets its contract: refused whole, or the turns of its tasks.
use Rattle.model.proofs.Prelude.{told_done, told_refused, number_of, sym, ◌∙◌, arith}
use Rattle.model.specs.Lent.{windows_lent}
use Rattle.tasks.proofs.Ends.{bytes_read, refusal_read, leaves_refused, ready_first, opened_at, leaves_done}
use Rattle.tasks.proofs.run.Goals as goal

pub returns-then-ne-clause-ran : goal.returns-then-ne-clause-ran
returns-then-ne-clause-ran c =
    let a = c.args in
    leaves_refused a.images.now (windows_lent a.windows.now) a.parts.now a.q a.grant _ (refusal_read _ _ _ _ _ _ _ c.call_refusal-refused.ensures c.read-lent.ensures) (told_refused _ _ c.ne.ensures c.if-ne.true)

pub rounds-requires : goal.rounds-requires
rounds-requires c =
    let a = c.args in
    ready_first a.images.now (windows_lent a.windows.now) a.parts.now a.q a.grant
    (sym (refusal_read _ _ _ _ _ _ _ c.call_refusal-refused.ensures c.read-lent.ensures) ∙ told_done _ _ c.ne.ensures c.if-ne.false)

pub returns-clause-ran : goal.returns-clause-ran
unfolding number_of
returns-clause-ran c =
    let a = c.args in
    let w = windows_lent a.windows.now in
    let open_is = sym (refusal_read _ _ _ _ _ _ _ c.call_refusal-refused.ensures c.read-lent.ensures) ∙ told_done _ _ c.ne.ensures c.if-ne.false in
    let same = c.rounds.ensures.same.0 in
    let images = c.images-1.given.1.1 (sym same.0) in
    let counts = c.counts-2-1.given.1 (sym same.1) in
    let refusals = c.refusals-2-1.given.1 (sym same.2) in
    rw (images, counts, refusals) (
    leaves_done a.images.now w a.parts.now a.q a.grant open_is (λ i. omega (arith, c.slice_known-1.given i))
    (bytes_read _ w (record { byte_a = c.known.ensures; byte_b = c.known-2.ensures }) c.read-lent.ensures) _ _ _ _
    (c.rounds.ensures.shown _ (opened_at a.images.now w a.parts.now a.q a.grant open_is)))
