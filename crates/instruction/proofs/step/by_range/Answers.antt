-- `by_range` meets its contract: each question is one of the ranges', in their order.
use Rattle.model.proofs.Prelude.{refl, sym, ◌∙◌, reply_of}
use Rattle.instruction.proofs.Prelude.{ranged_of}
use Rattle.std.proofs.Common.{rules}
use Rattle.instruction.proofs.step.by_range.Goals as goal

pub returns-then-is_among-clause-replied : goal.returns-then-is_among-clause-replied
unfolding ranged_of
returns-then-is_among-clause-replied c =
    let a = c.args in
    rw (sym c.is_among.ensures ∙ c.if-is_among.true) (rw c.read.ensures at c.load.ensures.replied)

pub returns-then-is_among-2-clause-replied : goal.returns-then-is_among-2-clause-replied
unfolding ranged_of
returns-then-is_among-2-clause-replied c =
    rw (sym c.is_among.ensures ∙ c.if-is_among.false, sym c.is_among-2.ensures ∙ c.if-is_among-2.true) (c.store.ensures.replied)

pub returns-then-is_among-3-clause-replied : goal.returns-then-is_among-3-clause-replied
unfolding ranged_of
returns-then-is_among-3-clause-replied c =
    rw (sym c.is_among.ensures ∙ c.if-is_among.false, sym c.is_among-2.ensures ∙ c.if-is_among-2.false, sym c.is_among-3.ensures ∙ c.if-is_among-3.true)
    (let told = c.compute.ensures.told in record { reply_is = told.reply_is; state_is = told.state_is; window_is = refl })

pub returns-then-is_among-4-clause-replied : goal.returns-then-is_among-4-clause-replied
unfolding ranged_of
returns-then-is_among-4-clause-replied c =
    rw (
      sym c.is_among.ensures ∙ c.if-is_among.false,
      sym c.is_among-2.ensures ∙ c.if-is_among-2.false,
      sym c.is_among-3.ensures ∙ c.if-is_among-3.false,
      sym c.is_among-4.ensures ∙ c.if-is_among-4.true,
    )
    (let told = c.put_by.ensures.told in record { reply_is = told.reply_is; state_is = told.state_is; window_is = refl })

pub returns-clause-replied : goal.returns-clause-replied
unfolding ranged_of reply_of
returns-clause-replied c =
    rw (
      sym c.is_among.ensures ∙ c.if-is_among.false,
      sym c.is_among-2.ensures ∙ c.if-is_among-2.false,
      sym c.is_among-3.ensures ∙ c.if-is_among-3.false,
      sym c.is_among-4.ensures ∙ c.if-is_among-4.false,
    ) (search rules)
