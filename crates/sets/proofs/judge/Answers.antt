-- `judge` meets its contract: a pair that fails ends the judging with its place; where none does it is done.
use Rattle.model.proofs.Prelude.{ap, refl, ◌∙◌, ◌≡◌, arith, done_zero, zero_done, told_done, told_refused}
use Rattle.model.specs.declared.Reply.TheVariants.{Done}
use Rattle.sets.specs.Judged.{judge_pairs}
use Rattle.sets.proofs.Pairs.{pairs_next, pairs_end, judged_at, judge_on, judge_stops, judge_none, fails, told_fails, told_passes}
use Rattle.sets.proofs.judge.Goals as goal

pub loop-i-init : goal.loop-i-init
loop-i-init c = refl

pub returns-then-ne : goal.returns-then-ne
returns-then-ne c =
    let says = judged_at _ _ _ c.put_refusal-reply.ensures in
    let fail : c.put_refusal-reply.result ≡ Done → ⊥ = λ d. told_refused _ _ c.ne.ensures c.if-ne.true (done_zero _ d) in
    told_fails _ _ _ (c.loop-i.invariant ∙ ap (judge_pairs _ _) (pairs_next c.args.pairs.now c.loop-i.i (omega arith)) ∙ judge_stops _ _ _ says _ _ fail) says (fails _ _ _ says fail) refl

pub loop-i-preserved : goal.loop-i-preserved
loop-i-preserved c =
    c.loop-i.invariant
    ∙ ap (judge_pairs _ _) (pairs_next c.args.pairs.now c.loop-i.i (omega arith))
    ∙ judge_on _ _ _ (judged_at _ _ _ c.put_refusal-reply.ensures) _ _ (zero_done _ (told_done _ _ c.ne.ensures c.if-ne.false)) _ c.locals_after-local.ensures

pub returns : goal.returns
returns c = told_passes _ _ (c.loop-i.invariant ∙ judge_none _ _ _ (pairs_end c.args.pairs.now c.loop-i.i (omega arith))) refl
