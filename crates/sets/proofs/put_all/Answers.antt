-- `put_all` meets its contract: none are put at first, a turn puts a pair more, and all are put in the end.
use Rattle.model.proofs.Prelude.{ap, refl, sym, ◌∙◌, arith}
use Rattle.sets.specs.Judged.{put_all}
use Rattle.sets.proofs.Pairs.{pairs_next, pairs_end, put_next, put_none}
use Rattle.sets.proofs.put_all.Goals as goal

pub loop-i-init : goal.loop-i-init
loop-i-init c = λ s. refl

pub loop-i-preserved : goal.loop-i-preserved
loop-i-preserved c =
    λ s. c.loop-i.invariant s ∙ ap (put_all _) (pairs_next c.args.pairs.now c.loop-i.i (omega arith)) ∙ put_next _ _ _ _ (c.put_state.ensures s)

pub returns : goal.returns
returns c =
    λ s. sym (c.loop-i.invariant s ∙ put_none _ _ (pairs_end c.args.pairs.now c.loop-i.i (omega arith)))
