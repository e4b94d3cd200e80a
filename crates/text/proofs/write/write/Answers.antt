-- `write` meets its contract: its tests are the definition's.
use Rattle.model.proofs.Prelude.{arith}
use Rattle.text.proofs.Writes.{wrote_nothing, wrote_as, put_here, put_none}
use Rattle.text.proofs.write.write.Goals as goal

pub returns-then-at-ge-PLACES : goal.returns-then-at-ge-PLACES
returns-then-at-ge-PLACES c =
    let a = c.args in
    wrote_as _ _ _ _ _ _ (put_none a.at a.pattern.now a.fields.now c.then-at-ge-PLACES.either) (wrote_nothing _ _)

pub returns : goal.returns
returns c =
    let a = c.args in
    wrote_as _ _ _ _ _ _ (put_here a.at a.pattern.now a.fields.now (omega arith) (omega arith)) c.fill.ensures
