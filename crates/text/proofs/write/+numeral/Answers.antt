-- `numeral` meets its contract: the digits of n / base, and then n's last.
use Rattle.model.proofs.Prelude.{◌-◌, ◌/◌, arith}
use Rattle.text.proofs.Writes.{length_numeral, numeral_last, numeral_more}
use Rattle.text.proofs.write.+numeral.Goals as goal

pub returns-then-more-eq0 : goal.returns-then-more-eq0
returns-then-more-eq0 t c = numeral_last _ _ _ _ _ _ _ c.then-more-eq0.either (rw c.glyph.ensures at c.put.ensures)

pub put-requires-2 : goal.put-requires-2
put-requires-2 t c =
    let a = c.args in
    omega (arith, c.numeral-end.ensures.end_is, length_numeral a.base (a.more - 1) (a.n / a.base))

pub returns : goal.returns
returns t c = numeral_more _ _ _ _ _ _ _ _ _ c.if-more-eq0.false c.if-n-base.false c.numeral-end.ensures (rw c.glyph-2.ensures at c.put-2.ensures)
