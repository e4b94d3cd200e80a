-- `restore` meets its contract: the parts that its calls write are the state between POP's two stages.
use Rattle.model.proofs.Prelude.{refl, made}
use Rattle.model.specs.Lent.{windows_read}
use Rattle.stack.proofs.PushPopRegisters.{written_hole, written_all}
use Rattle.stack.proofs.frame.restore.Goals as goal

pub returns-then-h-low : goal.returns-then-h-low
returns-then-h-low c =
    λ special pc halt marks mask l low.
    let a = c.args in
    written_hole (windows_read a.windows) a.bottom a.h a.low a.x (made a.general.now special pc halt marks mask) low c.requires.2 _ _ _ refl
    c.slide_up.ensures _ (c.last_output-last.ensures special pc halt marks mask l) c.if-h-low.true c.load_locals.ensures

pub returns : goal.returns
returns c =
    λ special pc halt marks mask l low.
    let a = c.args in
    written_all (windows_read a.windows) a.bottom a.h a.low a.x (made a.general.now special pc halt marks mask) low c.requires.2 _ _ _ refl
    c.slide_up.ensures c.if-h-low.false c.load_locals-2.ensures
