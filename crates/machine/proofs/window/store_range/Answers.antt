-- `store_range` meets its contract: it stores a run of the window's bytes.
use Rattle.model.proofs.Prelude.{arith}
use Rattle.machine.proofs.WindowRuns.{range_fits, range_stored}
use Rattle.machine.proofs.window.store_range.Goals as goal

pub store_each-requires : goal.store_each-requires
store_each-requires c =
    let a = c.args in
    let h = c.requires in
    range_fits a.base a.window.now a.addr (omega arith) a.general.now a.from a.to _ (omega (arith, h.0)) (omega (arith, h.1)) (omega (arith, h.2)) c.distance-at.ensures h.0

pub returns : goal.returns
returns c =
    let a = c.args in
    let h = c.requires in
    range_stored a.base a.window.now a.addr (omega arith) a.general.now _ a.from a.to _ (omega (arith, h.1)) (omega (arith, h.2)) c.distance-at.ensures c.store_each.ensures
