-- `load_range` meets its contract: it loads a run of the window's bytes.
use Rattle.model.proofs.Prelude.{arith}
use Rattle.machine.proofs.WindowRuns.{range_fits, range_loaded}
use Rattle.machine.proofs.window.load_range.Goals as goal

pub load_each-requires : goal.load_each-requires
load_each-requires c =
    let a = c.args in
    let h = c.requires in
    range_fits a.base a.window.now a.addr (omega arith) a.general.now a.from a.to _ (omega (arith, h.0)) (omega (arith, h.1)) (omega (arith, h.2)) c.distance-at.ensures h.0

pub returns : goal.returns
returns c =
    let a = c.args in
    let h = c.requires in
    range_loaded a.base a.window.now a.addr (omega arith) a.general.now a.from a.to _ (omega (arith, h.0)) (omega (arith, h.1)) (omega (arith, h.2)) c.distance-at.ensures _ c.load_each.ensures
