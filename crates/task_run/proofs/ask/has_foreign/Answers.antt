-- `has_foreign` meets its contract: an octabyte that is another's tells; where none is, there is none.
use Rattle.model.proofs.Prelude.{sym, ◌∙◌, arith}
use Rattle.task_run.proofs.Asks.{scan_none, scan_end, scan_found, scan_next}
use Rattle.task_run.proofs.ask.has_foreign.Goals as goal

pub loop-init : goal.loop-init
loop-init c = scan_none _ _ _

pub returns-then-is_foreign : goal.returns-then-is_foreign
returns-then-is_foreign c =
    scan_found _ _ _ _ _ c.loop.invariant (omega arith) (sym c.if-is_foreign.true ∙ c.is_foreign.ensures)

pub loop-preserved : goal.loop-preserved
loop-preserved c =
    scan_next _ _ _ _ _ c.loop.invariant (omega arith) (sym c.if-is_foreign.false ∙ c.is_foreign.ensures) _ c.wrapping_add-place.ensures

pub returns : goal.returns
returns c = scan_end _ _ _ _ _ c.loop.invariant (omega arith)
