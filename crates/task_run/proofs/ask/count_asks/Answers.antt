-- `count_asks` meets its contract: the count's octabyte is another's, or is missing, or is above rG; else the whole context tells.
use Rattle.model.proofs.Prelude.{no_holder, some_holder}
-- `count_asks` meets its contract: the local count, and then the rest.
use Rattle.task_run.proofs.AsksUnsave.{count_foreign, count_missing, count_excess, count_rest}
use Rattle.task_run.proofs.ask.count_asks.Goals as goal

pub returns-then-is_foreign : goal.returns-then-is_foreign
returns-then-is_foreign c =
    let pre = c.requires in
    count_foreign _ _ pre.2 _ _ pre.0 pre.1 _ c.wrapping_sub-marker.ensures _ c.is_foreign.ensures c.if-is_foreign.true

pub returns-then-is_none : goal.returns-then-is_none
returns-then-is_none c =
    let pre = c.requires in
    count_missing _ _ pre.2 _ _ pre.0 pre.1 _ c.wrapping_sub-marker.ensures _ c.is_foreign.ensures c.if-is_foreign.false _ c.read_octa-octa.ensures.1 (no_holder _ _ c.is_none.ensures c.if-is_none.true)

pub returns-then-rg-count : goal.returns-then-rg-count
returns-then-rg-count c =
    let pre = c.requires in
    count_excess _ _ pre.2 _ _ pre.0 pre.1 _ c.wrapping_sub-marker.ensures _ c.is_foreign.ensures c.if-is_foreign.false _ c.read_octa-octa.ensures.1
    (some_holder _ _ c.is_none.ensures c.if-is_none.false) _ c.read_octa-octa.ensures.0 c.if-rg-count.true

pub returns : goal.returns
returns c =
    let pre = c.requires in
    count_rest _ _ pre.2 _ _ pre.0 pre.1 _ c.wrapping_sub-marker.ensures _ c.is_foreign.ensures c.if-is_foreign.false _ c.read_octa-octa.ensures.1
    (some_holder _ _ c.is_none.ensures c.if-is_none.false) _ c.read_octa-octa.ensures.0 c.if-rg-count.false _ c.wrapping_sub-first.ensures _ c.has_foreign.ensures
