-- `unsave_asks` meets its contract: the packed octabyte, the local count, and the rest.
use Rattle.model.proofs.Prelude.{no_holder, some_holder, arith}
use Rattle.task_run.proofs.AsksUnsave.{unsave_foreign, unsave_missing, unsave_threshold, unsave_status, unsave_open}
use Rattle.task_run.proofs.ask.unsave_asks.Goals as goal

pub returns-then-is_foreign : goal.returns-then-is_foreign
returns-then-is_foreign c = unsave_foreign _ _ c.requires _ _ c.is_foreign.ensures c.if-is_foreign.true

pub returns-then-is_none : goal.returns-then-is_none
returns-then-is_none c =
    unsave_missing _ _ c.requires _ _ c.is_foreign.ensures c.if-is_foreign.false _ c.read_octa-octa.ensures.1 (no_holder _ _ c.is_none.ensures c.if-is_none.true)

pub returns-then-rg-lt-THRESHOLD_MIN : goal.returns-then-rg-lt-THRESHOLD_MIN
returns-then-rg-lt-THRESHOLD_MIN c =
    unsave_threshold _ _ c.requires _ _ c.is_foreign.ensures c.if-is_foreign.false _ c.read_octa-octa.ensures.1 (some_holder _ _ c.is_none.ensures c.if-is_none.false) _ c.read_octa-octa.ensures.0 c.if-rg-lt-THRESHOLD_MIN.true

pub returns-then-ra-gt-STATUS_MAX : goal.returns-then-ra-gt-STATUS_MAX
returns-then-ra-gt-STATUS_MAX c =
    unsave_status _ _ c.requires _ _ c.is_foreign.ensures c.if-is_foreign.false _ c.read_octa-octa.ensures.1 (some_holder _ _ c.is_none.ensures c.if-is_none.false) _ c.read_octa-octa.ensures.0 c.if-ra-gt-STATUS_MAX.true

pub count_asks-requires : goal.count_asks-requires
count_asks-requires c =
    (c.if-rg-lt-THRESHOLD_MIN.false, omega arith, c.requires)

pub returns : goal.returns
returns c =
    unsave_open _ _ c.requires _ _ c.is_foreign.ensures c.if-is_foreign.false _ c.read_octa-octa.ensures.1 (some_holder _ _ c.is_none.ensures c.if-is_none.false) _ c.read_octa-octa.ensures.0
    _ (c.count_asks.ensures _ c.if-ra-gt-STATUS_MAX.false)
