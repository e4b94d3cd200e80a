-- `count_of` meets its contract: its test is the way, and a field less its size is negative.
use Rattle.model.proofs.Prelude.{arith}
use Rattle.decode.proofs.Counts.{behind_fits, count_ahead, count_back}
use Rattle.decode.proofs.target.count_of.Goals as goal

pub returns-then-op-eq0 : goal.returns-then-op-eq0
returns-then-op-eq0 c =
    let a = c.args in
    count_ahead a.op a.size a.field (omega arith) (omega arith) (omega arith)

pub overflow_sub-result : goal.overflow_sub-result
overflow_sub-result c = behind_fits c.args.op c.args.size c.args.field (omega arith) (omega arith)

pub returns : goal.returns
returns c =
    let a = c.args in
    count_back a.op a.size a.field (omega arith) (omega arith) c.if-op-eq0.false
