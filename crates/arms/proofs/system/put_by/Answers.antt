-- `put_by` meets its contract: what the opcode's last operand is, is put.
use Rattle.model.proofs.Prelude.{state_lent}
use Rattle.arms.proofs.system.put_by.Goals as goal

pub returns-clause-told : goal.returns-clause-told
returns-clause-told c =
    let s = state_lent c.args.s.now in
    rw (c.last-value.ensures s.special s.pc s.halt s.marks s.mask) at c.put_value.ensures.told
