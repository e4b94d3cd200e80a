-- `sum` meets its contract: an even opcode's last operand is $Z, an odd one's Z.
use Rattle.model.proofs.Prelude.{made}
use Rattle.arms.proofs.ControlArms.{sum_register, sum_immediate}
use Rattle.arms.proofs.control.sum.Goals as goal

pub returns-then-i-eq0 : goal.returns-then-i-eq0
returns-then-i-eq0 c = λ special pc halt marks mask. let a = c.args in sum_register (made a.general.now special pc halt marks mask) a.i.now.op a.i.now.y a.i.now.z _ c.if-i-eq0.true c.wrapping_add.ensures

pub returns : goal.returns
returns c = λ special pc halt marks mask. let a = c.args in sum_immediate (made a.general.now special pc halt marks mask) a.i.now.op a.i.now.y a.i.now.z _ c.if-i-eq0.false c.wrapping_add-2.ensures
