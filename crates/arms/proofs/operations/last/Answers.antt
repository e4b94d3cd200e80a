-- `last` meets its contract: an even opcode's last operand is $Z, an odd one's Z.
use Rattle.model.proofs.Prelude.{made}
use Rattle.arms.proofs.ArithmeticArms.{last_register, last_constant}
use Rattle.arms.proofs.operations.last.Goals as goal

pub returns-then-i-eq0 : goal.returns-then-i-eq0
returns-then-i-eq0 c = λ special pc halt marks mask. last_register (made c.args.general.now special pc halt marks mask) _ _ c.if-i-eq0.true

pub returns : goal.returns
returns c = λ special pc halt marks mask. last_constant (made c.args.general.now special pc halt marks mask) _ _ c.if-i-eq0.false
