-- `first` meets its contract: NEG and NEGU take Y itself.
use Rattle.model.proofs.Prelude.{sym, ◌∙◌, made}
use Rattle.arms.proofs.ArithmeticArms.{first_constant, first_register}
use Rattle.arms.proofs.operations.first.Goals as goal

pub returns-then-is_among : goal.returns-then-is_among
returns-then-is_among c = λ special pc halt marks mask. first_constant (made c.args.general.now special pc halt marks mask) _ _ (sym c.is_among.ensures ∙ c.if-is_among.true)

pub returns : goal.returns
returns c = λ special pc halt marks mask. first_register (made c.args.general.now special pc halt marks mask) _ _ (sym c.is_among.ensures ∙ c.if-is_among.false)
