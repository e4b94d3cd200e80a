-- `read` meets its contract: the first pattern that matches gives the form.
use Rattle.model.proofs.Prelude.{sym, ◌∙◌, arith}
use Rattle.script.proofs.Prelude.{codes}
use Rattle.script.specs.Line.{register_line, special_line, step_line}
use Rattle.script.proofs.Forms.{register_marks, special_marks, step_marks, line_register, line_special, line_step, line_bad}
use Rattle.script.proofs.line.read.Goals as goal

pub matched-requires : goal.matched-requires
unfolding register_line codes
matched-requires c = (omega arith, register_marks)

pub returns-in-Some : goal.returns-in-Some
unfolding register_line codes
returns-in-Some c = c.register.ensures ∙ sym (line_register c.args.line.now _ (sym c.in-Some.ensures))

pub matched-requires-2 : goal.matched-requires-2
unfolding special_line codes
matched-requires-2 c = (omega arith, special_marks)

pub returns-in-Some-matched : goal.returns-in-Some-matched
unfolding register_line special_line codes
returns-in-Some-matched c = c.special.ensures ∙ sym (line_special c.args.line.now _ (sym c.in_default.ensures) (sym c.in-Some-matched.ensures))

pub matched-requires-3 : goal.matched-requires-3
unfolding step_line codes
matched-requires-3 c = (omega arith, step_marks)

pub returns-in_err-matched : goal.returns-in_err-matched
unfolding register_line special_line step_line codes
returns-in_err-matched c =
    c.from_residual.ensures ∙ sym (line_bad c.args.line.now (sym c.in_default.ensures) (sym c.in_default-matched.ensures) (sym c.in_err-matched.ensures))

pub returns : goal.returns
unfolding register_line special_line step_line codes
returns c = c.step.ensures ∙ sym (line_step c.args.line.now _ (sym c.in_default.ensures) (sym c.in_default-matched.ensures) (sym c.in_ok-matched.ensures))
