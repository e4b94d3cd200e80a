-- `put_step` meets its contract: the test and the patterns are the definition's own.
use Rattle.model.proofs.Prelude.{◌≤◌, sym, ◌∙◌, arith, length, number_of, done_zero, zero_done, is_done, is_refused}
use Rattle.script.proofs.Prelude.{codes, pattern_most, wrote_as, wrote_here}
use Rattle.script.specs.Script.{done_line, refused_line}
use Rattle.script.proofs.Carries.{text_done, text_refused}
use Rattle.script.proofs.script.put_step.Goals as goal

short_done : length done_line ≤ pattern_most
unfolding done_line codes
short_done = omega arith

short_refused : length refused_line ≤ pattern_most
unfolding refused_line codes
short_refused = omega arith

pub returns-then-eq : goal.returns-then-eq
unfolding done_line codes
returns-then-eq c =
    let a = c.args in
    wrote_as _ _ _ _ _ _ (text_done a.i (number_of a.reply) a.state.now (done_zero _ (is_done (sym c.eq.ensures ∙ c.if-eq.true)))) (wrote_here a.at done_line _ _ _ _ c.requires short_done (rw (c.from-op.ensures, c.from-x.ensures, c.from-y.ensures, c.from-z.ensures) at c.write.ensures))

pub returns : goal.returns
unfolding refused_line codes
returns c =
    let a = c.args in
    wrote_as _ _ _ _ _ _ (text_refused a.i (number_of a.reply) a.state.now (λ z. is_refused (sym c.eq.ensures ∙ c.if-eq.false) (zero_done _ z))) (wrote_here a.at refused_line _ _ _ _ c.requires short_refused (rw (c.from-op.ensures, c.from-x.ensures, c.from-y.ensures, c.from-z.ensures, c.from.ensures) at c.write-2.ensures))
