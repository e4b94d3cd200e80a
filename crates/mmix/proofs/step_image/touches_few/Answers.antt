-- `touches_few` meets its contract: a claim is asked for last.
use Rattle.model.proofs.Prelude.{sym, ◌∙◌, made}
use Rattle.mmix.proofs.FewStepped.{few_by}
use Rattle.mmix.proofs.step_image.touches_few.Goals as goal

pub returns : goal.returns
returns c = λ general pc halt marks mask.
    few_by (made general c.args.special.now pc halt marks mask) _ _ _ _ _ (sym c.is_of_stack.ensures ∙ c.if-is_of_stack.false)
    (sym c.puts_bound.ensures ∙ c.if-puts_bound.false) (sym (c.is_claimed.ensures general pc halt marks mask))
