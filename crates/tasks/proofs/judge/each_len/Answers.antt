-- `each_len` meets its contract: by the length of all.
use Rattle.model.proofs.Prelude.{◌∙◌, arith}
use Rattle.tasks.proofs.ImageParts.{each_new, each_old}
use Rattle.tasks.proofs.judge.each_len.Goals as goal

pub returns-then-len-n : goal.returns-then-len-n
returns-then-len-n c = λ l e. each_new _ l (e ∙ c.if-len-n.true)

pub returns : goal.returns
returns c = λ l e. each_old _ l (λ d. c.if-len-n.false (omega (arith, e, d)))
