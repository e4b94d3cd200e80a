-- `is_admissible` meets its contract: the front of a room is as long as an image.
use Rattle.model.proofs.Prelude.{◌-◌, ◌∙◌, arith, image_length}
use Rattle.points.proofs.Answers.{front_admissible}
use Rattle.points.proofs.room.is_admissible.Goals as goal

pub returns : goal.returns
returns c = c.is_admissible.ensures ∙ front_admissible c.args.room.now (image_length - 0) (omega arith) (omega arith)
