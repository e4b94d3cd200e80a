-- `start` meets its contract: its numbers are those of the start.
use Rattle.point_lines_program.proofs.Prelude.{refl}
use Rattle.point_lines_program.proofs.start.Goals as goal

pub returns : goal.returns
returns c = refl
