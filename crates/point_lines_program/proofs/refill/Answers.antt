-- `refill` meets its contract: what a read leaves is as long as the buffer was.
use Rattle.point_lines_program.proofs.Reach.{refills}
use Rattle.point_lines_program.proofs.refill.Goals as goal

pub returns : goal.returns
returns g c = refills _ c.args.input.now c.args.held.now c.args.place c.requires.1 _ _ _ c.fed.ensures
