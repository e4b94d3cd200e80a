-- `fed` meets its contract: a chunk within the buffer, or the end of the input.
use Rattle.point_lines_program.proofs.Reach.{fed_on, fed_end}
use Rattle.point_lines_program.proofs.fed.Goals as goal

pub returns-then-k-eq0 : goal.returns-then-k-eq0
returns-then-k-eq0 c =
    fed_end c.args.k c.args.input.now c.args.held.now c.args.place c.requires.0 c.requires.1 c.if-k-eq0.true _ _ c.at_end.ensures

pub returns : goal.returns
returns c =
    fed_on c.args.k c.args.input.now c.args.held.now c.args.place c.requires.0 c.requires.1 c.requires.2
