-- `at_end` meets its contract: what is held of a line without its newline is bad, unless it is nothing.
use Rattle.point_lines_program.proofs.Reach.{ends_well, ends_bad}
use Rattle.point_lines_program.proofs.at_end.Goals as goal

pub returns-then-place-eq0 : goal.returns-then-place-eq0
returns-then-place-eq0 c =
    ends_well c.args.held.now c.args.place c.requires.1 c.if-place-eq0.true

pub returns : goal.returns
returns c =
    ends_bad c.args.held.now c.args.place c.requires.1 c.if-place-eq0.false c.requires.0 _ _ c.put_bad.auto.out c.put_bad.ensures.0 c.put_bad.ensures.1
