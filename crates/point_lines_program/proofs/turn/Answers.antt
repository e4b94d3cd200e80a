-- `turn` meets its contract: its test is that by which a turn reads.
use Rattle.point_lines_program.proofs.Reach.{turns_shown, turns_read_ok}
use Rattle.point_lines_program.proofs.turn.Goals as goal

pub returns-then-place : goal.returns-then-place
returns-then-place g c =
    turns_shown c.args.input.now c.args.held.now c.args.place c.if-place.true _ _ c.show_one.ensures

pub returns : goal.returns
returns g c = turns_read_ok c.args.input.now c.args.held.now c.args.place c.if-place.false _ _ _ c.refill.ensures
