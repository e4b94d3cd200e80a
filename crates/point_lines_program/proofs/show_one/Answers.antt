-- `show_one` meets its contract: the three answers of a turn.
use Rattle.point_lines_program.proofs.Prelude.{arith}
use Rattle.point_lines_program.proofs.Reach.{used_within, shows_more, shows_good, shows_bad}
use Rattle.point_lines_program.proofs.show_one.Goals as goal

pub overflow_add-next : goal.overflow_add-next
overflow_add-next c =
    omega (arith, used_within c.args.input.now c.args.held.now c.args.place c.requires.0 _ _ c.advance.ensures.0 c.advance.ensures.1 _ _ _ c.in-Good.is)

pub returns-in-More : goal.returns-in-More
returns-in-More c =
    shows_more c.args.input.now c.args.held.now c.args.place c.requires.0 _ _ c.advance.ensures.0 c.advance.ensures.1 _ c.in-More.is

pub returns-in-Good : goal.returns-in-Good
returns-in-Good c =
    shows_good c.args.input.now c.args.held.now c.args.place c.requires.0 _ _ c.advance.ensures.0 c.advance.ensures.1 _ _ _ c.in-Good.is
    _ _ c.renew-text.auto.held c.renew-text.ensures.0 c.renew-text.ensures.1

pub returns-in-Bad : goal.returns-in-Bad
returns-in-Bad c =
    shows_bad c.args.input.now c.args.held.now c.args.place c.requires.0 _ _ c.advance.ensures.0 c.advance.ensures.1 c.in-Bad.is
    _ _ c.put_bad-text.auto.out c.put_bad-text.ensures.0 c.put_bad-text.ensures.1
