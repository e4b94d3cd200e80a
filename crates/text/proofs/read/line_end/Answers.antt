-- `line_end` meets its contract: the first newline is the first byte that is one.
use Rattle.std.proofs.Common.{arith, ◌-◌, drop, length, length-drop, take_all}
use Rattle.text.proofs.Pieces.{line_position}
use Rattle.text.proofs.read.line_end.Goals as goal

pub returns-in-Some : goal.returns-in-Some
returns-in-Some c =
    let l = c.args.text.now in
    let i = c.args.at in
    rw (c.unwrap_or.ensures, c.newline.ensures, line_position c.in-Some.rest.now, c.in-Some.ensures.lookup.0.2)
    (rw (take_all (length l - i) (drop i l) (omega (arith, length-drop i l))))
