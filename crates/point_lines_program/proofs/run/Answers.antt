-- `run` meets its contract: a turn hands over the next text and goes on, or it was the last.
use Rattle.point_lines_program.proofs.Prelude.{sym, arith, length-take-le}
use Rattle.point_lines_program.proofs.Reach.{standing_start, reached_start, through, turned, reached_on, finishes_last}
use Rattle.point_lines_program.proofs.run.Goals as goal

pub loop-init : goal.loop-init
loop-init g c = rw c.start-place.ensures (omega arith, standing_start c.args.input.now c.args.held.now c.requires.1, reached_start c.args.input.now c.args.held.now)

pub turn-requires : goal.turn-requires
turn-requires g c = (c.loop.invariant.1, omega (arith, c.loop.invariant.0, c.loop-test.true, c.turns_most-end.ensures))

pub slice_bounds-write_all-end : goal.slice_bounds-write_all-end
slice_bounds-write_all-end g c =
    let l = c.loop in
    (turned l.input l.held l.place l.invariant.2 _ _ _ _ _ (through _ _ _ _ c.in_ok-text.ensures.cases c.turn.ensures) c.in-On.is).within

pub slice_bounds-write_all-end-in-On : goal.slice_bounds-write_all-end-in-On
slice_bounds-write_all-end-in-On g c = sym (length-take-le _ c.turn.new.held (slice_bounds-write_all-end g c))

pub returns-in-Last : goal.returns-in-Last
returns-in-Last g c =
    let l = c.loop in
    finishes_last l.input l.held l.place l.invariant.2 _ _ _ _ _ (through _ _ _ _ c.in_ok-text.ensures.cases c.turn.ensures) c.in-Last.is

pub loop-preserved : goal.loop-preserved
loop-preserved g c =
    let l = c.loop in
    let x = turned l.input l.held l.place l.invariant.2 _ _ _ _ _ (through _ _ _ _ c.in_ok-text.ensures.cases c.turn.ensures) c.in-On.is in
    (omega (arith, x.number_is, l.invariant.0), x.stands, reached_on l.input l.held l.place l.invariant.2 _ _ _ _ x)
