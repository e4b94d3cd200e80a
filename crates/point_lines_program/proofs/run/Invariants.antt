-- `run` meets its contract. The loop's invariant: what was handed over, and then what is owed, is what is printed of the text that is read.
use Rattle.point_lines_program.proofs.Prelude.{◌+◌, ◌≤◌}
use Rattle.point_lines_program.specs.Chunk.{Standing}
use Rattle.point_lines_program.proofs.Reach.{Reached}
use Rattle.point_lines_program.proofs.run.Given as goal

abbrev pub invariant-loop : goal.invariant-loop
invariant-loop g l = (l.place.number ≤ l.counter + 1) × Standing l.input l.held l.place × Reached l.input l.held l.place
