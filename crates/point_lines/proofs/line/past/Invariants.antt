-- `past` meets its contract. The loop's invariant: what the rest of the part gives from here is what the whole part gives.
use Rattle.point_lines.proofs.Forms.{Along}
use Rattle.point_lines.proofs.line.past.Given as goal

abbrev pub invariant-loop-c : goal.invariant-loop-c
invariant-loop-c l = Along l.form l.line l.c-index l.rest
