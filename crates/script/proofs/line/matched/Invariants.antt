-- `matched` meets its contract. The loop's invariant: what the rest of the pattern gives from here is what the whole gives.
use Rattle.script.proofs.Turns.{Along}
use Rattle.script.proofs.line.matched.Given as goal

abbrev pub invariant-loop-c : goal.invariant-loop-c
invariant-loop-c g l = Along g.row.N l.pattern l.line l.c-index l.count l.values l.rest
