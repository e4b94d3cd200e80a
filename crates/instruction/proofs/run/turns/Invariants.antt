-- `turns` meets its contract. The loop's invariant: so many turns are done, and the rest of the grant is to be run from here.
use Rattle.model.proofs.Prelude.{state_lent, windows_lent}
use Rattle.model.specs.Lent.{SameState, SameWindows}
use Rattle.instruction.proofs.RunTurned.{running, InTurn}
use Rattle.instruction.proofs.run.turns.Given as goal

abbrev pub invariant-loop-done : goal.invariant-loop-done
invariant-loop-done l = InTurn l.grant (running l.grant (state_lent l.initial.s) (windows_lent l.initial.w)) l.done (windows_lent l.w) (state_lent l.s)
    × SameState l.initial.s l.s × SameWindows l.initial.w l.w
