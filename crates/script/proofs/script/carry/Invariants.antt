-- `carry` meets its contract. The loop's invariant: to put what the lines from `at` on print is to put what the whole script prints.
use Rattle.model.proofs.Prelude.{◌+◌, ◌-◌, ◌≤◌, drop, length, windows_lent}
use Rattle.script.proofs.Prelude.{pieces, Leads}
use Rattle.script.specs.Script.{carried}
use Rattle.script.proofs.script.carry.Given as goal

abbrev pub invariant-loop-at : goal.invariant-loop-at
invariant-loop-at l = (l.at ≤ length l.script) × (l.n ≤ l.at + 1)
    × Leads l.out l.end (carried l.n l.state (windows_lent l.windows) (pieces (drop l.at l.script))) l.initial.out 0 (carried 1 l.fn.first (windows_lent l.initial.windows) (pieces l.script))

abbrev pub decreases-loop-at : goal.decreases-loop-at
decreases-loop-at l = length l.script - l.at
