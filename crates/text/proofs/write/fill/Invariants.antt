-- `fill` meets its contract. The loop's invariant: to put what is left of the pattern, with what is left of the fields, is to put the whole.
use Rattle.model.proofs.Prelude.{◌*◌, ◌+◌, ◌≤◌, drop}
use Rattle.std.specs.Slice.Iter.{iter_rest}
use Rattle.text.specs.Text.{filled}
use Rattle.text.proofs.Writes.{Leads}
use Rattle.text.proofs.write.fill.Given as goal

abbrev pub invariant-loop-byte : goal.invariant-loop-byte
invariant-loop-byte l = (l.end ≤ l.at + 20 * l.byte-index)
    × Leads l.out l.end (filled (drop l.byte-index l.pattern) (iter_rest l.fields)) l.initial.out l.at (filled l.pattern (iter_rest l.initial.fields))
