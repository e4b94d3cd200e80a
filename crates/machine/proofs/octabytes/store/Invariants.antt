-- `store` meets its contract. The loop's invariant: the first k bytes of v stand in the bytes, and nothing else has changed.
use Rattle.model.proofs.Prelude.{◌+◌, ◌-◌, ◌≡◌, get_or, length, over, bytes_of}
use Rattle.machine.proofs.octabytes.store.Given as goal

abbrev pub invariant-loop-k : goal.invariant-loop-k
invariant-loop-k l = (l.bytes ≡ over (λ j. get_or (bytes_of l.v) (j - l.at) 0) l.at (l.at + l.k) l.initial.bytes) × (length l.bytes ≡ length l.initial.bytes)
