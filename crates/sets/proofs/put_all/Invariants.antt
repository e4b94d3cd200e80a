-- `put_all` meets its contract. The loop's invariant: putting goes on from the i-th pair.
use Rattle.model.proofs.Prelude.{◌≡◌, with_parts}
use Rattle.model.specs.declared.State.{State}
use Rattle.sets.specs.Sets.{pairs_of}
use Rattle.sets.specs.Judged.{put_all}
use Rattle.sets.proofs.Pairs.{pairs_from}
use Rattle.sets.proofs.put_all.Given as goal

abbrev pub invariant-loop-i : goal.invariant-loop-i
invariant-loop-i l = (s : State) → put_all (with_parts s l.initial.general l.initial.special) (pairs_of l.pairs) ≡ put_all (with_parts s l.general l.special) (pairs_from l.i l.pairs)
