-- `put` meets its contract: a place past the end gets nothing.
use Rattle.text.proofs.Writes.{wrote_byte, wrote_past}
use Rattle.text.proofs.write.put.Goals as goal
use Rattle.text.proofs.write.put.Goals.{then-at-out, else-at-out}

pub returns : goal.returns
returns c = elim c.if-at-out.branch [ then-at-out w ↦ wrote_byte _ _ _ _ w.out-is | else-at-out w ↦ wrote_past _ _ _ _ w.if-at-out.false w.out-is ]
