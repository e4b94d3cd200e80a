-- `part_in` meets its contract: the room tells which of the two it is.
use Rattle.model.proofs.Prelude.{le-ltb, lt-ltb}
use Rattle.contexts.specs.SaveUnsave.{place_at, part_in}
use Rattle.contexts.proofs.reader.part_in.Goals as goal

pub returns-then-room-octas : goal.returns-then-room-octas
unfolding part_in
returns-then-room-octas c = rw (← c.room.ensures.0, lt-ltb _ _ c.if-room-octas.true) c.nowhere.ensures

pub returns : goal.returns
unfolding part_in place_at
returns c = rw (← c.room.ensures.0, le-ltb _ _ c.if-room-octas.false, c.distance.ensures)
