-- `number` meets its contract: the octabyte at its place.
use Rattle.points.specs.Store.{number_at}
use Rattle.points.proofs.room.number.Goals as goal

pub returns : goal.returns
unfolding number_at
returns c = c.octabyte.ensures
