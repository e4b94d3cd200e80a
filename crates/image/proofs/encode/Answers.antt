-- `encode` meets its contract: the state in the parts that `store_parts` stores.
use Rattle.model.proofs.Prelude.{not, ap, number_of, denied, granted}
use Rattle.image.proofs.Coded.{room_image, encoded_else, encoded}
use Rattle.image.proofs.encode.Goals as goal

pub returns-then-not-has_room : goal.returns-then-not-has_room
unfolding number_of
returns-then-not-has_room c = encoded_else _ _ (denied _ _ c.has_room.ensures (ap not c.if-not-has_room.true))

pub store_parts-requires : goal.store_parts-requires
store_parts-requires c =
    room_image _ _ (granted _ _ c.has_room.ensures (ap not c.if-not-has_room.false))

pub returns : goal.returns
unfolding number_of
returns c =
    encoded _ _ _ (granted _ _ c.has_room.ensures (ap not c.if-not-has_room.false)) c.store_parts.ensures
