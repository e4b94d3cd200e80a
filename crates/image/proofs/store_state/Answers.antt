-- `store_state` meets its contract: an image that has room takes the parts that `store_parts` stores.
use Rattle.model.proofs.Prelude.{sym, ◌∙◌}
use Rattle.image.proofs.Coded.{room_image, stored_is, stored_not}
use Rattle.image.proofs.store_state.Goals as goal

pub store_parts-requires : goal.store_parts-requires
store_parts-requires c = room_image _ _ (sym c.has_room.ensures ∙ c.if-has_room.true)

pub returns-then-has_room : goal.returns-then-has_room
returns-then-has_room c =
    c.store_parts.ensures ∙ sym (stored_is _ _ (sym c.has_room.ensures ∙ c.if-has_room.true))

pub returns-else-has_room : goal.returns-else-has_room
returns-else-has_room c = sym (stored_not _ _ (sym c.has_room.ensures ∙ c.if-has_room.false))
