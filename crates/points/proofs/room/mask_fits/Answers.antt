-- `mask_fits` meets its contract: the mask is the last octabyte of the room's image.
use Rattle.model.proofs.Prelude.{ap, sym, ◌∙◌, arith, image_length, old_image_length, value_of, part_within}
use Rattle.image.specs.Image.{has_room, state_of}
use Rattle.points.specs.Store.{mask_in}
use Rattle.points.proofs.room.mask_fits.Goals as goal

pub returns : goal.returns
unfolding mask_in state_of
returns c =
    let a = c.args in
    c.has_room.ensures
    ∙ ap (has_room a.image.now) (c.octabyte-mask.ensures ∙ ap (value_of 0) (sym (part_within a.room.now image_length old_image_length 8 (omega arith))))
