-- `store_parts` meets its contract: each part of the state is stored at its place, and together they fill the image.
use Rattle.model.proofs.Prelude.{◌≤◌, refl, arith, length, image_length, old_image_length}
use Rattle.image.proofs.Coded.{at_least, at_most}
use Rattle.image.proofs.Codec.{image_stored}
use Rattle.image.proofs.store_parts.Goals as goal

pub store_rest-requires : goal.store_rest-requires
store_rest-requires c =
    let l = c.args.image.now in
    let least : old_image_length ≤ length c.args.image.now = at_least l c.requires in
    let most : length c.args.image.now ≤ image_length = at_most l c.requires in
    (omega arith, omega arith)

pub returns : goal.returns
returns c =
    image_stored c.args.image.now _ _ _ _ _ c.requires (record { generals = omega arith; specials = omega arith })
    c.store_octas.ensures c.store_octas-2.ensures refl c.store_rest.ensures
