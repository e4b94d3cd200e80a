-- `store_few` meets its contract: two registers and the rest at their places, and all other bytes as they were.
use Rattle.model.proofs.Prelude.{◌≤◌, refl, arith, length, image_length, old_image_length}
use Rattle.image.proofs.Coded.{at_least, at_most}
use Rattle.image.proofs.FewCoded.{few_stored}
use Rattle.image.proofs.few.store_few.Goals as goal

pub store_rest-requires : goal.store_rest-requires
store_rest-requires c =
    let l = c.args.image.now in
    let least : old_image_length ≤ length c.args.image.now = at_least l c.requires in
    let most : length c.args.image.now ≤ image_length = at_most l c.requires in
    (omega arith, omega arith)

pub returns : goal.returns
returns c =
    few_stored c.args.image.now _ _ _ _ _ _ c.args.x _ _ _ _ _ _ c.requires c.known.ensures (omega arith) (omega arith)
    c.store_octas.ensures c.store_octas-2.ensures c.store_octas-3.ensures refl c.store_rest.ensures
