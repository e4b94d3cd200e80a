-- `store_rest` meets its contract: three numbers or four.
use Rattle.model.proofs.Prelude.{refl, ◌∙◌, arith, length-take}
use Rattle.image.proofs.Codec.{numbers_stored}
use Rattle.image.proofs.few.store_rest.Goals as goal

pub slice_bounds-store_octas-end : goal.slice_bounds-store_octas-end
slice_bounds-store_octas-end c = simp length-take (omega arith)

pub returns : goal.returns
returns c =
    c.store_octas.ensures ∙ numbers_stored c.args.image.now _ _ _ _ _ c.requires.0 c.requires.1 refl
