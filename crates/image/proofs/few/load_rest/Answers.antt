-- `load_rest` meets its contract: each part is loaded from its place.
use Rattle.model.proofs.Prelude.{arith}
use Rattle.image.proofs.Codec.{rest_loaded}
use Rattle.image.proofs.few.load_rest.Goals as goal

pub returns : goal.returns
returns c =
    rest_loaded c.args.image.now c.args.special.now _ _ _ _ c.requires (omega arith) (omega arith)
    c.load_octas.ensures c.load_octas-2.ensures c.load_octas-3.ensures
