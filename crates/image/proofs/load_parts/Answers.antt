-- `load_parts` meets its contract: the general registers are loaded from their place, the rest by `load_rest`.
use Rattle.model.proofs.Prelude.{arith}
use Rattle.image.proofs.Codec.{state_loaded}
use Rattle.image.proofs.load_parts.Goals as goal

pub returns : goal.returns
returns c =
    state_loaded c.args.image.now c.args.general.now _ _ _ _ _ _ c.requires (omega arith) c.load_octas.ensures c.load_rest.ensures
