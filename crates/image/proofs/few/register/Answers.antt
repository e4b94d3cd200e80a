-- `register` meets its contract: an octabyte of the image.
use Rattle.model.proofs.Prelude.{arith}
use Rattle.image.proofs.FewCoded.{register_loaded}
use Rattle.image.proofs.few.register.Goals as goal

pub returns : goal.returns
returns c =
    register_loaded c.args.image.now _ _ c.args.k c.requires (omega arith) (omega arith) c.load_octas.ensures
