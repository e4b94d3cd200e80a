-- `nowhere` meets its contract: what it makes is the place at nothing.
use Rattle.model.proofs.Prelude.{refl}
use Rattle.contexts.specs.SaveUnsave.{place_at}
use Rattle.contexts.proofs.reader.nowhere.Goals as goal

pub returns : goal.returns
unfolding place_at
returns c = refl
