-- `load` meets its contract: a number from its bytes is the library's.
use Rattle.model.proofs.Prelude.{◌∙◌}
use Rattle.machine.proofs.OctabyteRuns.{octa_loaded}
use Rattle.machine.proofs.octabytes.load.Goals as goal

pub returns : goal.returns
returns c = c.from_be_bytes.ensures ∙ octa_loaded c.args.bytes.now c.args.at
