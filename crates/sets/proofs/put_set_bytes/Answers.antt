-- `put_set_bytes` meets its contract: as many octabytes are read as tell the set.
use Rattle.model.proofs.Prelude.{◌-◌, arith}
use Rattle.sets.proofs.Answers.{read_same}
use Rattle.sets.proofs.put_set_bytes.Goals as goal

pub returns-clause-put : goal.returns-clause-put
returns-clause-put c =
    read_same _ _ _ (c.min-count.result - 0) (omega arith) (omega (arith, c.min-count.ensures)) _ _ _ c.put_read.ensures.put
