-- `output_buffer` meets its contract: the length of a list of zeros.
use Rattle.bench.proofs.Prelude.{ℕ, sym, length-replicate, output_length}
use Rattle.bench.proofs.output_buffer.Goals as goal

pub returns : goal.returns
returns c = sym (length-replicate {A = ℕ} output_length 0)
