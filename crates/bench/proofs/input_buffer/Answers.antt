-- `input_buffer` meets its contract: the length of a list of zeros.
use Rattle.bench.proofs.Prelude.{ℕ, sym, length-replicate, input_length}
use Rattle.bench.proofs.input_buffer.Goals as goal

pub returns : goal.returns
returns c = sym (length-replicate {A = ℕ} input_length 0)
