-- `held_buffer` meets its contract: the length of a list of zeros.
use Rattle.point_lines_program.proofs.Prelude.{ℕ, sym, length-replicate}
use Rattle.point_lines_program.specs.Chunk.{held_length}
use Rattle.point_lines_program.proofs.held_buffer.Goals as goal

pub returns : goal.returns
returns c = sym (length-replicate {A = ℕ} held_length 0)
