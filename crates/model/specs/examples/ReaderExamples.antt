-- Computed examples of the context reader.
use Rattle.std.specs.Prelude.{ℕ, ◌+◌, ◌*◌, ◌^◌, Bool, ◌&&◌, [], replicate, ◌==◌}
use Rattle.model.specs.Memory.{Windows, put_octa}
use Rattle.model.specs.Registers.{stack_start}
use Rattle.model.specs.Reader.{read_context}
use Rattle.model.specs.Bench.{stack_alone}

-- no octabyte at all
abbrev pub nowhere : Windows
nowhere = stack_alone (record { base = stack_start; bytes = [] })

-- a context of 15 octabytes, rG 255, in a window of 17; none in an empty window, and in one that breaks its rule

abbrev contextual : Windows
contextual = put_octa (stack_alone (record { base = stack_start; bytes = replicate 136 0 })) (stack_start + 120) (255 * 2 ^ 56)

-- its reply, the window's number, the part's start and its length
abbrev pub reads : Windows → ℕ → ℕ → ℕ → ℕ → ℕ → Bool
reads w p r k o n =
    ((read_context w p).reply == r)
    && ((read_context w p).state.which == k && ((read_context w p).state.start == o && (read_context w p).state.size == n))

unfoldable pub reader_examples : Bool
reader_examples =
    reads contextual (stack_start + 120) 0 1 8 120
    && (reads contextual (stack_start + 128) 14 0 0 0 && (reads nowhere stack_start 6 0 0 0 && reads (stack_alone (record { base = 4; bytes = [] })) 0 2 0 0 0))
