-- Change 1: loads and stores, LDB to LDOU and STB to STOU, by size and sign. Knuth: Fascicle 1, 'Loading and storing'.
use Rattle.std.specs.Prelude.{ℕ, ◌+◌, ◌-◌, ◌*◌, ◌/◌, ◌%◌, ◌^◌, Bool, true, cond, [], ◌∷◌, ◌==◌, nat_le, slice_index}
use Rattle.model.specs.Plan.{Plan, answer, read}
use Rattle.model.specs.Registers.{reg, next, set_register}
use Rattle.model.specs.Opcodes.{Width, byte, wyde, tetra, octabyte, Sign, signed, unsigned}
use Rattle.model.specs.NoMemory.{Said, say}
use Rattle.model.specs.Trips.{raised}
use Rattle.model.specs.declared.State.{State}

-- ---- the operand: big-endian, within the octabyte that an address names

-- how many bytes
unfoldable pub bytes_in : Width → ℕ
bytes_in byte = 1
bytes_in wyde = 2
bytes_in tetra = 4
bytes_in octabyte = 8

-- how many values
abbrev pub values_of : Width → ℕ
values_of d = 256 ^ bytes_in d

-- "low address bits are dropped to the operand's size": where its first byte stands in its octabyte, from 0
abbrev pub place_of : Width → ℕ → ℕ
place_of d a = a % 8 / bytes_in d * bytes_in d

-- what its last byte counts in the octabyte's value
unfoldable pub unit_at : Width → ℕ → ℕ
unit_at d a = 256 ^ (8 - bytes_in d - place_of d a)

-- the operand at a, of an octabyte of value v
unfoldable pub operand_in : Width → ℕ → ℕ → ℕ
operand_in d a v = v / unit_at d a % values_of d

-- v with the low bytes of u as that operand; the other bytes of the octabyte stay
unfoldable pub merged : Width → ℕ → ℕ → ℕ → ℕ
merged d a v u = v - operand_in d a v * unit_at d a + u % values_of d * unit_at d a

-- ---- signs

-- an operand as an octabyte: signed ones extend the sign, unsigned ones zero
unfoldable pub extended : Width → Sign → ℕ → ℕ
extended d signed u = cond (nat_le (values_of d / 2) u) (u + (2 ^ 64 - values_of d)) u
extended d unsigned u = u

-- a value that does not fit, as a signed number: its low bytes, extended, are another one. Unsigned stores fit all
unfoldable pub fits : Width → Sign → ℕ → Bool
fits d signed u = extended d signed (u % values_of d) == u
fits d unsigned u = true

-- ---- the steps, at address a

-- then $X is written (which claims)
unfoldable pub load_from : State → Width → Sign → ℕ → ℕ → Plan State
load_from s d g x a = read 6 a 1 (λ v. answer 0 (next (set_register s x (extended d g (operand_in d a (slice_index v 0))))) 0 [])

-- integer overflow
abbrev pub flag_v : ℕ
flag_v = 0x40

-- store it all the same and raise V through the exception step itself: rY is the address, rZ $X
unfoldable pub store_says : State → Width → Sign → ℕ → ℕ → ℕ → Said
store_says s d g x a word = cond (fits d g (reg s x)) (say 0 (next s)) (raised s flag_v word a (reg s x))

-- The low bytes of $X, as held before
unfoldable pub store_to : State → Width → Sign → ℕ → ℕ → ℕ → Plan State
store_to s d g x a word =
    read 6 a 1 (λ v. answer (store_says s d g x a word).reply (store_says s d g x a word).state a (merged d a (slice_index v 0) (reg s x) ∷ []))
