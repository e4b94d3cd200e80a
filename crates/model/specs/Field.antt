-- Change 2: which field reaches that address. From an instruction's address and the address it should go to, "the direction and the field that gives
-- exactly that target, modulo 2^64", among the fields of a branch (YZ) or of a jump (XYZ): `branch_fields` or `jump_fields` of them. Any address may be
-- given: the distance counts.
use Rattle.std.specs.Prelude.{ℕ, ◌+◌, ◌-◌, ◌/◌, ◌%◌, ◌^◌, cond, ◌==◌, nat_le, nat_lt}
use Rattle.model.specs.Opcodes.{Direction, forward, backward}
use Rattle.model.specs.Numbers.{number_of}
use Rattle.model.specs.declared.Reach.{Reach}
use Rattle.model.specs.declared.Reach.TheVariants.{Forward, Backward, Neither}
use Rattle.model.specs.declared.Reply.TheVariants.{Done, OutOfReach}

-- how far up an address lies from another, modulo 2^64
abbrev pub distance : ℕ → ℕ → ℕ
distance from to = (to + (2 ^ 64 - from)) % 2 ^ 64

-- a distance d is d / 4 tetras up, or 2^62 − d / 4 tetras down; by 0 to size − 1 up, or by 1 to size down. Backward, "the negative count" is field − size
unfoldable pub field_at : ℕ → ℕ → Reach
field_at size d =
    cond (d % 4 == 0)
    (cond (nat_lt (d / 4) size) (Forward (d / 4)) (cond (nat_le (2 ^ 62 - size) (d / 4)) (Backward (d / 4 - (2 ^ 62 - size))) Neither))
    Neither

-- THE field, of `size` many, that goes from one address to another
unfoldable pub field_of : ℕ → ℕ → ℕ → Reach
field_of size from to = field_at size (distance from to)

-- a pair of direction and field
abbrev pub pair : Direction → ℕ → Reach
pair forward f = Forward f
pair backward f = Backward f

-- "For each answer that is an enum, a definition gives this paper's number and values for every case": backward is 0 or 1; refused, both are 0
pub record FieldAnswer : Type 0 where
  pub reply : ℕ
  pub backward : ℕ
  pub field : ℕ

unfoldable pub answer_of : Reach → FieldAnswer
answer_of (Forward f) = record { reply = number_of Done; backward = 0; field = f }
answer_of (Backward f) = record { reply = number_of Done; backward = 1; field = f }
answer_of Neither = record { reply = number_of OutOfReach; backward = 0; field = 0 }

-- the bytes of an instruction that has the field f as XYZ, or as YZ
abbrev pub x_in : ℕ → ℕ
x_in f = f / 65536 % 256

abbrev pub y_in : ℕ → ℕ
y_in f = f / 256 % 256

abbrev pub z_in : ℕ → ℕ
z_in f = f % 256
