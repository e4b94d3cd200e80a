-- A field as a signed count of tetras, and the address that a count leads to.
use Rattle.std.specs.Prelude.{ℕ, suc, ◌+◌, ◌-◌, ◌%◌, ◌^◌, ℤ, pos, negsuc, ◌*ℤ◌}
use Rattle.model.specs.Opcodes.{Direction, forward, backward}

-- of a field f, one of `size` values: f itself forward, f − size backward
unfoldable pub count_of : Direction → ℕ → ℕ → ℤ
count_of forward size f = pos f
count_of backward size f = negsuc (size - suc f)

-- a signed offset applied to an address: added where it is not negative, its magnitude subtracted where it is; modulo 2^64
unfoldable pub applied : ℕ → ℤ → ℕ
applied a (pos n) = (a + n) % 2 ^ 64
applied a (negsuc n) = (a + (2 ^ 64 - suc n)) % 2 ^ 64

-- a signed count of tetras: multiplied by 4, and applied
unfoldable pub moved_by : ℕ → ℤ → ℕ
moved_by a count = applied a (pos 4 *ℤ count)
