-- Theorem. What is meant by the words of Whole.antt: division rounds down, octabytes stand for signed numbers, halves make up a product, and a shift by 64 is
-- one by any count above.
use Rattle.std.specs.Prelude.{◌≡◌, ℕ, ◌*◌, ◌/◌, ◌^◌, ◌<◌, true, ◌⊎◌, ℤ, pos, ◌+ℤ◌, ◌-ℤ◌, ◌*ℤ◌, unsigned_abs}
use Rattle.std.specs.Int.Signed.{non_neg}
use Rattle.model.specs.Control.{is_negative}
use Rattle.model.specs.Whole.{signed_of, octa_of, is_signed, wide_of, product_high, product_low, floor_by, floor_quotient, floor_remainder, power_of}

-- y by z
pub record Divides (y z : ℤ) : Type 0 where
  pub whole : floor_quotient y z *ℤ z +ℤ floor_remainder y z ≡ y
  pub smaller : unsigned_abs (floor_remainder y z) < unsigned_abs z
  pub side : (floor_remainder y z ≡ pos 0) ⊎ (non_neg (floor_remainder y z) ≡ non_neg z)

-- the octabyte v as a signed number
pub record Stands (v : ℕ) : Type 0 where
  pub back : octa_of (signed_of v) ≡ v
  pub within : is_signed (signed_of v) ≡ true
  pub negative : is_negative v ≡ true → signed_of v ≡ pos v -ℤ pos (2 ^ 64)

-- the octabyte v, shifted by a count: `power_of count` does what 2 ^ count would
pub record Shifts (v count : ℕ) : Type 0 where
  pub left : octa_of (pos (v * power_of count)) ≡ octa_of (pos (v * 2 ^ count))
  pub left_signed : octa_of (signed_of v *ℤ pos (power_of count)) ≡ octa_of (signed_of v *ℤ pos (2 ^ count))
  pub overflows : is_signed (signed_of v *ℤ pos (power_of count)) ≡ is_signed (signed_of v *ℤ pos (2 ^ count))
  pub right : v / power_of count ≡ v / 2 ^ count
  pub right_signed : floor_by (signed_of v) (power_of count) ≡ floor_by (signed_of v) (2 ^ count)

pub record ArithmeticMeant : Type 0 where
  pub divides : (y z : ℤ) → 0 < unsigned_abs z → Divides y z
  pub stands : (v : ℕ) → v < 2 ^ 64 → Stands v
  pub signed_back : (n : ℤ) → is_signed n ≡ true → signed_of (octa_of n) ≡ n
  pub product : (y z : ℕ) → wide_of (product_high y z) (product_low y z) ≡ y * z
  pub shifts : (v count : ℕ) → v < 2 ^ 64 → Shifts v count
