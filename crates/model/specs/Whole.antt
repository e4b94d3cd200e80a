-- Change 3, Definitions over whole numbers: an octabyte's signed value, the octabyte of a whole number, division rounded down, the product of 128 bits.
-- `pos n` is n, and `negsuc n` is −(n + 1).
use Rattle.std.specs.Prelude.{ℕ, suc, ◌+◌, ◌-◌, ◌*◌, ◌/◌, ◌%◌, ◌^◌, min, Bool, cond, ℤ, pos, negsuc, ◌-ℤ◌, ◌*ℤ◌, neg_ℤ, int_lt, nat_lt}
use Rattle.model.specs.Control.{is_negative}

-- ---- octabytes

-- the signed value of a register: less 2^64 where it is negative
unfoldable pub signed_of : ℕ → ℤ
signed_of v = cond (is_negative v) (negsuc (2 ^ 64 - suc v)) (pos v)

-- the word of a whole number: what is left of it modulo 2^64
unfoldable pub octa_of : ℤ → ℕ
octa_of (pos n) = n % 2 ^ 64
octa_of (negsuc n) = 2 ^ 64 - suc (n % 2 ^ 64)

-- a signed octabyte: from −2^63 to 2^63 − 1
unfoldable pub is_signed : ℤ → Bool
is_signed (pos n) = nat_lt n (2 ^ 63)
is_signed (negsuc n) = nat_lt n (2 ^ 63)

-- two octabytes as one number of 128 bits
abbrev pub wide_of : ℕ → ℕ → ℕ
wide_of high low = high * 2 ^ 64 + low

-- the product of 128 bits: its upper octabyte and its lower one
unfoldable pub product_high : ℕ → ℕ → ℕ
product_high y z = y * z / 2 ^ 64

unfoldable pub product_low : ℕ → ℕ → ℕ
product_low y z = y * z % 2 ^ 64

-- ---- division

-- n / k rounded down, for k not 0: −(n + 1) / k is −(n / k + 1)
unfoldable pub floor_by : ℤ → ℕ → ℤ
floor_by (pos n) k = pos (n / k)
floor_by (negsuc n) k = negsuc (n / k)

-- floor division, for z not 0: by −k as −y by k
unfoldable pub floor_quotient : ℤ → ℤ → ℤ
floor_quotient y (pos k) = floor_by y k
floor_quotient y (negsuc k) = floor_by (neg_ℤ y) (suc k)

-- the remainder has the divisor's sign
unfoldable pub floor_remainder : ℤ → ℤ → ℤ
floor_remainder y z = y -ℤ floor_quotient y z *ℤ z

-- ---- order and shifts

-- −1, 0 or 1
unfoldable pub compared : ℤ → ℤ → ℤ
compared y z = cond (int_lt y z) (negsuc 0) (cond (int_lt z y) (pos 1) (pos 0))

-- 2 to the count of a shift. By 64 no bit of an octabyte is left, so a larger count is 64
unfoldable pub power_of : ℕ → ℕ
power_of count = 2 ^ min count 64
