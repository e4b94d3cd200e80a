-- Change 3: whole-number arithmetic, MUL to SRU: what each operation makes of its operands. Knuth: Fascicle 1, 'Arithmetic', 'Shifting and comparing'.
use Rattle.std.specs.Prelude.{ℕ, ◌+◌, ◌*◌, ◌/◌, ◌%◌, cond, ℤ, pos, ◌+ℤ◌, ◌-ℤ◌, ◌*ℤ◌, ◌==◌, nat_le}
use Rattle.model.specs.Whole.{signed_of, octa_of, is_signed, wide_of, product_high, product_low, floor_by, floor_quotient, floor_remainder, compared, power_of}
use Rattle.model.specs.LoadStore.{flag_v}
use Rattle.model.specs.declared.Operation.{Operation}
use Rattle.model.specs.declared.Operation.TheVariants.{Mul, Mulu, Div, Divu, Add, Addu, Sub, Subu, Addu2, Addu4, Addu8, Addu16, Cmp, Cmpu, Neg, Negu, Sl, Slu, Sr, Sru}
use Rattle.model.specs.declared.Operands.{Operands}
use Rattle.model.specs.declared.Results.{Results}

-- a division by zero
abbrev pub flag_d : ℕ
flag_d = 0x80

-- 'overflow' is that the exact whole number is no signed octabyte
abbrev pub overflow_of : ℤ → ℕ
overflow_of n = cond (is_signed n) 0 flag_v

-- $X alone
abbrev pub plain : Operands → ℕ → Results
plain a v = record { x = v; rh = a.rh; rr = a.rr; flags = 0 }

-- $X alone, a signed number, which may overflow
abbrev pub exact : Operands → ℤ → Results
exact a n = record { x = octa_of n; rh = a.rh; rr = a.rr; flags = overflow_of n }

-- MULU: rH gets the upper octabyte
abbrev pub multiplied : Operands → Results
multiplied a = record { x = product_low a.y a.z; rh = product_high a.y a.z; rr = a.rr; flags = 0 }

-- a quotient in $X and its remainder in rR
abbrev pub parted : Operands → ℕ → ℕ → ℕ → Results
parted a q r f = record { x = q; rh = a.rh; rr = r; flags = f }

-- y by z, rounded down
abbrev pub floored : Operands → ℤ → ℤ → Results
floored a y z = parted a (octa_of (floor_quotient y z)) (octa_of (floor_remainder y z)) (overflow_of (floor_quotient y z))

-- DIV: by zero $X is 0, rR is $Y, D
unfoldable pub divided : Operands → Results
divided a = cond (a.z == 0) (parted a 0 a.y flag_d) (floored a (signed_of a.y) (signed_of a.z))

-- DIVU: divides rD·2^64 + $Y; if rD ≥ $Z, $X is rD and rR is $Y; it raises nothing, by zero neither
unfoldable pub divided_wide : Operands → Results
divided_wide a = cond (nat_le a.z a.rd) (parted a a.rd a.y 0) (parted a (wide_of a.rd a.y / a.z) (wide_of a.rd a.y % a.z) 0)

-- an operation's results and flags. NEG, NEGU: Y is a constant: 0 + Y − $Z
unfoldable pub results_of : Operation → Operands → Results
results_of Mul a = exact a (signed_of a.y *ℤ signed_of a.z)
results_of Mulu a = multiplied a
results_of Div a = divided a
results_of Divu a = divided_wide a
results_of Add a = exact a (signed_of a.y +ℤ signed_of a.z)
results_of Addu a = plain a (octa_of (pos (a.y + a.z)))
results_of Sub a = exact a (signed_of a.y -ℤ signed_of a.z)
results_of Subu a = plain a (octa_of (pos a.y -ℤ pos a.z))
results_of Addu2 a = plain a (octa_of (pos (2 * a.y + a.z)))
results_of Addu4 a = plain a (octa_of (pos (4 * a.y + a.z)))
results_of Addu8 a = plain a (octa_of (pos (8 * a.y + a.z)))
results_of Addu16 a = plain a (octa_of (pos (16 * a.y + a.z)))
results_of Cmp a = plain a (octa_of (compared (signed_of a.y) (signed_of a.z)))
results_of Cmpu a = plain a (octa_of (compared (pos a.y) (pos a.z)))
results_of Neg a = exact a (signed_of a.y -ℤ signed_of a.z)
results_of Negu a = plain a (octa_of (pos a.y -ℤ pos a.z))
results_of Sl a = exact a (signed_of a.y *ℤ pos (power_of a.z))
results_of Slu a = plain a (octa_of (pos (a.y * power_of a.z)))
results_of Sr a = plain a (octa_of (floor_by (signed_of a.y) (power_of a.z)))
results_of Sru a = plain a (a.y / power_of a.z)
