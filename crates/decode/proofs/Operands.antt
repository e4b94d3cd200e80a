-- Laws of a load's or a store's operand in code, over plain variables: its width and sign by the opcode; masks and shifts; what it is extended to,
-- and whether a value fits. The steps: LoadStoreArms.
use Rattle.model.proofs.Prelude.{suc, zero, ℕ, ◌%◌, ◌*◌, ◌+◌, ◌-◌, ◌/◌, ◌<◌, ◌^◌, ◌≤◌, true, ap, refl, sym, ◌∙◌, ◌≡◌, mod-eq_of_lt, pow-suc, arith, and_mask}
use Rattle.model.proofs.Prelude.{bit_and, eqb, pow-add, le-leb, lt-leb, bytes_in, extended, fits, merged, operand_in, place_of, unit_at, values_of, byte, octabyte}
use Rattle.model.proofs.Prelude.{signed, sign_of, tetra, unsigned, Width, width_of, wyde, merged_small, operand_least, values_positive}

-- ---- width and sign by the opcode

module _ (op : ℕ) where
  pub width_byte : op / 4 % 4 ≡ 0 → width_of op ≡ byte
  unfolding width_of
  width_byte e = rw e

  pub width_wyde : op / 4 % 4 ≡ 1 → width_of op ≡ wyde
  unfolding width_of
  width_wyde e = rw e

  pub width_tetra : op / 4 % 4 ≡ 2 → width_of op ≡ tetra
  unfolding width_of
  width_tetra e = rw e

  pub width_octabyte : (op / 4 % 4 ≡ 0 → ⊥) → (op / 4 % 4 ≡ 1 → ⊥) → (op / 4 % 4 ≡ 2 → ⊥) → width_of op ≡ octabyte
  unfolding width_of
  width_octabyte a b c = let e : op / 4 % 4 ≡ 3 = omega arith in rw e

  pub is_signed : op / 2 % 2 ≡ 0 → sign_of op ≡ signed
  unfolding sign_of
  is_signed e = rw e

  pub is_unsigned : (op / 2 % 2 ≡ 0 → ⊥) → sign_of op ≡ unsigned
  unfolding sign_of
  is_unsigned n = let e : op / 2 % 2 ≡ 1 = omega arith in rw e

-- ---- masks and shifts

values_bits : (d : Width) → values_of d ≡ 2 ^ (8 * bytes_in d)
unfolding bytes_in
values_bits byte = refl
values_bits wyde = refl
values_bits tetra = refl
values_bits octabyte = refl

pub low_masked : (d : Width) (u m : ℕ) → m ≡ values_of d - 1 → bit_and u m ≡ u % values_of d
low_masked d u m e = ap (bit_and u) (e ∙ ap (λ (n : ℕ). n - 1) (values_bits d)) ∙ and_mask u (8 * bytes_in d) ∙ ap (λ (n : ℕ). u % n) (sym (values_bits d))

bits : (k : ℕ) → 2 ^ (8 * k) ≡ 256 ^ k
bits zero = refl
bits (suc k) = ap (λ (n : ℕ). 2 ^ n) {x = 8 * suc k} {y = 8 * k + 8} (omega arith) ∙ pow-add 2 (8 * k) 8 ∙ ap (λ (n : ℕ). n * 256) (bits k) ∙ sym (pow-suc 256 k)

bytes_some : (d : Width) → 1 ≤ bytes_in d
unfolding bytes_in
bytes_some byte = omega arith
bytes_some wyde = omega arith
bytes_some tetra = omega arith
bytes_some octabyte = omega arith

-- the shift is eight times the bytes right of the operand
pub shift_is : (op a r : ℕ) (d : Width) → width_of op ≡ d → r ≡ 8 * (8 - bytes_in d - place_of d a) → (r < 64) × (2 ^ r ≡ unit_at (width_of op) a)
unfolding unit_at
shift_is op a r d e h =
    let k : 1 ≤ bytes_in d = bytes_some d in
    rw e (omega arith, ap (λ (n : ℕ). 2 ^ n) h ∙ bits (8 - bytes_in d - place_of d a))

-- a value shifted right, and masked
pub operand_is : (d : Width) (a v s : ℕ) → 2 ^ s ≡ unit_at d a → v / 2 ^ s % values_of d ≡ operand_in d a v
unfolding operand_in
operand_is d a v s e = rw e

-- a tetra's shift, and a tetra
tetra_shift : (a r : ℕ) → r ≡ 32 - 32 * (a % 8 / 4) → 2 ^ r ≡ unit_at tetra a
unfolding unit_at bytes_in
tetra_shift a r h =
    let e : r ≡ 8 * (8 - 4 - a % 8 / 4 * 4) = omega arith in
    ap (λ (n : ℕ). 2 ^ n) e ∙ bits (8 - 4 - a % 8 / 4 * 4)

pub tetra_is : (a v : ℕ) → v / 2 ^ (32 - 32 * (a % 8 / 4)) % 2 ^ 32 ≡ operand_in tetra a v
unfolding bytes_in
tetra_is a v = operand_is tetra a v (32 - 32 * (a % 8 / 4)) (tetra_shift a (32 - 32 * (a % 8 / 4)) refl)

-- an operand taken out of an octabyte and another put in, both shifted left
module _ (d : Width) (a v u s old new : ℕ) (l : v < 2 ^ 64) (e : 2 ^ s ≡ unit_at d a) (f : old ≡ operand_in d a v) (g : new ≡ u % values_of d) where
  taken : old * 2 ^ s % 2 ^ 64 ≡ operand_in d a v * unit_at d a
  taken = let k : operand_in d a v * unit_at d a ≤ v = operand_least d a v u in rw (f, e) (mod-eq_of_lt (omega arith))

  put_in : new * 2 ^ s % 2 ^ 64 ≡ u % values_of d * unit_at d a
  unfolding merged
  put_in = let k : merged d a v u < 2 ^ 64 = merged_small d a v u l in rw (g, e) (mod-eq_of_lt (omega arith))

  pub taken_fits : old * 2 ^ s % 2 ^ 64 ≤ v
  taken_fits = let k : operand_in d a v * unit_at d a ≤ v = operand_least d a v u in rw taken k

  pub merged_is : v - old * 2 ^ s % 2 ^ 64 + new * 2 ^ s % 2 ^ 64 ≡ merged d a v u
  unfolding merged
  merged_is = rw (taken, put_in)

  pub merged_fits : v - old * 2 ^ s % 2 ^ 64 + new * 2 ^ s % 2 ^ 64 < 2 ^ 64
  merged_fits = rw merged_is (merged_small d a v u l)

-- ---- signs

values_even : (d : Width) → values_of d % 2 ≡ 0
unfolding bytes_in
values_even byte = refl
values_even wyde = refl
values_even tetra = refl
values_even octabyte = refl

module _ (op u : ℕ) where
  pub extended_unsigned : (op / 2 % 2 ≡ 0 → ⊥) → u ≡ extended (width_of op) (sign_of op) u
  unfolding extended
  extended_unsigned n = rw (is_unsigned op n)

  module _ (h : op / 2 % 2 ≡ 0) (m : ℕ) (e : m ≡ values_of (width_of op) - 1) where
    pub extended_positive : u ≤ m / 2 → u ≡ extended (width_of op) (sign_of op) u
    unfolding extended
    extended_positive l =
        let p : 0 < values_of (width_of op) = values_positive (width_of op) in
        let q : values_of (width_of op) % 2 ≡ 0 = values_even (width_of op) in
        rw (is_signed op h, lt-leb (values_of (width_of op) / 2) u (omega arith))

    pub extended_negative : m / 2 < u → u + (0xFFFFFFFFFFFFFFFF - m) ≡ extended (width_of op) (sign_of op) u
    unfolding extended
    extended_negative l =
        let p : 0 < values_of (width_of op) = values_positive (width_of op) in
        let q : values_of (width_of op) % 2 ≡ 0 = values_even (width_of op) in
        rw (is_signed op h, le-leb (values_of (width_of op) / 2) u (omega arith)) (omega arith)

  pub fits_unsigned : (op / 2 % 2 ≡ 0 → ⊥) → true ≡ fits (width_of op) (sign_of op) u
  unfolding fits
  fits_unsigned n = rw (is_unsigned op n)

  pub fits_signed : op / 2 % 2 ≡ 0 → eqb (extended (width_of op) (sign_of op) (u % values_of (width_of op))) u ≡ fits (width_of op) (sign_of op) u
  unfolding fits
  fits_signed h = rw (is_signed op h)
