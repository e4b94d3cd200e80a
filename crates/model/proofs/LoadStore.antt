-- Laws of loads and stores: an operand is one of its width's values, and extended it is an octabyte; a store puts the low bytes of a value into
-- one operand's place and leaves the bytes left and right of it.
use Rattle.model.proofs.Logic.{ℕ, ◌%◌, ◌*◌, ◌+◌, ◌-◌, ◌/◌, ◌<◌, ◌^◌, ◌≤◌, ap, subst, sym, ◌∙◌, ◌≡◌, add-mul, add-mul-div_right, div-add-mod'}
use Rattle.model.proofs.Logic.{div-div-eq-div-mul, div-eq_of_lt, div-lt_iff_lt-mul, mod-eq_of_lt, mod-lt, mul-add-mod_self_right, mul_assoc, mul_comm}
use Rattle.model.proofs.Logic.{mul-le-mul_right, mul-pos, one-le-pow, one-mul, zero-add, arith, leb, pow-add}
use Rattle.model.specs.Opcodes.{Width, byte, wyde, tetra, octabyte, Sign, signed, unsigned}
use Rattle.model.specs.LoadStore.{bytes_in, values_of, place_of, unit_at, operand_in, merged, extended}
use Rattle.model.specs.Leaves.{StoreMade}
use Rattle.model.proofs.Bools.{on}

-- ---- sizes

positive : (n : ℕ) → 0 < 256 ^ n
positive n = one-le-pow n 256 (omega arith)

pub values_positive : (d : Width) → 0 < values_of d
values_positive d = positive (bytes_in d)

pub unit_positive : (d : Width) (a : ℕ) → 0 < unit_at d a
unfolding unit_at
unit_positive d a = positive _

pub operand_small : (d : Width) (a v : ℕ) → operand_in d a v < values_of d
unfolding operand_in
operand_small d a v = mod-lt (v / unit_at d a) (values_positive d)

values_most : (d : Width) → values_of d ≤ 2 ^ 64
unfolding bytes_in
values_most byte = omega arith
values_most wyde = omega arith
values_most tetra = omega arith
values_most octabyte = omega arith

pub extended_small : (d : Width) (g : Sign) (u : ℕ) → u < values_of d → extended d g u < 2 ^ 64
unfolding extended
extended_small d signed u l =
    let m : values_of d ≤ 2 ^ 64 = values_most d in
    on (λ (n : ℕ). n < 2 ^ 64) (leb (values_of d / 2) u) (λ e. omega arith) (λ e. omega arith)
extended_small d unsigned u l = let m : values_of d ≤ 2 ^ 64 = values_most d in omega arith

-- ---- a store, over any number of values n and any unit

module _ (v u n unit : ℕ) (np : 0 < n) (up : 0 < unit) where
  -- the bytes left of the operand, those right of it
  abbrev head : ℕ
  head = v / unit / n

  abbrev rest : ℕ
  rest = v % unit

  placed : v - v / unit % n * unit + u % n * unit ≡ (head * n + u % n) * unit + rest
  placed =
      let e : v / unit * unit + rest ≡ v = div-add-mod' v unit in
      let f : head * n + v / unit % n ≡ v / unit = div-add-mod' (v / unit) n in
      let g : (head * n + v / unit % n) * unit ≡ head * n * unit + v / unit % n * unit = add-mul (head * n) (v / unit % n) unit in
      let h : (head * n + u % n) * unit ≡ head * n * unit + u % n * unit = add-mul (head * n) (u % n) unit in
      let k : (head * n + v / unit % n) * unit ≡ v / unit * unit = ap (λ (m : ℕ). m * unit) f in
      omega arith

  shifted : ((head * n + u % n) * unit + rest) / unit ≡ head * n + u % n
  shifted =
      ap (λ (m : ℕ). m / unit) {x = (head * n + u % n) * unit + rest} {y = rest + (head * n + u % n) * unit} (omega arith)
      ∙ add-mul-div_right rest (head * n + u % n) up ∙ ap (λ (m : ℕ). m + (head * n + u % n)) (div-eq_of_lt (mod-lt v up)) ∙ zero-add (head * n + u % n)

  pub placed_right : (v - v / unit % n * unit + u % n * unit) % unit ≡ v % unit
  placed_right = ap (λ (m : ℕ). m % unit) placed ∙ mul-add-mod_self_right (head * n + u % n) unit rest ∙ mod-eq_of_lt (mod-lt v up)

  pub placed_operand : (v - v / unit % n * unit + u % n * unit) / unit % n ≡ u % n
  placed_operand = ap (λ (m : ℕ). m / unit % n) placed ∙ ap (λ (m : ℕ). m % n) shifted ∙ mul-add-mod_self_right head n (u % n) ∙ mod-eq_of_lt (mod-lt u np)

  pub placed_left : (v - v / unit % n * unit + u % n * unit) / (unit * n) ≡ v / (unit * n)
  placed_left =
      sym (div-div-eq-div-mul _ unit n) ∙ ap (λ (m : ℕ). m / unit / n) placed ∙ ap (λ (m : ℕ). m / n) shifted
      ∙ ap (λ (m : ℕ). m / n) {x = head * n + u % n} {y = u % n + head * n} (omega arith)
      ∙ add-mul-div_right (u % n) head np ∙ ap (λ (m : ℕ). m + head) (div-eq_of_lt (mod-lt u np)) ∙ zero-add head ∙ div-div-eq-div-mul v unit n

  pub placed_least : v / unit % n * unit ≤ v
  placed_least =
      let e : v / unit * unit + rest ≡ v = div-add-mod' v unit in
      let f : head * n + v / unit % n ≡ v / unit = div-add-mod' (v / unit) n in
      let g : v / unit % n * unit ≤ v / unit * unit = mul-le-mul_right unit (omega arith) in
      omega arith

  -- where the bytes of an octabyte are m times those of n values, m counting what may stand left of them
  pub placed_small : (m : ℕ) → v < m * (n * unit) → v - v / unit % n * unit + u % n * unit < m * (n * unit)
  placed_small m l =
      let e : v - v / unit % n * unit + u % n * unit ≡ (head * n + u % n) * unit + rest = placed in
      let r : rest < unit = mod-lt v up in
      let q : u % n < n = mod-lt u np in
      let h : head < m = below in
      let a : (head + 1) * (n * unit) ≤ m * (n * unit) = mul-le-mul_right (n * unit) (omega arith) in
      let b : (head + 1) * (n * unit) ≡ (head * n + n) * unit = sym (mul_assoc (head + 1) n unit) ∙ ap (λ (k : ℕ). k * unit) (add-mul head 1 n ∙ ap (λ (k : ℕ). head * n + k) (one-mul n)) in
      let c : (head * n + u % n + 1) * unit ≤ (head * n + n) * unit = mul-le-mul_right unit (omega arith) in
      let d : (head * n + u % n + 1) * unit ≡ (head * n + u % n) * unit + unit = add-mul (head * n + u % n) 1 unit ∙ ap (λ (k : ℕ). (head * n + u % n) * unit + k) (one-mul unit) in
      omega arith
    where
      below : head < m
      below = rw (div-div-eq-div-mul v unit n, mul_comm unit n) ((div-lt_iff_lt-mul (mul-pos np up)).1 l)

pub store_made : (d : Width) (a v u : ℕ) → StoreMade d a v u
unfolding merged operand_in
store_made d a v u = record {
  left = placed_left v u (values_of d) (unit_at d a) (values_positive d) (unit_positive d a);
  right = placed_right v u (values_of d) (unit_at d a) (values_positive d) (unit_positive d a);
  operand = placed_operand v u (values_of d) (unit_at d a) (values_positive d) (unit_positive d a);
}

-- ---- a store in an octabyte

-- what stands left of an operand counts as many values as are left of an octabyte's
unit_fills : (d : Width) (a : ℕ) → 256 ^ place_of d a * (values_of d * unit_at d a) ≡ 2 ^ 64
unfolding unit_at
unit_fills d a = ap (λ (k : ℕ). 256 ^ place_of d a * k) (sym (pow-add 256 (bytes_in d) (8 - bytes_in d - place_of d a))) ∙ sym (pow-add 256 (place_of d a) (bytes_in d + (8 - bytes_in d - place_of d a)))
    ∙ ap (λ (k : ℕ). 256 ^ k) (place d)
  where
    place : (d : Width) → place_of d a + (bytes_in d + (8 - bytes_in d - place_of d a)) ≡ 8
    place byte = unfold bytes_in in omega arith
    place wyde = unfold bytes_in in omega arith
    place tetra = unfold bytes_in in omega arith
    place octabyte = unfold bytes_in in omega arith

module _ (d : Width) (a v u : ℕ) where
  pub operand_least : operand_in d a v * unit_at d a ≤ v
  unfolding operand_in
  operand_least = placed_least v u (values_of d) (unit_at d a) (values_positive d) (unit_positive d a)

  pub merged_small : v < 2 ^ 64 → merged d a v u < 2 ^ 64
  unfolding merged operand_in
  merged_small l = subst (λ (k : ℕ). v - v / unit_at d a % values_of d * unit_at d a + u % values_of d * unit_at d a < k) (unit_fills d a)
      (placed_small v u (values_of d) (unit_at d a) (values_positive d) (unit_positive d a) (256 ^ place_of d a) (subst (λ (k : ℕ). v < k) (sym (unit_fills d a)) l))
