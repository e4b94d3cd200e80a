-- Laws of an operation's results: of octabytes they are octabytes, and at most one flag is raised.
use Rattle.model.proofs.Logic.{ℕ, ◌%◌, ◌*◌, ◌+◌, ◌/◌, ◌<◌, ◌^◌, ◌≤◌, inl, inr, refl, subst, div-le_of_le-mul, div-le_self, div-lt_iff_lt-mul}
use Rattle.model.proofs.Logic.{le_of_lt, mod-lt, mul_comm, mul-le-mul_left, mul-le-mul_right, arith, eqb, leb, negsuc, pos, ℤ, leb-false}
use Rattle.model.specs.Whole.{octa_of, is_signed, wide_of, product_high, product_low, power_of}
use Rattle.model.specs.Arithmetic.{flag_d, overflow_of, plain, exact, parted, divided, divided_wide, results_of}
use Rattle.model.specs.OneRaised.{OneFlag}
use Rattle.model.specs.declared.Operation.{Operation}
use Rattle.model.specs.declared.Operation.TheVariants.{Mul, Mulu, Div, Divu, Add, Addu, Sub, Subu, Addu2, Addu4, Addu8, Addu16, Cmp, Cmpu, Neg, Negu, Sl, Slu, Sr, Sru}
use Rattle.model.specs.declared.Operands.{Operands}
use Rattle.model.specs.declared.Results.{Results}
use Rattle.model.proofs.Bools.{on}

-- ---- octabytes

pub record OperandWords (a : Operands) : Type 0 where
  pub y_word : a.y < 2 ^ 64
  pub z_word : a.z < 2 ^ 64
  pub d_word : a.rd < 2 ^ 64
  pub h_word : a.rh < 2 ^ 64
  pub r_word : a.rr < 2 ^ 64

pub record ResultWords (r : Results) : Type 0 where
  pub x_word : r.x < 2 ^ 64
  pub h_word : r.rh < 2 ^ 64
  pub r_word : r.rr < 2 ^ 64

octa_small : (n : ℤ) → octa_of n < 2 ^ 64
unfolding octa_of
octa_small (pos n) = omega arith
octa_small (negsuc n) = omega arith

high_small : (y z : ℕ) → y < 2 ^ 64 → z < 2 ^ 64 → product_high y z < 2 ^ 64
unfolding product_high
high_small y z a b = under (y * z / 2 ^ 64) y (2 ^ 64) (div-le_of_le-mul (2 ^ 64) (subst (λ (n : ℕ). y * z ≤ n) (mul_comm y (2 ^ 64)) (mul-le-mul_left y (le_of_lt b)))) a
  where
    under : (q n k : ℕ) → q ≤ n → n < k → q < k
    under q n k c d = omega arith

wide_small : (d y z : ℕ) → d < z → y < 2 ^ 64 → wide_of d y / z < 2 ^ 64
wide_small d y z l b =
    let h : (d + 1) * 2 ^ 64 ≤ z * 2 ^ 64 = mul-le-mul_right (2 ^ 64) (omega arith) in
    let k : wide_of d y < 2 ^ 64 * z = omega arith in
    let p : 0 < z = omega arith in
    (div-lt_iff_lt-mul p).1 k

module _ (a : Operands) (w : OperandWords a) where
  as_plain : (v : ℕ) → v < 2 ^ 64 → ResultWords (plain a v)
  as_plain v b = record { x_word = b; h_word = w.h_word; r_word = w.r_word }

  as_exact : (n : ℤ) → ResultWords (exact a n)
  as_exact n = record { x_word = octa_small n; h_word = w.h_word; r_word = w.r_word }

  as_parted : (q r f : ℕ) → q < 2 ^ 64 → r < 2 ^ 64 → ResultWords (parted a q r f)
  as_parted q r f b c = record { x_word = b; h_word = w.h_word; r_word = c }

  wide_words : ResultWords (divided_wide a)
  unfolding divided_wide
  wide_words = on ResultWords (leb a.z a.rd) (λ e. as_parted a.rd a.y 0 w.d_word w.y_word)
      (λ e. let l : a.rd < a.z = leb-false _ _ e in
      let b : a.z < 2 ^ 64 = w.z_word in
      let m : wide_of a.rd a.y % a.z < a.z = mod-lt (wide_of a.rd a.y) (omega arith) in
      as_parted _ _ 0 (wide_small a.rd a.y a.z l w.y_word) (omega arith))

  pub results_words : (f : Operation) → ResultWords (results_of f a)
  unfolding results_of divided
  results_words Mul = as_exact _
  results_words Mulu = record { x_word = unfold product_low in (omega arith); h_word = high_small a.y a.z w.y_word w.z_word; r_word = w.r_word }
  results_words Div = on ResultWords (eqb a.z 0) (λ e. as_parted 0 a.y flag_d (omega arith) w.y_word) (λ e. as_parted _ _ _ (octa_small _) (octa_small _))
  results_words Divu = wide_words
  results_words Add = as_exact _
  results_words Addu = as_plain _ (octa_small _)
  results_words Sub = as_exact _
  results_words Subu = as_plain _ (octa_small _)
  results_words Addu2 = as_plain _ (octa_small _)
  results_words Addu4 = as_plain _ (octa_small _)
  results_words Addu8 = as_plain _ (octa_small _)
  results_words Addu16 = as_plain _ (octa_small _)
  results_words Cmp = as_plain _ (octa_small _)
  results_words Cmpu = as_plain _ (octa_small _)
  results_words Neg = as_exact _
  results_words Negu = as_plain _ (octa_small _)
  results_words Sl = as_exact _
  results_words Slu = as_plain _ (octa_small _)
  results_words Sr = as_plain _ (octa_small _)
  results_words Sru = let b : a.y < 2 ^ 64 = w.y_word in let l : a.y / power_of a.z ≤ a.y = div-le_self a.y (power_of a.z) in as_plain _ (omega arith)

-- ---- flags

overflow_one : (n : ℤ) → OneFlag (overflow_of n)
overflow_one n = on OneFlag (is_signed n) (λ e. inl refl) (λ e. inr (inl refl))

none_one : OneFlag 0
none_one = inl refl

check_one : OneFlag flag_d
check_one = inr (inr refl)

pub flags_one : (f : Operation) (a : Operands) → OneFlag (results_of f a).flags
unfolding results_of divided divided_wide
flags_one Mul a = overflow_one _
flags_one Mulu a = none_one
flags_one Div a = on (λ (r : Results). OneFlag r.flags) (eqb a.z 0) (λ e. check_one) (λ e. overflow_one _)
flags_one Divu a = on (λ (r : Results). OneFlag r.flags) (leb a.z a.rd) (λ e. none_one) (λ e. none_one)
flags_one Add a = overflow_one _
flags_one Addu a = none_one
flags_one Sub a = overflow_one _
flags_one Subu a = none_one
flags_one Addu2 a = none_one
flags_one Addu4 a = none_one
flags_one Addu8 a = none_one
flags_one Addu16 a = none_one
flags_one Cmp a = none_one
flags_one Cmpu a = none_one
flags_one Neg a = overflow_one _
flags_one Negu a = none_one
flags_one Sl a = overflow_one _
flags_one Slu a = none_one
flags_one Sr a = none_one
flags_one Sru a = none_one
