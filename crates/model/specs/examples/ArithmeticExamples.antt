-- Theorem. Whole-number arithmetic, computed: each operation at its edges.
use Rattle.std.specs.Prelude.{◌≡◌, ℕ, ◌+◌, ◌-◌, ◌^◌, Bool, true, ◌&&◌, List, [], ◌∷◌, ◌++◌, ◌==◌}
use Rattle.model.specs.LoadStore.{flag_v}
use Rattle.model.specs.examples.LoadStoreExamples.{minus}
use Rattle.model.specs.Arithmetic.{flag_d, results_of}
use Rattle.model.specs.declared.Operation.{Operation}
use Rattle.model.specs.declared.Operation.TheVariants.{Mul, Mulu, Div, Divu, Add, Addu, Sub, Subu, Addu2, Addu4, Addu8, Addu16, Cmp, Cmpu, Neg, Negu, Sl, Slu, Sr, Sru}
use Rattle.model.specs.declared.Operands.{Operands}
use Rattle.model.specs.declared.Results.{Results}

pub record ArithmeticExample : Type 0 where
  pub operation : Operation
  pub operands : Operands
  pub results : Results

abbrev same : Results → Results → Bool
same r t = r.x == t.x && (r.rh == t.rh && (r.rr == t.rr && r.flags == t.flags))

unfoldable pub all_same : List ArithmeticExample → Bool
all_same [] = true
all_same (c ∷ cs) = same (results_of c.operation c.operands) c.results && all_same cs

-- ---- operations with rH = 7 and rR = 9 before

-- $Y, $Z and rD; $X, rH, rR and the flags
abbrev giving : Operation → ℕ → ℕ → ℕ → ℕ → ℕ → ℕ → ℕ → ArithmeticExample
giving o y z d x h r f = record { operation = o; operands = record { y = y; z = z; rd = d; rh = 7; rr = 9 }; results = record { x = x; rh = h; rr = r; flags = f } }

-- $X alone, and the flags
abbrev at : Operation → ℕ → ℕ → ℕ → ℕ → ArithmeticExample
at o y z x f = giving o y z 5 x 7 9 f

abbrev lowest : ℕ
lowest = 2 ^ 63

abbrev highest : ℕ
highest = 2 ^ 63 - 1

abbrev product_examples : List ArithmeticExample
product_examples =
    at Mul 3 (minus 7) (minus 21) 0 ∷ at Mul lowest (minus 1) lowest flag_v ∷ at Mul lowest 1 lowest 0 ∷ at Mul (minus 1) (minus 1) 1 0
    ∷ at Mul (2 ^ 32) (2 ^ 31) lowest flag_v ∷ at Mul (minus (2 ^ 32)) (2 ^ 31) lowest 0 ∷ at Mul highest highest 1 flag_v ∷ at Mul lowest lowest 0 flag_v ∷ at Mul 0 lowest 0 0
    ∷ giving Mulu (minus 1) (minus 1) 5 1 (minus 2) 9 0 ∷ giving Mulu lowest 2 5 0 1 9 0 ∷ giving Mulu 3 5 5 15 0 9 0 ∷ []

-- DIV: $Y, $Z; $X, rR and the flags
abbrev by : ℕ → ℕ → ℕ → ℕ → ℕ → ArithmeticExample
by y z x r f = giving Div y z 5 x 7 r f

abbrev quotient_examples : List ArithmeticExample
quotient_examples =
    by 7 2 3 1 0 ∷ by (minus 7) 2 (minus 4) 1 0 ∷ by 7 (minus 2) (minus 4) (minus 1) 0 ∷ by (minus 7) (minus 2) 3 (minus 1) 0
    ∷ by 6 (minus 2) (minus 3) 0 0 ∷ by (minus 6) 2 (minus 3) 0 0 ∷ by (minus 1) highest (minus 1) (highest - 1) 0 ∷ by 1 lowest (minus 1) (minus highest) 0
    ∷ by lowest (minus 1) lowest 0 flag_v ∷ by lowest 1 lowest 0 0 ∷ by lowest lowest 1 0 0 ∷ by 5 0 0 5 flag_d ∷ by lowest 0 0 lowest flag_d ∷ by 0 0 0 0 flag_d ∷ []

-- DIVU: rD, $Y, $Z; $X and rR
abbrev wide : ℕ → ℕ → ℕ → ℕ → ℕ → ArithmeticExample
wide d y z x r = giving Divu y z d x 7 r 0

abbrev wide_quotient_examples : List ArithmeticExample
wide_quotient_examples =
    wide 0 7 2 3 1 ∷ wide 0 (minus 7) 2 (highest - 3) 1 ∷ wide 1 0 2 lowest 0 ∷ wide 2 (minus 1) 3 (minus 1) 2
    ∷ wide (lowest + 4) (minus 1) (lowest + 5) (minus 1) (lowest + 4) ∷ wide (minus 2) (minus 1) (minus 1) (minus 1) (minus 2)
    ∷ wide 3 8 3 3 8 ∷ wide 4 8 3 4 8 ∷ wide 0 8 0 0 8 ∷ wide 4 8 0 4 8 ∷ []

abbrev sum_examples : List ArithmeticExample
sum_examples =
    at Add highest 1 lowest flag_v ∷ at Add lowest (minus 1) highest flag_v ∷ at Add (minus 1) 1 0 0 ∷ at Add lowest highest (minus 1) 0 ∷ at Add lowest lowest 0 flag_v
    ∷ at Addu (minus 1) 1 0 0 ∷ at Addu highest 1 lowest 0
    ∷ at Sub lowest 1 highest flag_v ∷ at Sub highest (minus 1) lowest flag_v ∷ at Sub 5 7 (minus 2) 0 ∷ at Sub lowest lowest 0 0 ∷ at Sub 0 lowest lowest flag_v ∷ at Sub (minus 1) lowest highest 0
    ∷ at Subu 0 1 (minus 1) 0 ∷ at Subu lowest 1 highest 0 ∷ at Subu 7 0 7 0
    ∷ at Addu2 lowest 1 1 0 ∷ at Addu4 (2 ^ 62 + 1) 3 7 0 ∷ at Addu8 (2 ^ 61 + 1) 3 11 0 ∷ at Addu16 (2 ^ 60 + 1) 3 19 0 ∷ at Addu16 (minus 1) (minus 1) (minus 17) 0
    ∷ at Neg 0 lowest lowest flag_v ∷ at Neg 1 lowest (lowest + 1) flag_v ∷ at Neg 255 5 250 0 ∷ at Neg 0 5 (minus 5) 0 ∷ at Neg 0 highest (minus highest) 0
    ∷ at Negu 0 5 (minus 5) 0 ∷ at Negu 255 lowest (lowest + 255) 0 ∷ []

abbrev order_examples : List ArithmeticExample
order_examples =
    at Cmp (minus 1) 1 (minus 1) 0 ∷ at Cmp 1 (minus 1) 1 0 ∷ at Cmp lowest highest (minus 1) 0 ∷ at Cmp (minus 2) (minus 1) (minus 1) 0 ∷ at Cmp (minus 5) (minus 5) 0 0 ∷ at Cmp 7 5 1 0
    ∷ at Cmpu (minus 1) 1 1 0 ∷ at Cmpu 1 (minus 1) (minus 1) 0 ∷ at Cmpu lowest highest 1 0 ∷ at Cmpu lowest lowest 0 0 ∷ []

abbrev shift_examples : List ArithmeticExample
shift_examples =
    at Sl 1 62 (2 ^ 62) 0 ∷ at Sl 1 63 lowest flag_v ∷ at Sl (minus 1) 63 lowest 0 ∷ at Sl (minus 2) 63 0 flag_v ∷ at Sl (minus 1) 64 0 flag_v ∷ at Sl 1 64 0 flag_v
    ∷ at Sl 1 (2 ^ 63) 0 flag_v ∷ at Sl 0 (2 ^ 63) 0 0 ∷ at Sl 0 64 0 0 ∷ at Sl (minus 5) 0 (minus 5) 0
    ∷ at Slu 1 63 lowest 0 ∷ at Slu (minus 1) 63 lowest 0 ∷ at Slu (minus 1) 64 0 0 ∷ at Slu (minus 1) (2 ^ 63) 0 0 ∷ at Slu (minus 1) 0 (minus 1) 0
    ∷ at Sr (minus 5) 1 (minus 3) 0 ∷ at Sr lowest 63 (minus 1) 0 ∷ at Sr highest 63 0 0 ∷ at Sr lowest 64 (minus 1) 0 ∷ at Sr highest 64 0 0
    ∷ at Sr (minus 5) (2 ^ 63) (minus 1) 0 ∷ at Sr 5 (2 ^ 63) 0 0 ∷ at Sr (minus 5) 0 (minus 5) 0
    ∷ at Sru (minus 1) 1 highest 0 ∷ at Sru (minus 1) 63 1 0 ∷ at Sru (minus 1) 64 0 0 ∷ at Sru (minus 1) (2 ^ 63) 0 0 ∷ at Sru (minus 1) 0 (minus 1) 0 ∷ []

unfoldable pub arithmetic_examples : List ArithmeticExample
arithmetic_examples = product_examples ++ (quotient_examples ++ (wide_quotient_examples ++ (sum_examples ++ (order_examples ++ shift_examples))))

abbrev pub ArithmeticExamplesMet : Type 0
ArithmeticExamplesMet = all_same arithmetic_examples ≡ true
