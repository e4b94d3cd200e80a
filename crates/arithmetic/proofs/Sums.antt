-- Results and flags of signed operations, by what the library's own say.
use Rattle.model.proofs.Prelude.{ℕ, ◌%◌, ◌+◌, ◌-◌, ◌<◌, ◌^◌, Bool, bool_beq, cond, false, not, true, ap, ap₂, refl, subst, ◌∙◌, ◌≡◌}
use Rattle.model.proofs.Prelude.{arith, negsuc, pos, ℤ, ◌-ℤ◌, le-ltb, lt-ltb, exact, overflow_of, is_negative}
use Rattle.model.proofs.Prelude.{flag_v, is_signed, octa_of, signed_of, by_order, by_sign, octa_minus}
use Rattle.model.proofs.Prelude.{pos_minus_pos, signed_high, signed_low, w64}
use Rattle.std.specs.Int.{cast_signed, cast_unsigned, int_wrap}
use Rattle.std.specs.Bool.{FalseIff}
use Rattle.std.specs.Prelude.{FitsSigned}
use Rattle.std.proofs.lemmas.Int.{of_z-to_z, to_z-of_z, SFits-int_wrap}
use Rattle.model.specs.declared.Operands.{Operands}
use Rattle.model.specs.declared.Results.{Results}

-- ---- the flag, by the test that is not met

pub flag_of : (t : Bool) (n : ℤ) → t ≡ not (is_signed n) → cond t flag_v 0 ≡ overflow_of n
flag_of t n e = ap (λ (b : Bool). cond b flag_v 0) e ∙ turned (is_signed n)
  where
    turned : (b : Bool) → cond (not b) flag_v 0 ≡ cond b 0 flag_v
    turned true = refl
    turned false = refl

-- results that differ from the operands in $X and the flags alone
pub results_made : (a : Operands) {x f : ℕ} (n : ℤ) → x ≡ octa_of n → f ≡ overflow_of n → ◌≡◌ {A = Results} (record { x = x; rh = a.rh; rr = a.rr; flags = f }) (exact a n)
results_made a n ex ef = ap₂ {C = Results} (λ (i j : ℕ). record { x = i; rh = a.rh; rr = a.rr; flags = j }) ex ef

-- whether the signs of two octabytes differ
abbrev pub differ : ℕ → ℕ → Bool
differ y z = not (bool_beq (is_negative y) (is_negative z))

pub octa_difference : (y z : ℕ) → z < 2 ^ 64 → octa_of (pos y -ℤ pos z) ≡ (y + (2 ^ 64 - z)) % 2 ^ 64
octa_difference y z l = rw (pos_minus_pos y z) (octa_minus y z (omega arith))

-- ---- the library's signed numbers

pub cast_is : (v : ℕ) → cast_signed w64 v ≡ signed_of v
cast_is v = by_sign v (λ h. rw (signed_low v h, lt-ltb v (2 ^ 63) h) refl) (λ h. rw (signed_high v h, le-ltb v (2 ^ 63) h) refl)

pub passed_is : (v : ℕ) (a : ℤ) → v < 2 ^ 64 → a ≡ cast_signed w64 v → cast_signed w64 (cast_unsigned w64 a) ≡ signed_of v
passed_is v a h e = rw e (rw (of_z-to_z w64 v h) (cast_is v))

pub signed_fits : (v : ℕ) → FitsSigned w64 (signed_of v)
signed_fits v = by_sign v (λ h. rw (signed_low v h) (record { sfits = h })) (λ h. rw (signed_high v h) (record { sfits = omega arith }))

octa_wrapped : (n : ℤ) → cast_unsigned w64 (int_wrap w64 n) ≡ octa_of n
unfolding octa_of int_wrap
octa_wrapped (pos n) = of_z-to_z w64 (n % 2 ^ 64) (omega arith)
octa_wrapped (negsuc n) = of_z-to_z w64 (2 ^ 64 - 1 - n % 2 ^ 64) (omega arith) ∙ omega arith

overflows : (t : Bool) (n : ℤ) → FalseIff t (FitsSigned w64 n) → t ≡ not (is_signed n)
unfolding is_signed
overflows false (pos n) h = rw (lt-ltb n (2 ^ 63) h.sfits) refl
overflows false (negsuc n) h = rw (lt-ltb n (2 ^ 63) h.sfits) refl
overflows true (pos n) h = by_order n (2 ^ 63) (λ l. absurd (h (record { sfits = l }))) (λ l. rw (le-ltb n (2 ^ 63) l) refl)
overflows true (negsuc n) h = by_order n (2 ^ 63) (λ l. absurd (h (record { sfits = l }))) (λ l. rw (le-ltb n (2 ^ 63) l) refl)

-- r is what is left of n, which the call got as m
pub exactly : (a : Operands) {x f : ℕ} (t : Bool) (r m n : ℤ) → m ≡ n → r ≡ int_wrap w64 n → x ≡ cast_unsigned w64 (cast_signed w64 (cast_unsigned w64 r))
    → f ≡ cond t flag_v 0 → FalseIff t (FitsSigned w64 m) → ◌≡◌ {A = Results} (record { x = x; rh = a.rh; rr = a.rr; flags = f }) (exact a n)
exactly a t r m n em er ex ef et =
    results_made a n
    (ex ∙ ap (λ (i : ℤ). cast_unsigned w64 (cast_signed w64 (cast_unsigned w64 i))) er ∙ ap (cast_unsigned w64) (to_z-of_z w64 (int_wrap w64 n) (SFits-int_wrap w64 n)) ∙ octa_wrapped n)
    (ef ∙ flag_of t n (overflows t n (subst (λ (i : ℤ). FalseIff t (FitsSigned w64 i)) em et)))
