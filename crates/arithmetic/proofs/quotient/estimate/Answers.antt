-- `estimate` meets its contract: no product wraps, each turn keeps what the loop has and makes q smaller, and q is right where it is left.
use Rattle.model.proofs.Prelude.{suc, zero, ℕ, ◌%◌, ◌*◌, ◌+◌, ◌-◌, ◌/◌, ◌<◌, ◌^◌, ◌≤◌, subst, ◌≡◌, div-add-mod', le_of_lt, lt_of_mul-lt-mul_right}
use Rattle.model.proofs.Prelude.{mod-lt, mul-le-mul_right, sub-one, arith, split}
use Rattle.arithmetic.proofs.Digits.{digit_product, factor_pos}
use Rattle.arithmetic.proofs.quotient.estimate.Goals as goal
use Rattle.arithmetic.proofs.quotient.estimate.Goals.{else-q-lt4294967296-via-then-q-lt4294967296+else-q-v0, else-q-lt4294967296-via-else-q-lt4294967296}

-- v1 * 2^32 + v0 is the divisor, h * 2^32 + l the dividend
abbrev Holds : (h l v1 v0 q r : ℕ) → Type 0
Holds h l v1 v0 q r = (q * v1 + r ≡ h) × (h * 2 ^ 32 + l < (q + 1) * (v1 * 2 ^ 32 + v0))

start : (h l v1 v0 : ℕ) → 0 < v1 → l < 2 ^ 32 → Holds h l v1 v0 (h / v1) (h % v1)
start h l v1 v0 p hl = let e : h / v1 * v1 + h % v1 ≡ h = div-add-mod' h v1 in (e, omega (arith, mod-lt h p))

-- q is above the digit
abbrev Above : (h l v1 v0 q : ℕ) → Type 0
Above h l v1 v0 q = h * 2 ^ 32 + l < q * (v1 * 2 ^ 32 + v0)

refuted : (h l v1 v0 q r : ℕ) → q * v1 + r ≡ h → r * 2 ^ 32 + l < q * v0 → Above h l v1 v0 q
refuted h l v1 v0 q r e t = omega arith

long : (h l v1 v0 q : ℕ) → h < v1 * 2 ^ 32 + v0 → l < 2 ^ 32 → 2 ^ 32 ≤ q → Above h l v1 v0 q
long h l v1 v0 q hh hl t = omega (arith, mul-le-mul_right (v1 * 2 ^ 32 + v0) t)

above_pos : (h l v1 v0 q : ℕ) → Above h l v1 v0 q → 0 < q
above_pos h l v1 v0 q t = factor_pos q (v1 * 2 ^ 32 + v0) (omega arith)

again : (h l v1 v0 q r : ℕ) → q * v1 + r ≡ h → Above h l v1 v0 q → Holds h l v1 v0 (q - 1) (r + v1)
again h l v1 v0 zero r e t = omega arith
again h l v1 v0 (suc p) r e t = rw sub-one (omega arith)

-- q is not above the digit
abbrev NotAbove : (h l v1 v0 q : ℕ) → Type 0
NotAbove h l v1 v0 q = q * (v1 * 2 ^ 32 + v0) ≤ h * 2 ^ 32 + l

tested : (h l v1 v0 q r : ℕ) → q * v1 + r ≡ h → q * v0 ≤ r * 2 ^ 32 + l → NotAbove h l v1 v0 q
tested h l v1 v0 q r e t = omega arith

past : (h l v1 v0 q r : ℕ) → q * v1 + r ≡ h → h < v1 * 2 ^ 32 + v0 → v0 < 2 ^ 32 → 2 ^ 32 ≤ r → NotAbove h l v1 v0 q
past h l v1 v0 q r e hh hv t =
    let short : q < 2 ^ 32 = lt_of_mul-lt-mul_right v1 {m = q} {n = 2 ^ 32} (omega arith) in
    tested h l v1 v0 q r e (omega (arith, mul-le-mul_right v0 (le_of_lt short)))

-- both, of v itself: what the contract says
exact : (h l v q r : ℕ) → Holds h l (v / 2 ^ 32) (v % 2 ^ 32) q r → NotAbove h l (v / 2 ^ 32) (v % 2 ^ 32) q
    → (q * v ≤ h * 2 ^ 32 + l) × (h * 2 ^ 32 + l < (q + 1) * v) × (q * (v / 2 ^ 32) + r ≡ h)
exact h l v q r i t =
    (subst (λ (x : ℕ). q * x ≤ h * 2 ^ 32 + l) (split v 32) t, subst (λ (x : ℕ). h * 2 ^ 32 + l < (q + 1) * x) (split v 32) i.1, i.0)

pub loop-r-init : goal.loop-r-init
loop-r-init c = start c.args.h c.args.l (c.args.v / 2 ^ 32) (c.args.v % 2 ^ 32) (omega arith) c.requires.2

pub overflow_mul-q : goal.overflow_mul-q
overflow_mul-q c = omega (arith, digit_product c.loop-r.q (c.args.v % 2 ^ 32) (omega arith) (omega arith))

pub overflow_sub-q : goal.overflow_sub-q
overflow_sub-q c =
    let a = c.args in
    let t : Above a.h a.l (a.v / 2 ^ 32) (a.v % 2 ^ 32) c.loop-r.q =
    elim c.else-q-lt4294967296.branch [
      | else-q-lt4294967296-via-then-q-lt4294967296+else-q-v0 w ↦ refuted a.h a.l (a.v / 2 ^ 32) (a.v % 2 ^ 32) c.loop-r.q c.loop-r.r c.loop-r.invariant.0 w.if-q-v0.false
      | else-q-lt4294967296-via-else-q-lt4294967296 w ↦ long a.h a.l (a.v / 2 ^ 32) (a.v % 2 ^ 32) c.loop-r.q (omega arith) c.requires.2 w.if-q-lt4294967296.false
    ] in
    above_pos _ _ _ _ _ t

pub loop-r-smaller : goal.loop-r-smaller
loop-r-smaller c =
    let a = c.args in
    let t : Above a.h a.l (a.v / 2 ^ 32) (a.v % 2 ^ 32) c.loop-r.q =
    elim c.else-q-lt4294967296.branch [
      | else-q-lt4294967296-via-then-q-lt4294967296+else-q-v0 w ↦ refuted a.h a.l (a.v / 2 ^ 32) (a.v % 2 ^ 32) c.loop-r.q c.loop-r.r c.loop-r.invariant.0 w.if-q-v0.false
      | else-q-lt4294967296-via-else-q-lt4294967296 w ↦ long a.h a.l (a.v / 2 ^ 32) (a.v % 2 ^ 32) c.loop-r.q (omega arith) c.requires.2 w.if-q-lt4294967296.false
    ] in
    omega (arith, above_pos _ _ _ _ _ t)

pub loop-r-preserved : goal.loop-r-preserved
loop-r-preserved c =
    let a = c.args in
    let t : Above a.h a.l (a.v / 2 ^ 32) (a.v % 2 ^ 32) c.loop-r.q =
    elim c.else-q-lt4294967296.branch [
      | else-q-lt4294967296-via-then-q-lt4294967296+else-q-v0 w ↦ refuted a.h a.l (a.v / 2 ^ 32) (a.v % 2 ^ 32) c.loop-r.q c.loop-r.r c.loop-r.invariant.0 w.if-q-v0.false
      | else-q-lt4294967296-via-else-q-lt4294967296 w ↦ long a.h a.l (a.v / 2 ^ 32) (a.v % 2 ^ 32) c.loop-r.q (omega arith) c.requires.2 w.if-q-lt4294967296.false
    ] in
    again _ _ _ _ _ _ c.loop-r.invariant.0 t

pub returns-after-loop-r : goal.returns-after-loop-r
returns-after-loop-r c =
    let a = c.args in
    exact a.h a.l a.v c.loop-r.q c.loop-r.r c.loop-r.invariant
    (past a.h a.l (a.v / 2 ^ 32) (a.v % 2 ^ 32) c.loop-r.q c.loop-r.r c.loop-r.invariant.0 (omega arith) (omega arith) c.loop-r-test.false)

pub returns-then-q-v0 : goal.returns-then-q-v0
returns-then-q-v0 c =
    let a = c.args in
    exact a.h a.l a.v c.loop-r.q c.loop-r.r c.loop-r.invariant
    (tested a.h a.l (a.v / 2 ^ 32) (a.v % 2 ^ 32) c.loop-r.q c.loop-r.r c.loop-r.invariant.0 c.if-q-v0.true)
