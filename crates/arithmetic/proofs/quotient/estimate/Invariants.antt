-- `estimate` meets its contract. With v1 and v0 the halves of v, each turn keeps q * v1 + r ≡ h and lowers a q that is too large; the loop is left where q is
-- not: by the test, or with r of more than a digit, where the test would pass. The measure is q.
use Rattle.model.proofs.Prelude.{ℕ, ◌%◌, ◌*◌, ◌+◌, ◌/◌, ◌<◌, ◌^◌, ◌≡◌}
use Rattle.arithmetic.proofs.quotient.estimate.Given as goal

-- v1 * 2^32 + v0 is the divisor, h * 2^32 + l the dividend
abbrev Holds : (h l v1 v0 q r : ℕ) → Type 0
Holds h l v1 v0 q r = (q * v1 + r ≡ h) × (h * 2 ^ 32 + l < (q + 1) * (v1 * 2 ^ 32 + v0))

abbrev pub invariant-loop-r : goal.invariant-loop-r
invariant-loop-r l = Holds l.h l.l (l.v / 2 ^ 32) (l.v % 2 ^ 32) l.q l.r

abbrev pub decreases-loop-r : goal.decreases-loop-r
decreases-loop-r l = l.q
