-- Laws of a range, `over`, for loops that go down: a turn, and where one ends. Those of any loop are in RegisterRanges; what lies out of a range is in
-- model's Fill.
use Rattle.model.proofs.Prelude.{min, ℕ, ◌+◌, ◌<◌, ◌≤◌, List, ⊎_elim, ap, sym, ◌∙◌, ◌≡◌, eq-or-lt_of_le, arith, get_or, length, length-set, set, ext_get_or}
use Rattle.model.proofs.Prelude.{get_or-set_other, get_or-set_same, over, length_over, lt_or_le, over_above, over_below, over_in, over_none}

-- one element more below: what a loop that goes down does in a turn
pub over_down : (f : ℕ → ℕ) (i b : ℕ) (l : List ℕ) (v : ℕ) → i < b → v ≡ f i → set (over f (i + 1) b l) i v ≡ over f i b l
over_down f i b l v h e =
    ext_get_or 0 (set (over f (i + 1) b l) i v) (over f i b l) (simp (length-set, length_over))
    (λ k n. let m : k < length l = omega (arith, length-set (over f (i + 1) b l) i v, length_over f (i + 1) b l) in
    ⊎_elim
    (λ lo. get_or-set_other (over f (i + 1) b l) i k v 0 (λ q. let z : k ≡ i = q in omega arith)
    ∙ over_below f (i + 1) b l k (omega arith) m ∙ sym (over_below f i b l k lo m))
    (λ ge. ⊎_elim
    (λ here. ap (λ (j : ℕ). get_or (set (over f (i + 1) b l) i v) j 0) (sym here)
    ∙ get_or-set_same (over f (i + 1) b l) i v 0 (omega (arith, length_over f (i + 1) b l))
    ∙ e ∙ ap f here ∙ sym (over_in f i b l k ge (omega arith) m))
    (λ gt. get_or-set_other (over f (i + 1) b l) i k v 0 (λ q. let z : k ≡ i = q in omega arith)
    ∙ ⊎_elim (λ lo. over_in f (i + 1) b l k (omega arith) lo m ∙ sym (over_in f i b l k ge lo m))
    (λ hi. over_above f (i + 1) b l k hi m ∙ sym (over_above f i b l k hi m))
    (lt_or_le k b))
    (eq-or-lt_of_le ge))
    (lt_or_le k i))

-- where a loop that goes down to a ends
pub over_start : (f : ℕ → ℕ) (a b i : ℕ) (l : List ℕ) → i ≤ a → min a b ≤ i → over f i b l ≡ over f a b l
over_start f a b i l h m =
    ⊎_elim
    (λ lt. ap (λ (k : ℕ). over f k b l) (omega arith))
    (λ ge. over_none f i b l (omega arith) ∙ sym (over_none f a b l ge))
    (lt_or_le a b)
