-- Registers copied within their array are a range, `over`.
use Rattle.model.proofs.Prelude.{ℕ, ◌+◌, ◌-◌, ◌<◌, ◌≤◌, List, ⊎_elim, sym, ◌∙◌, ◌≡◌, arith, get_or, length, ext_get_or, over, length_over, lt_or_le, over_above, over_below, over_in}
use Rattle.std.specs.List.{CopiedTo, SameBelow, SameFrom}

-- n of them from index src on, to index a on
pub over_copied : (f : ℕ → ℕ) (src a n b : ℕ) (l m : List ℕ) → a + n ≡ b → length m ≡ length l
    → ((k : ℕ) → a ≤ k → k < b → get_or l (src + (k - a)) 0 ≡ f k) → CopiedTo l m src a n × SameBelow l m a × SameFrom l m (a + n) → m ≡ over f a b l
over_copied f src a n b l m e len is c =
    ext_get_or 0 m (over f a b l) (len ∙ sym (length_over f a b l))
    (λ k p. let q : k < length l = omega (arith, len) in
    ⊎_elim (λ lo. c.1 k 0 lo ∙ sym (over_below f a b l k lo q))
    (λ hi. ⊎_elim
    (λ in_b. c.0 k 0 hi (omega arith) ∙ is k hi in_b ∙ sym (over_in f a b l k hi in_b q))
    (λ out. c.2 k 0 (omega arith) ∙ sym (over_above f a b l k out q))
    (lt_or_le k b))
    (lt_or_le k a))
