-- What a match on a number leaves where none of its keys fits: the number is no key.
use Rattle.model.proofs.Logic.{ℕ, Bool, false, true, ◌||◌, List, [], ◌∷◌, refl, sym, ◌∙◌, ◌≡◌, eqb, eqb-true, ne_eqb, has_key}

-- what is known, after N, once each key was compared
abbrev MissedAfter : Type 0 → List ℕ → ℕ → Type 0
MissedAfter N [] op = N
MissedAfter N (k ∷ ks) op = MissedAfter (N × (op ≡ k → ⊥)) ks op

abbrev pub Missed : List ℕ → ℕ → Type 0
Missed ks op = MissedAfter (Unit {0}) ks op

missed_after : (N : Type 0) (ks : List ℕ) (op : ℕ) → MissedAfter N ks op → N × ((n : ℕ) → has_key ks n ≡ true → eqb op n ≡ false)
missed_after N [] op m = (m, λ n h. (cc))
missed_after N (k ∷ ks) op m = let r = missed_after (N × (op ≡ k → ⊥)) ks op m in (r.0.0, λ n. go n r.0.1 (r.1 n) (eqb k n) refl)
  where
    go : (n : ℕ) → (op ≡ k → ⊥) → (has_key ks n ≡ true → eqb op n ≡ false) → (b : Bool) → eqb k n ≡ b → (b || has_key ks n) ≡ true → eqb op n ≡ false
    go n u r true e h = ne_eqb op n (λ q. u (q ∙ sym (eqb-true k n e)))
    go n u r false e h = r h

pub missed : (ks : List ℕ) (op : ℕ) → Missed ks op → (n : ℕ) → has_key ks n ≡ true → eqb op n ≡ false
missed ks op m = (missed_after (Unit {0}) ks op m).1
