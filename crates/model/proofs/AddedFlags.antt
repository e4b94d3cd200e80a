-- What an exception adds to rA: laws of the flags of a byte, of the taken flag and those added, and that of one flag alone at most one is raised and enabled.
use Rattle.model.proofs.Logic.{min, suc, zero, ℕ, ◌%◌, ◌*◌, ◌+◌, ◌-◌, ◌/◌, ◌<◌, ◌^◌, ◌≤◌, Bool, true, inl, inr, ◌≢◌, ap, sym, ◌∙◌, ◌≡◌, arith, and_le_l}
use Rattle.model.proofs.Logic.{and_le_r, and_step, bit_and, leading_top, count_leading_zeros, eqb, eqb-false, eqb-true}
use Rattle.model.specs.Trips.{enables, enabled, vector_of, leftmost, taken, added, with_added, raised}
use Rattle.model.specs.OneRaised.{OneFlag, added_before, raised_before}
use Rattle.model.specs.declared.State.{State}
use Rattle.model.proofs.Bools.{each, at_each, on}

-- ---- flags of a byte: a's bits but those of e

-- the bits above the lowest, and the lowest
but_half : (n e : ℕ) → e < 2 ^ suc n → (2 ^ suc n - 1 - e) / 2 ≡ 2 ^ n - 1 - e / 2
but_half n e h = omega arith

but_bit : (n e : ℕ) → e < 2 ^ suc n → (2 ^ suc n - 1 - e) % 2 ≡ 1 - e % 2
but_bit n e h = omega arith

and_but_step : (n a e : ℕ) → e < 2 ^ suc n → bit_and a (2 ^ suc n - 1 - e) ≡ bit_and (a / 2) (2 ^ n - 1 - e / 2) * 2 + min (a % 2) (1 - e % 2)
and_but_step n a e h = and_step a (2 ^ suc n - 1 - e) ∙ rw (but_half n e h, but_bit n e h)

-- the bits of a that are not in e are those that are not in both: bit by bit
and_but : (n a e : ℕ) → e < 2 ^ n → bit_and a (2 ^ n - 1 - e) ≡ bit_and a (2 ^ n - 1 - bit_and a e)
and_but zero a e h = ap (bit_and a) (omega arith)
and_but (suc n) a e h =
    let c : bit_and a e ≤ e = and_le_r a e in
    let s : bit_and a e ≡ bit_and (a / 2) (e / 2) * 2 + min (a % 2) (e % 2) = and_step a e in
    let q : bit_and a e / 2 ≡ bit_and (a / 2) (e / 2) = omega arith in
    let r : bit_and (a / 2) (2 ^ n - 1 - e / 2) ≡ bit_and (a / 2) (2 ^ n - 1 - bit_and a e / 2) = and_but n (a / 2) (e / 2) (omega arith) ∙ rw q in
    and_but_step n a e h ∙ omega arith ∙ sym (and_but_step n a (bit_and a e) (omega arith))

-- those in e and those that are not are all
and_whole : (n a e : ℕ) → a < 2 ^ n → e < 2 ^ n → bit_and a e + bit_and a (2 ^ n - 1 - e) ≡ a
and_whole zero a e b h =
    let c : bit_and a e ≤ a = and_le_l a e in
    let d : bit_and a (2 ^ 0 - 1 - e) ≤ a = and_le_l a (2 ^ 0 - 1 - e) in
    omega arith
and_whole (suc n) a e b h =
    let s : bit_and a e ≡ bit_and (a / 2) (e / 2) * 2 + min (a % 2) (e % 2) = and_step a e in
    let t : bit_and a (2 ^ suc n - 1 - e) ≡ bit_and (a / 2) (2 ^ n - 1 - e / 2) * 2 + min (a % 2) (1 - e % 2) = and_but_step n a e h in
    let r : bit_and (a / 2) (e / 2) + bit_and (a / 2) (2 ^ n - 1 - e / 2) ≡ a / 2 = and_whole n (a / 2) (e / 2) (omega arith) (omega arith) in
    omega arith

-- the topmost bit of what a and b share is a bit of a
top_shared : (j a b : ℕ) → 2 ^ j ≤ bit_and a b → bit_and a b < 2 ^ suc j → bit_and a (2 ^ j) ≡ 2 ^ j
top_shared zero a b l h =
    let s : bit_and a b ≡ bit_and (a / 2) (b / 2) * 2 + min (a % 2) (b % 2) = and_step a b in
    let t : bit_and a 1 ≡ bit_and (a / 2) 0 * 2 + min (a % 2) 1 = and_step a 1 in
    let z : bit_and (a / 2) 0 ≤ 0 = and_le_r (a / 2) 0 in
    omega arith
top_shared (suc j) a b l h =
    let s : bit_and a b ≡ bit_and (a / 2) (b / 2) * 2 + min (a % 2) (b % 2) = and_step a b in
    let r : bit_and (a / 2) (2 ^ j) ≡ 2 ^ j = top_shared j (a / 2) (b / 2) (omega arith) (omega arith) in
    and_step a (2 ^ suc j) ∙ rw (half, even, r) (omega arith)
  where
    half : 2 ^ suc j / 2 ≡ 2 ^ j
    half = omega arith

    even : 2 ^ suc j % 2 ≡ 0
    even = omega arith

-- ---- what is taken, and what is added

-- the place of the leftmost flag that is raised and enabled
topmost : (s : State) (f : ℕ) → (enabled s f ≡ 0 → ⊥) → (j : ℕ) × (8 - vector_of (enabled s f) ≡ j) × (2 ^ j ≤ enabled s f) × (enabled s f < 2 ^ suc j)
topmost s f n =
    let b : enabled s f ≤ f % 256 = and_le_l (f % 256) (enables s) in
    let t = leading_top 8 (enabled s f) (omega (arith, n)) (omega arith) in
    (t.0, omega (arith, t.1), t.2, t.3)

-- the taken flag is one of those raised
taken_raised : (s : State) (f : ℕ) → bit_and (f % 256) (taken s f) ≡ taken s f
unfolding leftmost
taken_raised s f = on (λ (t : ℕ). bit_and (f % 256) t ≡ t) (eqb (enabled s f) 0) (λ e. none_of (and_le_r (f % 256) 0)) (λ e. one (eqb-false _ _ e))
  where
    none_of : bit_and (f % 256) 0 ≤ 0 → bit_and (f % 256) 0 ≡ 0
    none_of h = omega arith

    one : (enabled s f ≡ 0 → ⊥) → bit_and (f % 256) (2 ^ (8 - vector_of (enabled s f))) ≡ 2 ^ (8 - vector_of (enabled s f))
    one n =
        let t = topmost s f n in rw t.1 (top_shared t.0 (f % 256) (enables s) t.2 t.3)

taken_byte : (s : State) (f : ℕ) → taken s f < 256
taken_byte s f = let b : bit_and (f % 256) (taken s f) ≤ f % 256 = and_le_l (f % 256) (taken s f) in let e = taken_raised s f in omega (arith, e)

pub all_told : (s : State) (f : ℕ) → taken s f + added s f ≡ f % 256
unfolding added
all_told s f = ap (λ (t : ℕ). t + bit_and (f % 256) (255 - taken s f)) (sym (taken_raised s f)) ∙ and_whole 8 (f % 256) (taken s f) (omega arith) (taken_byte s f)

-- before, those enabled and those added were all
told_before : (s : State) (f : ℕ) → enabled s f + added_before s f ≡ f % 256
unfolding added_before
told_before s f = and_whole 8 (f % 256) (enables s) (omega arith) (omega arith)

-- the taken flag is one of those enabled
taken_enabled : (s : State) (f : ℕ) → taken s f ≤ enabled s f
unfolding leftmost
taken_enabled s f = on (λ (t : ℕ). t ≤ enabled s f) (eqb (enabled s f) 0) (λ e. omega arith) (λ e. top (eqb-false _ _ e))
  where
    top : (enabled s f ≡ 0 → ⊥) → 2 ^ (8 - vector_of (enabled s f)) ≤ enabled s f
    top n =
        let t = topmost s f n in rw t.1 t.2

pub added_differs : (s : State) (f : ℕ) → enabled s f ≢ taken s f → added_before s f < added s f
added_differs s f n = omega (arith, n, all_told s f, told_before s f, taken_enabled s f)

added_before_law : (s : State) (f : ℕ) → enabled s f ≡ taken s f → added_before s f ≡ added s f
unfolding added_before added
added_before_law s f e = and_but 8 (f % 256) (enables s) (omega arith) ∙ ap (λ (t : ℕ). bit_and (f % 256) (255 - t)) e

pub exception_before : (s : State) (f word u v : ℕ) → enabled s f ≡ taken s f → raised_before s f word u v ≡ raised s f word u v
unfolding raised_before raised with_added
exception_before s f word u v e = rw (added_before_law s f e)

-- ---- one flag

-- with any enables: at most one is raised and enabled
is_taken : ℕ → ℕ → Bool
is_taken f n = eqb (bit_and (f % 256) n) (leftmost (bit_and (f % 256) n))

is_taken_law : (f : ℕ) → OneFlag f → each 256 (is_taken f) ≡ true
unfolding each is_taken leftmost count_leading_zeros
is_taken_law f (inl e) = rw e
is_taken_law f (inr (inl e)) = rw e
is_taken_law f (inr (inr e)) = rw e

pub one_enabled : (s : State) (f : ℕ) → OneFlag f → enabled s f ≡ taken s f
unfolding is_taken
one_enabled s f o = eqb-true _ _ (at_each 256 (is_taken f) (is_taken_law f o) (enables s) (omega arith))
