-- Which of the two windows holds an octabyte, and a run of octabytes; runs that lie across both.
use Rattle.model.proofs.Logic.{suc, zero, ℕ, ◌%◌, ◌*◌, ◌+◌, ◌<◌, ◌^◌, ◌≤◌, Bool, cond, false, not, true, true≢false, ◌||◌, ◌≢◌, ap, refl, sym, ◌∙◌, ◌≡◌}
use Rattle.model.proofs.Logic.{arith, eqb, eq-eqb, eqb-true}
use Rattle.model.specs.Memory.{shape_of, has, Windows, Shapes, shapes_of, holder, inside}
use Rattle.model.specs.Reader.{window_of, held_by, across}
use Rattle.model.proofs.Bools.{and_left, and_right, on}
use Rattle.model.proofs.Memory.{holder_octa}
use Rattle.model.proofs.Runs.{octa_mod}

-- ---- one octabyte

-- the window that holds an octabyte has it
pub holder_has : (w : Windows) (k x : ℕ) → k ≤ 1 → holder (shapes_of w) x ≡ k → has (shape_of (window_of w k)) x ≡ true
unfolding holder shapes_of
holder_has w zero x l =
    on (λ (n : ℕ). n ≡ 0 → has (shape_of w.a) x ≡ true) (has (shape_of w.b) x) (λ e h. absurd (omega arith))
    (λ e. on (λ (n : ℕ). n ≡ 0 → has (shape_of w.a) x ≡ true) (has (shape_of w.a) x) (λ f h. f) (λ f h. absurd (omega arith)))
holder_has w (suc zero) x l =
    on (λ (n : ℕ). n ≡ 1 → has (shape_of w.b) x ≡ true) (has (shape_of w.b) x) (λ e h. e)
    (λ e. on (λ (n : ℕ). n ≡ 1 → has (shape_of w.b) x ≡ true) (has (shape_of w.a) x) (λ f h. absurd (omega arith)) (λ f h. absurd (omega arith)))
holder_has w (suc (suc k)) x l = absurd (omega arith)

-- an octabyte that is lent is held by A or by B
pub holder_most : (w : Shapes) (x : ℕ) → inside w x ≡ true → holder w x ≤ 1
unfolding holder inside
holder_most w x = go (has w.b x) (has w.a x)
  where
    go : (b c : Bool) → (b || c) ≡ true → cond b 1 (cond c 0 2) ≤ 1
    go true c e = omega arith
    go false true e = omega arith
    go false false e = let z : false ≡ true = e in absurd (true≢false (sym z))

-- ---- a run

-- octabyte i of a run that one window holds
pub held_at : (w : Shapes) (k n a i : ℕ) → held_by w k a n ≡ true → i < n → holder w (a + 8 * i) ≡ k
unfolding held_by
held_at w k zero a i h l = absurd (omega arith)
held_at w k (suc n) a zero h l = let z : a + 8 * 0 ≡ a = omega arith in rw z (eqb-true _ _ (and_left (eqb (holder w a) k) _ h))
held_at w k (suc n) a (suc i) h l =
    let z : a + 8 * suc i ≡ a + 8 + 8 * i = omega arith in
    rw z (held_at w k n (a + 8) i (and_right (eqb (holder w a) k) _ h) (omega arith))

-- a run of which each octabyte is held by one window; one that lies in one window, and one that does not
pub of_held : (w : Shapes) (k n a : ℕ) → ((i : ℕ) → i < n → holder w (a + 8 * i) ≡ k) → held_by w k a n ≡ true
unfolding held_by
of_held w k zero a h = refl
of_held w k (suc n) a h =
    let e : holder w a ≡ k = ap (holder w) (omega arith) ∙ h 0 (omega arith) in
    rw (e, eq-eqb k k refl) (of_held w k n (a + 8) (λ i l. ap (holder w) (omega arith) ∙ h (suc i) (omega arith)))

pub whole_one : (w : Shapes) (a n : ℕ) → ((i : ℕ) → i < n → holder w (a + 8 * i) ≡ holder w a) → across w a n ≡ false
unfolding across
whole_one w a n h = rw (of_held w (holder w a) n a h)

pub across_two : (w : Shapes) (a n i : ℕ) → i < n → holder w (a + 8 * i) ≢ holder w a → across w a n ≡ true
unfolding across
across_two w a n i l h = go (held_by w (holder w a) a n) refl
  where
    go : (b : Bool) → held_by w (holder w a) a n ≡ b → not b ≡ true
    go true e = absurd (h (held_at w (holder w a) n a i e l))
    go false e = refl

pub whole_held : (w : Shapes) (a n : ℕ) → across w a n ≡ false → held_by w (holder w a) a n ≡ true
unfolding across
whole_held w a n = go (held_by w (holder w a) a n)
  where
    go : (b : Bool) → not b ≡ false → b ≡ true
    go true e = refl
    go false e = sym e

-- a run under any addresses that name it
pub held_mod : (w : Shapes) (k n a b : ℕ) → a % 2 ^ 64 ≡ b % 2 ^ 64 → held_by w k a n ≡ held_by w k b n
unfolding held_by
held_mod w k zero a b e = refl
held_mod w k (suc n) a b e = rw (holder_octa w a b (octa_mod a b e), held_mod w k n (a + 8) (b + 8) (omega arith))

pub across_mod : (w : Shapes) (n a b : ℕ) → a % 2 ^ 64 ≡ b % 2 ^ 64 → across w a n ≡ across w b n
unfolding across
across_mod w n a b e = rw (holder_octa w a b (octa_mod a b e), held_mod w (holder w b) n a b e)
