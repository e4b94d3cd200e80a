-- Laws of tests and of numbers compared by tests, where lib.Dec and borrow.Author.Tests have none.
use Rattle.model.proofs.Logic.{suc, zero, ℕ, ◌<◌, Bool, cond, false, not, true, ◌&&◌, ◌||◌, refl, sym, ◌∙◌, ◌≡◌, ℕ_discrete, arith, eqb, eqb-false}
use Rattle.model.proofs.Logic.{ne_eqb}

pub and_left : (a b : Bool) → (a && b) ≡ true → a ≡ true
and_left true b e = refl
and_left false b e = e

pub and_right : (a b : Bool) → (a && b) ≡ true → b ≡ true
and_right true b e = e
and_right false true e = refl
and_right false false e = e

pub or_left : (a b : Bool) → (a || b) ≡ false → a ≡ false
or_left true b e = e
or_left false b e = refl

pub or_right : (a b : Bool) → (a || b) ≡ false → b ≡ false
or_right false b e = e
or_right true true e = e
or_right true false e = refl

-- a judgement t, which code has as b and branches on as `!b`
pub denied : (b t : Bool) → b ≡ t → not b ≡ true → t ≡ false
denied true t e h = sym e ∙ sym h
denied false t e h = sym e

pub granted : (b t : Bool) → b ≡ t → not b ≡ false → t ≡ true
granted true t e h = sym e
granted false t e h = sym e ∙ sym h

pub eqb_swap : (a b : ℕ) → eqb a b ≡ false → eqb b a ≡ false
eqb_swap a b e = ne_eqb b a (λ q. eqb-false a b e (sym q))

-- a test at each number below k, and what it says of one of them: how a table is checked by computing
unfoldable pub each : ℕ → (ℕ → Bool) → Bool
each zero f = true
each (suc k) f = f k && each k f

pub at_each : (k : ℕ) (f : ℕ → Bool) → each k f ≡ true → (n : ℕ) → n < k → f n ≡ true
unfolding each
at_each zero f e n l = absurd (omega arith)
at_each (suc k) f e n l = go (ℕ_discrete n k) (at_each k f (and_right (f k) _ e) n)
  where
    go : Dec (n ≡ k) → (n < k → f n ≡ true) → f n ≡ true
    go (yes q) r = rw q (and_left (f k) _ e)
    go (no q) r = r (omega arith)

-- what holds of both branches, each under its own outcome of the test, holds of a `cond`; and of two by one test
pub on : {A : Type 0} (P : A → Type 0) {x y : A} (b : Bool) → (b ≡ true → P x) → (b ≡ false → P y) → P (cond b x y)
on P true f g = f refl
on P false f g = g refl

pub on_both : {A B : Type 0} (R : A → B → Type 0) {x y : A} {u v : B} (b : Bool) → (b ≡ true → R x u) → (b ≡ false → R y v) → R (cond b x y) (cond b u v)
on_both R true f g = f refl
on_both R false f g = g refl
