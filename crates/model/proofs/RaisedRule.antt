-- Outside the departures Knuth's exception is the exception: what is added to rA, the trip, both; and of one flag alone, V or D, which stores and operations raise.
use Rattle.model.proofs.Logic.{ℕ, ◌%◌, ◌+◌, ◌/◌, Bool, cond, false, true, inl, inr, refl, ◌≡◌, count_leading_zeros, eqb}
use Rattle.model.specs.Registers.{admissible, next, with_special}
use Rattle.model.specs.NoMemory.{Said, say}
use Rattle.model.specs.Trips.{word_of, is_loaded, trip_rule, trip_to, enabled, added, exact_underflow, added_rule, with_added, raised}
use Rattle.model.specs.Step.{exception_of}
use Rattle.model.specs.Rules.{with_added_rule, raised_rule, exception_rule}
use Rattle.model.specs.Departures.{OutsideException}
use Rattle.model.specs.OneRaised.{OneFlag}
use Rattle.model.specs.declared.State.{State}
use Rattle.model.proofs.Bools.{on_both}

-- ---- what is added

pub added_same : (s : State) (f : ℕ) → exact_underflow s f ≡ false → added s f ≡ added_rule s f
unfolding added added_rule
added_same s f n = rw n

with_added_law : (s : State) (f : ℕ) → OutsideException s f → with_added s f ≡ with_added_rule s f
unfolding with_added with_added_rule
with_added_law s f h = rw (added_same s f h.inexact)

-- ---- the trip

pub trip_same : (s : State) (k word u v : ℕ) → is_loaded s k ≡ true → trip_to s k word u v ≡ say 0 (trip_rule s k word u v)
unfolding trip_to
trip_same s k word u v e = rw e

pub raised_same : (s : State) (f word u v : ℕ) → OutsideException s f → raised s f word u v ≡ say 0 (raised_rule s f word u v)
unfolding raised raised_rule
raised_same s f word u v h =
    rw (← with_added_law s f h) (taken (eqb (enabled s f) 0) (λ e. trip_same (with_added s f) (count_leading_zeros 8 (enabled s f) + 1) word u v (loaded e)))
  where
    loaded : eqb (enabled s f) 0 ≡ false → is_loaded (with_added s f) (count_leading_zeros 8 (enabled s f) + 1) ≡ true
    loaded e = unfold with_added with_special in h.loaded e

    taken : (b : Bool) {t : Said} {r : State} → (b ≡ false → t ≡ say 0 r)
        → cond b (say 0 (next (with_added s f))) t ≡ say 0 (cond b (next (with_added s f)) r)
    taken true k = refl
    taken false k = k refl

pub exception_same : (s : State) (f op x y z u v : ℕ) → OutsideException s f → exception_of s f op x y z u v ≡ exception_rule s f op x y z u v
unfolding exception_of exception_rule
exception_same s f op x y z u v h = on_both (λ (a b : Said). a ≡ b) (admissible s) (λ p. raised_same s f (word_of op x y z) u v h) (λ p. refl)

-- ---- one flag, V or D

-- none of them is U
not_underflow : (f : ℕ) → OneFlag f → eqb (f / 4 % 2) 1 ≡ false
not_underflow f (inl e) = rw e
not_underflow f (inr (inl e)) = rw e
not_underflow f (inr (inr e)) = rw e

pub outside_one : (s : State) (f : ℕ) → OneFlag f → (eqb (enabled s f) 0 ≡ false → is_loaded s (count_leading_zeros 8 (enabled s f) + 1) ≡ true) → OutsideException s f
unfolding exact_underflow
outside_one s f o h = record { inexact = rw (not_underflow f o); loaded = h }
