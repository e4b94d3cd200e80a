-- The numbers of the replies, and their tags, by which code tells the cases of a match.
use Rattle.model.proofs.Logic.{ℕ, ◌<◌, ◌≤◌, cond, true, List, [], ◌∷◌, inl, inr, ◌⊎◌, ap, refl, sym, ◌∙◌, ◌≡◌, arith, eqb, leb, get_or_eq_default}
use Rattle.model.proofs.Logic.{false, not, eqb-false, eqb-true, le-leb, tag_of, has_key, Among}
use borrow.Enum.Refused.{not_key, opened}
use denote.Enum.Bare.{differs_false, differs_true, sameb, same_false, same_true}
use Rattle.std.proofs.Common.{rules}
use Rattle.std.specs.Prelude.{Option, None, Some}
use Rattle.std.specs.Option.{is_some}
use Rattle.model.proofs.Logic.{Bool, true≢false}
use Rattle.model.specs.declared.Window.{Window}
use Rattle.model.specs.declared.Window.TheVariants.{A, B}
use Rattle.model.specs.Numbers.{Halting, number_of, number_of_holder, in_order, reply_of, RepliesNumbered}
use Rattle.model.specs.declared.Reply.{Reply}
use Rattle.model.specs.declared.Reply.TheVariants.{Done, NotAdmissible, WindowRule, NoArm, NamedTrap, NoSpecial, Missing, PutUnknown, PutPrivileged, PutIllegal, PutThreshold, PutStatus, Misplaced, SaveLocal, SavedThreshold, SavedStatus, SavedCount, SyncPrivileged, SyncIllegal, NotLoaded, Trapped, OutOfReach, Shared, Across, NotFetched, GrantTooLarge, StoreTooShort, NoPoint, OtherPoint, NoFrame, TooManyPairs, Hidden, Foreign, TasksRule}
use Rattle.model.specs.contracts.Reply.{the_type}
use Rattle.model.proofs.Bools.{each, at_each}
use Rattle.model.proofs.Missed.{Missed, missed}
use Rattle.model.proofs.Fill.{lt_or_le}

there : (r : Reply) → reply_of (number_of r) ≡ r
unfolding number_of reply_of
there Done = refl
there NotAdmissible = refl
there WindowRule = refl
there NoArm = refl
there NamedTrap = refl
there NoSpecial = refl
there Missing = refl
there PutUnknown = refl
there PutPrivileged = refl
there PutIllegal = refl
there PutThreshold = refl
there PutStatus = refl
there Misplaced = refl
there SaveLocal = refl
there SavedThreshold = refl
there SavedStatus = refl
there SavedCount = refl
there SyncPrivileged = refl
there SyncIllegal = refl
there NotLoaded = refl
there Trapped = refl
there OutOfReach = refl
there Shared = refl
there Across = refl
there NotFetched = refl
there GrantTooLarge = refl
there StoreTooShort = refl
there NoPoint = refl
there OtherPoint = refl
there NoFrame = refl
there TooManyPairs = refl
there Hidden = refl
there Foreign = refl
there TasksRule = refl

all : each 34 (λ n. eqb (number_of (reply_of n)) n) ≡ true
unfolding each number_of reply_of
all = refl

pub numbered : RepliesNumbered
numbered = record { reply_number = there; number_reply = λ n l. eqb-true (number_of (reply_of n)) n (at_each 34 (λ k. eqb (number_of (reply_of k)) k) all n (omega arith)) }

-- 7 to 18, 29 and 31 alone halt
pub unhalting : (n : ℕ) → (n ≤ 6) ⊎ ((19 ≤ n) × (n ≤ 28)) → Halting n → ⊥
unhalting n (inl l) (inl h) = omega arith
unhalting n (inl l) (inr (inl h)) = let e : n ≡ 29 = h in omega arith
unhalting n (inl l) (inr (inr h)) = let e : n ≡ 31 = h in omega arith
unhalting n (inr l) (inl h) = omega arith
unhalting n (inr l) (inr (inl h)) = let e : n ≡ 29 = h in omega arith
unhalting n (inr l) (inr (inr h)) = let e : n ≡ 31 = h in omega arith

-- a step's number is one of 0 to 20, 22, 29 or 31: it is not 24
pub step_fetched : (n : ℕ) → (n ≤ 20) ⊎ ((n ≡ 22) ⊎ ((n ≡ 29) ⊎ (n ≡ 31))) → n ≡ 24 → ⊥
step_fetched n (inl l) e = omega arith
step_fetched n (inr (inl f)) e = omega arith
step_fetched n (inr (inr (inl f))) e = omega arith
step_fetched n (inr (inr (inr f))) e = omega arith

-- a reply's tag is its number
tags : each 34 (λ n. eqb (tag_of the_type (reply_of n)) n) ≡ true
unfolding each reply_of
tags = refl

pub tag_is : (n : ℕ) (r : Reply) → n ≤ 33 → r ≡ reply_of n → tag_of the_type r ≡ n
tag_is n r h e = ap (tag_of the_type) e ∙ eqb-true (tag_of the_type (reply_of n)) n (at_each 34 (λ k. eqb (tag_of the_type (reply_of k)) k) tags n (omega arith))

-- the tags that are not Done's
abbrev pub refusals : List ℕ
refusals = 1 ∷ 2 ∷ 3 ∷ 4 ∷ 5 ∷ 6 ∷ 7 ∷ 8 ∷ 9 ∷ 10 ∷ 11 ∷ 12 ∷ 13 ∷ 14 ∷ 15 ∷ 16 ∷ 17 ∷ 18 ∷ 19 ∷ 20 ∷ 21 ∷ 22 ∷ 23 ∷ 24 ∷ 25 ∷ 26 ∷ 27 ∷ 28 ∷ 29 ∷ 30 ∷ 31 ∷ 32 ∷ 33 ∷ []

pub not_done : (n : ℕ) → Among refusals n → n ≡ 0 → ⊥
not_done n h e = not_key refusals 0 tt n (opened h) e

-- a number that is none of them is 0 or above 33
keyed : each 34 (λ n. cond (leb 1 n) (has_key refusals n) true) ≡ true
unfolding each
keyed = refl

pub reply_other : (n : ℕ) → Missed refusals n → Done ≡ reply_of n
unfolding reply_of
reply_other n m = go (lt_or_le n 1) (lt_or_le n 34)
  where
    here : 1 ≤ n → n < 34 → ⊥
    here a b =
        let k : cond (leb 1 n) (has_key refusals n) true ≡ true = at_each 34 (λ k. cond (leb 1 k) (has_key refusals k) true) keyed n b in
        eqb-false n n (missed refusals n m n (rw (le-leb 1 n a) at k)) refl

    go : (n < 1) ⊎ (1 ≤ n) → (n < 34) ⊎ (34 ≤ n) → Done ≡ reply_of n
    go (inl a) b = let z : n ≡ 0 = omega arith in rw z
    go (inr a) (inl b) = absurd (here a b)
    go (inr a) (inr b) = sym (get_or_eq_default in_order Done b)

-- a reply that is a number's: done where it is 0, and there alone
pub number_zero : (n : ℕ) (r : Reply) → n ≤ 33 → r ≡ reply_of n → r ≡ Done → n ≡ 0
unfolding number_of
number_zero n r h e d = sym (numbered.number_reply n h) ∙ ap number_of (sym e ∙ d)

pub refused_not_zero : (n : ℕ) (r : Reply) → r ≡ reply_of n → (r ≡ Done → ⊥) → n ≡ 0 → ⊥
unfolding reply_of
refused_not_zero n r e d z = d (e ∙ ap reply_of z)

-- what a test for `Reply::Done` tells
pub is_done : {r : Reply} → sameb the_type r Done ≡ true → r ≡ Done
is_done e = same_true the_type (search rules) _ _ e

pub is_refused : {r : Reply} → sameb the_type r Done ≡ false → r ≡ Done → ⊥
is_refused e = same_false the_type _ _ e

-- Done has the number 0, and no other reply has
pub done_zero : (r : Reply) → r ≡ Done → number_of r ≡ 0
unfolding number_of
done_zero r e = rw e refl

pub zero_done : (r : Reply) → number_of r ≡ 0 → r ≡ Done
unfolding reply_of
zero_done r e = sym (there r) ∙ ap reply_of e

pub reply_by : (r : Reply) → r ≡ reply_of (number_of r)
reply_by r = sym (there r)

-- what a test `r != Reply::Done` tells of the number
module _ (r : Reply) (t : Bool) (e : t ≡ not (sameb the_type r Done)) where
  pub told_done : t ≡ false → number_of r ≡ 0
  told_done f = done_zero r (differs_false the_type (search rules) r Done (sym e ∙ f))

  pub told_refused : t ≡ true → number_of r ≡ 0 → ⊥
  told_refused f z = differs_true the_type r Done (sym e ∙ f) (zero_done r z)

-- ---- which window holds an octabyte, as code tells it

module _ (h : Option Window) where
  pub holder_a : (x : Window) → h ≡ Some x → x ≡ A → number_of_holder h ≡ 0
  holder_a x e f = rw (e, f) refl

  pub holder_b : (x : Window) → h ≡ Some x → x ≡ B → number_of_holder h ≡ 1
  holder_b x e f = rw (e, f) refl

  pub holder_none : h ≡ None → number_of_holder h ≡ 2
  holder_none e = rw e refl

pub no_holder : (h : Option Window) (r : Bool) → is_some h ≡ not r → r ≡ true → number_of_holder h ≡ 2
no_holder None r e f = refl
no_holder (Some x) r e f = absurd (true≢false (e ∙ ap not f))

pub some_holder : (h : Option Window) (r : Bool) → is_some h ≡ not r → r ≡ false → number_of_holder h ≡ 2 → ⊥
some_holder None r e f z = absurd (true≢false (sym (e ∙ ap not f)))
some_holder (Some A) r e f z = omega arith
some_holder (Some B) r e f z = omega arith
