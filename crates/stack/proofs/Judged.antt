-- A guarded plan as judged: 1, 2 or 22, or the plan; 6, where an octabyte that it reads or stores is missing; what the windows' number
-- says; and the run that code tests, with the reply of its number. The answers of each function are in PushPopAnswers, SaveUnsaveAnswers and
-- ReaderAnswers.
use Rattle.model.proofs.Prelude.{ℕ, ◌≤◌, Bool, false, true, List, inl, inr, ⊎_elim, ap, sym, ◌∙◌, ◌≡◌, arith, eqb, length, ne_eqb, shapes_of, Windows, Lost}
use Rattle.model.proofs.Prelude.{reply_of, answer, named, Outcome, perform, Plan, read, worst, admissible, refusing, unruled_by, on, Inside, perform_on}
use Rattle.model.proofs.Prelude.{unruled_is, of_worst, worst_of, worst_six}
use Rattle.model.specs.declared.State.{State}
use Rattle.model.specs.declared.Reply.{Reply}
use Rattle.model.specs.declared.Reply.TheVariants.{Missing}
use Rattle.stack.specs.GivenBack.{Refused, Unruled, guarded_on, refusal_on, only_if}
use Rattle.model.proofs.Entry as entry

abbrev pub ended : {S : Type 0} → ℕ → S → Windows → Outcome S Windows
ended n t v = record { reply = n; state = t; memory = v }

module _ (w : Windows) (s : State) where
  pub guarded_one : (p : Plan State) → admissible s ≡ false → guarded_on w s p ≡ ended 1 s w
  unfolding guarded_on
  guarded_one p a = entry.guarded_one w s s p a

  -- 2 or 22, by the number n that refuses the windows
  pub guarded_unruled : (p : Plan State) → admissible s ≡ true → (n : ℕ) → n ≡ unruled_by (shapes_of w) → (n ≡ 0 → ⊥) → guarded_on w s p ≡ ended n s w
  unfolding guarded_on
  guarded_unruled p a n e f = entry.guarded_unruled w s s p a (λ z. f (e ∙ z)) ∙ ap (λ (k : ℕ). ended k s w) (sym e)

  pub guarded_open : (p : Plan State) → admissible s ≡ true → unruled_by (shapes_of w) ≡ 0 → guarded_on w s p ≡ perform_on w s p
  unfolding guarded_on
  guarded_open p a r = entry.guarded_open w s s p a r

  -- the same by the number of both
  pub refused_guarded : (p : Plan State) (n : ℕ) → n ≡ refusal_on w s → (n ≡ 0 → ⊥) → guarded_on w s p ≡ ended n s w
  unfolding refusal_on
  refused_guarded p n = on (λ (k : ℕ). n ≡ k → (n ≡ 0 → ⊥) → guarded_on w s p ≡ ended n s w) (admissible s)
      (λ a e f. guarded_unruled p a n e f)
      (λ a e f. guarded_one p a ∙ ap (λ (k : ℕ). ended k s w) (sym e))

  pub judged_by : refusal_on w s ≡ 0 → (admissible s ≡ true) × (unruled_by (shapes_of w) ≡ 0)
  unfolding refusal_on
  judged_by = on (λ (k : ℕ). k ≡ 0 → (admissible s ≡ true) × (unruled_by (shapes_of w) ≡ 0)) (admissible s) (λ a e. (a, e)) (λ a e. absurd (omega arith))

  pub refused_windows : admissible s ≡ true → unruled_by (shapes_of w) ≡ refusal_on w s
  unfolding refusal_on
  refused_windows a = rw a

  pub refused_none : admissible s ≡ true → unruled_by (shapes_of w) ≡ 0 → refusal_on w s ≡ 0
  refused_none a u = sym (refused_windows a) ∙ u

  -- in place
  pub only_open : (t : Bool) (p : Plan State) → t ≡ true → only_if t w s p ≡ perform_on w s p
  unfolding only_if
  only_open t p e = rw e

  pub only_one : (t : Bool) (p : Plan State) → t ≡ false → only_if t w s p ≡ ended 1 s w
  unfolding only_if
  only_one t p e = rw e

  pub guarded_only : (t : Bool) (p : Plan State) → refusal_on w s ≡ 0 → (admissible s ≡ true → t ≡ true) → guarded_on w s p ≡ only_if t w s p
  guarded_only t p e f = let j = judged_by e in guarded_open p j.0 j.1 ∙ sym (only_open t p (f j.0))

  lacking : (a n : ℕ) → (Inside w a n → ⊥) → eqb (worst (refusing (shapes_of w)) a n) 0 ≡ false
  lacking a n f = ne_eqb _ _ f

  pub read_lacks : (a n : ℕ) (k : List ℕ → Plan State) → (Inside w a n → ⊥) → perform_on w s (read 6 a n k) ≡ ended 6 s w
  unfolding perform named
  read_lacks a n k f = rw (lacking a n f, worst_six (shapes_of w) n a (lacking a n f))

  pub store_lacks : (r : ℕ) (t : State) (a : ℕ) (vs : List ℕ) → (Inside w a (length vs) → ⊥) → perform_on w s (answer r t a vs) ≡ ended 6 s w
  unfolding perform
  store_lacks r t a vs f = rw (lacking a (length vs) f, worst_six (shapes_of w) (length vs) a (lacking a (length vs) f))

pub unruled_by_law : (w : Windows) (n : ℕ) → n ≡ unruled_by (shapes_of w) → (n ≡ 0 → ⊥) → Unruled n
unruled_by_law w n e f =
    ⊎_elim (λ z. absurd (f (e ∙ z))) (⊎_elim (λ two. inl (e ∙ two)) (λ shared. inr (e ∙ shared))) (unruled_is (shapes_of w))

pub refused_by_law : (w : Windows) (s : State) (n : ℕ) → n ≡ refusal_on w s → (n ≡ 0 → ⊥) → Refused n
unfolding refusal_on
refused_by_law w s n =
    on (λ (k : ℕ). n ≡ k → (n ≡ 0 → ⊥) → Refused n) (admissible s) (λ a e f. inr (unruled_by_law w n e f)) (λ a e f. inl e)

-- the run that code judges against the one that is needed: where the longer passes the shorter does, where the shorter fails the longer does
module _ (w : Windows) (a m n r : ℕ) where
  pub passed : r ≡ worst (refusing (shapes_of w)) a n → r ≡ 0 → m ≤ n → Inside w a m
  passed e z l = of_worst (refusing (shapes_of w)) m a (λ i k. worst_of (refusing (shapes_of w)) n a i (sym e ∙ z) (omega arith))

  pub failed : r ≡ worst (refusing (shapes_of w)) a n → (r ≡ 0 → ⊥) → n ≤ m → Inside w a m → ⊥
  failed e f l i = f (e ∙ of_worst (refusing (shapes_of w)) n a (λ j k. worst_of (refusing (shapes_of w)) m a j i (omega arith)))

-- its number where it fails, and the reply of that
module _ (w : Windows) (a n r : ℕ) (e : r ≡ worst (refusing (shapes_of w)) a n) (f : r ≡ 0 → ⊥) where
  pub lost_by : Lost r
  lost_by = e ∙ worst_six (shapes_of w) n a (ne_eqb _ _ (λ z. f (e ∙ z)))

  pub missing_by : (q : Reply) → q ≡ reply_of r → q ≡ Missing
  unfolding reply_of
  missing_by q d = d ∙ ap reply_of lost_by
