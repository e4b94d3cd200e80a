-- A round turn by turn, and a call round by round, from the front: as loops go. And who runs, as code reads it.
use Rattle.std.specs.List.{list_any}
use Rattle.std.proofs.lemmas.List.Folds.{list_any_more}
use Rattle.model.proofs.Prelude.{suc, zero, ℕ, ◌+◌, ◌-◌, ◌≤◌, Bool, cond, false, true, ◌||◌, List, ap, refl, sym, ◌∙◌, ◌≡◌, add-one, arith}
use Rattle.model.proofs.Prelude.{get_or, length, take, eqb, length_tab, tab, Stopped}
use Rattle.tasks.proofs.Prelude.{tasks_most, any_runs, Desk, Given, is_over, refusal_by, rounds, turn_of, turns_from}
use Rattle.tasks.proofs.DeskTurns.{refusal_at_law}

-- ---- who runs

either_way : (a b : Bool) → (a || b) ≡ (b || a)
either_way true true = refl
either_way true false = refl
either_way false true = refl
either_way false false = refl

-- of the first n refusals one is 0 where one of these tasks runs
pub one_among : (rs : List ℕ) (gs : List Given) → rs ≡ tab 0 tasks_most (λ j. refusal_by j gs) → (n : ℕ) → n ≤ tasks_most → list_any (λ r. eqb r 0) (take n rs) ≡ any_runs n gs
unfolding any_runs
one_among rs gs e zero h = refl
one_among rs gs e (suc n) h =
    ap (λ (i : ℕ). list_any (λ r. eqb r 0) (take i rs)) (sym (add-one n))
    ∙ list_any_more (λ r. eqb r 0) rs n 0 (omega (arith, ap length e, length_tab tasks_most 0 (λ j. refusal_by j gs)))
    ∙ either_way (list_any (λ r. eqb r 0) (take n rs)) (eqb (get_or rs n 0) 0)
    ∙ rw (refusal_at_law n rs gs (omega arith) e, one_among rs gs e n (omega arith))

-- ---- the last turn of some, the last round of some

module _ {C M : Type 0} (run : ℕ → ℕ → C → M → Stopped C M) (n q : ℕ) where
  turns_last : (m k : ℕ) (d : Desk C M) → turns_from run n q k (suc m) d ≡ turn_of run n q (k + m) (turns_from run n q k m d)
  unfolding turns_from
  turns_last zero k d = ap (λ (i : ℕ). turn_of run n q i d) (omega arith)
  turns_last (suc m) k d = turns_last m (suc k) (turn_of run n q k d) ∙ ap (λ (i : ℕ). turn_of run n q i (turns_from run n q (suc k) m (turn_of run n q k d))) (omega arith)

  pub turns_next : (k : ℕ) (d : Desk C M) → turns_from run n q 0 (k + 1) d ≡ turn_of run n q k (turns_from run n q 0 k d)
  turns_next k d = rw (add-one k) (turns_last k 0 d ∙ ap (λ (i : ℕ). turn_of run n q i (turns_from run n q 0 k d)) (omega arith))

  pub turns_none : (d : Desk C M) → turns_from run n q 0 0 d ≡ d
  unfolding turns_from
  turns_none d = refl

  pub rounds_none : (d : Desk C M) → rounds run n q 0 d ≡ d
  unfolding rounds
  rounds_none d = refl

  rounds_over : (f : ℕ) (d : Desk C M) → is_over run n q d ≡ true → rounds run n q f d ≡ d
  unfolding rounds
  rounds_over zero d e = refl
  rounds_over (suc f) d e = rw e

  abbrev round : Desk C M → Desk C M
  round d = cond (is_over run n q d) d (turns_from run n q 0 n d)

  rounds_last : (f : ℕ) (d : Desk C M) → rounds run n q (suc f) d ≡ round (rounds run n q f d)
  unfolding rounds
  rounds_last zero d = refl
  rounds_last (suc f) d = go (is_over run n q d) refl (rounds_last f (turns_from run n q 0 n d))
    where
      go : (b : Bool) → is_over run n q d ≡ b → rounds run n q (suc f) (turns_from run n q 0 n d) ≡ round (rounds run n q f (turns_from run n q 0 n d))
          → cond b d (rounds run n q (suc f) (turns_from run n q 0 n d)) ≡ round (cond b d (rounds run n q f (turns_from run n q 0 n d)))
      go true e h = rw e
      go false e h = h

  pub rounds_next : (i : ℕ) (d : Desk C M) → is_over run n q (rounds run n q i d) ≡ false → rounds run n q (i + 1) d ≡ turns_from run n q 0 n (rounds run n q i d)
  rounds_next i d e = rw (add-one i) (rounds_last i d ∙ rw e)

  rounds_stay : (j i : ℕ) (d : Desk C M) → is_over run n q (rounds run n q i d) ≡ true → rounds run n q (i + j) d ≡ rounds run n q i d
  rounds_stay zero i d e = ap (λ (k : ℕ). rounds run n q k d) (omega arith)
  rounds_stay (suc j) i d e =
      let k : i + suc j ≡ suc (i + j) = omega arith in
      ap (λ (k : ℕ). rounds run n q k d) k ∙ rounds_last (i + j) d ∙ ap round (rounds_stay j i d e) ∙ rw e

  pub rounds_end : (i f : ℕ) (d : Desk C M) → i ≤ f → is_over run n q (rounds run n q i d) ≡ true → rounds run n q i d ≡ rounds run n q f d
  rounds_end i f d l e =
      let k : f ≡ i + (f - i) = omega arith in
      sym (ap (λ (k : ℕ). rounds run n q k d) k ∙ rounds_stay (f - i) i d e)
