-- Laws of `any_foreign`: of a list in two parts, of addresses modulo 2^64, and, under a judge that passes nothing foreign, of a run of octabytes: the missing
-- ones of a run tell as much as the whole run, and a run that passes has none.
use Rattle.model.proofs.Prelude.{suc, zero, ℕ, ◌%◌, ◌+◌, ◌^◌, Bool, cond, false, true, ◌&&◌, ◌||◌, List, [], ◌++◌, ◌∷◌, ap, refl, sym, ◌∙◌, ◌≡◌, arith, eqb}
use Rattle.model.proofs.Prelude.{eqb-true, offset, Shapes, octa, clear, missing, ups, worst, on, has_octa, worst_head, worst_tail, octa_mod}
use Rattle.task_model.specs.Tasks.{Own, foreign, any_foreign}

or_assoc : (a b c : Bool) → (a || (b || c)) ≡ ((a || b) || c)
or_assoc true b c = refl
or_assoc false b c = refl

pub or_none : (b : Bool) → (b || false) ≡ b
or_none true = refl
or_none false = refl

module _ (p : Own) (w : Shapes) where
  pub any_append : (xs ys : List ℕ) → any_foreign p w (xs ++ ys) ≡ (any_foreign p w xs || any_foreign p w ys)
  unfolding any_foreign
  any_append [] ys = refl
  any_append (x ∷ xs) ys = ap (λ (b : Bool). foreign p w x || b) (any_append xs ys) ∙ or_assoc (foreign p w x) (any_foreign p w xs) (any_foreign p w ys)

  pub any_one : (x : ℕ) → any_foreign p w (x ∷ []) ≡ foreign p w x
  unfolding any_foreign
  any_one x = or_none (foreign p w x)

  pub foreign_mod : (x y : ℕ) → x % 2 ^ 64 ≡ y % 2 ^ 64 → foreign p w x ≡ foreign p w y
  unfolding foreign offset
  foreign_mod x y e = let o : octa x ≡ octa y = octa_mod x y e in rw (has_octa w.b x y o, o)

  pub any_mod : (n x y : ℕ) → x % 2 ^ 64 ≡ y % 2 ^ 64 → any_foreign p w (ups x n) ≡ any_foreign p w (ups y n)
  unfolding any_foreign ups
  any_mod zero x y e = refl
  any_mod (suc n) x y e = rw (foreign_mod x y e, any_mod n (x + 8) (y + 8) (omega arith))

  module _ (j : ℕ → ℕ) (h : (x : ℕ) → j x ≡ 0 → foreign p w x ≡ false) where
    pub clear_none : (n a : ℕ) → worst j a n ≡ 0 → any_foreign p w (ups a n) ≡ false
    unfolding any_foreign ups
    clear_none zero a e = refl
    clear_none (suc n) a e = rw (h a (worst_head j a n e)) (clear_none n (a + 8) (worst_tail j a n e))

    pub missing_any : (n a : ℕ) → any_foreign p w (missing j a n) ≡ any_foreign p w (ups a n)
    unfolding any_foreign ups missing
    missing_any zero a = refl
    missing_any (suc n) a =
        any_append (cond (eqb (j a) 0) [] (a ∷ [])) (missing j (a + 8) n)
        ∙ ap (λ (b : Bool). any_foreign p w (cond (eqb (j a) 0) [] (a ∷ [])) || b) (missing_any n (a + 8))
        ∙ on (λ (l : List ℕ). (any_foreign p w l || any_foreign p w (ups (a + 8) n)) ≡ (foreign p w a || any_foreign p w (ups (a + 8) n))) (eqb (j a) 0)
        (λ e. rw (h a (eqb-true _ _ e))) (λ e. rw (or_none (foreign p w a)))

    -- a run and what follows where it passes; else what is missing
    pub any_run : (n a : ℕ) (rest : List ℕ)
        → any_foreign p w (cond (clear j a n) (ups a n ++ rest) (missing j a n)) ≡ (any_foreign p w (ups a n) || (clear j a n && any_foreign p w rest))
    any_run n a rest = go (clear j a n) refl
      where
        go : (b : Bool) → clear j a n ≡ b
            → any_foreign p w (cond b (ups a n ++ rest) (missing j a n)) ≡ (any_foreign p w (ups a n) || (b && any_foreign p w rest))
        go true e = any_append (ups a n) rest
        go false e = missing_any n a ∙ sym (or_none (any_foreign p w (ups a n)))
