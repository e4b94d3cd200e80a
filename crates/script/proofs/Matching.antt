-- Patterns filled in and lines held against them, for any pattern that is clear: what is filled in matches and gives the numbers back,
-- and what matches is the pattern filled in with the numbers.
use Rattle.model.proofs.Prelude.{suc, ℕ, ◌+◌, ◌<◌, ◌^◌, Bool, cond, false, not, true, ◌&&◌, List, [], ◌++◌, ◌∷◌, ap, refl, sym, ◌∙◌, ◌≡◌, ℕ_discrete, arith}
use Rattle.model.proofs.Prelude.{eqb, leb, drop, length, eq-eqb, eqb-false, eqb-true, leb-true, ne_eqb, not-true, All, and_left, and_right}
use Rattle.script.proofs.Prelude.{None, Option, Some, digit_of, number_of, decimal_mark, filled, hexadecimal, hex_mark}
use Rattle.script.specs.Line.{digits_at, is_number, before, matched}
use Rattle.script.specs.Reading.{marks}
use Rattle.script.proofs.Digits.{digits_nil, digits_stop}
use Rattle.script.proofs.Numbers.{Read, written_read, read_written, read_below}

abbrev pub Words : List ℕ → Type 0
Words vs = All (λ (v : ℕ). v < 2 ^ 64) vs

-- ---- how many numbers a pattern asks for

module _ (c : ℕ) (p : List ℕ) where
  pub marks_mark : c ≡ hex_mark → marks (c ∷ p) ≡ suc (marks p)
  unfolding marks
  marks_mark e = rw (eq-eqb c hex_mark e)

  pub marks_byte : (c ≡ hex_mark → ⊥) → marks (c ∷ p) ≡ marks p
  unfolding marks
  marks_byte e = rw (ne_eqb c hex_mark e)

pub marks_cons : (c : ℕ) (p : List ℕ) → marks (c ∷ p) ≡ marks (c ∷ []) + marks p
unfolding marks
marks_cons c p = go (eqb c hex_mark)
  where
    go : (b : Bool) → cond b (suc (marks p)) (marks p) ≡ cond b 1 0 + marks p
    go true = omega arith
    go false = omega arith

-- ---- clear patterns

-- what follows a number ends it
unfoldable pub ends : List ℕ → Bool
ends [] = true
ends (c ∷ p) = not (eqb c hex_mark) && leb 16 (digit_of c)

-- no '%', and each '#' is followed by a byte that is no digit
unfoldable pub clear : List ℕ → Bool
clear [] = true
clear (c ∷ p) = cond (eqb c hex_mark) (ends p) (not (eqb c decimal_mark)) && clear p

module _ (c : ℕ) (p : List ℕ) (k : clear (c ∷ p) ≡ true) where
  clear_rest : clear p ≡ true
  unfolding clear
  clear_rest = and_right (cond (eqb c hex_mark) (ends p) (not (eqb c decimal_mark))) _ k

  clear_mark : c ≡ hex_mark → ends p ≡ true
  unfolding clear
  clear_mark e = rw (eq-eqb c hex_mark e) at (and_left (cond (eqb c hex_mark) (ends p) (not (eqb c decimal_mark))) _ k)

  clear_byte : (c ≡ hex_mark → ⊥) → eqb c decimal_mark ≡ false
  unfolding clear
  clear_byte e = not-true _ (rw (ne_eqb c hex_mark e) at (and_left (cond (eqb c hex_mark) (ends p) (not (eqb c decimal_mark))) _ k))

  filled_byte : (c ≡ hex_mark → ⊥) → (vs : List ℕ) → filled (c ∷ p) vs ≡ c ∷ filled p vs
  unfolding filled
  filled_byte e vs = rw (ne_eqb c hex_mark e, clear_byte e)

-- nothing of what follows a number is read as a digit of it
ended : (p vs : List ℕ) → clear p ≡ true → ends p ≡ true → digits_at (filled p vs) ≡ []
unfolding ends
ended [] vs k e = unfold filled in digits_nil
ended (c ∷ p) vs k e =
    let o : c ≡ hex_mark → ⊥ = eqb-false _ _ (not-true _ (and_left (not (eqb c hex_mark)) _ e)) in
    rw (filled_byte c p k o vs) (digits_stop c _ (leb-true _ _ (and_right (not (eqb c hex_mark)) _ e)))

-- ---- what is filled in matches

matched_mark : (p : List ℕ) (v : ℕ) (vs : List ℕ) → digits_at (filled p vs) ≡ [] → v < 2 ^ 64 → matched p (filled p vs) ≡ Some vs
    → matched (hex_mark ∷ p) (filled (hex_mark ∷ p) (v ∷ vs)) ≡ Some (v ∷ vs)
unfolding matched filled
matched_mark p v vs e l h =
    let r : Read v (hexadecimal v ++ filled p vs) (filled p vs) = written_read v (filled p vs) l e in
    rw (r.good, r.value, r.tail, h)

pub matched_byte : (c : ℕ) (p l : List ℕ) → (c ≡ hex_mark → ⊥) → matched (c ∷ p) (c ∷ l) ≡ matched p l
unfolding matched
matched_byte c p l e = rw (ne_eqb c hex_mark e, eq-eqb c c refl)

-- by the first byte; r is the law for the rest
by_first : (c : ℕ) (p vs : List ℕ) → clear (c ∷ p) ≡ true → ((ws : List ℕ) → length ws ≡ marks p → Words ws → matched p (filled p ws) ≡ Some ws)
    → length vs ≡ marks (c ∷ p) → Words vs → Dec (c ≡ hex_mark) → matched (c ∷ p) (filled (c ∷ p) vs) ≡ Some vs
by_first c p vs k r n a (no e) = rw (filled_byte c p k e vs, matched_byte c p _ e) (r vs (n ∙ marks_byte c p e) a)
by_first c p [] k r n a (yes e) = absurd (omega (arith, marks_mark c p e))
by_first c p (v ∷ vs) k r n a (yes e) =
    unfold All in
    rw e (matched_mark p v vs (ended p vs (clear_rest c p k) (clear_mark c p k e)) a.0 (r vs (omega (arith, marks_mark c p e)) a.1))

pub filled_matched : (p vs : List ℕ) → clear p ≡ true → length vs ≡ marks p → Words vs → matched p (filled p vs) ≡ Some vs
filled_matched [] [] k n a = unfold matched filled in refl
filled_matched [] (v ∷ vs) k n a = unfold marks in absurd (omega arith)
filled_matched (c ∷ p) vs k n a = by_first c p vs k (λ (ws : List ℕ) i b. filled_matched p ws (clear_rest c p k) i b) n a (ℕ_discrete c hex_mark)

-- ---- what matches is filled in

pub record Filling (p l vs : List ℕ) : Type 0 where
  pub text : filled p vs ≡ l
  pub count : length vs ≡ marks p
  pub words : Words vs

none_some : {vs : List ℕ} → ◌≡◌ {A = Option (List ℕ)} None (Some vs) → ⊥
none_some h = let z : ◌≡◌ {A = ℕ} 0 1 = cc in omega arith

-- a number met
record Marked (p l vs : List ℕ) : Type 0 where
  good : is_number (digits_at l) ≡ true
  others : List ℕ
  all : vs ≡ number_of 0 (digits_at l) ∷ others
  tail : matched p (drop (length (digits_at l)) l) ≡ Some others

marked : (p l vs : List ℕ) → matched (hex_mark ∷ p) l ≡ Some vs → Marked p l vs
marked p l vs h = go (is_number (digits_at l)) refl (matched p (drop (length (digits_at l)) l)) refl (unfold matched in h)
  where
    go : (b : Bool) → is_number (digits_at l) ≡ b → (o : Option (List ℕ)) → matched p (drop (length (digits_at l)) l) ≡ o
        → cond b (before (number_of 0 (digits_at l)) o) None ≡ Some vs → Marked p l vs
    go true e (Some ws) f g = record { good = e; others = ws; all = cc; tail = f }
    go true e None f g = absurd (none_some g)
    go false e o f g = absurd (none_some g)

-- a byte met
record Met (c : ℕ) (p l vs : List ℕ) : Type 0 where
  others : List ℕ
  all : l ≡ c ∷ others
  tail : matched p others ≡ Some vs

met : (c : ℕ) (p l vs : List ℕ) → (c ≡ hex_mark → ⊥) → matched (c ∷ p) l ≡ Some vs → Met c p l vs
unfolding matched
met c p [] vs e h = absurd (none_some (rw (ne_eqb c hex_mark e) at h))
met c p (b ∷ l) vs e h = go (eqb b c) refl (rw (ne_eqb c hex_mark e) at h)
  where
    go : (t : Bool) → eqb b c ≡ t → cond t (matched p l) None ≡ Some vs → Met c p (b ∷ l) vs
    go true f g = record { others = l; all = ap (λ (x : ℕ). x ∷ l) (eqb-true b c f); tail = g }
    go false f g = absurd (none_some g)

mark_filling : (c : ℕ) (p l vs ws : List ℕ) → c ≡ hex_mark → vs ≡ number_of 0 (digits_at l) ∷ ws → is_number (digits_at l) ≡ true
    → Filling p (drop (length (digits_at l)) l) ws → Filling (c ∷ p) l vs
unfolding filled All
mark_filling c p l vs ws e q g f = rw q (record {
  text = rw (e, f.text) (read_written l g);
  count = omega (arith, marks_mark c p e, f.count);
  words = (read_below l g, f.words);
})

-- by the first byte; r is the law for the rest
back_first : (c : ℕ) (p l vs : List ℕ) → clear (c ∷ p) ≡ true → ((m ws : List ℕ) → matched p m ≡ Some ws → Filling p m ws)
    → matched (c ∷ p) l ≡ Some vs → Dec (c ≡ hex_mark) → Filling (c ∷ p) l vs
back_first c p l vs k r h (no e) =
    let m : Met c p l vs = met c p l vs e h in
    let f : Filling p m.others vs = r m.others vs m.tail in
    record { text = rw (filled_byte c p k e vs, f.text) (sym m.all); count = f.count ∙ sym (marks_byte c p e); words = f.words }
back_first c p l vs k r h (yes e) =
    let m : Marked p l vs = marked p l vs (rw e at h) in
    mark_filling c p l vs m.others e m.all m.good (r _ m.others m.tail)

pub matched_filled : (p l vs : List ℕ) → clear p ≡ true → matched p l ≡ Some vs → Filling p l vs
unfolding matched filled marks All
matched_filled [] [] vs k h = let q : [] ≡ vs = cc in rw (← q) (record { text = refl; count = refl; words = tt })
matched_filled [] (b ∷ l) vs k h = absurd (none_some h)
matched_filled (c ∷ p) l vs k h = back_first c p l vs k (λ (m ws : List ℕ) i. matched_filled p m ws (clear_rest c p k) i) h (ℕ_discrete c hex_mark)
