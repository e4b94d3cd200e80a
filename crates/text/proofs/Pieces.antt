-- Laws of a text cut at its newlines: where a line ends, and the lines one by one.
use Rattle.model.proofs.Prelude.{suc, zero, ℕ, ◌+◌, ◌<◌, ◌≤◌, Bool, cond, false, true, List, [], ◌++◌, ◌∷◌, ap, refl, ◌≡◌, arith, eqb, ltb, ltb-false, drop}
use Rattle.model.proofs.Prelude.{drop_of_length-le, get_or, length, length-drop, take, eqb-true, on}
use Rattle.std.specs.Prelude.{Option, position, unwrap_or}
use Rattle.std.proofs.lemmas.List.Recursion.{is_position_or_len}
use Rattle.text.specs.Pieces.{at_first, pieces, line_length}

-- ---- where a line ends

pub length_line : (l : List ℕ) → line_length l ≤ length l
unfolding line_length
length_line [] = omega arith
length_line (b ∷ l) = let h = length_line l in on (λ (k : ℕ). k ≤ suc (length l)) (eqb b 10) (λ e. omega arith) (λ e. omega arith)

pub line_within : (l : List ℕ) (at end : ℕ) → at ≤ length l → end ≡ at + line_length (drop at l) → (at ≤ end) × (end ≤ length l)
line_within l at end h e = (omega arith, omega (arith, length_line (drop at l), length-drop at l))

-- at the first newline, where the library finds one
pub line_position : (l : List ℕ) → unwrap_or (position (λ (b : ℕ). eqb b 10) l) (length l) ≡ line_length l
unfolding line_length
line_position l =
    rw (← (is_position_or_len line_length (λ (b : ℕ). eqb b 10) refl (λ (b : ℕ) (m : List ℕ). ap (λ (k : ℕ). cond (eqb b 10) 0 k) (omega arith)) l))
    (on (λ (r : Option ℕ). unwrap_or r (length l) ≡ line_length l) (ltb (line_length l) (length l)) (λ e. refl) (λ e. omega (arith, length_line l, ltb-false _ _ e)))

pub line_past : (l : List ℕ) (i : ℕ) → length l ≤ i → line_length (drop i l) ≡ 0
unfolding line_length
line_past l i h = rw (drop_of_length-le l h)

-- ---- the lines one by one

pub either : {A : Type 0} (t : Bool) → (t ≡ true → A) → (t ≡ false → A) → A
either true f g = f refl
either false f g = g refl

pub pieces_some : (l : List ℕ) → 0 < length (pieces l)
unfolding pieces
pieces_some [] = omega arith
pieces_some (b ∷ l) = let h = pieces_some l in either (eqb b 10) (λ e. rw e (omega arith)) (λ e. rw e (more (pieces l) h))
  where
    more : (ps : List (List ℕ)) → 0 < length ps → 0 < length (at_first b ps)
    more [] h = omega arith
    more (p ∷ ps) h = omega arith

pub pieces_line : (l : List ℕ) → line_length l < length l → pieces l ≡ take (line_length l) l ∷ pieces (drop (suc (line_length l)) l)
unfolding pieces line_length
pieces_line [] h = absurd (omega arith)
pieces_line (b ∷ l) h =
    either (eqb b 10) (λ e. rw e) (λ e. let k : line_length l < length l = omega (arith, rw e at h) in rw (e, pieces_line l k))

pub pieces_last : (l : List ℕ) → line_length l ≡ length l → pieces l ≡ l ∷ []
unfolding pieces line_length
pieces_last [] h = refl
pieces_last (b ∷ l) h =
    either (eqb b 10) (λ e. absurd (omega (arith, rw e at h))) (λ e. let k : line_length l ≡ length l = omega (arith, rw e at h) in rw (e, pieces_last l k))

-- ---- a text that begins with what has no newline

pub newline_there : (l : List ℕ) → line_length l < length l → get_or l (line_length l) 0 ≡ 10
unfolding line_length
newline_there [] h = absurd (omega arith)
newline_there (b ∷ l) h =
    either (eqb b 10) (λ e. rw e (eqb-true b 10 e)) (λ e. let k : line_length l < length l = omega (arith, rw e at h) in rw e (newline_there l k))

pub line_append : (h l : List ℕ) → line_length h ≡ length h → line_length (h ++ l) ≡ length h + line_length l
unfolding line_length
line_append [] l e = omega arith
line_append (b ∷ h) l e =
    either (eqb b 10) (λ t. absurd (omega (arith, rw t at e)))
    (λ t. let k : line_length h ≡ length h = omega (arith, rw t at e) in rw t (omega (arith, line_append h l k)))

-- what stands before the first newline has none, nor has any front of it
pub line_front : (l : List ℕ) (n : ℕ) → n ≤ line_length l → line_length (take n l) ≡ n
unfolding line_length
line_front [] zero h = refl
line_front [] (suc n) h = absurd (omega arith)
line_front (b ∷ l) zero h = refl
line_front (b ∷ l) (suc n) h =
    either (eqb b 10) (λ t. absurd (omega (arith, rw t at h)))
    (λ t. let k : n ≤ line_length l = omega (arith, rw t at h) in rw t (ap suc (line_front l n k)))
