-- How long the text that a script prints can be: 12 bytes for each of the script and 27 more. A step's line prints 189 at most and has 17, its newline counted.
use Rattle.model.proofs.Prelude.{suc, ℕ, ◌*◌, ◌+◌, ◌<◌, ◌≤◌, Bool, cond, false, true, ◌&&◌, List, [], ◌++◌, ◌∷◌, refl, ◌≡◌, arith, eqb, leb, ltb, drop, get_or}
use Rattle.model.proofs.Prelude.{length, length-append, length-drop, leb-true, ltb-true, start, Windows, Outcome, r_g, r_l, r_o, sp, step_of, and_left, on}
use Rattle.script.proofs.Prelude.{None, Option, Some, State, codes, number_of, at_first, pieces, bad_line, bad_text, hex_mark, filled_most}
use Rattle.script.proofs.Prelude.{length_filled, piece_most}
use Rattle.script.proofs.Digits.{length_digits}
use Rattle.script.specs.Line.{register_line, special_line, step_line, digits_at, is_number, starts_with, before, matched, register_form, special_form, step_form, or_else, line_of}
use Rattle.script.specs.Script.{done_line, refused_line, step_text, form_turn, carried, windows, script_most, printed, output_length, Bounded}
use Rattle.script.specs.declared.line.Form.{Form}
use Rattle.script.specs.declared.line.Form.TheVariants.{Register, Special, Step}
use Rattle.model.specs.declared.Instruction.{Instruction}

-- ---- a line is no shorter than its pattern

Long : List ℕ → List ℕ → Option (List ℕ) → Type 0
Long p l m = (vs : List ℕ) → m ≡ Some vs → length p ≤ length l

long_none : (p l : List ℕ) → Long p l None
unfolding Long
long_none p l vs e = let z : ◌≡◌ {A = ℕ} 0 1 = cc in absurd (omega arith)

some_digits : (ds : List ℕ) → is_number ds ≡ true → 0 < length ds
unfolding is_number
some_digits ds e = ltb-true 0 (length ds) (and_left (ltb 0 (length ds)) _ e)

-- by a number and by a byte
long_before : (c : ℕ) (p l : List ℕ) (k v : ℕ) (m : Option (List ℕ)) → 0 < k → k ≤ length l → Long p (drop k l) m → Long (c ∷ p) l (before v m)
unfolding Long
long_before c p l k v None h f r vs e = long_none (c ∷ p) l vs e
long_before c p l k v (Some us) h f r vs e = omega (arith, r us refl, length-drop k l)

long_byte : (c : ℕ) (p l : List ℕ) (m : Option (List ℕ)) → starts_with c l ≡ true → Long p (drop 1 l) m → Long (c ∷ p) l m
unfolding Long
long_byte c p [] m e r vs f = absurd (let z : ◌≡◌ {A = ℕ} 0 1 = cc in omega arith)
long_byte c p (b ∷ l) m e r vs f = omega (arith, r vs f)

matches_long : (p l : List ℕ) → Long p l (matched p l)
unfolding matched Long
matches_long [] l = λ vs e. omega arith
matches_long (c ∷ p) l =
    let number = matches_long p (drop (length (digits_at l)) l) in
    let byte = matches_long p (drop 1 l) in
    on (Long (c ∷ p) l) (eqb c hex_mark)
    (λ h. on (Long (c ∷ p) l) (is_number (digits_at l))
    (λ d. long_before c p l (length (digits_at l)) (number_of 0 (digits_at l)) _ (some_digits (digits_at l) d) (length_digits l) number)
    (λ d. long_none (c ∷ p) l))
    (λ h. on (Long (c ∷ p) l) (starts_with c l) (λ d. long_byte c p l _ d byte) (λ d. long_none (c ∷ p) l))

pub matched_long : (p l vs : List ℕ) → matched p l ≡ Some vs → length p ≤ length l
unfolding Long
matched_long p l = matches_long p l

-- ---- what a line prints

text_most : (i : Instruction) (n : ℕ) (s : State) → length (step_text i n s) ≤ 189
unfolding step_text filled_most piece_most done_line refused_line codes
text_most i n s =
    on (λ (t : List ℕ). length t ≤ 189) (eqb n 0)
    (λ e. omega (arith, length_filled done_line (i.op ∷ i.x ∷ i.y ∷ i.z ∷ s.pc ∷ sp s r_g ∷ sp s r_l ∷ sp s r_o ∷ [])))
    (λ e. length_filled refused_line (i.op ∷ i.x ∷ i.y ∷ i.z ∷ n ∷ s.pc ∷ sp s r_g ∷ sp s r_l ∷ sp s r_o ∷ []))

pub bad_most_law : (n : ℕ) → length (bad_text n) ≤ 27
unfolding bad_text filled_most piece_most bad_line codes
bad_most_law n = length_filled bad_line (n ∷ [])

-- a line that says a step is as long as the shortest
Enough : List ℕ → Option Form → Type 0
Enough l (Some (Register a)) = Unit {0}
Enough l (Some (Special a)) = Unit {0}
Enough l (Some (Step i)) = 16 ≤ length l
Enough l None = Unit {0}

or_else_law : (P : Option Form → Type 0) (m : Option (List ℕ)) (f : List ℕ → Option Form) (e : Option Form) → ((vs : List ℕ) → m ≡ Some vs → P (f vs)) → P e → P (or_else m f e)
or_else_law P None f e h k = k
or_else_law P (Some vs) f e h k = h vs refl

enough : (l : List ℕ) → Enough l (line_of l)
unfolding line_of register_form special_form step_form Enough step_line codes
enough l =
    or_else_law (Enough l) (matched register_line l) register_form _ (λ vs e. on (Enough l) (ltb (get_or vs 0 0) 256) (λ t. tt) (λ t. tt))
    (or_else_law (Enough l) (matched special_line l) special_form _ (λ vs e. on (Enough l) (ltb (get_or vs 0 0) 32) (λ t. tt) (λ t. tt))
    (or_else_law (Enough l) (matched step_line l) step_form None (λ vs e. on (Enough l) (ltb (get_or vs 0 0) 256 && (ltb (get_or vs 1 0) 256 && (ltb (get_or vs 2 0) 256 && ltb (get_or vs 3 0) 256)))
    (λ t. matched_long step_line l vs e) (λ t. tt))
    tt))

-- what a line prints is little for its length, but for the bad one at the end
module _ (n : ℕ) (s : State) (w : Windows) (l : List ℕ) where
  abbrev stepped : Instruction → Outcome State Windows
  stepped i = step_of w s i.op i.x i.y i.z

  most_if_on : (f : Option Form) → Enough l f → (form_turn n s w f).goes_on ≡ true → length (form_turn n s w f).text ≤ 12 * suc (length l)
  unfolding form_turn Enough
  most_if_on (Some (Register a)) h e = omega arith
  most_if_on (Some (Special a)) h e = omega arith
  most_if_on (Some (Step i)) h e = omega (arith, text_most i (stepped i).reply (stepped i).state)
  most_if_on None h e = absurd (let z : ◌≡◌ {A = ℕ} 0 1 = cc in omega arith)

  most : (f : Option Form) → Enough l f → length (form_turn n s w f).text ≤ 12 * suc (length l) + 27
  unfolding form_turn Enough
  most (Some (Register a)) h = omega arith
  most (Some (Special a)) h = omega arith
  most (Some (Step i)) h = omega (arith, text_most i (stepped i).reply (stepped i).state)
  most None h = omega (arith, bad_most_law n)

-- ---- what the lines print

-- the lines' length, with a newline for each
joined : List (List ℕ) → ℕ
joined [] = 0
joined (p ∷ ps) = suc (length p) + joined ps

joined_pieces : (l : List ℕ) → joined (pieces l) ≡ suc (length l)
unfolding pieces joined
joined_pieces [] = refl
joined_pieces (b ∷ l) =
    let h = joined_pieces l in
    on (λ (ps : List (List ℕ)). joined ps ≡ suc (suc (length l))) (eqb b 10) (λ e. omega arith) (λ e. first (pieces l) h)
  where
    first : (ps : List (List ℕ)) → joined ps ≡ suc (length l) → joined (at_first b ps) ≡ suc (suc (length l))
    first [] h = absurd (omega arith)
    first (p ∷ ps) h = omega arith

most_carried : (n : ℕ) (s : State) (w : Windows) (p : List ℕ) (ps : List (List ℕ)) → length (carried n s w (p ∷ ps)) + 12 ≤ 12 * joined (p ∷ ps) + 27
unfolding carried joined
most_carried n s w p [] = on (λ (t : List ℕ). length t + 12 ≤ 12 * (suc (length p) + 0) + 27) (eqb (length p) 0) (λ e. omega arith) (λ e. omega (arith, bad_most_law n))
most_carried n s w p (q ∷ ps) =
    let f = line_of p in
    let rest = most_carried (suc n) (form_turn n s w f).state (form_turn n s w f).windows q ps in
    go (form_turn n s w f).text (form_turn n s w f).goes_on _ (most_if_on n s w p f (enough p)) (most n s w p f (enough p)) rest
  where
    go : (t : List ℕ) (b : Bool) (u : List ℕ) → (b ≡ true → length t ≤ 12 * suc (length p)) → length t ≤ 12 * suc (length p) + 27
        → length u + 12 ≤ 12 * joined (q ∷ ps) + 27 → length (t ++ cond b u []) + 12 ≤ 12 * (suc (length p) + joined (q ∷ ps)) + 27
    go t true u h k r = omega (arith, length-append t u, h refl)
    go t false u h k r = omega (arith, length-append t [])

pub carried_most : (n : ℕ) (s : State) (w : Windows) (l : List ℕ) → length (carried n s w (pieces l)) ≤ 12 * length l + 27
unfolding carried joined
carried_most n s w l = go (pieces l) (joined_pieces l)
  where
    go : (ps : List (List ℕ)) → joined ps ≡ suc (length l) → length (carried n s w ps) ≤ 12 * length l + 27
    go [] e = omega arith
    go (p ∷ ps) e = omega (arith, most_carried n s w p ps)

by_length : (l : List ℕ) → length (printed l) ≤ 12 * length l + 27
unfolding printed
by_length l = on (λ (t : List ℕ). length t ≤ 12 * length l + 27) (leb (length l) script_most) (λ e. carried_most 1 start windows l) (λ e. omega (arith, bad_most_law 0))

of_any : (l : List ℕ) → length (printed l) ≤ output_length
unfolding printed
of_any l =
    on (λ (t : List ℕ). length t ≤ output_length) (leb (length l) script_most) (λ e. omega (arith, leb-true (length l) script_most e, carried_most 1 start windows l))
    (λ e. omega (arith, bad_most_law 0))

pub bounded : Bounded
bounded = record { by_length = by_length; of_any = of_any }
