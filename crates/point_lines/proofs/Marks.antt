-- Laws of the digits at a form's marks: a line of a form is the form with its digits in it. Those of a point's line are in LineMarks.
use Rattle.model.proofs.Prelude.{suc, zero, ℕ, ◌+◌, ◌<◌, cond, false, true, List, [], ◌++◌, ◌∷◌, ap, refl, sym, ◌∙◌, ◌≡◌, add-one, arith, eqb, drop, get_or}
use Rattle.model.proofs.Prelude.{length, length-replicate, drop-drop, get_or-drop, eq-eqb, eqb-true, lt-ltb, ltb-true, All, and_left, and_right}
use Rattle.point_lines.proofs.Prelude.{digit_of, glyph, digit_glyph, Digits, glyph_digit, either}
use Rattle.point_lines.specs.Line.{mark, fits_byte, fits, marks, digits_at}
use Rattle.point_lines.specs.PointLine.{in_form}

-- the digits of a line at a form's marks
unfoldable pub digits_in : List ℕ → List ℕ → List ℕ
digits_in [] l = []
digits_in (c ∷ p) l = cond (eqb c mark) (digit_of (get_or l 0 0) ∷ digits_in p (drop 1 l)) (digits_in p (drop 1 l))

-- how many marks a form has
unfoldable pub marks_in : List ℕ → ℕ
marks_in [] = 0
marks_in (c ∷ p) = cond (eqb c mark) (suc (marks_in p)) (marks_in p)

-- ---- a line of a form, and its digits

fits_byte_law : (c b : ℕ) (p l : List ℕ) → fits (c ∷ p) (b ∷ l) ≡ true → fits_byte c b ≡ true
unfolding fits
fits_byte_law c b p l e = and_left (fits_byte c b) _ e

fits_rest : (c b : ℕ) (p l : List ℕ) → fits (c ∷ p) (b ∷ l) ≡ true → fits p l ≡ true
unfolding fits
fits_rest c b p l e = and_right (fits_byte c b) _ e

digit_here : (c b : ℕ) → eqb c mark ≡ true → fits_byte c b ≡ true → digit_of b < 16
unfolding fits_byte
digit_here c b t e = ltb-true _ _ (rw t at e)

byte_here : (c b : ℕ) → eqb c mark ≡ false → fits_byte c b ≡ true → b ≡ c
unfolding fits_byte
byte_here c b t e = eqb-true _ _ (rw t at e)

pub line_again : (p l : List ℕ) → fits p l ≡ true → in_form p (digits_in p l) ≡ l
unfolding in_form digits_in fits
line_again [] [] e = refl
line_again [] (b ∷ l) e = cc
line_again (c ∷ p) [] e = cc
line_again (c ∷ p) (b ∷ l) e =
    let r : in_form p (digits_in p l) ≡ l = line_again p l (fits_rest c b p l e) in
    either (eqb c mark)
    (λ t. rw (t, glyph_digit b (digit_here c b t (fits_byte_law c b p l e)), r))
    (λ t. rw (t, byte_here c b t (fits_byte_law c b p l e), r))

pub digits_small : (p l : List ℕ) → fits p l ≡ true → Digits (digits_in p l)
unfolding digits_in All fits
digits_small [] l e = tt
digits_small (c ∷ p) [] e = let z : ◌≡◌ {A = ℕ} 0 1 = cc in absurd (omega arith)
digits_small (c ∷ p) (b ∷ l) e =
    let r : Digits (digits_in p l) = digits_small p l (fits_rest c b p l e) in
    either (eqb c mark)
    (λ t. rw t (digit_here c b t (fits_byte_law c b p l e), r))
    (λ t. rw t r)

-- digits put into a form are there

module _ (d : ℕ) (ds : List ℕ) (p : List ℕ) where
  mark_in : (c : ℕ) → eqb c mark ≡ true → in_form (c ∷ p) (d ∷ ds) ≡ glyph d ∷ in_form p ds
  unfolding in_form
  mark_in c t = rw t

in_none : (ds : List ℕ) → in_form [] ds ≡ []
unfolding in_form
in_none ds = refl

plain_in : (c : ℕ) (p ds : List ℕ) → eqb c mark ≡ false → in_form (c ∷ p) ds ≡ c ∷ in_form p ds
unfolding in_form
plain_in c p ds t = rw t

fits_mark : (c d : ℕ) (p l : List ℕ) → eqb c mark ≡ true → d < 16 → fits (c ∷ p) (glyph d ∷ l) ≡ fits p l
unfolding fits fits_byte
fits_mark c d p l t h = let g : digit_of (glyph d) ≡ d = digit_glyph d h in rw (t, g, lt-ltb d 16 h)

fits_plain : (c : ℕ) (p l : List ℕ) → eqb c mark ≡ false → fits (c ∷ p) (c ∷ l) ≡ fits p l
unfolding fits fits_byte
fits_plain c p l t = rw (t, eq-eqb c c refl)

nothing : (ds : List ℕ) → fits [] (in_form [] ds) ≡ true
unfolding fits in_form
nothing ds = refl

pub form_fits : (p ds : List ℕ) → Digits ds → length ds ≡ marks_in p → fits p (in_form p ds) ≡ true
unfolding marks_in All
form_fits [] ds a n = nothing ds
form_fits (c ∷ p) [] a n = either (eqb c mark) (λ t. absurd (omega (arith, rw t at n))) (λ t. rw (plain_in c p [] t, fits_plain c p (in_form p []) t) (form_fits p [] a (rw t at n)))
form_fits (c ∷ p) (d ∷ ds) a n =
    either (eqb c mark)
    (λ t. let m : length ds ≡ marks_in p = omega (arith, rw t at n) in rw (mark_in d ds p c t, fits_mark c d p (in_form p ds) t a.0) (form_fits p ds a.1 m))
    (λ t. rw (plain_in c p (d ∷ ds) t, fits_plain c p (in_form p (d ∷ ds)) t) (form_fits p (d ∷ ds) a (rw t at n)))

pub digits_again : (p ds : List ℕ) → Digits ds → length ds ≡ marks_in p → digits_in p (in_form p ds) ≡ ds
unfolding marks_in All digits_in
digits_again [] [] a n = refl
digits_again [] (d ∷ ds) a n = absurd (omega arith)
digits_again (c ∷ p) [] a n = either (eqb c mark) (λ t. absurd (omega (arith, rw t at n))) (λ t. rw (plain_in c p [] t, t) (digits_again p [] a (rw t at n)))
digits_again (c ∷ p) (d ∷ ds) a n =
    either (eqb c mark)
    (λ t.
    let m : length ds ≡ marks_in p = omega (arith, rw t at n) in
    let g : digit_of (glyph d) ≡ d = digit_glyph d a.0 in
    rw (mark_in d ds p c t, t, g, digits_again p ds a.1 m))
    (λ t. rw (plain_in c p (d ∷ ds) t, t) (digits_again p (d ∷ ds) a (rw t at n)))

-- ---- a form in two parts, with its digits in it

pub in_append : (p q ds es : List ℕ) → length ds ≡ marks_in p → in_form (p ++ q) (ds ++ es) ≡ in_form p ds ++ in_form q es
unfolding marks_in
in_append [] q [] es n = ap (λ (l : List ℕ). l ++ in_form q es) (sym (in_none []))
in_append [] q (d ∷ ds) es n = absurd (omega arith)
in_append (c ∷ p) q [] es n =
    either (eqb c mark) (λ t. absurd (omega (arith, rw t at n)))
    (λ t. rw (plain_in c (p ++ q) es t, plain_in c p [] t) (ap (λ (l : List ℕ). c ∷ l) (in_append p q [] es (rw t at n))))
in_append (c ∷ p) q (d ∷ ds) es n =
    either (eqb c mark)
    (λ t.
    let m : length ds ≡ marks_in p = omega (arith, rw t at n) in
    rw (mark_in d (ds ++ es) (p ++ q) c t, mark_in d ds p c t) (ap (λ (l : List ℕ). glyph d ∷ l) (in_append p q ds es m)))
    (λ t. rw (plain_in c (p ++ q) (d ∷ (ds ++ es)) t, plain_in c p (d ∷ ds) t) (ap (λ (l : List ℕ). c ∷ l) (in_append p q (d ∷ ds) es (rw t at n))))

pub length_in : (p ds : List ℕ) → length (in_form p ds) ≡ length p
unfolding in_form
length_in [] ds = refl
length_in (c ∷ p) ds = either (eqb c mark) (λ t. rw t (ap suc (length_in p (drop 1 ds)))) (λ t. rw t (ap suc (length_in p ds)))

-- ---- one part after another

pub marks_append : (p q : List ℕ) → marks_in (p ++ q) ≡ marks_in p + marks_in q
unfolding marks_in
marks_append [] q = omega arith
marks_append (c ∷ p) q = either (eqb c mark) (λ t. rw t (omega (arith, marks_append p q))) (λ t. rw t (marks_append p q))

pub marks_marks : (n : ℕ) → marks_in (marks n) ≡ n
unfolding marks_in
marks_marks zero = refl
marks_marks (suc n) = ap suc (marks_marks n)

digits_append : (p q l : List ℕ) → digits_in (p ++ q) l ≡ digits_in p l ++ digits_in q (drop (length p) l)
unfolding digits_in
digits_append [] q l = refl
digits_append (c ∷ p) q l =
    let e : 1 + length p ≡ suc (length p) = omega arith in
    let r : digits_in (p ++ q) (drop 1 l) ≡ digits_in p (drop 1 l) ++ digits_in q (drop (suc (length p)) l)
    = digits_append p q (drop 1 l) ∙ ap (λ (k : List ℕ). digits_in p (drop 1 l) ++ digits_in q k) (drop-drop (length p) 1 l ∙ ap (λ (k : ℕ). drop k l) e) in
    either (eqb c mark) (λ t. rw (t, r)) (λ t. rw (t, r))

digits_marks : (n : ℕ) (l : List ℕ) (o : ℕ) → digits_in (marks n) (drop o l) ≡ digits_at l o n
unfolding digits_in digits_at
digits_marks zero l o = refl
digits_marks (suc n) l o =
    let e : get_or (drop o l) 0 0 ≡ get_or l o 0 = get_or-drop o l 0 0 ∙ ap (λ (k : ℕ). get_or l k 0) (omega arith) in
    let f : drop 1 (drop o l) ≡ drop (suc o) l = drop-drop 1 o l ∙ ap (λ (k : ℕ). drop k l) (add-one o) in
    rw (e, f, digits_marks n l (suc o))

-- bytes that are no marks, then n digits
pub after_plain : (s : List ℕ) → ((l : List ℕ) → digits_in s l ≡ []) → (n : ℕ) (q l : List ℕ) (o m r : ℕ) → o + length s ≡ m → m + n ≡ r
    → digits_in (s ++ (marks n ++ q)) (drop o l) ≡ digits_at l m n ++ digits_in q (drop r l)
after_plain s none n q l o m r e f =
    digits_append s (marks n ++ q) (drop o l)
    ∙ ap (λ (k : List ℕ). k ++ digits_in (marks n ++ q) (drop (length s) (drop o l))) (none (drop o l))
    ∙ ap (digits_in (marks n ++ q)) (drop-drop (length s) o l ∙ ap (λ (k : ℕ). drop k l) e)
    ∙ digits_append (marks n) q (drop m l)
    ∙ ap (λ (k : List ℕ). k ++ digits_in q (drop (length (marks n)) (drop m l))) (digits_marks n l m)
    ∙ ap (λ (k : List ℕ). digits_at l m n ++ digits_in q k) (drop-drop (length (marks n)) m l ∙ ap (λ (k : ℕ). drop k l) (ap (λ (k : ℕ). m + k) (length-replicate {A = ℕ} n mark) ∙ f))
