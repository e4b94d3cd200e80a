-- Which point a line has and what is written of it: its point's line, which is the line itself with digits 0 more where its form is an older one.
use Rattle.model.proofs.Prelude.{suc, zero, ℕ, ◌%◌, ◌*◌, ◌+◌, ◌-◌, ◌/◌, ◌<◌, ◌^◌, ◌≤◌, true, append_assoc, append-nil, List, [], ◌++◌, ◌∷◌, ap, refl, sym, ◌∙◌}
use Rattle.model.proofs.Prelude.{◌≡◌, add-suc, add-zero, pow-succ', add-one, arith, length, length-append, length-replicate, replicate}
use Rattle.model.proofs.Prelude.{replicate-append-replicate, full, image_length, octas_in, Point, part, full_bytes, part_padded}
use Rattle.point_lines.proofs.Prelude.{codes, glyph}
use Rattle.point_lines.specs.Line.{mark, head, bases, middle, close, marks, point_form, length_digits, old_length_digits, state_digits, old_state_digits, is_new, is_old, is_short, is_short_old, is_point, widths, widths_of, zeros, widened, renewed}
use Rattle.point_lines.specs.PointLine.{hex_of, digits_of, in_form, point_digits, line_of, name_of, point_by, point_of, Read, Older}
use Rattle.point_lines.specs.declared.line.Widths.{Widths}
use Rattle.point_lines.proofs.Forms.{length_head, length_bases, length_space}
use Rattle.point_lines.proofs.Formed.{Formed, formed, as_new, point_old, point_short, point_short_old, old_widths, short_widths, short_old_widths}
use Rattle.point_lines.proofs.Marks.{marks_in, marks_marks, in_append, length_in}
use Rattle.point_lines.proofs.Hex.{length_hex, length_digits_law, digits_bytes}
use Rattle.point_lines.proofs.Padded.{widened_none, widened_parts}
use Rattle.point_lines.proofs.LinePoint.{line_by, ReadBy, read_by}

-- ---- which point, and what is written, by a line's widths

module _ (l : List ℕ) (w d : ℕ) (e : widths_of l ≡ widths w d) where
  its_point : point_of l ≡ full (point_by w d l)
  unfolding point_of
  its_point = ap (λ (x : Widths). full (point_by x.lengths x.state l)) e

  pub its_own : renewed l ≡ widened w d l
  unfolding renewed
  its_own = ap (λ (x : Widths). widened x.lengths x.state l) e

pub new_point : (l : List ℕ) → is_new l ≡ true → point_of l ≡ full (point_by length_digits state_digits l)
new_point l e = its_point l length_digits state_digits (as_new l e)

pub new_same : (l : List ℕ) → is_new l ≡ true → renewed l ≡ l
new_same l e = its_own l length_digits state_digits (as_new l e) ∙ widened_none l

-- ---- a form with its digits in it, part by part

head_marks : marks_in head ≡ 1
unfolding head codes marks_in
head_marks = refl

bases_marks : marks_in bases ≡ 32
unfolding bases codes marks_in
bases_marks = refl

space_marks : marks_in (codes " ") ≡ 0
unfolding codes marks_in
space_marks = refl

abbrev rest : ℕ → List ℕ
rest m = middle ++ (marks (16 * m) ++ close)

module _ (w d m : ℕ) (x a b t i v : List ℕ) (nx : length x ≡ 1) (na : length a ≡ w) (nb : length b ≡ w) (nt : length t ≡ 32) (ni : length i ≡ d) where
  abbrev f₅ : List ℕ
  f₅ = marks d ++ rest m

  abbrev f₄ : List ℕ
  f₄ = bases ++ f₅

  abbrev f₃ : List ℕ
  f₃ = marks w ++ f₄

  abbrev f₂ : List ℕ
  f₂ = codes " " ++ f₃

  in_parts : in_form (point_form w d m) (x ++ (a ++ (b ++ (t ++ (i ++ v)))))
      ≡ in_form head x ++ (in_form (marks w) a ++ (in_form (codes " ") [] ++ (in_form (marks w) b ++ (in_form bases t ++ (in_form (marks d) i ++ in_form (rest m) v)))))
  unfolding point_form
  in_parts =
      in_append head (marks w ++ f₂) x (a ++ (b ++ (t ++ (i ++ v)))) (nx ∙ sym head_marks)
      ∙ ap (λ (r : List ℕ). in_form head x ++ r) (in_append (marks w) f₂ a (b ++ (t ++ (i ++ v))) (na ∙ sym (marks_marks w))
      ∙ ap (λ (r : List ℕ). in_form (marks w) a ++ r) (in_append (codes " ") f₃ [] (b ++ (t ++ (i ++ v))) (sym space_marks)
      ∙ ap (λ (r : List ℕ). in_form (codes " ") [] ++ r) (in_append (marks w) f₄ b (t ++ (i ++ v)) (nb ∙ sym (marks_marks w))
      ∙ ap (λ (r : List ℕ). in_form (marks w) b ++ r) (in_append bases f₅ t (i ++ v) (nt ∙ sym bases_marks)
      ∙ ap (λ (r : List ℕ). in_form bases t ++ r) (in_append (marks d) (rest m) i v (ni ∙ sym (marks_marks d)))))))

-- ---- digits 0 more

in_zeros : (k : ℕ) → in_form (marks k) (replicate k 0) ≡ zeros k
unfolding in_form glyph
in_zeros zero = refl
in_zeros (suc k) = ap (λ (r : List ℕ). 0x30 ∷ r) (in_zeros k)

zeros_before : (k w : ℕ) (a : List ℕ) → in_form (marks (k + w)) (replicate k 0 ++ a) ≡ zeros k ++ in_form (marks w) a
zeros_before k w a =
    ap (λ (p : List ℕ). in_form p (replicate k 0 ++ a)) (sym (replicate-append-replicate k w mark))
    ∙ in_append (marks k) (marks w) (replicate k 0) a (length-replicate {A = ℕ} k 0 ∙ sym (marks_marks k))
    ∙ ap (λ (r : List ℕ). r ++ in_form (marks w) a) (in_zeros k)

zeros_after : (d k : ℕ) (i : List ℕ) → length i ≡ d → in_form (marks (d + k)) (i ++ replicate k 0) ≡ in_form (marks d) i ++ zeros k
zeros_after d k i n =
    ap (λ (p : List ℕ). in_form p (i ++ replicate k 0)) (sym (replicate-append-replicate d k mark))
    ∙ in_append (marks d) (marks k) i (replicate k 0) (n ∙ sym (marks_marks d))
    ∙ ap (λ (r : List ℕ). in_form (marks d) i ++ r) (in_zeros k)

hex_zero : (k : ℕ) → hex_of k 0 ≡ replicate k 0
unfolding hex_of
hex_zero zero = refl
hex_zero (suc k) = ap (λ (r : List ℕ). r ++ (0 ∷ [])) (hex_zero k) ∙ replicate-append-replicate k 1 0 ∙ ap (λ (j : ℕ). replicate j 0) (add-one k)

hex_none : (r : List ℕ) → r ++ hex_of 0 0 ≡ r
unfolding hex_of
hex_none r = append-nil r

hex_last : (j u : ℕ) → hex_of (suc j) u ≡ hex_of j (u / 16) ++ (u % 16 ∷ [])
unfolding hex_of
hex_last j u = refl

hex_wide : (k w v : ℕ) → v < 16 ^ w → hex_of (k + w) v ≡ replicate k 0 ++ hex_of w v
hex_wide k zero v h =
    let e : v ≡ 0 = omega arith in
    rw (e, add-zero k) (hex_zero k ∙ sym (hex_none (replicate k 0)))
hex_wide k (suc w) v h =
    let n : v / 16 < 16 ^ w = omega (arith, pow-succ' 16 w) in
    ap (λ (j : ℕ). hex_of j v) (add-suc k w) ∙ hex_last (k + w) v
    ∙ ap (λ (r : List ℕ). r ++ (v % 16 ∷ [])) (hex_wide k w (v / 16) n)
    ∙ append_assoc (replicate k 0) (hex_of w (v / 16)) (v % 16 ∷ [])
    ∙ ap (λ (r : List ℕ). replicate k 0 ++ r) (sym (hex_last w v))

no_digits : (k : ℕ) → digits_of (replicate k 0) ≡ replicate (k + k) 0
unfolding digits_of
no_digits zero = refl
no_digits (suc k) =
    let e : suc (suc (k + k)) ≡ suc k + suc k = omega arith in
    ap (λ (r : List ℕ). 0 ∷ 0 ∷ r) (no_digits k) ∙ ap (λ (j : ℕ). replicate j 0) e

more_digits : (l : List ℕ) (n : ℕ) → length l ≡ n → n ≤ image_length → digits_of (part l 0 image_length) ≡ digits_of l ++ replicate (state_digits - 2 * n) 0
more_digits l n e h =
    let k : ℕ = image_length - n in
    let f : image_length ≡ length l + k = omega arith in
    let g : k + k ≡ state_digits - 2 * n = omega arith in
    ap (λ (j : ℕ). digits_of (part l 0 j)) f ∙ ap digits_of (part_padded l k) ∙ digits_bytes l (replicate k 0)
    ∙ ap (λ (r : List ℕ). digits_of l ++ r) (no_digits k ∙ ap (λ (j : ℕ). replicate j 0) g)

-- ---- a point's line from its line in another form

module _ (w n name : ℕ) (p : Point) (l : List ℕ) (hw : w ≤ length_digits) (hn : n ≤ image_length) (long : length p.image ≡ n)
    (few_a : octas_in p.a < 16 ^ w) (few_b : octas_in p.b < 16 ^ w) (is : line_by w n name p ≡ l) where
  abbrev j : ℕ
  j = length_digits - w

  abbrev k : ℕ
  k = state_digits - 2 * n

  abbrev m : ℕ
  m = octas_in p.a + octas_in p.b

  abbrev x : List ℕ
  x = hex_of 1 name

  abbrev a : List ℕ
  a = hex_of w (octas_in p.a)

  abbrev b : List ℕ
  b = hex_of w (octas_in p.b)

  abbrev t : List ℕ
  t = hex_of 16 p.base_a ++ hex_of 16 p.base_b

  abbrev i : List ℕ
  i = digits_of p.image

  abbrev v : List ℕ
  v = digits_of p.a ++ digits_of p.b

  nt : length t ≡ 32
  nt = omega (arith, length-append (hex_of 16 p.base_a) (hex_of 16 p.base_b), length_hex 16 p.base_a, length_hex 16 p.base_b)

  ni : length i ≡ 2 * n
  ni = omega (arith, length_digits_law p.image)

  wide : length_digits ≡ j + w
  wide = omega arith

  deep : state_digits ≡ 2 * n + k
  deep = omega arith

  own_digits : point_digits w name p ≡ x ++ (a ++ (b ++ (t ++ (i ++ v))))
  unfolding point_digits
  own_digits = simp append_assoc

  full_digits : point_digits length_digits name (full p) ≡ x ++ ((replicate j 0 ++ a) ++ ((replicate j 0 ++ b) ++ (t ++ ((i ++ replicate k 0) ++ v))))
  unfolding point_digits
  full_digits =
      let e : hex_of length_digits (octas_in p.a) ≡ replicate j 0 ++ a = ap (λ (q : ℕ). hex_of q (octas_in p.a)) wide ∙ hex_wide j w (octas_in p.a) few_a in
      let f : hex_of length_digits (octas_in p.b) ≡ replicate j 0 ++ b = ap (λ (q : ℕ). hex_of q (octas_in p.b)) wide ∙ hex_wide j w (octas_in p.b) few_b in
      rw (e, f, more_digits p.image n long hn)
      (ap (λ (r : List ℕ). x ++ ((replicate j 0 ++ a) ++ ((replicate j 0 ++ b) ++ r))) (sym (append_assoc (hex_of 16 p.base_a) (hex_of 16 p.base_b) _)))

  length_more : (u : List ℕ) → length u ≡ w → length (replicate j 0 ++ u) ≡ length_digits
  length_more u e = omega (arith, length-append (replicate {A = ℕ} j 0) u, length-replicate {A = ℕ} j 0)

  before : (u : List ℕ) → in_form (marks length_digits) (replicate j 0 ++ u) ≡ zeros j ++ in_form (marks w) u
  before u = ap (λ (q : ℕ). in_form (marks q) (replicate j 0 ++ u)) wide ∙ zeros_before j w u

  after : in_form (marks state_digits) (i ++ replicate k 0) ≡ in_form (marks (2 * n)) i ++ zeros k
  after = ap (λ (q : ℕ). in_form (marks q) (i ++ replicate k 0)) deep ∙ zeros_after (2 * n) k i ni

  in_marks : (q : ℕ) (u : List ℕ) → length (in_form (marks q) u) ≡ q
  in_marks q u = length_in (marks q) u ∙ length-replicate {A = ℕ} q mark

  becomes : line_of name (full p) ≡ widened w (2 * n) l
  unfolding line_of
  becomes =
      ap (in_form (point_form length_digits state_digits m)) full_digits
      ∙ in_parts length_digits state_digits m x (replicate j 0 ++ a) (replicate j 0 ++ b) t (i ++ replicate k 0) v (length_hex 1 name)
      (length_more a (length_hex w (octas_in p.a))) (length_more b (length_hex w (octas_in p.b))) nt
      (omega (arith, length-append i (replicate {A = ℕ} k 0), length-replicate {A = ℕ} k 0, ni))
      ∙ rw (before a, before b, after)
      (sym (widened_parts w (2 * n) (in_form head x) (in_form (marks w) a) (in_form (codes " ") []) (in_form (marks w) b) (in_form bases t) (in_form (marks (2 * n)) i) (in_form (rest m) v)
      (length_in head x ∙ length_head) (in_marks w a) (length_in (codes " ") [] ∙ length_space) (in_marks w b) (length_in bases t ∙ length_bases) (in_marks (2 * n) i)))
      ∙ ap (widened w (2 * n)) (sym (in_parts w (2 * n) m x a b t i v (length_hex 1 name) (length_hex w (octas_in p.a)) (length_hex w (octas_in p.b)) nt ni)
      ∙ ap (in_form (point_form w (2 * n) m)) (sym own_digits) ∙ is)

-- ---- what is read of a line

pub read : (l : List ℕ) → is_point l ≡ true → Read l
read l e =
    let f : Formed l = formed l e in
    let r : ReadBy f.w f.n f.k l (point_by f.w (2 * f.n) l) = read_by f.w f.n l f.k f.is f.few in
    let p : point_of l ≡ full (point_by f.w (2 * f.n) l) = its_point l f.w (2 * f.n) f.widths_are in
    record {
      line_is = ap (line_of (name_of l)) p
          ∙ becomes f.w f.n (name_of l) (point_by f.w (2 * f.n) l) l f.most f.image_most r.image_long (omega (arith, r.few_a, f.told)) (omega (arith, r.few_b, f.told)) r.line_is
          ∙ sym (its_own l f.w (2 * f.n) f.widths_are);
      name_small = r.name_small;
      point_fits = rw p r.point_fits;
      of_bytes = rw p (full_bytes (point_by f.w (2 * f.n) l) r.of_bytes);
    }

older : (l : List ℕ) (w d : ℕ) → is_point l ≡ true → widths_of l ≡ widths w d → Older w d l
older l w d e f = record { point_is = its_point l w d f; line_is = (read l e).line_is ∙ its_own l w d f }

pub old : (l : List ℕ) → is_old l ≡ true → Older length_digits old_state_digits l
old l e = older l length_digits old_state_digits (point_old l e) (old_widths l e)

pub short : (l : List ℕ) → is_short l ≡ true → Older old_length_digits state_digits l
short l e = older l old_length_digits state_digits (point_short l e) (short_widths l e)

pub short_old : (l : List ℕ) → is_short_old l ≡ true → Older old_length_digits old_state_digits l
short_old l e = older l old_length_digits old_state_digits (point_short_old l e) (short_old_widths l e)
