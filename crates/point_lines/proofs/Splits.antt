-- What is printed, line by line, and the theorem that turns print it however the text is split.
use Rattle.model.proofs.Prelude.{suc, ℕ, ◌*◌, ◌+◌, ◌<◌, ◌≤◌, cond, false, true, append_assoc, List, [], ◌++◌, ◌∷◌, inl, inr, ◌⊎◌, ⊎_elim, ap, refl, sym}
use Rattle.model.proofs.Prelude.{◌∙◌, ◌≡◌, dec_lt, add-one, arith, leb, drop, length, length-append, take, append_snoc, drop_at, length-take-le, split_at}
use Rattle.model.proofs.Prelude.{take_all, take_at, take-suc, leb-true, ne_eqb, written, and_left, and_right, flag, length_written}
use Rattle.point_lines.proofs.Prelude.{line_length, pieces, bad_text, length_line, line_append, line_front, newline_there, pieces_last, pieces_line}
use Rattle.point_lines.proofs.Prelude.{pieces_some}
use Rattle.point_lines.specs.Line.{point_form, octas_a, octas_b, is_form, is_point, widths_of, renewed, longest_line}
use Rattle.point_lines.specs.Stream.{newline, printed_lines, printed_from, is_good, chunk_turn, held_after, Unended, LineFits, Tells, AnySplit, LineByLine}
use Rattle.point_lines.specs.declared.stream.Turn.{Turn}
use Rattle.point_lines.proofs.Forms.{length_fits, length_form}
use Rattle.point_lines.proofs.Formed.{Formed, formed, point_new}
use Rattle.point_lines.proofs.Padded.{widened_more}
use Rattle.point_lines.proofs.Renewed.{new_same}
use Rattle.point_lines.proofs.Held.{take_written}
use Rattle.point_lines.proofs.Turns.{good_here, not_ended, no_room, no_point, is_more, is_full, is_good', is_bad, left_good, left_other}

-- ---- no line is longer than the longest

abbrev length_of : ℕ → ℕ → ℕ → ℕ
length_of w d m = 88 + 2 * w + d + 16 * m

form_long : (w d k : ℕ) (l : List ℕ) → is_form w d k l ≡ true → (length_of w d 0 ≤ length l) × (length l ≤ length_of w d (k + k))
unfolding is_form
form_long w d k l e =
    let r = and_right (leb (octas_a w l) k) _ e in
    let a : octas_a w l ≤ k = leb-true _ _ (and_left (leb (octas_a w l) k) _ e) in
    let b : octas_b w l ≤ k = leb-true _ _ (and_left (leb (octas_b w l) k) _ r) in
    let n : length l ≡ length_of w d (octas_a w l + octas_b w l)
    = length_fits (point_form w d (octas_a w l + octas_b w l)) l (and_right (leb (octas_b w l) k) _ r) ∙ length_form w d (octas_a w l + octas_b w l) in
    (omega arith, omega arith)

-- a point's line has the widths of its form and room for its state, and in the form that is written it is not too long
record Sized (l : List ℕ) : Type 0 where
  within : LineFits (widths_of l).lengths (widths_of l).state (length l) longest_line

sized : (l : List ℕ) → is_point l ≡ true → Sized l
sized l e =
    let f : Formed l = formed l e in
    let g = form_long f.w (2 * f.n) f.k l f.is in
    record {
      within = rw f.widths_are (record {
        few_lengths = f.most;
        few_state = omega (arith, f.image_most);
        but_mask = omega (arith, f.image_least);
        state_ends = omega (arith, g.0);
        anew_fits = omega (arith, g.1, f.few, f.most, f.image_most);
      });
    }

long_no : (l : List ℕ) → longest_line < length l → is_point l ≡ false
long_no l h = ⊎_elim (λ e. absurd (omega (arith, (sized l e).within.anew_fits))) (λ e. e) (flag (is_point l))

-- ---- line by line

lines_more : (n : ℕ) (p : List ℕ) (ps : List (List ℕ)) → 0 < length ps → printed_lines n (p ∷ ps) ≡ cond (is_point p) (renewed p ++ (newline ∷ printed_lines (suc n) ps)) (bad_text n)
unfolding printed_lines
lines_more n p [] h = absurd (omega arith)
lines_more n p (q ∷ ps) h = refl

at_newline : (l : List ℕ) → line_length (newline ∷ l) ≡ 0
unfolding line_length
at_newline l = refl

cut_line : (p l : List ℕ) → Unended p → pieces (p ++ (newline ∷ l)) ≡ p ∷ pieces l
cut_line p l u =
    let k : line_length (p ++ (newline ∷ l)) ≡ length p = line_append p (newline ∷ l) u ∙ ap (λ (j : ℕ). length p + j) (at_newline l) ∙ omega arith in
    let m : line_length (p ++ (newline ∷ l)) < length (p ++ (newline ∷ l)) = omega (arith, length-append p (newline ∷ l)) in
    pieces_line (p ++ (newline ∷ l)) m
    ∙ ap (λ (j : ℕ). take j (p ++ (newline ∷ l)) ∷ pieces (drop (suc j) (p ++ (newline ∷ l)))) k
    ∙ ap (λ (q : List ℕ). q ∷ pieces (drop (suc (length p)) (p ++ (newline ∷ l)))) (take_at p (newline ∷ l) (length p) refl)
    ∙ ap (λ (q : List ℕ). p ∷ pieces q) (rest_after p)
  where
    rest_after : (q : List ℕ) → drop (suc (length q)) (q ++ (newline ∷ l)) ≡ l
    rest_after q =
        let s : length (q ++ (newline ∷ [])) ≡ suc (length q) = omega (arith, length-append q (newline ∷ [])) in
        ap (drop (suc (length q))) (sym (append_snoc q newline l)) ∙ drop_at (q ++ (newline ∷ [])) l (suc (length q)) s

module _ (n : ℕ) (p : List ℕ) (u : Unended p) where
  line_printed : (l : List ℕ) → printed_from n (p ++ (newline ∷ l)) ≡ cond (is_point p) (renewed p ++ (newline ∷ printed_from (suc n) l)) (bad_text n)
  line_printed l = ap (printed_lines n) (cut_line p l u) ∙ lines_more n p (pieces l) (pieces_some l)

  good_printed : (l : List ℕ) → is_point p ≡ true → printed_from n (p ++ (newline ∷ l)) ≡ renewed p ++ (newline ∷ printed_from (suc n) l)
  good_printed l e = line_printed l ∙ rw e

  bad_printed : (l : List ℕ) → is_point p ≡ false → printed_from n (p ++ (newline ∷ l)) ≡ bad_text n
  bad_printed l e = line_printed l ∙ rw e

  unended_printed : 0 < length p → printed_from n p ≡ bad_text n
  unfolding printed_lines
  unended_printed h = ap (printed_lines n) (pieces_last p u) ∙ rw (ne_eqb (length p) 0 (λ e. absurd (omega arith)))

none_printed : (n : ℕ) → printed_from n [] ≡ []
unfolding printed_lines pieces
none_printed n = refl

pub line_by_line : LineByLine
line_by_line = record {
  good = λ n p l u e. good_printed n p u l (point_new p e) ∙ ap (λ (q : List ℕ). q ++ (newline ∷ printed_from (suc n) l)) (new_same p e);
  renews = λ n p l u e. good_printed n p u l e;
  bad = λ n p l u e. bad_printed n p u l e;
  unended = λ n p u h. unended_printed n p u h;
  ended = none_printed;
}

-- ---- a line that has begun

unended_both : (h t : List ℕ) → Unended h → Unended t → Unended (h ++ t)
unended_both h t u v = omega (arith, line_append h t u, length-append h t)

-- a text with a newline is what stands before it, the newline and the rest
split_line : (l : List ℕ) → line_length l < length l → l ≡ take (line_length l) l ++ (newline ∷ drop (line_length l + 1) l)
split_line l h =
    split_at l (line_length l) 0 h
    ∙ ap (λ (b : ℕ). take (line_length l) l ++ (b ∷ drop (suc (line_length l)) l)) (newline_there l h)
    ∙ ap (λ (k : ℕ). take (line_length l) l ++ (newline ∷ drop k l)) (sym (add-one (line_length l)))

unended_front : (l : List ℕ) → Unended (take (line_length l) l)
unended_front l = omega (arith, line_front l (line_length l) (omega arith), length-take-le (line_length l) l (length_line l))

-- h, then a text with a newline, then the rest
begun : (h l rest : List ℕ) → line_length l < length l
    → h ++ (l ++ rest) ≡ (h ++ take (line_length l) l) ++ (newline ∷ (drop (line_length l + 1) l ++ rest))
begun h l rest k =
    ap (λ (q : List ℕ). h ++ (q ++ rest)) (split_line l k)
    ∙ ap (λ (q : List ℕ). h ++ q) (append_assoc (take (line_length l) l) (newline ∷ drop (line_length l + 1) l) rest)
    ∙ sym (append_assoc h (take (line_length l) l) (newline ∷ (drop (line_length l + 1) l ++ rest)))

-- a line that is too long already is bad, however it ends
too_long : (n : ℕ) (h rest : List ℕ) → Unended h → longest_line < length h → printed_from n (h ++ rest) ≡ bad_text n
too_long n h rest u k = go (dec_lt (line_length rest) (length rest))
  where
    go : Dec (line_length rest < length rest) → printed_from n (h ++ rest) ≡ bad_text n
    go (yes m) =
        let p : List ℕ = h ++ take (line_length rest) rest in
        let e : h ++ rest ≡ p ++ (newline ∷ drop (line_length rest + 1) rest) = ap (λ (q : List ℕ). h ++ q) (split_line rest m) ∙ sym (append_assoc h (take (line_length rest) rest) _) in
        ap (printed_from n) e
        ∙ bad_printed n p (unended_both h (take (line_length rest) rest) u (unended_front rest)) _ (long_no p (omega (arith, length-append h (take (line_length rest) rest))))
    go (no m) =
        let v : Unended rest = omega (arith, length_line rest) in
        unended_printed n (h ++ rest) (unended_both h rest u v) (omega (arith, length-append h rest))

-- ---- the theorem

module _ (held : List ℕ) (count : ℕ) (chunk : List ℕ) (long : longest_line < length held) (in_room : count ≤ length held) (u : Unended (take count held))
    (n : ℕ) (rest : List ℕ) where
  abbrev h : List ℕ
  h = take count held

  abbrev k : ℕ
  k = line_length chunk

  abbrev left : List ℕ
  left = held_after held count chunk

  length_h : length h ≡ count
  length_h = length-take-le count held in_room

  abbrev Told : Turn → Type 0
  Told t = Tells n held count chunk left rest t

  -- the line has no end yet
  module _ (g : length chunk ≤ k) where
    v : Unended chunk
    v = omega (arith, length_line chunk)

    left_whole : left ≡ written held count chunk
    left_whole = left_other held count chunk (not_ended held count chunk g) ∙ ap (written held count) (take_all k chunk g)

    size : length left ≡ length held
    size = ap length left_whole ∙ length_written held count chunk

    length_whole : length (h ++ chunk) ≡ count + length chunk
    length_whole = omega (arith, length-append h chunk, length_h)

    roomy : count + length chunk < length held → Told (chunk_turn held count chunk)
    unfolding Tells
    roomy m =
        let f : take (count + length chunk) left ≡ h ++ chunk = ap (take (count + length chunk)) left_whole ∙ take_written held count chunk (omega arith) in
        rw (is_more held count chunk g m, f) (ap (printed_from n) (sym (append_assoc h chunk rest)), omega (arith, size), unended_both h chunk u v)

    full : length held ≤ count + length chunk → Told (chunk_turn held count chunk)
    unfolding Tells
    full m =
        rw (is_full held count chunk g m)
        (ap (printed_from n) (sym (append_assoc h chunk rest)) ∙ too_long n (h ++ chunk) rest (unended_both h chunk u v) (omega (arith, length_whole)))

    told_more : Told (chunk_turn held count chunk)
    told_more = go (dec_lt (count + length chunk) (length held))
      where
        go : Dec (count + length chunk < length held) → Told (chunk_turn held count chunk)
        go (yes m) = roomy m
        go (no m) = full (omega arith)

  -- it ends within the chunk
  module _ (g : k < length chunk) where
    abbrev p : List ℕ
    p = h ++ take k chunk

    w : Unended p
    w = unended_both h (take k chunk) u (unended_front chunk)

    size_k : length (take k chunk) ≡ k
    size_k = length-take-le k chunk (length_line chunk)

    told_bad : is_good held count chunk ≡ false → is_point p ≡ false → Told (chunk_turn held count chunk)
    unfolding Tells
    told_bad e b = rw (is_bad held count chunk g e) (ap (printed_from n) (begun h chunk rest g) ∙ bad_printed n p w _ b)

    told_good : count + k < length held → is_point p ≡ true → Told (chunk_turn held count chunk)
    unfolding Tells renewed
    told_good m b =
        let e : is_good held count chunk ≡ true = good_here held count chunk g m b in
        let t : List ℕ = take (k + 1) chunk in
        let s : length t ≡ k + 1 = length-take-le (k + 1) chunk (omega arith) in
        let q : count + k + 1 ≡ count + length t = omega arith in
        let z : length left ≡ length held = ap length (left_good held count chunk e) ∙ length_written held count t in
        let ends : t ≡ take k chunk ++ (newline ∷ []) = ap (λ (j : ℕ). take j chunk) (add-one k) ∙ take-suc chunk k 0 g ∙ ap (λ (x : ℕ). take k chunk ++ (x ∷ [])) (newline_there chunk g) in
        let f : take (count + k + 1) left ≡ p ++ (newline ∷ []) = ap (λ (j : ℕ). take j left) q ∙ ap (take (count + length t)) (left_good held count chunk e)
        ∙ take_written held count t (omega arith) ∙ ap (λ (x : List ℕ). h ++ x) ends ∙ sym (append_assoc h (take k chunk) (newline ∷ [])) in
        let z₁ : Sized p = sized p b in
        let n_p : length p ≡ count + k = omega (arith, length-append h (take k chunk), length_h, size_k) in
        rw (is_good' held count chunk e, f, widened_more (widths_of p).lengths (widths_of p).state p (newline ∷ []) z₁.within.state_ends) (
          ap (printed_from n) (begun h chunk rest g) ∙ good_printed n p w _ b ∙ sym (append_snoc (renewed p) newline _),
          omega (arith, z),
          omega arith,
          omega arith,
          record {
            few_lengths = z₁.within.few_lengths;
            few_state = z₁.within.few_state;
            but_mask = z₁.within.but_mask;
            state_ends = omega (arith, z₁.within.state_ends, n_p);
            anew_fits = omega (arith, z₁.within.anew_fits, n_p, z);
          },
        )

    told_ended : Told (chunk_turn held count chunk)
    told_ended = go (dec_lt (count + k) (length held)) (flag (is_point p))
      where
        go : Dec (count + k < length held) → (is_point p ≡ true) ⊎ (is_point p ≡ false) → Told (chunk_turn held count chunk)
        go (yes m) (inl b) = told_good m b
        go (yes m) (inr b) = told_bad (no_point held count chunk g m b) b
        go (no m) b =
            let o : length held ≤ count + k = omega arith in
            told_bad (no_room held count chunk g o) (long_no p (omega (arith, length-append h (take k chunk), length_h, size_k)))

  told : Told (chunk_turn held count chunk)
  told = go (dec_lt k (length chunk))
    where
      go : Dec (k < length chunk) → Told (chunk_turn held count chunk)
      go (yes g) = told_ended g
      go (no g) = told_more (omega arith)

pub any_split : AnySplit
any_split held count chunk long in_room u n rest = told held count chunk long in_room u n rest
