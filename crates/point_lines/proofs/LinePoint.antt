-- A line, whose lengths have w digits each and whose image has n bytes, is the line of its point: the digits at its form's marks are those of its point,
-- part by part.
use Rattle.model.proofs.Prelude.{ℕ, ◌*◌, ◌+◌, ◌<◌, ◌≤◌, true, List, [], ◌++◌, ◌∷◌, ap, sym, ◌∙◌, ◌≡◌, arith, leb, length, leb-true, full, image_length, octas_in}
use Rattle.model.proofs.Prelude.{OfBytes, Point, point_count, PointFits, All, and_left, and_right, All_left, All_right, length_part}
use Rattle.point_lines.proofs.Prelude.{number_of, Digits, number_below}
use Rattle.point_lines.specs.Line.{fits, point_form, digits_at, hex_at, octas_a, octas_b, is_form, octas_max, state_at}
use Rattle.point_lines.specs.PointLine.{hex_of, digits_of, in_form, point_digits, bytes_of_digits, name_at, base_a_at, base_b_at, windows_at, name_of, point_by}
use Rattle.point_lines.proofs.Marks.{digits_in, line_again, digits_small}
use Rattle.point_lines.proofs.LineMarks.{form_digits}
use Rattle.point_lines.proofs.Hex.{hex_number, length_bytes, digits_of_bytes, bytes_small, length_at, digits_split}

abbrev pub form : ℕ → ℕ → ℕ → List ℕ
form w n m = point_form w (2 * n) m

-- the line of a point in that form
abbrev pub line_by : ℕ → ℕ → ℕ → Point → List ℕ
line_by w n name p = in_form (form w n (octas_in p.a + octas_in p.b)) (point_digits w name p)

-- what is read
pub record ReadBy (w n k : ℕ) (l : List ℕ) (p : Point) : Type 0 where
  pub line_is : line_by w n (name_of l) p ≡ l
  pub name_small : name_of l < point_count
  pub image_long : length p.image ≡ n
  pub few_a : octas_in p.a ≤ k
  pub few_b : octas_in p.b ≤ k
  pub point_fits : PointFits (full p)
  pub of_bytes : OfBytes p

-- ---- a line

module _ (w n : ℕ) (l : List ℕ) where
  abbrev octas : ℕ
  octas = octas_a w l + octas_b w l

  -- its digits, part by part, the last part being both windows
  abbrev pub d_name : List ℕ
  d_name = digits_at l name_at 1

  abbrev pub d_octas_a : List ℕ
  d_octas_a = digits_at l 23 w

  abbrev pub d_octas_b : List ℕ
  d_octas_b = digits_at l (24 + w) w

  abbrev pub d_base_a : List ℕ
  d_base_a = digits_at l (base_a_at w) 16

  abbrev pub d_base_b : List ℕ
  d_base_b = digits_at l (base_b_at w) 16

  abbrev pub d_state : List ℕ
  d_state = digits_at l (state_at w) (2 * n)

  abbrev pub d_windows : ℕ → List ℕ
  d_windows m = digits_at l (windows_at w (2 * n)) (16 * m)

  abbrev pub d_a : ℕ → List ℕ
  d_a a = digits_at l (windows_at w (2 * n)) (16 * a)

  abbrev pub d_b : ℕ → ℕ → List ℕ
  d_b a b = digits_at l (windows_at w (2 * n) + 16 * a) (16 * b)

  pub line_digits : (m : ℕ) → digits_in (form w n m) l ≡ d_name ++ (d_octas_a ++ (d_octas_b ++ (d_base_a ++ (d_base_b ++ (d_state ++ d_windows m)))))
  line_digits m = form_digits w (2 * n) m l

  pub windows_digits : (a b : ℕ) → d_windows (a + b) ≡ d_a a ++ d_b a b
  windows_digits a b =
      let e : 16 * (a + b) ≡ 16 * a + 16 * b = omega arith in
      ap (digits_at l (windows_at w (2 * n))) e ∙ digits_split l (windows_at w (2 * n)) (16 * a) (16 * b)

  module _ (k : ℕ) (good : is_form w (2 * n) k l ≡ true) where
    record Judged : Type 0 where
      small_a : octas_a w l ≤ k
      small_b : octas_b w l ≤ k
      of_form : fits (form w n octas) l ≡ true

    judged : Judged
    unfolding is_form
    judged =
        let r = and_right (leb (octas_a w l) k) _ good in
        record {
          small_a = leb-true _ _ (and_left (leb (octas_a w l) k) _ good);
          small_b = leb-true _ _ (and_left (leb (octas_b w l) k) _ r);
          of_form = and_right (leb (octas_b w l) k) _ r;
        }

    abbrev a : ℕ
    a = octas_a w l

    abbrev b : ℕ
    b = octas_b w l

    -- all of them are digits
    record Small : Type 0 where
      s_name : Digits d_name
      s_octas_a : Digits d_octas_a
      s_octas_b : Digits d_octas_b
      s_base_a : Digits d_base_a
      s_base_b : Digits d_base_b
      s_state : Digits d_state
      s_a : Digits (d_a a)
      s_b : Digits (d_b a b)

    small : Small
    small =
        let P : ℕ → Type 0 = λ (d : ℕ). d < 16 in
        let t₀ : Digits (d_name ++ (d_octas_a ++ (d_octas_b ++ (d_base_a ++ (d_base_b ++ (d_state ++ d_windows octas)))))) = rw (line_digits octas) at (digits_small (form w n octas) l judged.of_form) in
        let t₁ = All_right P d_name (d_octas_a ++ (d_octas_b ++ (d_base_a ++ (d_base_b ++ (d_state ++ d_windows octas))))) t₀ in
        let t₂ = All_right P d_octas_a (d_octas_b ++ (d_base_a ++ (d_base_b ++ (d_state ++ d_windows octas)))) t₁ in
        let t₃ = All_right P d_octas_b (d_base_a ++ (d_base_b ++ (d_state ++ d_windows octas))) t₂ in
        let t₄ = All_right P d_base_a (d_base_b ++ (d_state ++ d_windows octas)) t₃ in
        let t₅ = All_right P d_base_b (d_state ++ d_windows octas) t₄ in
        let t₆ : Digits (d_a a ++ d_b a b) = rw (windows_digits a b) at (All_right P d_state (d_windows octas) t₅) in
        record {
          s_name = All_left P d_name _ t₀;
          s_octas_a = All_left P d_octas_a _ t₁;
          s_octas_b = All_left P d_octas_b _ t₂;
          s_base_a = All_left P d_base_a _ t₃;
          s_base_b = All_left P d_base_b _ t₄;
          s_state = All_left P d_state _ t₅;
          s_a = All_left P (d_a a) (d_b a b) t₆;
          s_b = All_right P (d_a a) (d_b a b) t₆;
        }

    size_a : length (bytes_of_digits (d_a a)) ≡ 8 * a
    size_a = length_bytes (8 * a) (d_a a) (length_at l (windows_at w (2 * n)) (16 * a) ∙ omega arith)

    size_b : length (bytes_of_digits (d_b a b)) ≡ 8 * b
    size_b = length_bytes (8 * b) (d_b a b) (length_at l (windows_at w (2 * n) + 16 * a) (16 * b) ∙ omega arith)

    octas_a' : octas_in (bytes_of_digits (d_a a)) ≡ a
    octas_a' = omega (arith, size_a)

    octas_b' : octas_in (bytes_of_digits (d_b a b)) ≡ b
    octas_b' = omega (arith, size_b)

    spelt_a : hex_of w a ≡ d_octas_a
    unfolding octas_a hex_at
    spelt_a = hex_number w d_octas_a small.s_octas_a (length_at l 23 w)

    spelt_b : hex_of w b ≡ d_octas_b
    unfolding octas_b hex_at
    spelt_b = hex_number w d_octas_b small.s_octas_b (length_at l (24 + w) w)

    spelt_name : hex_of 1 (name_of l) ≡ d_name
    unfolding name_of hex_at
    spelt_name = hex_number 1 d_name small.s_name (length_at l name_at 1)

    spelt_base_a : hex_of 16 (hex_at l (base_a_at w) 16) ≡ d_base_a
    unfolding hex_at
    spelt_base_a = hex_number 16 d_base_a small.s_base_a (length_at l (base_a_at w) 16)

    spelt_base_b : hex_of 16 (hex_at l (base_b_at w) 16) ≡ d_base_b
    unfolding hex_at
    spelt_base_b = hex_number 16 d_base_b small.s_base_b (length_at l (base_b_at w) 16)

    spelt_state : digits_of (bytes_of_digits d_state) ≡ d_state
    spelt_state = digits_of_bytes n d_state (length_at l (state_at w) (2 * n)) small.s_state

    spelt_windows : digits_of (bytes_of_digits (d_a a)) ++ digits_of (bytes_of_digits (d_b a b)) ≡ d_windows octas
    spelt_windows =
        ap (λ (k : List ℕ). k ++ digits_of (bytes_of_digits (d_b a b))) (digits_of_bytes (8 * a) (d_a a) (length_at l (windows_at w (2 * n)) (16 * a) ∙ omega arith) small.s_a)
        ∙ ap (λ (k : List ℕ). d_a a ++ k) (digits_of_bytes (8 * b) (d_b a b) (length_at l (windows_at w (2 * n) + 16 * a) (16 * b) ∙ omega arith) small.s_b)
        ∙ sym (windows_digits a b)

    -- the digits of its point are its own
    own_digits : point_digits w (name_of l) (point_by w (2 * n) l) ≡ digits_in (form w n octas) l
    unfolding point_digits point_by
    own_digits = rw (octas_a', octas_b', spelt_name, spelt_a, spelt_b, spelt_base_a, spelt_base_b, spelt_state, spelt_windows) (sym (line_digits octas))

    own_line : line_by w n (name_of l) (point_by w (2 * n) l) ≡ l
    unfolding point_by
    own_line =
        ap (λ (m : ℕ). in_form (form w n m) (point_digits w (name_of l) (point_by w (2 * n) l))) (ap (λ (k : ℕ). k + octas_in (bytes_of_digits (d_b a b))) octas_a' ∙ ap (λ (k : ℕ). a + k) octas_b')
        ∙ ap (in_form (form w n octas)) own_digits
        ∙ line_again (form w n octas) l judged.of_form

    one_digit : (ds : List ℕ) → Digits ds → length ds ≡ 1 → number_of 0 ds < 16
    unfolding number_of All
    one_digit [] s e = absurd (omega arith)
    one_digit (d ∷ []) s e = omega (arith, s.0)
    one_digit (d ∷ x ∷ ds) s e = absurd (omega arith)

    pub read_by : k ≤ octas_max → ReadBy w n k l (point_by w (2 * n) l)
    unfolding name_of point_by hex_at
    read_by few = record {
      line_is = own_line;
      name_small = one_digit d_name small.s_name (length_at l name_at 1);
      image_long = length_bytes n d_state (length_at l (state_at w) (2 * n));
      few_a = omega (arith, octas_a', judged.small_a);
      few_b = omega (arith, octas_b', judged.small_b);
      point_fits = record {
        image_long = length_part (bytes_of_digits d_state) 0 image_length;
        base_a' = number_below d_base_a small.s_base_a (omega (arith, length_at l (base_a_at w) 16));
        base_b' = number_below d_base_b small.s_base_b (omega (arith, length_at l (base_b_at w) 16));
        long_a = omega (arith, size_a, judged.small_a);
        long_b = omega (arith, size_b, judged.small_b);
        whole_a = omega (arith, size_a);
        whole_b = omega (arith, size_b);
      };
      of_bytes = record {
        image_bytes = bytes_small d_state small.s_state;
        a_bytes = bytes_small (d_a a) small.s_a;
        b_bytes = bytes_small (d_b a b) small.s_b;
      };
    }
