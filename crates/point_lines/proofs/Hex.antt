-- Laws of numbers and bytes as digits: each from the other, both ways; and a run of a line's digits in two parts.
use Rattle.model.proofs.Prelude.{suc, zero, ℕ, ◌%◌, ◌*◌, ◌+◌, ◌/◌, ◌<◌, ◌^◌, append_assoc, append-nil, List, [], ◌++◌, ◌∷◌, ap, refl, sym, ◌∙◌, ◌≡◌, add-suc}
use Rattle.model.proofs.Prelude.{add-zero, pow-succ', suc-add, zero-add, arith, digits_div, digits_mod, drop, get_or, length, length-append, take, drop_at}
use Rattle.model.proofs.Prelude.{take_at, All, All_both}
use Rattle.point_lines.proofs.Prelude.{digit_of, number_of, Digits, number_none, number_snoc}
use Rattle.point_lines.specs.Line.{digits_at}
use Rattle.point_lines.specs.PointLine.{hex_of, digits_of, bytes_of_digits}

-- ---- a number

pub length_hex : (w v : ℕ) → length (hex_of w v) ≡ w
unfolding hex_of
length_hex zero v = refl
length_hex (suc w) v = omega (arith, length-append (hex_of w (v / 16)) (v % 16 ∷ []), length_hex w (v / 16))

pub hex_digits : (w v : ℕ) → Digits (hex_of w v)
unfolding hex_of All
hex_digits zero v = tt
hex_digits (suc w) v = All_both (λ (d : ℕ). d < 16) (hex_of w (v / 16)) (v % 16 ∷ []) (hex_digits w (v / 16)) (omega arith, tt)

pub number_hex : (w v : ℕ) → v < 16 ^ w → number_of 0 (hex_of w v) ≡ v
unfolding hex_of
number_hex zero v h = number_none 0 [] refl ∙ omega arith
number_hex (suc w) v h =
    let k : v / 16 < 16 ^ w = omega (arith, pow-succ' 16 w) in
    let r : number_of 0 (hex_of w (v / 16)) ≡ v / 16 = number_hex w (v / 16) k in
    number_snoc 0 (hex_of w (v / 16)) (v % 16) ∙ rw r (omega arith)

hex_snoc : (w h d : ℕ) → d < 16 → hex_of (suc w) (h * 16 + d) ≡ hex_of w h ++ (d ∷ [])
unfolding hex_of
hex_snoc w h d l = rw (digits_div h l, digits_mod h l)

hex_number_after : (ds : List ℕ) (w h : ℕ) → Digits ds → hex_of (w + length ds) (number_of h ds) ≡ hex_of w h ++ ds
unfolding number_of All
hex_number_after [] w h a = rw (add-zero w) (sym (append-nil (hex_of w h)))
hex_number_after (d ∷ ds) w h a =
    ap (λ (k : ℕ). hex_of k (number_of (h * 16 + d) ds)) (add-suc w (length ds) ∙ sym (suc-add w (length ds)))
    ∙ hex_number_after ds (suc w) (h * 16 + d) a.1
    ∙ ap (λ (k : List ℕ). k ++ ds) (hex_snoc w h d a.0)
    ∙ append_assoc (hex_of w h) (d ∷ []) ds

hex_none : (h : ℕ) → hex_of 0 h ≡ []
unfolding hex_of
hex_none h = refl

pub hex_number : (w : ℕ) (ds : List ℕ) → Digits ds → length ds ≡ w → hex_of w (number_of 0 ds) ≡ ds
hex_number w ds a e = ap (λ (k : ℕ). hex_of k (number_of 0 ds)) (sym e ∙ sym (zero-add (length ds))) ∙ hex_number_after ds 0 0 a ∙ ap (λ (k : List ℕ). k ++ ds) (hex_none 0)

-- ---- bytes

pub length_digits_law : (l : List ℕ) → length (digits_of l) ≡ 2 * length l
unfolding digits_of
length_digits_law [] = refl
length_digits_law (b ∷ l) = omega (arith, length_digits_law l)

pub digits_bytes : (k l : List ℕ) → digits_of (k ++ l) ≡ digits_of k ++ digits_of l
unfolding digits_of
digits_bytes [] l = refl
digits_bytes (b ∷ k) l = ap (λ (r : List ℕ). b / 16 ∷ b % 16 ∷ r) (digits_bytes k l)

pub bytes_digits : (l : List ℕ) → ((i : ℕ) → get_or l i 0 < 256) → Digits (digits_of l)
unfolding digits_of All
bytes_digits [] h = tt
bytes_digits (b ∷ l) h = let k : b < 256 = h 0 in (omega arith, (omega arith, bytes_digits l (λ i. h (suc i))))

pub bytes_of_digits_law : (l : List ℕ) → bytes_of_digits (digits_of l) ≡ l
unfolding bytes_of_digits digits_of
bytes_of_digits_law [] = refl
bytes_of_digits_law (b ∷ l) = let e : b / 16 * 16 + b % 16 ≡ b = omega arith in rw (e, bytes_of_digits_law l)

pub length_bytes : (n : ℕ) (ds : List ℕ) → length ds ≡ 2 * n → length (bytes_of_digits ds) ≡ n
unfolding bytes_of_digits
length_bytes zero [] e = refl
length_bytes zero (d ∷ ds) e = absurd (omega arith)
length_bytes (suc n) [] e = absurd (omega arith)
length_bytes (suc n) (d ∷ []) e = absurd (omega arith)
length_bytes (suc n) (d ∷ x ∷ ds) e = ap suc (length_bytes n ds (omega arith))

pub digits_of_bytes : (n : ℕ) (ds : List ℕ) → length ds ≡ 2 * n → Digits ds → digits_of (bytes_of_digits ds) ≡ ds
unfolding bytes_of_digits digits_of All
digits_of_bytes zero [] e a = refl
digits_of_bytes zero (d ∷ ds) e a = absurd (omega arith)
digits_of_bytes (suc n) [] e a = absurd (omega arith)
digits_of_bytes (suc n) (d ∷ []) e a = absurd (omega arith)
digits_of_bytes (suc n) (d ∷ x ∷ ds) e a = rw (digits_div d a.1.0, digits_mod d a.1.0, digits_of_bytes n ds (omega arith) a.1.1)

none_small : (i : ℕ) → get_or [] i 0 < 256
none_small i = omega arith

pub bytes_small : (ds : List ℕ) → Digits ds → (i : ℕ) → get_or (bytes_of_digits ds) i 0 < 256
unfolding bytes_of_digits All
bytes_small [] a i = none_small i
bytes_small (d ∷ []) a i = none_small i
bytes_small (d ∷ x ∷ ds) a zero = omega (arith, a.0, a.1.0)
bytes_small (d ∷ x ∷ ds) a (suc i) = bytes_small ds a.1.1 i

-- ---- a run of a line's digits

pub length_at : (l : List ℕ) (o n : ℕ) → length (digits_at l o n) ≡ n
unfolding digits_at
length_at l o zero = refl
length_at l o (suc n) = ap suc (length_at l (suc o) n)

pub digits_split : (l : List ℕ) (o n m : ℕ) → digits_at l o (n + m) ≡ digits_at l o n ++ digits_at l (o + n) m
unfolding digits_at
digits_split l o zero m =
    let e : o ≡ o + 0 = omega arith in
    ap (digits_at l o) (zero-add m) ∙ ap (λ (k : ℕ). digits_at l k m) e
digits_split l o (suc n) m =
    let e : suc o + n ≡ o + suc n = omega arith in
    ap (digits_at l o) (suc-add n m) ∙ ap (λ (k : List ℕ). digit_of (get_or l o 0) ∷ k) (digits_split l (suc o) n m ∙ ap (λ (k : ℕ). digits_at l (suc o) n ++ digits_at l k m) e)

-- ---- two lists in parts of one length

module _ (n : ℕ) (a x b y : List ℕ) (f : length a ≡ n) (g : length b ≡ n) (e : a ++ x ≡ b ++ y) where
  pub same_front : a ≡ b
  same_front = sym (take_at a x n f) ∙ ap (take n) e ∙ take_at b y n g

  pub same_rest : x ≡ y
  same_rest = sym (drop_at a x n f) ∙ ap (drop n) e ∙ drop_at b y n g
