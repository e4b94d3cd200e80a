-- Laws of a line held against a pattern byte by byte, as `line.rt` does it.
use Rattle.model.proofs.Prelude.{ℕ, ◌+◌, ◌<◌, ◌≤◌, false, true, List, [], ◌++◌, ◌∷◌, ap, refl, sym, ◌∙◌, ◌≡◌, add-one, arith, drop}
use Rattle.model.proofs.Prelude.{get_or, length, length-set, set, take, take_all, append_snoc, append-nil, drop-cons, drop_of_length-le, take-suc-set, ne_eqb}
use Rattle.script.proofs.Prelude.{None, Option, Some, number_of, hex_mark}
use Rattle.script.specs.Line.{digits_at, is_number, before, matched}
use Rattle.script.specs.Reading.{marks}
use Rattle.script.proofs.Matching.{marks_mark, marks_byte, matched_byte}

-- numbers in front of those that are still to come
abbrev pub after : List ℕ → Option (List ℕ) → Option (List ℕ)
after vs None = None
after vs (Some ws) = Some (vs ++ ws)

after_nil : (o : Option (List ℕ)) → after [] o ≡ o
after_nil None = refl
after_nil (Some ws) = refl

after_snoc : (vs : List ℕ) (v : ℕ) (o : Option (List ℕ)) → after (vs ++ (v ∷ [])) o ≡ after vs (before v o)
after_snoc vs v None = refl
after_snoc vs v (Some ws) = ap (λ (l : List ℕ). Some l) (append_snoc vs v ws)

-- after i bytes of the pattern p, which asks for n numbers: those so far are the first `count` of `values`, and `rest` is left of the line l
pub record Along (n : ℕ) (p l : List ℕ) (i count : ℕ) (values rest : List ℕ) : Type 0 where
  pub numbers : after (take count values) (matched (drop i p) rest) ≡ matched p l
  pub room : count + marks (drop i p) ≡ n
  pub size : length values ≡ n

pub along_start : (n : ℕ) (p l vs : List ℕ) → marks p ≡ n → length vs ≡ n → Along n p l 0 0 vs l
along_start n p l vs h e = record { numbers = after_nil (matched p l); room = omega arith; size = e }

module _ (n : ℕ) (p l : List ℕ) (i count : ℕ) (values rest : List ℕ) (h : i < length p) (a : Along n p l i count values rest) where
  next : drop i p ≡ get_or p i 0 ∷ drop (i + 1) p
  next = rw (add-one, drop-cons p i 0)

  none_left : matched (get_or p i 0 ∷ drop (i + 1) p) rest ≡ None → matched p l ≡ None
  none_left e = sym a.numbers ∙ rw (next, e)

  -- a number
  module _ (m : get_or p i 0 ≡ hex_mark) where
    pub mark_room : count < n
    mark_room = omega (arith, a.room, ap marks next, marks_mark _ (drop (i + 1) p) m)

    pub along_number : (v : ℕ) (t : List ℕ) → is_number (digits_at rest) ≡ true → v ≡ number_of 0 (digits_at rest) → t ≡ drop (length (digits_at rest)) rest
        → Along n p l (i + 1) (count + 1) (set values count v) t
    unfolding matched
    along_number v t g e f =
        let whole : matched (drop i p) rest ≡ before (number_of 0 (digits_at rest)) (matched (drop (i + 1) p) (drop (length (digits_at rest)) rest)) = rw (next, m, g) in record {
          numbers = rw (add-one count, take-suc-set values count v (omega (arith, a.size, mark_room)), after_snoc, e, f) (ap (after (take count values)) (sym whole) ∙ a.numbers);
          room = omega (arith, a.room, ap marks next, marks_mark _ (drop (i + 1) p) m);
          size = omega (arith, a.size, length-set values count v);
        }

    pub number_none : is_number (digits_at rest) ≡ false → matched p l ≡ None
    unfolding matched
    number_none g = none_left (rw (m, g))

  -- a byte that stands for itself
  module _ (m : get_or p i 0 ≡ hex_mark → ⊥) where
    pub along_byte : (b : ℕ) (t : List ℕ) → rest ≡ b ∷ t → b ≡ get_or p i 0 → Along n p l (i + 1) count values t
    along_byte b t e f = record {
      numbers = ap (after (take count values)) (sym (rw (next, e, f) (matched_byte (get_or p i 0) (drop (i + 1) p) t m))) ∙ a.numbers;
      room = omega (arith, a.room, ap marks next, marks_byte _ (drop (i + 1) p) m);
      size = a.size;
    }

    pub byte_other : (b : ℕ) (t : List ℕ) → rest ≡ b ∷ t → (b ≡ get_or p i 0 → ⊥) → matched p l ≡ None
    unfolding matched
    byte_other b t e f = none_left (rw (ne_eqb _ hex_mark m, e, ne_eqb b _ f))

    pub byte_missing : length rest ≡ 0 → matched p l ≡ None
    unfolding matched
    byte_missing e = let f : rest ≡ [] = drop_of_length-le rest {i = 0} (omega arith) in none_left (rw (ne_eqb _ hex_mark m, f))

-- the pattern's end
module _ (n : ℕ) (p l : List ℕ) (i count : ℕ) (values rest : List ℕ) (h : length p ≤ i) (a : Along n p l i count values rest) where
  pub end_met : length rest ≡ 0 → matched p l ≡ Some values
  unfolding matched marks
  end_met e =
      let f : count ≡ length values = omega (arith, a.size, rw (drop_of_length-le p h) at a.room) in
      let g : rest ≡ [] = drop_of_length-le rest {i = 0} (omega arith) in
      sym a.numbers ∙ rw (drop_of_length-le p h, g, append-nil, take_all count values (omega arith))

  pub end_missing : (length rest ≡ 0 → ⊥) → matched p l ≡ None
  unfolding matched
  end_missing e = go rest e a.numbers
    where
      go : (r : List ℕ) → (length r ≡ 0 → ⊥) → after (take count values) (matched (drop i p) r) ≡ matched p l → matched p l ≡ None
      go [] e n = absurd (e refl)
      go (b ∷ r) e n = sym n ∙ rw (drop_of_length-le p h)
