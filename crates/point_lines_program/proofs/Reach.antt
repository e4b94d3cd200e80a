-- Laws of a text carried through: what is owed at a place, and what each turn leaves of it.
use Rattle.point_lines_program.proofs.Prelude.{suc, zero, ℕ, ◌+◌, ◌-◌, ◌<◌, ◌≤◌, ap, refl, subst, sym, ◌∙◌, ◌≡◌, arith, drop, length, length-drop, take}
use Rattle.point_lines_program.proofs.Prelude.{drop-drop, length-take-le, take-nil}
use mathlib.Core.Logic.{inl, inr}
use mathlib.Core.List.{List, [], ◌∷◌, ◌++◌, append_assoc, append-nil}
use native.Mathlib.Numerals.{add-one}
use borrow.Author.Tests.{lt-ltb, le-ltb}
use Rattle.text.specs.Text.{bad_text}
use Rattle.point_lines.specs.Line.{longest_line, widened, renewed_in}
use Rattle.point_lines.specs.Stream.{bad_in, printed, printed_from, chunk_turn, held_after, LineFits, Tells}
use Rattle.point_lines.specs.declared.stream.Turn.{Turn}
use Rattle.point_lines.specs.declared.stream.Turn.TheVariants.{More, Good, Bad}
use Rattle.text.specs.Pieces.{line_length}
use Rattle.point_lines.proofs.Held.{bad_here}
use Rattle.point_lines.proofs.Padded.{renewed_here, widens_here}
use Rattle.point_lines.proofs.Turns.{length_after}
use Rattle.point_lines.proofs.Splits.{any_split, line_by_line}
use Rattle.point_lines_program.specs.Chunk.{chunk_at, owed, at_start, Starts, Standing, Next, Over, Shows, Ends, Fed, Refills, read_by, Turns, Finished}
use Rattle.point_lines_program.specs.declared.Place.{Place}
use Rattle.std.specs.Prelude.{Result, Ok, Err, IfOk, MatchResult}
use Rattle.point_lines.specs.declared.line.Widths.{Widths}
use Rattle.point_lines_program.specs.declared.After.{After}
use Rattle.point_lines_program.specs.declared.After.TheVariants.{On, Last}

abbrev pub place : ℕ → ℕ → ℕ → ℕ → Place
place at end count number = record { at = at; end = end; count = count; number = number }

-- ---- the start

pub starts : Starts
unfolding owed
starts input held text = refl

pub standing_start : (input held : List ℕ) → longest_line < length held → Standing input held at_start
unfolding line_length
standing_start input held h = record { roomy = h; in_room = omega arith; unended = refl; in_order = omega arith; in_input = omega arith }

-- ---- what of the input buffer is not looked at yet

pub none_left : (input : List ℕ) (p : Place) → p.at ≡ p.end → chunk_at input p ≡ []
none_left input p e = let k : p.end - p.at ≡ 0 = omega arith in ap (λ (j : ℕ). take j (drop p.at input)) k

drop_take : (u m : ℕ) (l : List ℕ) → drop u (take m l) ≡ take (m - u) (drop u l)
drop_take zero m l = let e : m - 0 ≡ m = omega arith in rw e refl
drop_take (suc u) zero l = let e : 0 - suc u ≡ 0 = omega arith in rw e refl
drop_take (suc u) (suc m) [] = sym (take-nil (suc m - suc u))
drop_take (suc u) (suc m) (x ∷ l) = let e : suc m - suc u ≡ m - u = omega arith in rw e (drop_take u m l)

module _ (input held : List ℕ) (p : Place) (s : Standing input held p) where
  length_chunk : length (chunk_at input p) ≡ p.end - p.at
  length_chunk = length-take-le (p.end - p.at) (drop p.at input) (omega (arith, length-drop p.at input, s.in_input, s.in_order))

  -- once `used` bytes more are done with
  further : (used : ℕ) → drop used (chunk_at input p) ≡ chunk_at input (place (p.at + used) p.end 0 (p.number + 1))
  further used =
      let e : p.end - p.at - used ≡ p.end - (p.at + used) = omega arith in
      drop_take used (p.end - p.at) (drop p.at input)
      ∙ ap (take (p.end - p.at - used)) (drop-drop used p.at input)
      ∙ ap (λ (j : ℕ). take j (drop (p.at + used) input)) e

  -- ---- a turn within the input buffer

  module _ (t : Turn) (left : List ℕ) (f : t ≡ chunk_turn held p.count (chunk_at input p)) (g : left ≡ held_after held p.count (chunk_at input p)) where
    told : (u : Turn) → t ≡ u → (rest : List ℕ) → Tells p.number held p.count (chunk_at input p) left rest u
    told u h rest =
        subst (λ (l : List ℕ). Tells p.number held p.count (chunk_at input p) l rest u) (sym g)
        (subst (λ (v : Turn). Tells p.number held p.count (chunk_at input p) (held_after held p.count (chunk_at input p)) rest v) (sym f ∙ h)
        (any_split held p.count (chunk_at input p) s.roomy s.in_room s.unended p.number rest))

    size : length left ≡ length held
    size = ap length g ∙ length_after held p.count (chunk_at input p)

    pub shows_more : (more : ℕ) → t ≡ More more → Shows input held p left (On 0 (place p.end p.end more p.number))
    unfolding Shows Tells owed
    shows_more more h = record {
      text_is = λ rest.
          (told (More more) h rest).0
          ∙ ap (λ (l : List ℕ). printed_from p.number (take more left ++ (l ++ rest))) (sym (none_left input (place p.end p.end more p.number) refl));
      within = omega arith;
      stands = record {
        roomy = omega (arith, size, s.roomy);
        in_room = (told (More more) h []).1;
        unended = (told (More more) h []).2;
        in_order = omega arith;
        in_input = s.in_input;
      };
      number_is = omega arith;
    }

    module _ (used shown : ℕ) (f' : Widths) (h : t ≡ Good used shown f') where
      pub used_within : p.at + used ≤ p.end
      unfolding Tells
      used_within =
          let m : 0 < used = (told (Good used shown f') h []).2 in
          let k : used ≤ length (chunk_at input p) = (told (Good used shown f') h []).3 in
          omega (arith, length_chunk, s.in_order)

      pub shows_good : (final : List ℕ) (text : ℕ) → length final ≡ length left → take text final ≡ renewed_in left shown f'.lengths f'.state → text ≤ length left
          → Shows input held p final (On text (place (p.at + used) p.end 0 (p.number + 1)))
      unfolding Shows Tells owed line_length
      shows_good final text n e k =
          let x : LineFits f'.lengths f'.state shown (length left) = (told (Good used shown f') h []).4 in
          let anew : widened f'.lengths f'.state (take shown left) ≡ take text final = sym (e ∙ renewed_here left shown f'.lengths f'.state (widens_here (length left) shown f'.lengths f'.state x.few_lengths x.few_state x.state_ends x.anew_fits)) in
          record {
            text_is = λ rest.
                (told (Good used shown f') h rest).0
                ∙ ap (λ (l : List ℕ). l ++ printed_from (suc p.number) (drop used (chunk_at input p) ++ rest)) anew
                ∙ ap (λ (l : List ℕ). take text final ++ printed_from (suc p.number) (l ++ rest)) (further used)
                ∙ ap (λ (j : ℕ). take text final ++ printed_from j (chunk_at input (place (p.at + used) p.end 0 (p.number + 1)) ++ rest)) (sym (add-one p.number));
            within = omega arith;
            stands = record {
              roomy = omega (arith, size, s.roomy);
              in_room = omega arith;
              unended = refl;
              in_order = used_within;
              in_input = s.in_input;
            };
            number_is = omega arith;
          }

    pub shows_bad : t ≡ Bad → (final : List ℕ) (text : ℕ) → length final ≡ length left → take text final ≡ bad_in (length left) p.number → text ≤ length left
        → Shows input held p final (Last text p)
    unfolding Shows Tells owed Over
    shows_bad h final text n e k =
        let room : 27 ≤ length left = omega (arith, size, s.roomy) in
        let said : bad_text p.number ≡ take text final = bad_here (length left) p.number room ∙ sym e in
        (λ rest. told Bad h rest ∙ said, record { text_is = told Bad h [] ∙ said; within = omega arith; over = inr (sym said); place_is = refl })

-- ---- where the input has ended

-- nothing is owed but what is printed of what is held
owed_end : (input held : List ℕ) (p : Place) → p.at ≡ p.end → owed input held p [] ≡ printed_from p.number (take p.count held)
unfolding owed
owed_end input held p e =
    ap (λ (l : List ℕ). printed_from p.number (take p.count held ++ (l ++ []))) (none_left input p e)
    ∙ ap (printed_from p.number) (append-nil (take p.count held))

module _ (held : List ℕ) (p : Place) (a : p.at ≡ p.end) where
  pub ends_well : p.count ≡ 0 → Ends held p held 0
  unfolding Ends Over
  ends_well e = λ input s. record {
    text_is = owed_end input held p a ∙ ap (λ (k : ℕ). printed_from p.number (take k held)) e ∙ line_by_line.ended p.number;
    within = omega arith;
    over = inl (a, e, refl);
    place_is = refl;
  }

  pub ends_bad : (p.count ≡ 0 → ⊥) → longest_line < length held → (left : List ℕ) (text : ℕ) → length left ≡ length held
      → take text left ≡ bad_in (length held) p.number → text ≤ length held → Ends held p left text
  unfolding Ends Over
  ends_bad f l left text n e k =
      let room : 27 ≤ length held = omega arith in
      let said : bad_text p.number ≡ take text left = bad_here (length held) p.number room ∙ sym e in
      λ input s. record {
        text_is = owed_end input held p a
            ∙ line_by_line.unended p.number (take p.count held) s.unended (omega (arith, length-take-le p.count held s.in_room)) ∙ said;
        within = omega arith;
        over = inr (sym said);
        place_is = refl;
      }

-- ---- a read

-- where nothing is left of it, the buffer does not matter
owed_any : (input after held : List ℕ) (p : Place) → p.at ≡ p.end → (rest : List ℕ) → owed input held p rest ≡ owed after held p rest
unfolding owed
owed_any input after held p e rest =
    ap (λ (l : List ℕ). printed_from p.number (take p.count held ++ (l ++ rest))) (none_left input p e ∙ sym (none_left after p e))

module _ (k : ℕ) (input held : List ℕ) (p : Place) (s : Standing input held p) (e : p.at ≡ p.end) where
  pub fed_on : k ≤ length input → Fed k input held p held (On 0 (place 0 k p.count p.number))
  unfolding Fed owed
  fed_on h = (
    record {
      text_is = λ rest. ap (λ (l : List ℕ). printed_from p.number (take p.count held ++ (l ++ (chunk_at input (place 0 k p.count p.number) ++ rest)))) (none_left input p e);
      within = omega arith;
      stands = record { roomy = s.roomy; in_room = s.in_room; unended = s.unended; in_order = omega arith; in_input = h };
      number_is = omega arith;
    },
    refl,
    refl,
  )

  pub fed_end : k ≡ 0 → (left : List ℕ) (text : ℕ) → Ends held p left text → Fed k input held p left (Last text p)
  unfolding Fed Ends
  fed_end f left text x = (x input s, f)

module _ (k : ℕ) (input held : List ℕ) (p : Place) (e : p.at ≡ p.end) (after : List ℕ) where
  pub refills : (left : List ℕ) (r : After) → Fed k after held p left r → Refills input held p after left r
  unfolding Fed Refills
  refills left (On text q) x = record {
    text_is = λ rest. owed_any input after held p e (chunk_at after q ++ rest) ∙ x.0.text_is rest;
    within = x.0.within;
    stands = x.0.stands;
    number_is = x.0.number_is;
  }
  refills left (Last text q) x = record {
    text_is = owed_any input after held p e [] ∙ x.0.text_is;
    within = x.0.within;
    over = x.0.over;
    place_is = x.0.place_is;
  }

-- ---- a turn

module _ (input held : List ℕ) (p : Place) where
  pub turns_shown : p.at < p.end → (left : List ℕ) (r : After) → Shows input held p left r → Turns input held p input left r
  unfolding Shows Turns
  turns_shown h left (On text q) x = rw (lt-ltb p.at p.end h) x
  turns_shown h left (Last text q) x = x.1

  pub turns_read : p.end ≤ p.at → (after left : List ℕ) (r : After) → Refills input held p after left r → Turns input held p after left r
  unfolding Refills Turns
  turns_read h after left (On text q) x = rw (le-ltb p.at p.end h) x
  turns_read h after left (Last text q) x = x

-- of a call that may fail
pub turns_read_ok : {E : Type 0} (input held : List ℕ) (p : Place) → p.end ≤ p.at → (after left : List ℕ) (r : Result After E)
    → IfOk r (Refills input held p after left) → IfOk r (Turns input held p after left)
turns_read_ok input held p h after left (Ok a) x = turns_read input held p h after left a x
turns_read_ok input held p h after left (Err e) x = tt

-- what holds where a call has not failed, once its error has another type
pub through : {E : Type 0} (D : Type 0) (P : After → Type 0) (r : Result After E) (a : After) → MatchResult r (λ (x : After). ◌≡◌ {A = Result After D} (Ok a) (Ok x)) (λ (e : E). ⊥) → IfOk r P → P a
through D P (Ok x) a h p = let q : x ≡ a = cc in rw q at p
through D P (Err e) a h p = absurd h

-- ---- all of them

-- once `shown` is handed over of what is printed of the text that was read, the rest of it is owed
pub record Reached (input held : List ℕ) (p : Place) : Type 0 where
  pub read : List ℕ
  pub shown : List ℕ
  pub text_is : (rest : List ℕ) → printed (read ++ rest) ≡ shown ++ owed input held p rest

pub reached_start : (input held : List ℕ) → Reached input held at_start
reached_start input held = record { read = []; shown = []; text_is = λ rest. sym (starts input held rest) }

module _ (input held : List ℕ) (p : Place) (m : Reached input held p) (after left : List ℕ) where
  pub turned : (r : After) (text : ℕ) (q : Place) → Turns input held p after left r → r ≡ On text q → Next input held p (read_by p after q) after left text q
  unfolding Turns
  turned r text q x e = subst (λ (y : After). Turns input held p after left y) e x

  pub reached_on : (text : ℕ) (q : Place) → Next input held p (read_by p after q) after left text q → Reached after left q
  reached_on text q x = record {
    read = m.read ++ read_by p after q;
    shown = m.shown ++ take text left;
    text_is = λ rest.
        ap printed (append_assoc m.read (read_by p after q) rest)
        ∙ m.text_is (read_by p after q ++ rest)
        ∙ ap (λ (l : List ℕ). m.shown ++ l) (x.text_is rest)
        ∙ sym (append_assoc m.shown (take text left) (owed after left q rest));
  }

  pub finishes_last : (r : After) (text : ℕ) (q : Place) → Turns input held p after left r → r ≡ Last text q → Finished left text q
  unfolding Turns
  finishes_last r text q x e =
      let y = subst (λ (z : After). Turns input held p after left z) e x in
      record {
        read = m.read;
        before = m.shown;
        text_is = ap printed (sym (append-nil m.read)) ∙ m.text_is [] ∙ ap (λ (l : List ℕ). m.shown ++ l) y.text_is;
        within = y.within;
        over = y.over;
      }
