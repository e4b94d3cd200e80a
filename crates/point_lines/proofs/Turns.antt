-- Laws of a turn: when the line that is held ends well, and what `advance` answers and leaves by its tests.
use Rattle.model.proofs.Prelude.{min, ℕ, ◌+◌, ◌-◌, ◌<◌, ◌≤◌, false, true, List, [], ◌∷◌, ap, sym, ◌∙◌, ◌≡◌, dec_lt, add-zero, arith, get_or, length, set, take}
use Rattle.model.proofs.Prelude.{length-take-le, eq-eqb, le-ltb, lt-ltb, ne_eqb, written, length_written}
use Rattle.point_lines.proofs.Prelude.{line_length, length_line, newline_there, written_one}
use Rattle.point_lines.specs.Line.{is_point, widths_of}
use Rattle.point_lines.specs.Stream.{newline, line_so_far, is_good, is_open, good_turn, chunk_turn, held_after}
use Rattle.point_lines.specs.declared.line.Widths.{Widths}
use Rattle.point_lines.specs.declared.stream.Turn.{Turn}
use Rattle.point_lines.specs.declared.stream.Turn.TheVariants.{More, Bad}
use Rattle.point_lines.proofs.Held.{written_next, take_written}

module _ (held : List ℕ) (count : ℕ) (chunk : List ℕ) where
  -- ---- whether the line ends well

  abbrev pub line : List ℕ
  line = line_so_far held count chunk

  pub good_here : line_length chunk < length chunk → count + line_length chunk < length held → is_point line ≡ true → is_good held count chunk ≡ true
  unfolding is_good
  good_here g h e = rw (lt-ltb (line_length chunk) (length chunk) g, lt-ltb (count + line_length chunk) (length held) h, e)

  pub not_ended : length chunk ≤ line_length chunk → is_good held count chunk ≡ false
  unfolding is_good
  not_ended g = rw (le-ltb (line_length chunk) (length chunk) g)

  pub no_room : line_length chunk < length chunk → length held ≤ count + line_length chunk → is_good held count chunk ≡ false
  unfolding is_good
  no_room g h = rw (lt-ltb (line_length chunk) (length chunk) g, le-ltb (count + line_length chunk) (length held) h)

  pub no_point : line_length chunk < length chunk → count + line_length chunk < length held → is_point line ≡ false → is_good held count chunk ≡ false
  unfolding is_good
  no_point g h e = rw (lt-ltb (line_length chunk) (length chunk) g, lt-ltb (count + line_length chunk) (length held) h, e)

  -- ---- what is answered and left

  pub is_more : length chunk ≤ line_length chunk → count + length chunk < length held → chunk_turn held count chunk ≡ More (count + length chunk)
  unfolding chunk_turn is_open
  is_more g h = rw (not_ended g, eq-eqb (line_length chunk) (length chunk) (omega (arith, length_line chunk)), lt-ltb (count + length chunk) (length held) h)

  pub is_full : length chunk ≤ line_length chunk → length held ≤ count + length chunk → chunk_turn held count chunk ≡ Bad
  unfolding chunk_turn is_open
  is_full g h = rw (not_ended g, eq-eqb (line_length chunk) (length chunk) (omega (arith, length_line chunk)), le-ltb (count + length chunk) (length held) h)

  pub is_good' : is_good held count chunk ≡ true → chunk_turn held count chunk ≡ good_turn (line_length chunk + 1) (count + line_length chunk + 1) (widths_of line)
  unfolding chunk_turn
  is_good' e = rw e

  pub is_bad : line_length chunk < length chunk → is_good held count chunk ≡ false → chunk_turn held count chunk ≡ Bad
  unfolding chunk_turn is_open
  is_bad g e = rw (e, ne_eqb (line_length chunk) (length chunk) (λ h. absurd (omega arith)))

  pub left_good : is_good held count chunk ≡ true → held_after held count chunk ≡ written held count (take (line_length chunk + 1) chunk)
  unfolding held_after
  left_good e = rw e

  pub left_other : is_good held count chunk ≡ false → held_after held count chunk ≡ written held count (take (line_length chunk) chunk)
  unfolding held_after
  left_other e = rw (e, add-zero (line_length chunk))

  pub length_after : length (held_after held count chunk) ≡ length held
  unfolding held_after
  length_after = length_written held count _

-- ---- by the tests of `advance`

module _ (held : List ℕ) (count : ℕ) (chunk left : List ℕ) (end next : ℕ) (e : end ≡ line_length chunk) (f : left ≡ written held count (take end chunk))
    (g : next ≡ count + min (length (take end chunk)) (length held - count)) where
  size : length (take end chunk) ≡ end
  size = length-take-le end chunk (omega (arith, length_line chunk))

  room : length left ≡ length held
  room = ap length f ∙ length_written held count (take end chunk)

  left_is : left ≡ written held count (take (line_length chunk) chunk)
  left_is = f ∙ ap (λ (k : ℕ). written held count (take k chunk)) e

  abbrev Answered : Turn → List ℕ → Type 0
  Answered t l = (t ≡ chunk_turn held count chunk) × (l ≡ held_after held count chunk)

  pub turn_full : length left ≤ next → Answered Bad left
  turn_full m = go (dec_lt (line_length chunk) (length chunk))
    where
      go : Dec (line_length chunk < length chunk) → Answered Bad left
      go (yes q) =
          let w : is_good held count chunk ≡ false = no_room held count chunk q (omega (arith, size, room)) in
          (sym (is_bad held count chunk q w), left_is ∙ sym (left_other held count chunk w))
      go (no p) =
          let q : length chunk ≤ line_length chunk = omega arith in
          let o : length held ≤ count + length chunk = omega (arith, size, room, length_line chunk) in
          (sym (is_full held count chunk q o), left_is ∙ sym (left_other held count chunk (not_ended held count chunk q)))

  module _ (m : next < length left) where
    next_is : next ≡ count + line_length chunk
    next_is = omega (arith, size, room)

    fits : count + line_length chunk < length held
    fits = omega (arith, next_is, room)

    pub turn_more : end ≡ length chunk → Answered (More next) left
    turn_more h =
        let n : next ≡ count + length chunk = omega (arith, next_is) in
        let q : length chunk ≤ line_length chunk = omega arith in
        let o : count + length chunk < length held = omega (arith, fits) in
        (ap More n ∙ sym (is_more held count chunk q o), left_is ∙ sym (left_other held count chunk (not_ended held count chunk q)))

    module _ (h : end ≡ length chunk → ⊥) where
      ends : line_length chunk < length chunk
      ends = let n : line_length chunk ≡ length chunk → ⊥ = λ q. h (e ∙ q) in omega (arith, length_line chunk)

      line_is : take next left ≡ line held count chunk
      line_is =
          let n : length (take (line_length chunk) chunk) ≡ line_length chunk = length-take-le (line_length chunk) chunk (length_line chunk) in
          let q : next ≡ count + length (take (line_length chunk) chunk) = omega (arith, next_is) in
          ap (λ (k : ℕ). take k left) q ∙ ap (take (count + length (take (line_length chunk) chunk))) left_is
          ∙ take_written held count (take (line_length chunk) chunk) (omega (arith, fits))

      pub turn_good : (x : Widths) → x ≡ widths_of (take next left) → is_point (take next left) ≡ true → Answered (good_turn (end + 1) (next + 1) x) (set left next newline)
      turn_good x n p =
          let w : is_good held count chunk ≡ true = good_here held count chunk ends fits (sym (ap is_point line_is) ∙ p) in
          let q : x ≡ widths_of (line held count chunk) = n ∙ ap widths_of line_is in (
            ap (λ (k : ℕ). good_turn (k + 1) (next + 1) x) e ∙ ap (λ (k : ℕ). good_turn (line_length chunk + 1) (k + 1) x) next_is
                ∙ ap (good_turn (line_length chunk + 1) (count + line_length chunk + 1)) q ∙ sym (is_good' held count chunk w),
            joined ∙ sym (left_good held count chunk w),
          )
        where
          joined : set left next newline ≡ written held count (take (line_length chunk + 1) chunk)
          joined =
              ap (set left next) (sym (newline_there chunk ends)) ∙ ap (λ (k : ℕ). set left k (get_or chunk (line_length chunk) 0)) next_is
              ∙ sym (written_one left (count + line_length chunk) (get_or chunk (line_length chunk) 0))
              ∙ ap (λ (l : List ℕ). written l (count + line_length chunk) (get_or chunk (line_length chunk) 0 ∷ [])) left_is
              ∙ written_next held chunk count (line_length chunk) ends

      pub turn_bad : is_point (take next left) ≡ false → Answered Bad left
      turn_bad p =
          let w : is_good held count chunk ≡ false = no_point held count chunk ends fits (sym (ap is_point line_is) ∙ p) in
          (sym (is_bad held count chunk ends w), left_is ∙ sym (left_other held count chunk w))
