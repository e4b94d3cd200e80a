-- What the program's two buffers hold: of a script as much as tells what it prints, and all of the text.
use Rattle.model.proofs.Prelude.{ℕ, ◌<◌, ◌≤◌, List, ap, refl, sym, ◌∙◌, ◌≡◌, dec_le, arith, length, length-take, take, take_all, lt-leb, written, length_written}
use Rattle.script.proofs.Prelude.{bad_text, take_written}
use Rattle.script.specs.Script.{script_most, printed, output_length, FrontTells, BufferLengths}
use Rattle.script.proofs.Bounds.{bounded}

long_prints : (l : List ℕ) → script_most < length l → printed l ≡ bad_text 0
unfolding printed
long_prints l h = rw (lt-leb (length l) script_most h)

-- where the script is too long, so is its front
pub front_tells : FrontTells
front_tells l n h = go (dec_le (length l) script_most)
  where
    go : Dec (length l ≤ script_most) → printed (take n l) ≡ printed l
    go (yes s) = ap printed (take_all n l (omega arith))
    go (no s) =
        let f : script_most < length l = omega arith in
        let g : script_most < length (take n l) = omega (arith, length-take n l) in
        long_prints (take n l) g ∙ sym (long_prints l f)

-- the text of a script l put into a buffer with room for the longest
module _ (l b c : List ℕ) (n : ℕ) (h : output_length ≤ length b) (e : c ≡ written b 0 (printed l)) (f : n ≡ length (printed l)) where
  room : length (printed l) ≤ length b
  room = omega (arith, bounded.of_any l)

  pub text_held : take n c ≡ printed l
  text_held = rw (e, f) (take_written b (printed l) room)

  pub text_fits : n ≤ length c
  text_fits = omega (arith, room, ap length e, length_written b 0 (printed l))

pub buffer_lengths : BufferLengths
buffer_lengths = (refl, refl)
