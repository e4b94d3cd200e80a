-- What the proofs of point_lines share: names of the crates below. What the Prelude of model has is taken from there.
unfoldable pub use Rattle.text.specs.Codes.{codes}
unfoldable pub use Rattle.text.specs.Digits.{digit_of, number_of}
unfoldable pub use Rattle.text.specs.Pieces.{line_length, pieces}
unfoldable pub use Rattle.text.specs.Text.{bad_line, bad_text, filled, glyph, numeral}
pub use Rattle.text.proofs.Digits.{digit_glyph, Digits, glyph_digit, number_below, number_none, number_snoc}
pub use Rattle.text.proofs.Pieces.{either, length_line, line_append, line_front, newline_there, pieces_last, pieces_line, pieces_some}
pub use Rattle.text.proofs.Writes.{length_bad, written_one, wrote_bad, wrote_front}
