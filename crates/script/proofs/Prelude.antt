-- What the proofs of script share: names of the logic library and of the crates below. What the Prelude of model has is taken from there.
pub use Rattle.std.specs.Prelude.{None, Option, Some}
pub use Rattle.model.specs.declared.State.{State}
unfoldable pub use Rattle.text.specs.Codes.{codes}
unfoldable pub use Rattle.text.specs.Digits.{digit_of, number_of}
pub use Rattle.text.specs.Pieces.{at_first, line_length}
unfoldable pub use Rattle.text.specs.Pieces.{pieces}
pub use Rattle.text.specs.Text.{decimal_mark, hexadecimal, hex_mark}
unfoldable pub use Rattle.text.specs.Text.{bad_line, bad_text, filled, glyph, numeral}
pub use Rattle.text.specs.Writing.{pattern_most, Wrote}
pub use Rattle.text.proofs.Digits.{digit_glyph, Digits, glyph_digit, number_above, number_below, number_none, number_snoc}
pub use Rattle.text.proofs.Pieces.{length_line, line_within, pieces_last, pieces_line, pieces_some}
pub use Rattle.text.proofs.Writes.{Leads, leads_end, leads_last, leads_on, leads_whole, length_filled, take_written, wrote_as, wrote_bad, wrote_here}
pub use Rattle.text.proofs.Writes.{wrote_nothing}
unfoldable pub use Rattle.text.proofs.Writes.{filled_most, piece_most}
