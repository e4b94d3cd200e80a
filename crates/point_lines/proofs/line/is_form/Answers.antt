-- `is_form` meets its contract: nothing follows the form.
use Rattle.model.proofs.Prelude.{sym, ◌∙◌}
use Rattle.point_lines.proofs.Forms.{fits_end}
use Rattle.point_lines.proofs.line.is_form.Goals as goal

pub returns-in-Some : goal.returns-in-Some
returns-in-Some c = c.is_empty.ensures ∙ fits_end c.in-Some.rest.now ∙ sym c.in-Some.ensures
