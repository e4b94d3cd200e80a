-- `widths_of` meets its contract: its tests are those of the definition, one form after another.
use Rattle.model.proofs.Prelude.{sym, ◌∙◌}
use Rattle.point_lines.specs.Line.{is_new, is_old, is_short, is_short_old}
use Rattle.point_lines.proofs.Formed.{as_new, as_old, as_short, as_short_old, none_point, point_new, point_old, point_short, point_short_old, differ}
use Rattle.point_lines.proofs.line.widths_of.Goals as goal

pub returns-then-is_form : goal.returns-then-is_form
unfolding is_new
returns-then-is_form c = let e = sym c.is_form.ensures ∙ c.if-is_form.true in (point_new _ e, sym (as_new _ e))

pub returns-then-is_form-2 : goal.returns-then-is_form-2
unfolding is_new is_old
returns-then-is_form-2 c =
    let e = sym c.is_form-2.ensures ∙ c.if-is_form-2.true in
    (point_old _ e, sym (as_old _ (sym c.is_form.ensures ∙ c.if-is_form.false) e))

pub returns-then-is_form-3 : goal.returns-then-is_form-3
unfolding is_new is_old is_short
returns-then-is_form-3 c =
    let e = sym c.is_form-3.ensures ∙ c.if-is_form-3.true in
    (point_short _ e, sym (as_short _ (sym c.is_form.ensures ∙ c.if-is_form.false) (sym c.is_form-2.ensures ∙ c.if-is_form-2.false) e))

pub returns-then-is_form-4 : goal.returns-then-is_form-4
unfolding is_new is_old is_short is_short_old
returns-then-is_form-4 c =
    let e = sym c.is_form-4.ensures ∙ c.if-is_form-4.true in (
      point_short_old _ e,
      sym (as_short_old _ (sym c.is_form.ensures ∙ c.if-is_form.false) (sym c.is_form-2.ensures ∙ c.if-is_form-2.false)
          (sym c.is_form-3.ensures ∙ c.if-is_form-3.false) e),
    )

pub returns : goal.returns
unfolding is_new is_old is_short is_short_old
returns c = λ p. differ (sym p ∙ none_point _ (sym c.is_form.ensures ∙ c.if-is_form.false) (sym c.is_form-2.ensures ∙ c.if-is_form-2.false)
    (sym c.is_form-3.ensures ∙ c.if-is_form-3.false) (sym c.is_form-4.ensures ∙ c.if-is_form-4.false))
