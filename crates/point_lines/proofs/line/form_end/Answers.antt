-- `form_end` meets its contract: the nine parts of the form, one after another, and the lengths judged.
use Rattle.model.proofs.Prelude.{◌∙◌}
use Rattle.point_lines.proofs.Prelude.{codes}
use Rattle.point_lines.specs.Line.{head, bases, middle, close, point_form}
use Rattle.point_lines.proofs.Forms.{no_fit, no_fit_at, fit_at, too_large, first_octas, second_octas, form_ends}
use Rattle.point_lines.proofs.line.form_end.Goals as goal

pub returns-in_err-rest : goal.returns-in_err-rest
unfolding point_form head bases middle codes
returns-in_err-rest c = rw c.from_residual.ensures (no_fit _ _ _ _ (c.in_err-rest.ensures _))

pub returns-in_err-a : goal.returns-in_err-a
unfolding point_form head bases middle codes
returns-in_err-a c = rw c.from_residual-in_err-a.ensures (no_fit _ _ _ _ (c.in_ok-rest.ensures.0 _ ∙ c.in_err-a.ensures _))

pub returns-in_err-rest-2 : goal.returns-in_err-rest-2
unfolding point_form head bases middle codes
returns-in_err-rest-2 c = rw c.from_residual-in_err-rest-2.ensures (no_fit _ _ _ _ (c.in_ok-rest.ensures.0 _ ∙ c.in_ok-a.ensures.0 _ ∙ c.in_err-rest-2.ensures _))

pub returns-in_err-b : goal.returns-in_err-b
unfolding point_form head bases middle codes
returns-in_err-b c = rw c.from_residual-in_err-b.ensures (no_fit _ _ _ _ (c.in_ok-rest.ensures.0 _ ∙ c.in_ok-a.ensures.0 _ ∙ c.in_ok-rest-2.ensures.0 _ ∙ c.in_err-b.ensures _))

pub returns-in_err-rest-3 : goal.returns-in_err-rest-3
unfolding point_form head bases middle codes
returns-in_err-rest-3 c = rw c.from_residual-in_err-rest-3.ensures (no_fit _ _ _ _ (c.in_ok-rest.ensures.0 _ ∙ c.in_ok-a.ensures.0 _ ∙ c.in_ok-rest-2.ensures.0 _ ∙ c.in_ok-b.ensures.0 _ ∙ c.in_err-rest-3.ensures _))

pub returns-in_err-rest-4 : goal.returns-in_err-rest-4
unfolding point_form head bases middle codes
returns-in_err-rest-4 c = rw c.from_residual-in_err-rest-4.ensures (no_fit _ _ _ _ (c.in_ok-rest.ensures.0 _ ∙ c.in_ok-a.ensures.0 _ ∙ c.in_ok-rest-2.ensures.0 _ ∙ c.in_ok-b.ensures.0 _ ∙ c.in_ok-rest-3.ensures.0 _ ∙ c.in_err-rest-4.ensures _))

pub returns-in_err-rest-5 : goal.returns-in_err-rest-5
unfolding point_form head bases middle codes
returns-in_err-rest-5 c = rw c.from_residual-in_err-rest-5.ensures (no_fit _ _ _ _ (c.in_ok-rest.ensures.0 _ ∙ c.in_ok-a.ensures.0 _ ∙ c.in_ok-rest-2.ensures.0 _ ∙ c.in_ok-b.ensures.0 _ ∙ c.in_ok-rest-3.ensures.0 _ ∙ c.in_ok-rest-4.ensures.0 _ ∙ c.in_err-rest-5.ensures _))

pub returns-in_err-rest-6 : goal.returns-in_err-rest-6
unfolding point_form head bases middle codes
returns-in_err-rest-6 c =
    rw c.from_residual-in_err-rest-6.ensures
    (no_fit_at _ _ _ _ _ _ (first_octas _ _ _ c.in_ok-rest.ensures.1 _ c.in_ok-a.ensures.1) (second_octas _ _ _ c.in_ok-rest.ensures.1 _ _ _ c.in_ok-a.ensures.2 c.in_ok-rest-2.ensures.1 c.in_ok-b.ensures.1)
    (c.in_ok-rest.ensures.0 _ ∙ c.in_ok-a.ensures.0 _ ∙ c.in_ok-rest-2.ensures.0 _ ∙ c.in_ok-b.ensures.0 _ ∙ c.in_ok-rest-3.ensures.0 _ ∙ c.in_ok-rest-4.ensures.0 _ ∙ c.in_ok-rest-5.ensures.0 _
    ∙ c.in_err-rest-6.ensures _))

pub returns-then-a-octas_max : goal.returns-then-a-octas_max
unfolding head codes
returns-then-a-octas_max c =
    too_large _ _ _ _ _ _ (first_octas _ _ _ c.in_ok-rest.ensures.1 _ c.in_ok-a.ensures.1) (second_octas _ _ _ c.in_ok-rest.ensures.1 _ _ _ c.in_ok-a.ensures.2 c.in_ok-rest-2.ensures.1 c.in_ok-b.ensures.1) c.then-a-octas_max.either

pub returns : goal.returns
unfolding point_form head bases middle close codes
returns c =
    form_ends _ _ _ _ close _ _
    (fit_at _ _ _ _ _ _ (first_octas _ _ _ c.in_ok-rest.ensures.1 _ c.in_ok-a.ensures.1) (second_octas _ _ _ c.in_ok-rest.ensures.1 _ _ _ c.in_ok-a.ensures.2 c.in_ok-rest-2.ensures.1 c.in_ok-b.ensures.1) c.if-a-octas_max.false c.if-b-octas_max.false
    ∙ c.in_ok-rest.ensures.0 _ ∙ c.in_ok-a.ensures.0 _ ∙ c.in_ok-rest-2.ensures.0 _ ∙ c.in_ok-b.ensures.0 _ ∙ c.in_ok-rest-3.ensures.0 _ ∙ c.in_ok-rest-4.ensures.0 _ ∙ c.in_ok-rest-5.ensures.0 _
    ∙ c.in_ok-rest-6.ensures.0 _) c.past-5.ensures
