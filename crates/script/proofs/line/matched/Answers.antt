-- `matched` meets its contract: a number or a byte that is missing ends it with none; in the end the numbers are all, where nothing is left of the line.
use Rattle.model.proofs.Prelude.{sym, ◌∙◌, eqb-true, eqb-false}
use Rattle.script.proofs.Turns.{mark_room, along_number, number_none, along_byte, byte_other, byte_missing, end_met, end_missing}
use Rattle.script.proofs.line.matched.Goals as goal
use Rattle.script.proofs.line.matched.Goals.{then-c-eq35+in_ok-value, else-c-eq35+in_ok-b+else-b-c}

pub returns-in_err-value : goal.returns-in_err-value
returns-in_err-value g c =
    c.from_residual.ensures ∙ sym (number_none _ _ _ _ _ _ _ c.loop-c-test.true c.loop-c.invariant c.if-c-eq35.true c.in_err-value.ensures)

pub bounds-values-count : goal.bounds-values-count
bounds-values-count g c = mark_room _ _ _ _ _ _ _ c.loop-c-test.true c.loop-c.invariant c.if-c-eq35.true

pub returns-in_err-b : goal.returns-in_err-b
returns-in_err-b g c =
    c.from_residual-in_err-b.ensures ∙ sym (byte_missing _ _ _ _ _ _ _ c.loop-c-test.true c.loop-c.invariant c.if-c-eq35.false c.in_err-b.ensures.cases)

pub returns-then-b-c : goal.returns-then-b-c
returns-then-b-c g c =
    sym (byte_other _ _ _ _ _ _ _ c.loop-c-test.true c.loop-c.invariant c.if-c-eq35.false _ _ c.in_ok-b.ensures.cases.0 c.if-b-c.true)

pub loop-c-preserved : goal.loop-c-preserved
loop-c-preserved g c =
    let l = c.loop-c in
    elim c.if-c-eq35.branch [
      | then-c-eq35+in_ok-value w ↦
          rw (w.values-is, w.count-is, w.rest-is)
          (along_number _ _ _ _ _ _ _ c.loop-c-test.true l.invariant w.if-c-eq35.true _ _ w.in_ok-value.ensures.0 w.in_ok-value.ensures.1 w.in_ok-value.ensures.2)
      | else-c-eq35+in_ok-b+else-b-c w ↦
          rw (w.values-is, w.count-is, w.rest-is)
          (along_byte _ _ _ _ _ _ _ c.loop-c-test.true l.invariant w.if-c-eq35.false _ _ w.in_ok-b.ensures.cases.0 w.if-b-c.false)
    ]

pub returns-then-is_empty : goal.returns-then-is_empty
returns-then-is_empty g c =
    sym (end_met _ _ _ _ _ _ _ c.loop-c-test.false c.loop-c.invariant (eqb-true _ _ (sym c.is_empty.ensures ∙ c.if-is_empty.true)))

pub returns-else-is_empty : goal.returns-else-is_empty
returns-else-is_empty g c =
    sym (end_missing _ _ _ _ _ _ _ c.loop-c-test.false c.loop-c.invariant (eqb-false _ _ (sym c.is_empty.ensures ∙ c.if-is_empty.false)))
