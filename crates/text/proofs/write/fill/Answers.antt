-- `fill` meets its contract: a mark puts the next field, any other byte itself, and in the end the whole is put.
use Rattle.model.proofs.Prelude.{arith}
use Rattle.text.proofs.Writes.{leads_on, leads_end, filled_hex, filled_decimal, filled_plain, filled_past, field_is, fields_left, length_numeral}
use Rattle.text.proofs.write.fill.Goals as goal
use Rattle.text.proofs.write.fill.Goals.{in-35, in-37, in_default}

pub loop-byte-preserved : goal.loop-byte-preserved
loop-byte-preserved c =
    let p = c.args.pattern.now in
    let l = c.loop-byte in
    elim c.match-byte.branch [
      | in-35 w ↦
          let e = field_is l.fields w.next.new.self w.next.result w.next.ensures.steps in
          let f = fields_left l.fields w.next.new.self w.next.result w.next.ensures.steps in
          rw (w.out-is, w.end-is, w.fields-is, f) (
            omega (arith, l.invariant.0, w.numeral-end.ensures.end_is, length_numeral 16 15 w.unwrap_or.result),
            leads_on _ _ _ _ _ _ _ _ _ _ l.invariant.1 (filled_hex p _ l.byte-index c.loop-byte-test.true w.in-35.is)
                (rw (w.unwrap_or.ensures, w.copied.ensures, e) at w.numeral-end.ensures),
          )
      | in-37 w ↦
          let e = field_is l.fields w.next-in-37.new.self w.next-in-37.result w.next-in-37.ensures.steps in
          let f = fields_left l.fields w.next-in-37.new.self w.next-in-37.result w.next-in-37.ensures.steps in
          rw (w.out-is, w.end-is, w.fields-is, f) (
            omega (arith, l.invariant.0, w.numeral-end-in-37.ensures.end_is, length_numeral 10 19 w.unwrap_or-in-37.result),
            leads_on _ _ _ _ _ _ _ _ _ _ l.invariant.1 (filled_decimal p _ l.byte-index c.loop-byte-test.true w.in-37.is)
                (rw (w.unwrap_or-in-37.ensures, w.copied-in-37.ensures, e) at w.numeral-end-in-37.ensures),
          )
      | in_default w ↦
          rw (w.out-is, w.end-is, w.fields-is) (
            omega (arith, l.invariant.0, w.put-end.ensures.end_is),
            leads_on _ _ _ _ _ _ _ _ _ _ l.invariant.1 (filled_plain p _ l.byte-index c.loop-byte-test.true (omega arith) (omega arith)) w.put-end.ensures,
          )
    ]

pub returns : goal.returns
returns c = rw (← c.iter-fields.ensures.rest) (leads_end _ _ _ _ _ _ c.loop-byte.invariant.1 (filled_past _ _ _ c.loop-byte-test.false))
