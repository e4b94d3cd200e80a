-- `keep` meets its contract: bytes join those held as far as there is room.
use Rattle.model.proofs.Prelude.{◌≡◌, ◌∙◌, sym, arith, length, length-take-le, min, take, ◌-◌, ◌+◌, ap, written, written_lent, written_nil}
use Rattle.point_lines.proofs.Held.{written_room}
use Rattle.point_lines.proofs.stream.keep.Goals as goal
use Rattle.point_lines.proofs.stream.keep.Goals.{then-n-gt0, else-n-gt0}

pub returns : goal.returns
returns c =
    let a = c.args in
    let n = c.min-n.result in
    let e : n ≡ min (length a.more.now) (length a.held.now - a.count) = omega (arith, c.min-n.ensures, c.saturating_sub.ensures) in (
      elim c.if-n-gt0.branch [
        | then-n-gt0 w ↦
            let k = a.count + n - a.count in
            let z : w.copy_from_slice.new.self ≡ take n a.more.now = w.copy_from_slice.ensures.after in
            w.held-is
            ∙ written_lent a.held.now w.copy_from_slice.new.self a.count k (ap length z ∙ length-take-le n a.more.now (omega (arith, e)) ∙ omega arith) (omega (arith, e, w.if-n-gt0.true))
            ∙ ap (written a.held.now a.count) z ∙ written_room a.held.now a.count a.more.now n e
        | else-n-gt0 w ↦ w.held-is ∙ sym (written_nil a.held.now a.count) ∙ written_room a.held.now a.count a.more.now 0 (omega (arith, e, w.if-n-gt0.false))
      ],
      omega (arith, e),
    )
