-- `put_bad` meets its contract: there is room for the text, or none is put there.
use Rattle.model.proofs.Prelude.{refl, ◌∙◌, arith}
use Rattle.point_lines.proofs.Prelude.{bad_text, length_bad, wrote_bad, wrote_front}
use Rattle.point_lines.proofs.Held.{bad_here, bad_none}
use Rattle.point_lines.proofs.Moved.{wrote_behind}
use Rattle.std.proofs.Common.{rules}
use Rattle.point_lines.proofs.stream.put_bad.Goals as goal

pub returns-then-out-lt-BAD_MOST : goal.returns-then-out-lt-BAD_MOST
returns-then-out-lt-BAD_MOST c = (bad_none _ _ c.if-out-lt-BAD_MOST.true, search rules, refl)

pub returns : goal.returns
returns c =
    let a = c.args in
    let q = wrote_bad _ _ _ _ _ (omega arith) c.put_bad.ensures in
    let w = wrote_front a.out.now (bad_text a.n) _ _ (omega (arith, c.if-out-lt-BAD_MOST.false, length_bad a.n)) q in
    (w.0 ∙ bad_here _ _ c.if-out-lt-BAD_MOST.false, w.1, wrote_behind _ _ _ _ q)
