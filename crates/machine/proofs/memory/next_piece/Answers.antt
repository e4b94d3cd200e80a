-- `next_piece` meets its contract: what B has room for; else what A has room for before B comes; else one octabyte that neither holds.
use Rattle.model.proofs.Prelude.{◌*◌, ◌<◌, ◌^◌, sym, ◌∙◌, arith, shape_of, shapes_of}
use Rattle.machine.proofs.RunTest.{piece_b, piece_a, piece_none}
use Rattle.machine.proofs.memory.next_piece.Goals as goal

pub returns-then-in_b-ne0 : goal.returns-then-in_b-ne0
unfolding shapes_of shape_of
returns-then-in_b-ne0 c = piece_b _ _ _ (omega arith) c.if-in_b-ne0.true c.room-in_b.ensures.0 c.room-in_b.ensures.1

pub returns-then-in_a-eq0 : goal.returns-then-in_a-eq0
unfolding shapes_of
returns-then-in_a-eq0 c =
    piece_none _ _ (sym c.room-in_b.ensures.0 ∙ c.if-in_b-ne0.false) (sym c.room-in_a.ensures.0 ∙ c.if-in_a-eq0.true)

pub returns : goal.returns
unfolding shapes_of shape_of
returns c =
    let shorter : 8 * c.min.result < 2 ^ 64 = omega (arith, c.min.ensures, c.room-in_a.ensures.1) in
    piece_a _ _ _ (omega arith) (sym c.room-in_b.ensures.0 ∙ c.if-in_b-ne0.false) (omega (arith, c.min.ensures))
    (omega (arith, c.min.ensures, c.room-in_a.ensures.0)) (omega (arith, c.min.ensures, c.distance.ensures)) shorter
