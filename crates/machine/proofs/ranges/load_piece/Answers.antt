-- `load_piece` meets its contract: each octabyte of a piece is the one window's, or neither's.
use Rattle.model.proofs.Prelude.{holder_a, holder_b, holder_none, ◌∙◌, arith, lent}
use Rattle.machine.proofs.BothOctas.{load_a, load_b, load_lost, room_a, room_b}
use Rattle.machine.proofs.ranges.load_piece.Goals as goal

pub load_range-requires-in-Some-B : goal.load_range-requires-in-Some-B
load_range-requires-in-Some-B c =
    let a = c.args in (
      c.end_of-end.ensures.1,
      omega (arith, c.end_of-end.ensures.2, c.requires.1),
      room_b (lent a.at a.a.now a.b.now) a.addr a.from _ _ _ a.general.now c.next_piece-next.ensures c.end_of-end.ensures.0 (holder_b _ _ c.in-Some-B.is (rw c.in-Some-B.is at c.in-Some-B.field-0-is)),
    )

pub returns-in-Some-B : goal.returns-in-Some-B
returns-in-Some-B c =
    let a = c.args in
    (c.load_range-in-Some-B.ensures ∙ load_b (lent a.at a.a.now a.b.now) a.addr a.from _ _ _ a.general.now c.next_piece-next.ensures c.end_of-end.ensures.0 (holder_b _ _ c.in-Some-B.is (rw c.in-Some-B.is at c.in-Some-B.field-0-is)), c.end_of-end.ensures.1, c.end_of-end.ensures.2)

pub load_range-requires : goal.load_range-requires
load_range-requires c =
    let a = c.args in (
      c.end_of-end.ensures.1,
      omega (arith, c.end_of-end.ensures.2, c.requires.1),
      room_a (lent a.at a.a.now a.b.now) a.addr a.from _ _ _ a.general.now c.next_piece-next.ensures c.end_of-end.ensures.0 (holder_a _ _ c.in-Some-A.is (rw c.in-Some-A.is at c.in-Some-A.field-0-is)),
    )

pub returns-in-Some-A : goal.returns-in-Some-A
returns-in-Some-A c =
    let a = c.args in
    (c.load_range.ensures ∙ load_a (lent a.at a.a.now a.b.now) a.addr a.from _ _ _ a.general.now c.next_piece-next.ensures c.end_of-end.ensures.0 (holder_a _ _ c.in-Some-A.is (rw c.in-Some-A.is at c.in-Some-A.field-0-is)), c.end_of-end.ensures.1, c.end_of-end.ensures.2)

pub returns-in-None : goal.returns-in-None
returns-in-None c =
    let a = c.args in
    (c.clear_range.ensures ∙ load_lost (lent a.at a.a.now a.b.now) a.addr a.from _ _ _ a.general.now c.next_piece-next.ensures c.end_of-end.ensures.0 (holder_none _ c.in-None.is), c.end_of-end.ensures.1, c.end_of-end.ensures.2)
