-- `store_piece` meets its contract: each octabyte of a piece is the one window's, or neither's.
use Rattle.model.proofs.Prelude.{holder_a, holder_b, holder_none, arith, lent}
use Rattle.machine.proofs.BothOctas.{room_a, room_b, store_a, store_b, store_lost}
use Rattle.machine.proofs.ranges.store_piece.Goals as goal

pub store_range-requires-in-Some-B : goal.store_range-requires-in-Some-B
store_range-requires-in-Some-B c =
    let a = c.args in (
      c.end_of-end.ensures.1,
      omega (arith, c.end_of-end.ensures.2, c.requires.1),
      room_b (lent a.at a.a.now a.b.now) a.addr a.from _ _ _ a.general.now c.next_piece-next.ensures c.end_of-end.ensures.0 (holder_b _ _ c.in-Some-B.is (rw c.in-Some-B.is at c.in-Some-B.field-0-is)),
    )

pub returns-in-Some-B : goal.returns-in-Some-B
returns-in-Some-B c =
    let a = c.args in
    (store_b (lent a.at a.a.now a.b.now) a.addr a.from _ _ _ a.general.now c.next_piece-next.ensures c.end_of-end.ensures.0 (holder_b _ _ c.in-Some-B.is (rw c.in-Some-B.is at c.in-Some-B.field-0-is)) _ c.store_range-in-Some-B.ensures, c.end_of-end.ensures.1, c.end_of-end.ensures.2)

pub store_range-requires : goal.store_range-requires
store_range-requires c =
    let a = c.args in (
      c.end_of-end.ensures.1,
      omega (arith, c.end_of-end.ensures.2, c.requires.1),
      room_a (lent a.at a.a.now a.b.now) a.addr a.from _ _ _ a.general.now c.next_piece-next.ensures c.end_of-end.ensures.0 (holder_a _ _ c.in-Some-A.is (rw c.in-Some-A.is at c.in-Some-A.field-0-is)),
    )

pub returns-in-Some-A : goal.returns-in-Some-A
returns-in-Some-A c =
    let a = c.args in
    (store_a (lent a.at a.a.now a.b.now) a.addr a.from _ _ _ a.general.now c.next_piece-next.ensures c.end_of-end.ensures.0 (holder_a _ _ c.in-Some-A.is (rw c.in-Some-A.is at c.in-Some-A.field-0-is)) _ c.store_range.ensures, c.end_of-end.ensures.1, c.end_of-end.ensures.2)

pub returns-in-None : goal.returns-in-None
returns-in-None c =
    let a = c.args in
    (store_lost (lent a.at a.a.now a.b.now) a.addr a.from _ _ _ a.general.now c.next_piece-next.ensures c.end_of-end.ensures.0 (holder_none _ c.in-None.is), c.end_of-end.ensures.1, c.end_of-end.ensures.2)
