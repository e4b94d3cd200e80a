-- `load_range` meets its contract: where B has room for all they are one piece.
use Rattle.model.proofs.Prelude.{refl, sym, ◌∙◌, arith, lent}
use Rattle.machine.proofs.BothOctas.{load_b, whole_b}
use Rattle.machine.proofs.RunTest.{held_range'}
use Rattle.machine.proofs.ranges.load_range.Goals as goal

pub load_range-requires : goal.load_range-requires
load_range-requires c = held_range' _ _ _ _ (sym c.has_room.ensures ∙ c.if-has_room.true)

pub returns-then-has_room : goal.returns-then-has_room
returns-then-has_room c =
    let a = c.args in
    let held = held_range' _ _ _ _ (sym c.has_room.ensures ∙ c.if-has_room.true) in
    c.load_range.ensures
    ∙ load_b (lent a.at a.a.now a.b.now) a.addr a.from a.to 1 _ a.general.now (whole_b (lent a.at a.a.now a.b.now) a.addr a.from a.to (omega arith) held.0 held.2) held.2 refl
