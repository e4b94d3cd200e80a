-- `store_range` meets its contract: where B has room for all they are one piece.
use Rattle.model.proofs.Prelude.{ℕ, ◌+◌, ap, refl, sym, ◌∙◌, arith, get_or, lent}
use Rattle.machine.specs.Octas.{written_run, written_range_by}
use Rattle.machine.proofs.BothOctas.{store_b, whole_b}
use Rattle.machine.proofs.RunTest.{held_range'}
use Rattle.machine.proofs.ranges.store_range.Goals as goal

pub store_range-requires : goal.store_range-requires
store_range-requires c = held_range' _ _ _ _ (sym c.has_room.ensures ∙ c.if-has_room.true)

pub returns-then-has_room : goal.returns-then-has_room
unfolding written_range_by
returns-then-has_room c =
    let a = c.args in
    let held = held_range' _ _ _ _ (sym c.has_room.ensures ∙ c.if-has_room.true) in
    let m = lent a.at a.a.now a.b.now in
    store_b m a.addr a.from a.to 1 _ a.general.now (whole_b m a.addr a.from a.to (omega arith) held.0 held.2) held.2 refl _ c.store_range.ensures
    ∙ ap (λ (n : ℕ). written_run m a.addr n (λ (k : ℕ). get_or a.general.now (a.from + k) 0)) (omega (arith, held.1))
