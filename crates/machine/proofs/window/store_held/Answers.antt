-- `store_held` meets its contract: all, or nothing.
use Rattle.model.proofs.Prelude.{Bool, cond, false, true, refl, sym, ◌∙◌, ◌≡◌, Window}
use Rattle.machine.proofs.RunTest.{held_range'}
use Rattle.machine.proofs.window.store_held.Goals as goal

all : (t : Bool) (w u v : Window) → t ≡ true → w ≡ u → w ≡ cond t u v
all t w u v h e = rw h e

none : (t : Bool) (u v : Window) → t ≡ false → v ≡ cond t u v
none t u v h = rw h refl

pub store_range-requires : goal.store_range-requires
store_range-requires c = held_range' _ _ _ _ (sym c.has_room.ensures ∙ c.if-has_room.true)

pub returns-then-has_room : goal.returns-then-has_room
returns-then-has_room c =
    let held = sym c.has_room.ensures ∙ c.if-has_room.true in
    (sym held, all _ _ _ _ held c.store_range.ensures)

pub returns : goal.returns
returns c =
    let not = sym c.has_room.ensures ∙ c.if-has_room.false in
    (sym not, none _ _ _ not)
