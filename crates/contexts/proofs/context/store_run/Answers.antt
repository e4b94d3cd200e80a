-- `store_run` meets its contract: into B, which has room for all; or B is as it was, and then piece by piece.
use Rattle.model.proofs.Prelude.{ℕ, ◌+◌, Bool, cond, false, true, ap, refl, sym, ◌∙◌, ◌≡◌, arith, get_or, Window, lent}
use Rattle.contexts.proofs.Prelude.{lent_one, written_range, written_range_by, written_run, store_b, whole_b, held_range'}
use Rattle.contexts.proofs.context.store_run.Goals as goal

all : (t : Bool) (w u v : Window) → t ≡ true → w ≡ cond t u v → w ≡ u
all t w u v h e = rw h at e

none : (t : Bool) (w u v : Window) → t ≡ false → w ≡ cond t u v → w ≡ v
none t w u v h e = rw h at e

pub returns-then-store_held : goal.returns-then-store_held
unfolding written_range_by
returns-then-store_held c =
    let a = c.args in
    let m = lent a.at a.a.now a.b.now in
    let is = sym c.store_held.ensures.0 ∙ c.if-store_held.true in
    let held = held_range' _ _ _ _ is in
    store_b m a.addr a.from a.to 1 _ a.general.now (whole_b m a.addr a.from a.to (omega arith) held.0 held.2) held.2 refl _ (all _ _ _ _ is c.store_held.ensures.1)
    ∙ ap (λ (n : ℕ). written_run m a.addr n (λ (k : ℕ). get_or a.general.now (a.from + k) 0)) (omega (arith, held.1))

pub returns : goal.returns
returns c =
    let a = c.args in
    let left = none _ _ _ _ (sym c.store_held.ensures.0 ∙ c.if-store_held.false) c.store_held.ensures.1 in
    c.store_range.ensures
    ∙ ap (λ (u : Window). written_range (record { a = lent_one a.at.a a.a.now; b = u }) a.addr a.from a.to a.general.now) left
