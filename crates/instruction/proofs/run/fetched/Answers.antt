-- `fetched` meets its contract: the octabyte that PC names, the tetra there, and what it says.
use Rattle.model.proofs.Prelude.{no_holder, some_holder, ◌∙◌, number_of, state_lent, windows_lent}
use Rattle.instruction.proofs.Prelude.{octa_held}
use Rattle.instruction.proofs.RunTurned.{not_fetched, was_fetched}
use Rattle.instruction.proofs.run.fetched.Goals as goal

pub returns-then-is_none-clause-numbered : goal.returns-then-is_none-clause-numbered
unfolding number_of
returns-then-is_none-clause-numbered c =
    not_fetched (windows_lent c.args.w.now) (state_lent c.args.s.now) c.requires.0 c.requires.1 _ (rw c.read-lent.ensures at c.read_octa-found.ensures.1) (no_holder _ _ c.is_none.ensures c.if-is_none.true)

pub returns-clause-numbered : goal.returns-clause-numbered
returns-clause-numbered c =
    let w = windows_lent c.args.w.now in
    let s = state_lent c.args.s.now in
    let held = rw c.read-lent.ensures at c.read_octa-found.ensures.1 in
    let value = rw c.read-lent.ensures at c.read_octa-found.ensures.0 in
    was_fetched w s c.requires.0 c.requires.1 _ held (some_holder _ _ c.is_none.ensures c.if-is_none.false) _ _ (value ∙ octa_held w s.pc (λ q. some_holder _ _ c.is_none.ensures c.if-is_none.false (held ∙ q)))
    c.tetra_at.ensures _ _ _ c.attempt.ensures.numbered
