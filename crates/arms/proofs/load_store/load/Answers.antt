-- `load` meets its contract: the address, whether it is there, the operand extended, then $X.
use Rattle.model.proofs.Prelude.{told_done, told_refused, ◌∙◌, windows_read, state_lent}
use Rattle.arms.proofs.Prelude.{octa_read}
use Rattle.arms.proofs.LoadStoreArms.{load_missing, load_done}
use Rattle.arms.proofs.load_store.load.Goals as goal

pub returns-then-ne-clause-replied : goal.returns-then-ne-clause-replied
returns-then-ne-clause-replied c =
    let a = c.args in
    let s = state_lent a.s.now in
    load_missing (windows_read a.w) s _ _ _ _ _ (c.sum-addr.ensures s.special s.pc s.halt s.marks s.mask) (rw c.run_refusal.ensures at (told_refused _ _ c.ne.ensures c.if-ne.true))

pub returns-clause-replied : goal.returns-clause-replied
returns-clause-replied c =
    let a = c.args in
    let w = windows_read a.w in
    let s = state_lent a.s.now in
    let there = rw c.run_refusal.ensures at (told_done _ _ c.ne.ensures c.if-ne.false) in
    load_done w s _ _ _ _ _ (c.sum-addr.ensures s.special s.pc s.halt s.marks s.mask) there _ _ _ _ _
    (c.read_octa-found.ensures.0 ∙ octa_read w _ there) c.loaded-u.ensures (c.set_register.ensures s) c.following-s.ensures
