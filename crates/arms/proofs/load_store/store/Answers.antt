-- `store` meets its contract: the address, whether it is there, the store, then V where $X does not fit.
use Rattle.model.proofs.Prelude.{told_done, told_refused, sym, ◌∙◌, windows_lent, state_lent}
use Rattle.arms.proofs.Prelude.{octa_read, octa_written}
use Rattle.arms.proofs.LoadStoreArms.{store_missing, store_fits, store_raises}
use Rattle.arms.proofs.load_store.store.Goals as goal

pub returns-then-ne-clause-replied : goal.returns-then-ne-clause-replied
returns-then-ne-clause-replied c =
    let a = c.args in
    let s = state_lent a.s.now in
    store_missing (windows_lent a.w.now) s _ _ _ _ _ (c.sum-addr.ensures s.special s.pc s.halt s.marks s.mask) (rw (c.run_refusal.ensures, c.read-lent.ensures) at (told_refused _ _ c.ne.ensures c.if-ne.true))

pub returns-then-fits-clause-replied : goal.returns-then-fits-clause-replied
returns-then-fits-clause-replied c =
    let a = c.args in
    let w = windows_lent a.w.now in
    let s = state_lent a.s.now in
    let there = rw (c.run_refusal.ensures, c.read-lent.ensures) at (told_done _ _ c.ne.ensures c.if-ne.false) in
    store_fits w s _ _ _ _ _ (c.sum-addr.ensures s.special s.pc s.halt s.marks s.mask) there _ _ _
    ((rw c.read-lent.ensures at c.read_octa-found.ensures.0) ∙ octa_read w _ there) c.merged-merged.ensures (c.write_octa.ensures.0 ∙ octa_written w _ there _)
    _ (sym c.fits.ensures ∙ c.if-fits.true) c.following-s.ensures

pub returns-clause-replied : goal.returns-clause-replied
returns-clause-replied c =
    let a = c.args in
    let w = windows_lent a.w.now in
    let s = state_lent a.s.now in
    let there = rw (c.run_refusal.ensures, c.read-lent.ensures) at (told_done _ _ c.ne.ensures c.if-ne.false) in
    store_raises w s _ _ _ _ _ (c.sum-addr.ensures s.special s.pc s.halt s.marks s.mask) there _ _ _
    ((rw c.read-lent.ensures at c.read_octa-found.ensures.0) ∙ octa_read w _ there) c.merged-merged.ensures (c.write_octa.ensures.0 ∙ octa_written w _ there _)
    _ _ _ (sym c.fits.ensures ∙ c.if-fits.false) c.word_of-word.ensures (c.raise.ensures.told)
