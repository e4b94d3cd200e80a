-- `mmix_put_set` meets its contract: the image's state takes the set, and goes back into the image. What was lent of it is what comes back.
use Rattle.model.proofs.Prelude.{not, ap, sym, ◌∙◌, made, granted}
use Rattle.model.specs.Lent.{state_lent}
use Rattle.image.specs.Image.{stored_in}
use Rattle.mmix.proofs.Prelude.{of_image}
use Rattle.mmix.proofs.Entries.{set_put, set_told}
use Rattle.mmix.proofs.mmix_put_set.Goals as goal

pub returns : goal.returns
returns c =
    let l = c.args.image.now in
    let t = c.put_set_bytes-set.new.state in
    let same = c.put_set_bytes-set.ensures.same in
    let is = granted _ _ c.is_image.ensures (ap not c.if-not-is_image.false) in
    let general = c.general-3-1.given.1 (sym same.0) in
    let special = c.special-3-1.given.1 (sym same.1) in
    set_put l is _ _ (of_image l is _ _ _ c.load_state-rest.ensures) _ _ (state_lent t)
    (set_told _ _ _ _ _ c.put_set_bytes-set.ensures.put _ _ c.told.ensures) same.5 _
    (c.store_state.ensures ∙ ap (stored_in l) (λ i. made (general i) (special i) t.pc.now t.halt.now (sym same.4 i) (sym same.5 i)))
