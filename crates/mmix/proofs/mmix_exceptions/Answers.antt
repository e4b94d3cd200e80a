-- `mmix_exceptions` meets its contract: what the exception touches of the image's state takes it, and goes back into the image.
use Rattle.model.proofs.Prelude.{not}
use Rattle.model.proofs.Prelude.{ap}
use Rattle.model.proofs.Prelude.{ℕ, length-replicate, replicate, denied, granted}
use Rattle.mmix.proofs.Prelude.{of_image}
use Rattle.mmix.proofs.Entries.{raised_else}
use Rattle.mmix.proofs.FewStepped.{touched_raised}
use Rattle.mmix.proofs.mmix_exceptions.Goals as goal

pub returns-then-not-is_image : goal.returns-then-not-is_image
returns-then-not-is_image c = raised_else _ (denied _ _ c.is_image.ensures (ap not c.if-not-is_image.true)) _ _ _ _ _ _ _

pub returns : goal.returns
returns c =
    let l = c.args.image.now in
    let is = granted _ _ c.is_image.ensures (ap not c.if-not-is_image.false) in
    touched_raised l is (replicate 256 0) (length-replicate {A = ℕ} 256 0) _ _ _ _ _ (of_image l is _ _ _ c.load_beside-rest.ensures)
    _ _ _ _ _ _ _ _ (of_image l is _ _ _ c.load_touched.ensures) _ _ _ _ _ c.mmix_exceptions_parts-reply.ensures _ c.store_touched.ensures
