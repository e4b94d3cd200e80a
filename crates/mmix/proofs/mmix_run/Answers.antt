-- `mmix_run` meets its contract: the image's state takes the run, and goes back into the image.
use Rattle.model.proofs.Prelude.{not}
use Rattle.model.proofs.Prelude.{ap}
use Rattle.model.proofs.Prelude.{refl, denied, granted}
use Rattle.mmix.proofs.Prelude.{of_image}
use Rattle.mmix.proofs.Entries.{ran_else, ran}
use Rattle.mmix.proofs.mmix_run.Goals as goal

pub returns-then-not-is_image : goal.returns-then-not-is_image
returns-then-not-is_image c = ran_else _ (denied _ _ c.is_image.ensures (ap not c.if-not-is_image.true)) _ _

pub returns : goal.returns
returns c =
    let l = c.args.image.now in
    let is = granted _ _ c.is_image.ensures (ap not c.if-not-is_image.false) in
    ran l is _ _ _ (of_image l is _ _ _ c.load_state-rest.ensures) _ _ _ _ c.mmix_run_parts-reply.ensures refl _ c.store_state.ensures
