-- `mmix_step` meets its contract: what the step touches of the image's state takes the step, and goes back into the image.
use Rattle.model.proofs.Prelude.{not}
use Rattle.model.proofs.Prelude.{ap}
use Rattle.model.proofs.Prelude.{ℕ, arith, length-replicate, replicate, denied, granted}
use Rattle.mmix.proofs.Prelude.{state_of, of_image}
use Rattle.mmix.specs.Entries.{lent_at}
use Rattle.mmix.proofs.Entries.{stepped_else}
use Rattle.mmix.proofs.FewStepped.{touched_stepped}
use Rattle.mmix.proofs.mmix_step.Goals as goal

pub returns-then-not-is_image : goal.returns-then-not-is_image
returns-then-not-is_image c = stepped_else _ (denied _ _ c.is_image.ensures (ap not c.if-not-is_image.true)) _ _ _ _ _

pub returns : goal.returns
returns c =
    let a = c.args in
    let l = a.image.now in
    let is = granted _ _ c.is_image.ensures (ap not c.if-not-is_image.false) in
    touched_stepped l is (replicate 256 0) (length-replicate {A = ℕ} 256 0) _ _ _ _ _ (of_image l is _ _ _ c.load_beside-rest.ensures)
    (lent_at a.base_a a.base_b a.a.now a.b.now) a.op a.x a.y a.z (omega arith) (omega arith) (omega arith) (omega arith)
    _ (c.touches_few-few.ensures (state_of l).general _ _ _ _) _ (of_image l is _ _ _ c.load_touched.ensures)
    _ _ _ _ _ _ c.mmix_step_parts-reply.ensures _ c.store_touched.ensures
