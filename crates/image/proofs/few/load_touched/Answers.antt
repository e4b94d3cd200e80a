-- `load_touched` meets its contract: few registers, or all.
use Rattle.model.proofs.Prelude.{not}
use Rattle.model.proofs.Prelude.{ap}
use Rattle.model.proofs.Prelude.{◌∙◌, arith, denied, granted}
use Rattle.image.proofs.Coded.{chosen, left_over, if_other, if_image}
use Rattle.image.proofs.Codec.{general_loaded}
use Rattle.image.proofs.few.load_touched.Goals as goal

pub returns-then-not-is_image : goal.returns-then-not-is_image
returns-then-not-is_image c = if_other _ (denied _ _ c.is_image.ensures (ap not c.if-not-is_image.true)) _ _

pub load_few-requires : goal.load_few-requires
load_few-requires c = granted _ _ c.is_image.ensures (ap not c.if-not-is_image.false)

pub returns-then-few : goal.returns-then-few
returns-then-few c =
    c.load_few.ensures ∙ chosen _ _ _ c.if-few.true ∙ if_image _ (granted _ _ c.is_image.ensures (ap not c.if-not-is_image.false)) _ _

pub returns : goal.returns
returns c =
    let is = granted _ _ c.is_image.ensures (ap not c.if-not-is_image.false) in
    general_loaded c.args.image.now c.args.general.now _ is (omega arith) c.load_octas.ensures ∙ left_over _ _ _ c.if-few.false ∙ if_image _ is _ _
