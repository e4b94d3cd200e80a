-- `load_specials` meets its contract: none are loaded at first, and a turn loads one more.
use Rattle.model.proofs.Prelude.{ap, refl, ◌∙◌, arith}
use Rattle.contexts.proofs.Prelude.{read_octa}
use Rattle.contexts.specs.ContextWork.{loaded}
use Rattle.contexts.proofs.UnsaveLoads.{loaded_more}
use Rattle.contexts.proofs.context.load_specials.Goals as goal

pub loop-i-init : goal.loop-i-init
unfolding loaded
loop-i-init c = refl

pub offset_bounds-special-k : goal.offset_bounds-special-k
offset_bounds-special-k c = omega (arith, c.save_special-k.ensures.1)

pub bounds-special-k : goal.bounds-special-k
bounds-special-k c = omega (arith, c.save_special-k.ensures.1)

pub loop-i-preserved : goal.loop-i-preserved
loop-i-preserved c =
    loaded_more _ _ _ _ _ _ c.loop-i.invariant c.save_special-k.ensures.0
    (c.read_octa-octa.ensures.0 ∙ ap (read_octa _) c.wrapping_add-place.ensures)
