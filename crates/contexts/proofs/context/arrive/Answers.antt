-- `arrive` meets its contract: the registers are those that UNSAVE leaves.
use Rattle.contexts.proofs.UnsaveLoads.{arrived}
use Rattle.contexts.proofs.context.arrive.Goals as goal

pub returns : goal.returns
returns c =
    λ pc halt marks mask.
    arrived _ _ _ _ _ _ _ _ _ _ c.told-special c.requires.0 c.requires.1 c.wrapping_add-specials.ensures
    c.load_general.ensures c.load_specials.ensures pc halt marks mask
