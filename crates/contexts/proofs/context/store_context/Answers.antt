-- `store_context` meets its contract: its five stores, one after another, are the context.
use Rattle.contexts.proofs.SaveStores.{context_stored}
use Rattle.contexts.proofs.context.store_context.Goals as goal

pub returns : goal.returns
returns c =
    context_stored _ _ c.requires _ _ _ _ _ _ _ _ _ _
    c.store_run.ensures c.wrapping_add-marker.ensures
    c.write_octa.ensures.0
    c.wrapping_add-globals.ensures
    c.store_run-2.ensures
    c.wrapping_add-specials.ensures c.store_specials.ensures
    c.wrapping_add-packed.ensures c.write_octa-2.ensures.0
