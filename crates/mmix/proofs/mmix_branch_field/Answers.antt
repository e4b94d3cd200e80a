-- `mmix_branch_field` meets its contract: what `tell_reach` tells is told of the field that was found.
use Rattle.mmix.proofs.Entries.{field_told}
use Rattle.mmix.proofs.mmix_branch_field.Goals as goal

pub returns : goal.returns
returns c = field_told _ _ c.branch_field-reach.ensures _ _ _ c.tell_reach.ensures
