-- `claimed` meets its contract: either claim is the definition's.
use Rattle.instruction.proofs.claim.claimed.Goals as goal

pub claimed_clear-requires : goal.claimed_clear-requires
claimed_clear-requires c =
    (c.requires.0, c.requires.1, c.requires.2, c.requires.3, c.is_clear.ensures c.if-is_clear.true)
