-- `claim_local` of a state meets its contract: the state made anew is the one whose registers were lent.
use Rattle.machine.proofs.value.claim_local.Goals as goal

pub returns : goal.returns
returns c = c.claim_local.ensures c.args.state
