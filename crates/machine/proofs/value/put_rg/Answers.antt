-- `put_rg` of a state meets its contract: the state made anew is the one whose registers were lent.
use Rattle.machine.proofs.value.put_rg.Goals as goal

pub returns : goal.returns
returns c = c.put_rg.ensures c.args.state
