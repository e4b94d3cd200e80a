-- `put_rl` of a state meets its contract: the state made anew is the one whose registers were lent.
use Rattle.machine.proofs.value.put_rl.Goals as goal

pub returns : goal.returns
returns c = c.put_rl.ensures c.args.state
