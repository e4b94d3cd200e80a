-- `put_special` of a state meets its contract: the state made anew is the one whose registers were lent.
use Rattle.machine.proofs.value.put_special.Goals as goal

pub returns : goal.returns
returns c = c.put_special-reply.ensures c.args.state
