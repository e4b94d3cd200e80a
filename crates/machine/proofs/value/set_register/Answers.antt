-- `set_register` of a state meets its contract: the state made anew is the one whose registers were lent.
use Rattle.machine.proofs.value.set_register.Goals as goal

pub returns : goal.returns
returns c = c.set_register.ensures c.args.state
