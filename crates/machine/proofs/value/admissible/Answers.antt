-- `admissible` of a state meets its contract: it is that of the state's own registers.
use Rattle.machine.proofs.value.admissible.Goals as goal

pub returns : goal.returns
returns c = let s = c.args.state in c.admissible.ensures s.general s.pc s.halt
