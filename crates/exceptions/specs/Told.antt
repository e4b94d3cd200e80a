-- How a reply and a state given back stand to what an arm that touches no memory says: the reply, the whole state.
use Rattle.std.specs.Prelude.{◌≡◌}
use Rattle.model.specs.NoMemory.{Said}
use Rattle.model.specs.Numbers.{reply_of}
use Rattle.model.specs.declared.State.{State}
use Rattle.model.specs.declared.Reply.{Reply}

pub record Told (d : Said) (r : Reply) (t : State) : Type 0 where
  pub reply_is : r ≡ reply_of d.reply
  pub state_is : t ≡ d.state
