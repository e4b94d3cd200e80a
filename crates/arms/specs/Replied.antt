-- How a reply, a state and the windows given back stand to an outcome of the model: the reply, the whole state, every byte.
use Rattle.std.specs.Prelude.{◌≡◌}
use Rattle.model.specs.Memory.{Windows}
use Rattle.model.specs.Plan.{Outcome}
use Rattle.model.specs.Numbers.{reply_of}
use Rattle.model.specs.declared.State.{State}
use Rattle.model.specs.declared.Reply.{Reply}

pub record Replied (o : Outcome State Windows) (r : Reply) (t : State) (v : Windows) : Type 0 where
  pub reply_is : r ≡ reply_of o.reply
  pub state_is : t ≡ o.state
  pub window_is : v ≡ o.memory
