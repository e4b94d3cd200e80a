-- How a reply, a state and the windows given back stand to an outcome of the model: the reply, the whole state, every byte; of a run the count too.
use Rattle.std.specs.Prelude.{◌≡◌, ℕ}
use Rattle.model.specs.Memory.{Windows}
use Rattle.model.specs.Plan.{Outcome}
use Rattle.model.specs.Run.{Stopped}
use Rattle.model.specs.declared.State.{State}

-- the outcome o, whole, by the reply's number
pub record Numbered (o : Outcome State Windows) (n : ℕ) (t : State) (v : Windows) : Type 0 where
  pub reply_is : n ≡ o.reply
  pub state_is : t ≡ o.state
  pub window_is : v ≡ o.memory

pub record RunNumbered (o : Stopped State Windows) (n k : ℕ) (t : State) (v : Windows) : Type 0 where
  pub reply_is : n ≡ o.reply
  pub count_is : k ≡ o.done
  pub state_is : t ≡ o.state
  pub window_is : v ≡ o.memory
