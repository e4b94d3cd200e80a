-- What put_special answers: the number of 01 by its reply, and the state with the special put where that is done.
use Rattle.std.specs.Prelude.{ℕ, ◌≡◌, cond, eqb}
use Rattle.model.specs.System.{put_refusal, put_state}
use Rattle.model.specs.Numbers.{reply_of}
use Rattle.model.specs.declared.State.{State}
use Rattle.model.specs.declared.Reply.{Reply}

pub record PutGives (s : State) (x value : ℕ) (r : Reply) (t : State) : Type 0 where
  pub reply_is : r ≡ reply_of (put_refusal s x value)
  pub state_is : t ≡ cond (eqb (put_refusal s x value) 0) (put_state s x value) s
