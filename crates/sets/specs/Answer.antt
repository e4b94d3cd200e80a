-- What a set answers as code has it: nothing, or why it is refused and the place of the first pair that fails.
use Rattle.std.specs.Prelude.{ℕ, ◌≡◌, ◌≢◌, Result, Ok, Err}
use Rattle.model.specs.Numbers.{number_of, reply_of}
use Rattle.sets.specs.declared.Failed.{Failed}
use Rattle.sets.specs.Judged.{Judgement}

abbrev pub Answer : Type 0
Answer = Result (Unit {0}) Failed

-- its number and its place
abbrev pub number_in : Answer → ℕ
number_in (Ok u) = 0
number_in (Err f) = number_of f.reply

abbrev pub place_in : Answer → ℕ
place_in (Ok u) = 0
place_in (Err f) = f.place

-- what judging says
abbrev pub Judged : Judgement → Answer → Type 0
Judged j (Ok u) = j.reply ≡ 0
Judged j (Err f) = (f.reply ≡ reply_of j.reply) × (j.reply ≢ 0) × (f.place ≡ j.place)
