-- What the program makes of what it has read. Nothing says which bytes a read puts into a buffer, so this is of every script whose front
-- they are.
use Rattle.std.specs.Prelude.{Result, Ok, Err, ℕ, ◌≤◌, ◌<◌, ◌≡◌, List, length, take}
use Rattle.script.specs.Script.{script_most, output_length, printed}

-- a number of bytes read lies within the buffer
abbrev pub ReadWithin : {E : Type 0} → Result ℕ E → List ℕ → Type 0
ReadWithin (Ok got) buffer = got ≤ length buffer
ReadWithin (Err error) buffer = Unit {0}

-- what a read leaves that goes on after the first `done` bytes of a buffer: these stay, and what is read lies after them
abbrev pub Joins : {E : Type 0} → List ℕ → ℕ → List ℕ → Result ℕ E → Type 0
Joins buffer done after (Ok next) = (take done after ≡ take done buffer) × (done ≤ next) × (next ≤ length after)
Joins buffer done after (Err error) = take done after ≡ take done buffer

-- a buffer longer than the longest script, a number of bytes read into it, and a buffer with room for the longest text
pub record Roomy (input : List ℕ) (got : ℕ) (output : List ℕ) : Type 0 where
  pub longer : script_most < length input
  pub held : got ≤ length input
  pub long : output_length ≤ length output

-- the first n bytes of the output are what the script l prints, where the bytes read are as much of l as the input holds
pub record Answers (input : List ℕ) (got : ℕ) (output : List ℕ) (n : ℕ) : Type 0 where
  pub fits : n ≤ length output
  pub text_is : (l : List ℕ) → take got input ≡ take (length input) l → take n output ≡ printed l
