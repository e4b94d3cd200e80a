-- A state and the two windows as code lends them: two arrays and four numbers; two slices and their bases.
use Rattle.std.specs.Prelude.{ℕ, List}
use Rattle.model.specs.Memory.{Windows}
use Rattle.model.specs.declared.Bases.{Bases}
use Rattle.model.specs.declared.State.{State}

abbrev pub made : List ℕ → List ℕ → ℕ → ℕ → ℕ → ℕ → State
made general special pc halt marks mask = record { general = general; special = special; pc = pc; halt = halt; marks = marks; mask = mask }

abbrev pub lent : Bases → List ℕ → List ℕ → Windows
lent at a b = record { a = record { base = at.a; bytes = a }; b = record { base = at.b; bytes = b } }
