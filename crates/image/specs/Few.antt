-- What is loaded of the general registers for a step that touches few of them: Few of model has the law.
use Rattle.std.specs.Prelude.{ℕ, Bool, cond, List, get_or, set}
use Rattle.model.specs.Few.{joined}
use Rattle.model.specs.declared.State.{State}

-- the list zs with $x, $y, $z and $255 of the general registers gs
abbrev pub few_of : List ℕ → ℕ → ℕ → ℕ → List ℕ → List ℕ
few_of gs x y z zs = set (set (set (set zs x (get_or gs x 0)) y (get_or gs y 0)) z (get_or gs z 0)) 255 (get_or gs 255 0)

-- these, or all general registers
abbrev pub touched_of : Bool → List ℕ → ℕ → ℕ → ℕ → List ℕ → List ℕ
touched_of few gs x y z zs = cond few (few_of gs x y z zs) gs

-- s after a step that left t: where few were loaded, the rest of the general registers is that of s
abbrev pub left_of : Bool → State → ℕ → State → State
left_of few s x t = cond few (joined s x t) t
