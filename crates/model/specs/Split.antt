-- Theorem. What a list leaves is what its second part leaves after its first; so are its needs, and it has an answer for each item.
use Rattle.std.specs.Prelude.{◌≡◌, ℕ, List, ◌∷◌, ◌++◌, length, slice_index_or}
use Rattle.model.specs.Memory.{Store, both}
use Rattle.model.specs.Lists.{Machine, Ran, step_on, runs, run_needs_by}
use Rattle.model.specs.Step.{mmix}

-- b after a
abbrev pub joined : {S M : Type 0} → Ran S M → Ran S M → Ran S M
joined a b = record { answers = a.answers ++ b.answers; state = b.state; memory = b.memory }

pub record Splits {M Sh S I : Type 0} (st : Store M Sh) (mc : Machine S I Sh) : Type 0 where
  pub list_splits : (s : S) (m : M) (is js : List I)
      → runs st mc s m (is ++ js) ≡ joined (runs st mc s m is) (runs st mc (runs st mc s m is).state (runs st mc s m is).memory js)
  pub needs_split : (f : S → M → I → List ℕ) (s : S) (m : M) (is js : List I)
      → run_needs_by st mc f s m (is ++ js) ≡ run_needs_by st mc f s m is ++ run_needs_by st mc f (runs st mc s m is).state (runs st mc s m is).memory js
  -- an answer for each item; that to the item after is
  pub answers_many : (s : S) (m : M) (is : List I) → length (runs st mc s m is).answers ≡ length is
  pub answer_at : (s : S) (m : M) (is : List I) (i : I) (js : List I) (d : ℕ)
      → slice_index_or (runs st mc s m (is ++ (i ∷ js))).answers (length is) d ≡ (step_on st mc (runs st mc s m is).state (runs st mc s m is).memory i).reply

-- of 01's machine; of several tasks: crate task_model
abbrev pub ListsSplit : Type 0
ListsSplit = Splits both mmix
