-- The split, by induction over the first part.
use Rattle.model.proofs.Logic.{suc, ℕ, append_assoc, List, [], ◌++◌, ◌∷◌, ap, refl, sym, ◌∙◌, ◌≡◌, get_or, length}
use Rattle.model.specs.Memory.{Store, both}
use Rattle.model.specs.Lists.{Machine, step_on, runs, run_needs_by}
use Rattle.model.specs.Step.{mmix}
use Rattle.model.proofs.Lists.{runs_append}
use Rattle.model.specs.Split.{Splits, ListsSplit}

module _ {M Sh S I : Type 0} (st : Store M Sh) (mc : Machine S I Sh) where
  pub needs_append : (f : S → M → I → List ℕ) (is js : List I) (s : S) (m : M)
      → run_needs_by st mc f s m (is ++ js) ≡ run_needs_by st mc f s m is ++ run_needs_by st mc f (runs st mc s m is).state (runs st mc s m is).memory js
  unfolding run_needs_by runs
  needs_append f [] js s m = refl
  needs_append f (i ∷ is) js s m =
      ap (λ (l : List ℕ). f s m i ++ l) (needs_append f is js (step_on st mc s m i).state (step_on st mc s m i).memory) ∙ sym (append_assoc (f s m i) _ _)

  answers_many : (is : List I) (s : S) (m : M) → length (runs st mc s m is).answers ≡ length is
  unfolding runs
  answers_many [] s m = refl
  answers_many (i ∷ is) s m = ap suc (answers_many is (step_on st mc s m i).state (step_on st mc s m i).memory)

  answer_at : (is : List I) (s : S) (m : M) (i : I) (js : List I) (d : ℕ)
      → get_or (runs st mc s m (is ++ (i ∷ js))).answers (length is) d ≡ (step_on st mc (runs st mc s m is).state (runs st mc s m is).memory i).reply
  unfolding runs
  answer_at [] s m i js d = refl
  answer_at (k ∷ is) s m i js d = answer_at is (step_on st mc s m k).state (step_on st mc s m k).memory i js d

pub splits : {M Sh S I : Type 0} (st : Store M Sh) (mc : Machine S I Sh) → Splits st mc
splits st mc = record {
  list_splits = λ s m is js. runs_append st mc is js s m;
  needs_split = λ f s m is js. needs_append st mc f is js s m;
  answers_many = λ s m is. answers_many st mc is s m;
  answer_at = λ s m is i js d. answer_at st mc is s m i js d;
}

pub lists_split : ListsSplit
lists_split = splits both mmix
