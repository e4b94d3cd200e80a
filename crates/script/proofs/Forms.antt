-- Laws of the three forms: their patterns, computed; the form of a line by the pattern that it matches.
use Rattle.model.proofs.Prelude.{ℕ, true, List, refl, ◌≡◌, within}
use Rattle.script.proofs.Prelude.{None, Some, codes, digit_of}
use Rattle.script.specs.Line.{register_line, special_line, step_line, matched, register_form, special_form, step_form, line_of}
use Rattle.script.specs.Reading.{marks}
use Rattle.script.proofs.Matching.{ends, clear}

-- ---- the patterns

pub register_clear : clear register_line ≡ true
unfolding register_line codes ends clear digit_of within
register_clear = refl

pub special_clear : clear special_line ≡ true
unfolding special_line codes ends clear digit_of within
special_clear = refl

pub step_clear : clear step_line ≡ true
unfolding step_line codes ends clear digit_of within
step_clear = refl

pub register_marks : marks register_line ≡ 2
unfolding register_line codes marks
register_marks = refl

pub special_marks : marks special_line ≡ 2
unfolding special_line codes marks
special_marks = refl

pub step_marks : marks step_line ≡ 4
unfolding step_line codes marks
step_marks = refl

-- ---- the form of a line

module _ (l : List ℕ) where
  pub line_register : (vs : List ℕ) → matched register_line l ≡ Some vs → line_of l ≡ register_form vs
  unfolding line_of
  line_register vs a = rw a

  pub line_special : (vs : List ℕ) → matched register_line l ≡ None → matched special_line l ≡ Some vs → line_of l ≡ special_form vs
  unfolding line_of
  line_special vs a b = rw (a, b)

  pub line_step : (vs : List ℕ) → matched register_line l ≡ None → matched special_line l ≡ None → matched step_line l ≡ Some vs → line_of l ≡ step_form vs
  unfolding line_of
  line_step vs a b c = rw (a, b, c)

  pub line_bad : matched register_line l ≡ None → matched special_line l ≡ None → matched step_line l ≡ None → line_of l ≡ None
  unfolding line_of
  line_bad a b c = rw (a, b, c)
