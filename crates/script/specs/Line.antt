-- What a line of a script says. 01: "one bracketed form a line"; "Numbers in and out are lower-case hexadecimal, no leading zeros";
-- "Spacing is as shown"; "a bad line, or a number too wide for its field".
use Rattle.std.specs.Prelude.{Option, None, Some, ℕ, ◌<◌, ◌^◌, ◌≡◌, Bool, false, cond, ◌&&◌, ◌||◌, not, List, [], ◌∷◌, leb, ltb, eqb, length, get_or, drop}
use Rattle.text.specs.Digits.{digit_of, number_of}
use Rattle.text.specs.Codes.{codes}
use Rattle.text.specs.Text.{hex_mark, filled}
use Rattle.script.specs.declared.line.Form.{Form}
use Rattle.script.specs.declared.line.Form.TheVariants.{Register, Special, Step}
use Rattle.script.specs.declared.line.Setting.{Setting}
use Rattle.model.specs.declared.Instruction.{Instruction}

-- ---- the three forms

unfoldable pub register_line : List ℕ
register_line = codes "(set (reg #) #)"

unfoldable pub special_line : List ℕ
special_line = codes "(set (special #) #)"

unfoldable pub step_line : List ℕ
step_line = codes "(step (# # # #))"

-- ---- a number

-- the digits at the front
unfoldable pub digits_at : List ℕ → List ℕ
digits_at [] = []
digits_at (b ∷ l) = cond (ltb (digit_of b) 16) (digit_of b ∷ digits_at l) []

-- 1 to 16 of them, of which the first is not 0 unless it is alone
unfoldable pub is_number : List ℕ → Bool
is_number ds = ltb 0 (length ds) && (leb (length ds) 16 && (eqb (length ds) 1 || not (eqb (get_or ds 0 0) 0)))

-- ---- a line held against a pattern: the numbers at its marks

abbrev pub starts_with : ℕ → List ℕ → Bool
starts_with c [] = false
starts_with c (b ∷ l) = eqb b c

abbrev pub before : ℕ → Option (List ℕ) → Option (List ℕ)
before v None = None
before v (Some vs) = Some (v ∷ vs)

unfoldable pub matched : List ℕ → List ℕ → Option (List ℕ)
matched [] [] = Some []
matched [] (b ∷ l) = None
matched (c ∷ p) l =
    cond (eqb c hex_mark)
    (cond (is_number (digits_at l)) (before (number_of 0 (digits_at l)) (matched p (drop (length (digits_at l)) l))) None)
    (cond (starts_with c l) (matched p (drop 1 l)) None)

-- ---- the form

abbrev setting : List ℕ → Setting
setting vs = record { index = get_or vs 0 0; value = get_or vs 1 0 }

abbrev instruction : List ℕ → Instruction
instruction vs = record { op = get_or vs 0 0; x = get_or vs 1 0; y = get_or vs 2 0; z = get_or vs 3 0 }

-- a register's number is a byte
unfoldable pub register_form : List ℕ → Option Form
register_form vs = cond (ltb (get_or vs 0 0) 256) (Some (Register (setting vs))) None

-- "`special` (up to 1f)"
unfoldable pub special_form : List ℕ → Option Form
special_form vs = cond (ltb (get_or vs 0 0) 32) (Some (Special (setting vs))) None

unfoldable pub step_form : List ℕ → Option Form
step_form vs =
    cond (ltb (get_or vs 0 0) 256 && (ltb (get_or vs 1 0) 256 && (ltb (get_or vs 2 0) 256 && ltb (get_or vs 3 0) 256))) (Some (Step (instruction vs))) None

abbrev pub or_else : Option (List ℕ) → (List ℕ → Option Form) → Option Form → Option Form
or_else None f e = e
or_else (Some vs) f e = f vs

-- THE form of a line, its newline left out; none where it is bad
unfoldable pub line_of : List ℕ → Option Form
line_of l = or_else (matched register_line l) register_form (or_else (matched special_line l) special_form (or_else (matched step_line l) step_form None))

-- ---- the same from the other side: the one text of a form

unfoldable pub text_of : Form → List ℕ
text_of (Register a) = filled register_line (a.index ∷ a.value ∷ [])
text_of (Special a) = filled special_line (a.index ∷ a.value ∷ [])
text_of (Step i) = filled step_line (i.op ∷ i.x ∷ i.y ∷ i.z ∷ [])

-- its numbers fit their fields
unfoldable pub FormFits : Form → Type 0
FormFits (Register a) = (a.index < 256) × (a.value < 2 ^ 64)
FormFits (Special a) = (a.index < 32) × (a.value < 2 ^ 64)
FormFits (Step i) = (i.op < 256) × (i.x < 256) × (i.y < 256) × (i.z < 256)

-- THEOREM: a line of the grammar is read as what it says, and nothing else is accepted
pub record Grammar : Type 0 where
  pub read : (f : Form) → FormFits f → line_of (text_of f) ≡ Some f
  pub nothing_else : (l : List ℕ) (f : Form) → line_of l ≡ Some f → FormFits f × (text_of f ≡ l)
