-- What a script prints. 01: "a refused step prints its line and ends; a bad line [..] prints `(bad N)`, N its line from 1, and ends.
-- A longer script prints only `(bad 0)`."
use Rattle.std.specs.Prelude.{Option, None, Some, ℕ, suc, ◌+◌, ◌*◌, ◌≤◌, ◌<◌, ◌≡◌, Bool, true, false, cond, List, [], ◌∷◌, ◌++◌, leb, eqb, length, replicate, take}
use Rattle.model.specs.Registers.{r_g, r_l, r_o, sp, stack_start, set_register, with_special}
use Rattle.model.specs.Memory.{Windows}
use Rattle.model.specs.Parts.{lent}
use Rattle.model.specs.declared.Bases.{Bases}
use Rattle.model.specs.Plan.{Outcome}
use Rattle.model.specs.Step.{step_of}
use Rattle.model.specs.Bench.{start}
use Rattle.model.specs.declared.State.{State}
use Rattle.text.specs.Codes.{codes}
use Rattle.text.specs.Text.{filled, bad_text}
use Rattle.text.specs.Pieces.{pieces}
use Rattle.script.specs.Line.{line_of}
use Rattle.script.specs.declared.line.Form.{Form}
use Rattle.script.specs.declared.line.Form.TheVariants.{Register, Special, Step}
use Rattle.model.specs.declared.Instruction.{Instruction}

-- ---- what is printed

unfoldable pub done_line : List ℕ
done_line = codes "(# # # # (done) (pc #) (rG #) (rL #) (rO #))\n"

unfoldable pub refused_line : List ℕ
refused_line = codes "(# # # # (refused %) (pc #) (rG #) (rL #) (rO #))\n"

-- "opcode, X, Y, Z, reply (`(done)` or `(refused N)`), PC, rG, rL, rO"
unfoldable pub step_text : Instruction → ℕ → State → List ℕ
step_text i n s =
    cond (eqb n 0)
    (filled done_line (i.op ∷ i.x ∷ i.y ∷ i.z ∷ s.pc ∷ sp s r_g ∷ sp s r_l ∷ sp s r_o ∷ []))
    (filled refused_line (i.op ∷ i.x ∷ i.y ∷ i.z ∷ n ∷ s.pc ∷ sp s r_g ∷ sp s r_l ∷ sp s r_o ∷ []))

-- ---- one line

-- what it prints, whether the script goes on, and the machine after it
pub record Turn : Type 0 where
  pub text : List ℕ
  pub goes_on : Bool
  pub state : State
  pub windows : Windows

abbrev turn : List ℕ → Bool → State → Windows → Turn
turn t b s w = record { text = t; goes_on = b; state = s; windows = w }

abbrev step_turn : Instruction → Outcome State Windows → Turn
step_turn i o = turn (step_text i o.reply o.state) (eqb o.reply 0) o.state o.memory

-- "`reg` is written as by `set_register`, `special` (up to 1f) directly"; n is the line's number
unfoldable pub form_turn : ℕ → State → Windows → Option Form → Turn
form_turn n s w (Some (Register a)) = turn [] true (set_register s a.index a.value) w
form_turn n s w (Some (Special a)) = turn [] true (with_special s a.index a.value) w
form_turn n s w (Some (Step i)) = step_turn i (step_of w s i.op i.x i.y i.z)
form_turn n s w None = turn (bad_text n) false s w

-- ---- a whole script

-- from line n on; "a newline ends each line", so what follows the last one is bad unless it is nothing
unfoldable pub carried : ℕ → State → Windows → List (List ℕ) → List ℕ
carried n s w [] = []
carried n s w (p ∷ []) = cond (eqb (length p) 0) [] (bad_text n)
carried n s w (p ∷ q ∷ ps) =
    (form_turn n s w (line_of p)).text
    ++ cond (form_turn n s w (line_of p)).goes_on (carried (suc n) (form_turn n s w (line_of p)).state (form_turn n s w (line_of p)).windows (q ∷ ps)) []

-- "window base 0x6000000000000000 and 2,048 bytes, all 0", and 02: "The bench program's A is 2,048 zero bytes at 0"; the start is that of the bench points
abbrev pub bases : Bases
bases = record { a = 0; b = stack_start }

unfoldable pub windows : Windows
windows = lent bases (replicate 2048 0) (replicate 2048 0)

-- "at most 65,536 bytes of script"
abbrev pub script_most : ℕ
script_most = 65536

-- THE text that a script prints
unfoldable pub printed : List ℕ → List ℕ
printed l = cond (leb (length l) script_most) (carried 1 start windows (pieces l)) (bad_text 0)

-- a buffer for a script has a byte more than the longest one, so that a longer one is seen to be longer
abbrev pub input_length : ℕ
input_length = script_most + 1

-- one for what is printed
abbrev pub output_length : ℕ
output_length = 12 * script_most + 27

-- THEOREM: how long the text can be
pub record Bounded : Type 0 where
  pub by_length : (l : List ℕ) → length (printed l) ≤ 12 * length l + 27
  pub of_any : (l : List ℕ) → length (printed l) ≤ output_length

-- THEOREM: of any script its first n bytes tell all, where n is above the longest script's length
abbrev pub FrontTells : Type 0
FrontTells = (l : List ℕ) (n : ℕ) → script_most < n → printed (take n l) ≡ printed l

-- THEOREM: both lengths in bytes, of "at most 65,536 bytes"
abbrev pub BufferLengths : Type 0
BufferLengths = (input_length ≡ 65537) × (output_length ≡ 786459)

-- THEOREM: 01's sample
unfoldable pub sample : List ℕ
sample = codes "(set (reg 0) 7)\n(set (reg 1) 9)\n(step (f2 1 0 5))\n(step (f8 0 0 0))\n"

unfoldable pub sample_text : List ℕ
sample_text = codes "(f2 1 0 5 (done) (pc 14) (rG 20) (rL 0) (rO 6000000000000010))\n(f8 0 0 0 (done) (pc 4) (rG 20) (rL 1) (rO 6000000000000000))\n"

abbrev pub SamplePrinted : Type 0
SamplePrinted = printed sample ≡ sample_text
