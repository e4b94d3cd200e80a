-- Theorem 11. The smallest example of each departure (docs/DIFFERENCES.md), computed: what the step leaves, and what Knuth's rule does.
use Rattle.std.specs.Prelude.{◌≡◌, ℕ, ◌+◌, ◌*◌, ◌^◌, Bool, true, false, ◌&&◌, List, [], ◌∷◌, ◌++◌, replicate, ◌==◌}
use Rattle.model.specs.Registers.{r_b, r_j, r_r, r_bb, r_o, r_s, r_t, r_k, r_g, r_l, r_a, r_y, r_z, r_ww, r_xx, stack_start, sp, fresh, masked, goes, halted, with_special, stored, r_c, r_i, r_u}
use Rattle.model.specs.Memory.{Windows, put_octa}
use Rattle.model.specs.Plan.{Outcome}
use Rattle.model.specs.Step.{step_of}
use Rattle.model.specs.Rules.{After, goes_on, interrupts, unsaved_general_rule, unsaved_special_rule, counted}
use Rattle.model.specs.StepRule.{step_rule}
use Rattle.model.specs.Bench.{start, stack_alone, same_state, same_windows}
use Rattle.model.specs.examples.ExceptionExamples.{trip_registers, all_shown_exceptions, exception_examples}
use Rattle.model.specs.declared.State.{State}

-- a step: what it leaves here, and in Knuth's machine
pub record Example : Type 0 where
  pub begin : State
  pub window : Windows
  pub op : ℕ
  pub x : ℕ
  pub y : ℕ
  pub z : ℕ
  pub reply : ℕ
  pub end : State
  pub left : Windows
  pub knuth_reply : ℕ
  pub knuth : After
  pub knuth_left : Windows

-- ---- what it is to be met

abbrev same_after : After → After → Bool
same_after (goes_on s) (goes_on t) = same_state s t
same_after (goes_on s) interrupts = false
same_after interrupts (goes_on t) = false
same_after interrupts interrupts = true

abbrev here : Example → Outcome State Windows → Bool
here e o = o.reply == e.reply && (same_state o.state e.end && same_windows o.memory e.left)

abbrev there : Example → Outcome After Windows → Bool
there e o = o.reply == e.knuth_reply && (same_after o.state e.knuth && same_windows o.memory e.knuth_left)

unfoldable pub shown : Example → Bool
shown e =
    here e (step_of e.window e.begin e.op e.x e.y e.z)
    && there e (step_rule e.window e.begin e.op e.x e.y e.z)

unfoldable pub all_shown : List Example → Bool
all_shown [] = true
all_shown (e ∷ es) = shown e && all_shown es

-- ---- the examples

abbrev zeros : ℕ → ℕ → Windows
zeros base n = stack_alone (record { base = base; bytes = replicate n 0 })

abbrev nowhere : Windows
nowhere = zeros stack_start 0

-- octabyte number k of a window at the stack's start becomes v
abbrev holding : Windows → ℕ → ℕ → Windows
holding w k v = put_octa w (stack_start + 8 * k) v

abbrev example : State → Windows → ℕ → ℕ → ℕ → ℕ → ℕ → State → Windows → After → Windows → Example
example s w op x y z r t v k u = record { begin = s; window = w; op = op; x = x; y = y; z = z; reply = r; end = t; left = v; knuth_reply = 0; knuth = k; knuth_left = u }

-- nothing is stored
abbrev plain : State → Windows → ℕ → ℕ → ℕ → ℕ → ℕ → State → After → Example
plain s w op x y z r t k = example s w op x y z r t w k w

-- refused here by a number from 7 to 18, and by an interrupt there
abbrev interrupted : State → ℕ → ℕ → ℕ → ℕ → ℕ → Example
interrupted s op x y z r = plain s nowhere op x y z r (halted s) interrupts

-- rO and rS
abbrev top_at : State → ℕ → ℕ → State
top_at s o e = with_special (with_special s r_o o) r_s e

-- rS moves with rO: PUSHJ $0
abbrev spill_example : Example
spill_example = plain start (zeros stack_start 8) 0xF2 0 0 1 0
    (goes (with_special (top_at start (stack_start + 8) (stack_start + 8)) r_j 4) 4) (goes_on (goes (with_special (top_at start (stack_start + 8) stack_start) r_j 4) 4))

-- the octabytes below and at the stack's start, all 0
abbrev around : Windows
around = zeros 0x5FFFFFFFFFFFFFF8 16

-- POP 0,0 without a frame, and with a misplaced rO
abbrev pop_examples : List Example
pop_examples =
    plain start around 0xF8 0 0 0 29 (halted start) (goes_on (top_at start 0x5FFFFFFFFFFFFFF8 stack_start))
    ∷ plain (with_special start r_o 0x6000000000000001) around 0xF8 0 0 0 12 (halted (with_special start r_o 0x6000000000000001))
    (goes_on (top_at start 0x5FFFFFFFFFFFFFF9 stack_start)) ∷ []

-- a marginal register that is not zero, rL 0 and $0 = 1: BNZ $0,0,5; PUSHJ $1
abbrev marginal_examples : List Example
marginal_examples =
    plain (stored start 0 1) nowhere 0x4A 0 0 5 0 (goes (stored start 0 1) 0x14) (goes_on (goes (stored start 0 1) 4))
    ∷ example (stored start 0 1) (zeros stack_start 16) 0xF2 1 0 1 0
    (goes (with_special (top_at start (stack_start + 16) (stack_start + 16)) r_j 4) 4) (holding (holding (zeros stack_start 16) 0 1) 1 1)
    (goes_on (goes (with_special (top_at start (stack_start + 16) stack_start) r_j 4) 4)) (holding (zeros stack_start 16) 1 1) ∷ []

-- GET $0,rL
abbrev get_example : Example
get_example = plain start nowhere 0xFE 0 0 20 0 (goes (with_special start r_l 1) 4) (goes_on (goes (stored (with_special start r_l 1) 0 1) 4))

-- a context of 15 octabytes at the stack's start, rG 255: rG and rA packed at the end, the local count first
abbrev context : ℕ → ℕ → Windows
context n a = holding (holding (zeros stack_start 120) 0 n) 14 (255 * 2 ^ 56 + a)

abbrev last : ℕ
last = stack_start + 112

-- UNSAVE $255 where $255 is p
abbrev unsaving : Windows → ℕ → ℕ → State → State → Example
unsaving w p r t k = plain (stored start 255 p) w 0xFB 0 0 255 r t (goes_on k)

abbrev unsave_examples : List Example
unsave_examples =
    -- a saved rA of 0x40000: 15
    unsaving (context 0 0x40000) last 15 (halted (stored start 255 last)) (goes (with_special start r_g 255) 4)
    -- a local count of 256: 16
    ∷ unsaving (context 256 0) last 16 (halted (stored start 255 last)) (goes (with_special start r_g 255) 4)
    -- the address's low bits
    ∷ unsaving (context 0 0) (last + 1) 0 (goes (top_at (with_special start r_g 255) (stack_start + 1) (stack_start + 1)) 4) (goes (with_special start r_g 255) 4) ∷ []

-- a packed octabyte 0: 14; Knuth's UNSAVE goes on to the count, which is not in this window
abbrev threshold_example : Example
threshold_example = record {
  begin = stored start 255 stack_start;
  window = zeros stack_start 8;
  op = 0xFB;
  x = 0;
  y = 0;
  z = 255;
  reply = 14;
  end = halted (stored start 255 stack_start);
  left = zeros stack_start 8;
  knuth_reply = 6;
  knuth = goes_on (stored start 255 stack_start);
  knuth_left = zeros stack_start 8;
}

-- bytes that Knuth wants to be zero: SAVE $255,1,0; SAVE $255,0,1; PUT and GET with Y, UNSAVE with X and with Y
abbrev saving : State
saving = with_special start r_g 255

abbrev save_example : ℕ → ℕ → Example
save_example y z = example saving (zeros stack_start 120) 0xFA 255 y z 0
    (goes (top_at (stored saving 255 last) (stack_start + 120) (stack_start + 120)) 4) (context 0 0) interrupts (zeros stack_start 120)

abbrev byte_examples : List Example
byte_examples =
    save_example 1 0
    ∷ save_example 0 1
    ∷ plain start nowhere 0xF7 0 1 0 0 (goes start 4) interrupts
    ∷ plain start nowhere 0xF6 0 1 0 0 (goes start 4) interrupts
    ∷ plain start nowhere 0xFE 255 1 0 0 (goes start 4) interrupts
    ∷ plain start nowhere 0xFB 1 0 255 6 start interrupts
    ∷ plain start nowhere 0xFB 0 1 255 6 start interrupts ∷ []

-- numbers where Knuth interrupts: PUT 32, rC, rN, rG of 31, rA of 0x40000; SAVE $0; SYNC 4 and 8; GET 32
abbrev interrupt_examples : List Example
interrupt_examples =
    interrupted start 0xF7 32 0 0 7
    ∷ interrupted start 0xF7 8 0 0 8
    ∷ interrupted start 0xF7 9 0 0 9
    ∷ interrupted start 0xF7 19 0 31 10
    ∷ interrupted (stored start 255 0x40000) 0xF6 21 0 255 11
    ∷ interrupted start 0xFA 0 0 0 13
    ∷ interrupted start 0xFC 0 0 4 17
    ∷ interrupted start 0xFC 0 0 8 18
    ∷ plain start nowhere 0xFE 255 0 32 5 start interrupts ∷ []

-- GET $255,rN with rN hidden; PUT rBB,1 with rBB hidden
abbrev hidden_examples : List Example
hidden_examples =
    plain (masked start 0x200) nowhere 0xFE 255 0 9 31 (halted (masked start 0x200)) (goes_on (goes (stored (masked start 0x200) 255 2009) 4))
    ∷ plain (masked start 0x80) nowhere 0xF7 7 0 1 31 (halted (masked start 0x80)) (goes_on (goes (with_special (masked start 0x80) r_bb 1) 4)) ∷ []

-- TRIP 0,0,0 with no vector loaded; TRAP 1,0,0 and the named TRAP 0,0,0
abbrev trap_registers : State → ℕ → State
trap_registers s word = with_special (with_special s r_ww 4) r_xx (2 ^ 63 + word)

abbrev handled : ℕ → State
handled word = goes (with_special (trap_registers start word) r_k 0) (sp start r_t)

abbrev trip_examples : List Example
trip_examples =
    plain fresh nowhere 0xFF 0 0 0 19 (halted (trip_registers fresh 0xFF000000)) (goes_on (trip_registers fresh 0xFF000000))
    ∷ plain start nowhere 0 1 0 0 20 (halted (trap_registers start 0x010000)) (goes_on (handled 0x010000))
    ∷ plain start nowhere 0 0 0 0 4 start (goes_on (handled 0)) ∷ []

-- loads and stores: LDO and STO at 2^63; STO of a marginal $0 = 1; STB of 128 with V enabled and no vector loaded; the same at an address with low bits, its
-- vector loaded, where rY keeps them in both
abbrev kernel : State
kernel = stored start 255 (2 ^ 63)

abbrev overflowing : State → ℕ → State
overflowing s a = stored (stored (with_special s r_a 0x4000) 254 0x80) 255 a

abbrev overflown : State → ℕ → State
overflown s a = with_special (with_special (trip_registers (with_special (stored (overflowing s a) 255 0) r_b a) 0xA1FEFF00) r_y a) r_z 0x80

abbrev load_store_examples : List Example
load_store_examples =
    plain kernel (zeros (2 ^ 63) 8) 0x8D 255 255 0 0 (goes (stored kernel 255 0) 4) interrupts
    ∷ plain kernel (zeros (2 ^ 63) 8) 0xAD 254 255 0 0 (goes kernel 4) interrupts
    ∷ example (stored (stored start 0 1) 255 stack_start) (zeros stack_start 8) 0xAD 0 255 0 0
    (goes (stored (stored start 0 1) 255 stack_start) 4) (holding (zeros stack_start 8) 0 1)
    (goes_on (goes (stored (stored start 0 1) 255 stack_start) 4)) (zeros stack_start 8)
    ∷ example (overflowing fresh stack_start) (zeros stack_start 8) 0xA1 254 255 0 19 (halted (overflown fresh stack_start)) (holding (zeros stack_start 8) 0 (2 ^ 63))
    (goes_on (goes (overflown fresh stack_start) 0x20)) (holding (zeros stack_start 8) 0 (2 ^ 63))
    ∷ example (overflowing start (stack_start + 1)) (zeros stack_start 8) 0xA1 254 255 0 0 (goes (overflown start (stack_start + 1)) 0x20) (holding (zeros stack_start 8) 0 (2 ^ 55))
    (goes_on (goes (overflown start (stack_start + 1)) 0x20)) (holding (zeros stack_start 8) 0 (2 ^ 55)) ∷ []

-- arithmetic: DIV $254 by 0 with D enabled and no vector loaded
abbrev dividing : ℕ → State
dividing u = stored (with_special fresh r_a 0x8000) 254 u

abbrev checked : State
checked = with_special (with_special (trip_registers (dividing 0) 0x1DFEFE00) r_y 5) r_r 5

abbrev arithmetic_example : Example
arithmetic_example = plain (dividing 5) nowhere 0x1D 254 254 0 19 (halted checked) (goes_on (goes checked 0x10))

unfoldable pub examples : List Example
examples =
    spill_example ∷ get_example ∷ threshold_example ∷ arithmetic_example
    ∷ (pop_examples ++ (marginal_examples ++ (unsave_examples ++ (byte_examples ++ (interrupt_examples ++ (hidden_examples ++ (trip_examples ++ load_store_examples)))))))

-- Knuth's UNSAVE with more locals than rG, two where rG is 1, and with fewer: rL is cut to rG, and globals follow all that was saved
abbrev saves : List ℕ
saves = 10 ∷ 11 ∷ 12 ∷ 13 ∷ []

unfoldable pub cut_examples : Bool
cut_examples =
    (unsaved_general_rule 1 2 saves 0 == 10) && (unsaved_general_rule 1 2 saves 1 == 13 && (unsaved_general_rule 3 1 saves 0 == 10
    && (unsaved_general_rule 3 1 saves 1 == 0 && (unsaved_general_rule 3 1 saves 2 == 0 && (unsaved_general_rule 3 1 saves 3 == 12
    && (unsaved_special_rule start 0 1 0 2 saves r_l == 1 && (unsaved_special_rule start 0 3 0 2 saves r_l == 2
    && unsaved_special_rule start 7 3 5 2 saves r_a == 5)))))))

-- the counters wrap: a cycle, a use and an interval of 2^64 + 1 where rC and rU are at their last value and rI is 0
unfoldable pub count_example : Bool
count_example = same_state
    (counted 1 1 (2 ^ 64 + 1) (with_special (with_special start r_c 0xFFFFFFFFFFFFFFFF) r_u 0xFFFFFFFFFFFFFFFF))
    (with_special start r_i 0xFFFFFFFFFFFFFFFF)
    && same_state (counted 3 5 7 start) (with_special (with_special (with_special start r_c 3) r_u 5) r_i 0xFFFFFFFFFFFFFFF9)

abbrev pub ExamplesShown : Type 0
ExamplesShown = (all_shown examples ≡ true) × (all_shown_exceptions exception_examples ≡ true) × (cut_examples ≡ true) × (count_example ≡ true)
