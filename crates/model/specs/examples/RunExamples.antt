-- Theorem. Runs, computed: a program of a loop, a call and a return under each grant, its stack in the other window; PC with low bits; where a run stops;
-- what a claim changes, and what a refusal gives back.
use Rattle.std.specs.Prelude.{◌≡◌, ℕ, ◌+◌, ◌*◌, ◌/◌, ◌%◌, ◌^◌, Bool, true, not, ◌&&◌, List, [], ◌∷◌, ◌++◌, ◌==◌}
use Rattle.model.specs.Octa.{bytes_of}
use Rattle.model.specs.Memory.{Windows}
use Rattle.model.specs.Registers.{r_j, r_o, r_s, r_g, r_l, r_a, r_w, r_x, r_ww, r_xx, r_zz, stack_start, goes, halted, with_special, stored}
use Rattle.model.specs.Step.{claims, opcode_in, x_in, y_in, z_in, step}
use Rattle.model.specs.Run.{Stopped, run_of}
use Rattle.model.specs.Bench.{Point, all_met, same_state, same_windows, start}
use Rattle.model.specs.declared.State.{State}

-- a start, a grant, and all that is there afterwards: count and reply, the whole state and the whole of both windows
pub record RunExample : Type 0 where
  pub begin : State
  pub window : Windows
  pub grant : ℕ
  pub done : ℕ
  pub reply : ℕ
  pub end : State
  pub left : Windows

unfoldable pub stops : RunExample → Stopped State Windows → Bool
stops c r = r.done == c.done && (r.reply == c.reply && (same_state r.state c.end && same_windows r.memory c.left))

unfoldable pub all_stop : List RunExample → Bool
all_stop [] = true
all_stop (c ∷ cs) = stops c (run_of c.window c.begin c.grant) && all_stop cs

abbrev example : State → Windows → ℕ → ℕ → ℕ → State → Windows → RunExample
example s w g n r t v = record { begin = s; window = w; grant = g; done = n; reply = r; end = t; left = v }

-- the bytes of some tetras, and of some octabytes
abbrev tetras : List ℕ → List ℕ
tetras [] = []
tetras (t ∷ ts) = t / 2 ^ 24 % 256 ∷ t / 2 ^ 16 % 256 ∷ t / 2 ^ 8 % 256 ∷ t % 256 ∷ tetras ts

abbrev octas : List ℕ → List ℕ
octas [] = []
octas (v ∷ vs) = bytes_of v ++ octas vs

-- a program from 0 in A, its stack in B
abbrev loaded : List ℕ → List ℕ → Windows
loaded ts vs = record { a = record { base = 0; bytes = tetras ts }; b = record { base = stack_start; bytes = octas vs } }

-- rO and rS are k octabytes up the stack
abbrev grown : State → ℕ → State
grown s k = with_special (with_special s r_o (stack_start + 8 * k)) r_s (stack_start + 8 * k)

-- ---- a loop, a call and a return: $0 counts from 2 down to 0, $1 is what the routine gives
--  0  ADDU $0,$32,2       8  SUBU $0,$0,1    10  TRAP 0,0,0     18  POP 1,0
--  4  PUSHJ $1,#14        C  PBNZ $0,#4      14  ADDU $0,$32,5
abbrev looping : List ℕ → Windows
looping vs = loaded (0x23002002 ∷ 0xF2010004 ∷ 0x27000001 ∷ 0x5B00FFFE ∷ 0 ∷ 0x23002005 ∷ 0xF8010000 ∷ 0 ∷ []) vs

-- $0 is n and $1 is 5, after a call
abbrev counting : ℕ → State
counting n = with_special (stored (stored (with_special start r_l 2) 0 n) 1 5) r_j 8

abbrev loop_examples : List RunExample
loop_examples =
    -- grants of 0, 1, one less than all, all, more
    example start (looping (0 ∷ 0 ∷ [])) 0 0 0 start (looping (0 ∷ 0 ∷ []))
    ∷ example start (looping (0 ∷ 0 ∷ [])) 1 1 0 (goes (stored (with_special start r_l 1) 0 2) 4) (looping (0 ∷ 0 ∷ []))
    ∷ example start (looping (0 ∷ 0 ∷ [])) 10 10 0 (goes (counting 0) 0xC) (looping (1 ∷ 1 ∷ []))
    ∷ example start (looping (0 ∷ 0 ∷ [])) 11 11 0 (goes (counting 0) 0x10) (looping (1 ∷ 1 ∷ []))
    -- TRAP 0,0,0 is refused by 4, and isn't counted
    ∷ example start (looping (0 ∷ 0 ∷ [])) 12 11 4 (goes (counting 0) 0x10) (looping (1 ∷ 1 ∷ []))
    -- on from where the smaller grant ended
    ∷ example (goes (counting 0) 0xC) (looping (1 ∷ 1 ∷ [])) 1 1 0 (goes (counting 0) 0x10) (looping (1 ∷ 1 ∷ [])) ∷ []

-- ---- "PC's low two bits are dropped for the fetch alone; @ is PC": rJ, targets and rW keep them

abbrev low_examples : List RunExample
low_examples =
    example (goes start 3) (looping (0 ∷ 0 ∷ [])) 2 2 0
    (goes (grown (with_special start r_j 0xB) 2) 0x17) (looping (2 ∷ 1 ∷ []))
    -- TRIP at 4
    ∷ example (goes start 6) (loaded (0 ∷ 0xFF000000 ∷ []) []) 1 1 0 (goes (with_special (with_special start r_w 10) r_x (2 ^ 63 + 0xFF000000)) 0) (loaded (0 ∷ 0xFF000000 ∷ []) []) ∷ []

-- ---- where a run stops, in one octabyte of A and with no B

-- marginal $3 is 7
abbrev held : State
held = stored start 3 7

-- t, then u, with one more granted than are done: n, then r
abbrev ends : State → ℕ → ℕ → ℕ → ℕ → State → RunExample
ends s t u n r e = example s (loaded (t ∷ u ∷ []) []) (n + 1) n r e (loaded (t ∷ u ∷ []) [])

-- both windows at 0
abbrev shared : Windows
shared = record { a = record { base = 0; bytes = octas (0 ∷ []) }; b = record { base = 0; bytes = octas (0 ∷ []) } }

abbrev stop_examples : List RunExample
stop_examples =
    -- into zeros: 4 at TRAP 0,0,0
    ends held 0 0 0 4 held
    ∷ ends held 0xFD000000 0 1 4 (goes held 4)
    -- 24 at the end of a window, and before 3 to 5
    ∷ ends held 0xFD000000 0xFD000000 2 24 (goes held 8)
    ∷ ends (goes held 8) 0 0 0 24 (goes held 8)
    -- the claim of $5 clears $3; 3, 5, 6 and 13 give it back: an opcode with no arm, GET $5,32, LDO $5,$32,8, SAVE $5
    ∷ ends held 0x01050000 0 0 3 held
    ∷ ends held 0xFE050020 0 0 5 held
    ∷ ends held 0x8D052008 0 0 6 held
    ∷ ends held 0xFA050000 0 0 13 (halted held)
    -- 12 of POP claims nothing; 20, a TRAP that is not named, leaves its registers
    ∷ ends (with_special held r_o (stack_start + 1)) 0xF8050000 0 0 12 (halted (with_special held r_o (stack_start + 1)))
    ∷ ends held 0x00010003 0 0 20 (halted (with_special (with_special (with_special held r_ww 4) r_xx (2 ^ 63 + 0x00010003)) r_zz 7))
    -- 19 keeps it: DIV $5,$32,0 with D enabled and no vector
    ∷ ends (record { general = held.general; special = (with_special held r_a 0x8000).special; pc = 0; halt = 0; marks = 0; mask = 0 }) 0x1D052000 0 0 19
    (record {
      general = start.general;
      special = (with_special (with_special (with_special (with_special start r_a 0x8000) r_l 6) r_w 4) r_x (2 ^ 63 + 0x1D052000)).special;
      pc = 0;
      halt = 1;
      marks = 0;
      mask = 0;
    })
    -- 25, before anything is done; 1, 2 and 22 come before it
    ∷ example held (loaded (0xFD000000 ∷ 0 ∷ []) []) 1000001 0 25 held (loaded (0xFD000000 ∷ 0 ∷ []) [])
    ∷ example (with_special held r_g 31) (loaded (0 ∷ []) []) 1000001 0 1 (with_special held r_g 31) (loaded (0 ∷ []) [])
    ∷ example held (loaded (0 ∷ []) []) 1000001 0 2 held (loaded (0 ∷ []) [])
    ∷ example held shared 1000001 0 22 held shared
    ∷ example held (loaded (0 ∷ []) []) 0 0 2 held (loaded (0 ∷ []) []) ∷ []

-- ---- the claim comes before operands are read: one instruction fetched, and the same as a step

-- $0 to $5 are local, $5 is v, and PC is a
abbrev claiming : ℕ → ℕ → State
claiming v a = goes (stored (with_special start r_l 6) 5 v) a

-- a tetra, then 9, at PC 0: fetched, and the same instruction as a step
abbrev before : ℕ → List ℕ → Windows
before t vs = loaded (t ∷ 9 ∷ []) vs

abbrev fetches : ℕ → List ℕ → State → List ℕ → RunExample
fetches t vs e us = example held (before t vs) 1 1 0 e (before t us)

abbrev steps : ℕ → List ℕ → State → List ℕ → Point
steps t vs e us =
    record { begin = held; window = before t vs; items = step (opcode_in t) (x_in t) (y_in t) (z_in t) ∷ []; replies = 0 ∷ []; end = e; left = before t us }

-- a call of 4 whose frame is 5 octabytes
abbrev calling : State
calling = goes (grown (with_special start r_j 4) 5) 4

abbrev claim_examples : List RunExample
claim_examples =
    -- GET $5,rL; GO $5,$3,0; ADDU $5,$3,$3; LDBU $5,$3,0; PUSHJ $4
    fetches 0xFE050014 [] (claiming 6 4) []
    ∷ fetches 0x9F050300 [] (claiming 4 0) []
    ∷ fetches 0x22050303 [] (claiming 0 4) []
    ∷ fetches 0x83050300 [] (claiming 0x83 4) []
    ∷ fetches 0xF2040001 (1 ∷ 1 ∷ 1 ∷ 1 ∷ 1 ∷ []) calling (0 ∷ 0 ∷ 0 ∷ 0 ∷ 4 ∷ []) ∷ []

-- PUSHJ $1,#8; at 8 POP 0,0; rL 0 and $0 = 7: what the frame keeps, and what comes back, is $0 after the claim
abbrev marginal_call : List ℕ → Windows
marginal_call vs = loaded (0xF2010002 ∷ 0 ∷ 0xF8000000 ∷ 0 ∷ []) vs

abbrev marginal_example : RunExample
marginal_example = example (stored start 0 7) (marginal_call (0 ∷ 0 ∷ [])) 2 2 0 (goes (with_special (with_special start r_l 1) r_j 4) 4) (marginal_call (0 ∷ 1 ∷ []))

unfoldable pub unclaimed_examples : List Point
unclaimed_examples =
    steps 0xFE050014 [] (claiming 0 4) []
    ∷ steps 0x9F050300 [] (claiming 4 7) []
    ∷ steps 0x22050303 [] (claiming 14 4) []
    ∷ steps 0x83050300 [] (claiming 9 4) []
    ∷ steps 0xF2040001 (1 ∷ 1 ∷ 1 ∷ 1 ∷ 1 ∷ []) calling (0 ∷ 0 ∷ 0 ∷ 7 ∷ 4 ∷ []) ∷ []

-- ---- the opcodes that claim: the ends of each range, and what lies next to them

abbrev pub alls : (ℕ → Bool) → List ℕ → Bool
alls f [] = true
alls f (x ∷ xs) = f x && alls f xs

unfoldable pub claim_ends : Bool
claim_ends =
    alls claims (0x01 ∷ 0x3F ∷ 0x60 ∷ 0x99 ∷ 0x9E ∷ 0x9F ∷ 0xBE ∷ 0xEF ∷ 0xF2 ∷ 0xF5 ∷ 0xFA ∷ 0xFE ∷ [])
    && alls (λ op. not (claims op)) (0x00 ∷ 0x40 ∷ 0x5F ∷ 0x9A ∷ 0x9D ∷ 0xA0 ∷ 0xBD ∷ 0xF0 ∷ 0xF1 ∷ 0xF6 ∷ 0xF9 ∷ 0xFB ∷ 0xFD ∷ 0xFF ∷ [])

unfoldable pub run_examples : List RunExample
run_examples = marginal_example ∷ (loop_examples ++ (low_examples ++ (stop_examples ++ claim_examples)))

abbrev pub RunExamplesMet : Type 0
RunExamplesMet = (all_stop run_examples ≡ true) × (all_met unclaimed_examples ≡ true) × (claim_ends ≡ true)
