-- Theorem. A parked context, computed: it lies across both windows, that touch, A below B and B below A, at a misaligned rO; another task runs in between, or
-- is refused at the context; then UNSAVE, by that task's next turn and by a run. Of each call all that is there afterwards.
use Rattle.std.specs.Prelude.{ℕ, ◌+◌, ◌-◌, ◌*◌, ◌^◌, ◌≡◌, true, List, [], ◌∷◌, ◌++◌, replicate}
use Rattle.model.specs.Octa.{bytes_of}
use Rattle.model.specs.Memory.{Windows}
use Rattle.model.specs.Registers.{r_j, r_o, r_s, r_g, r_l, r_z, stack_start, goes, with_special, stored}
use Rattle.model.specs.examples.RunExamples.{RunExample, all_stop}
use Rattle.model.specs.Bench.{start}
use Rattle.model.specs.declared.State.{State}
use Rattle.task_model.specs.examples.TaskExamples.{TaskExample, all_work}

abbrev octas : List ℕ → List ℕ
octas [] = []
octas (v ∷ vs) = bytes_of v ++ octas vs

-- the program:   0  SAVE $255     8  UNSAVE $255    10  PUSHJ $1,#18    18  SWYM
--                4  PUT rZ,9      C  TRAP 0,0,0     14  TRAP 0,0,0      1C  TRAP 0,0,0
abbrev program : List ℕ
program = 0xFAFF0000F71B0009 ∷ 0xFB0000FF00000000 ∷ 0xF201000200000000 ∷ 0xFD00000000000000 ∷ []

-- A ends where B begins: the program and the context's first 7 octabytes; 9 more and 2 of the other's stack
abbrev a_below : List ℕ → List ℕ → List ℕ → Windows
a_below low high vs =
    record { a = record { base = stack_start - 88; bytes = octas (program ++ low) }; b = record { base = stack_start; bytes = octas (high ++ vs) } }

-- B ends where A begins
abbrev b_below : List ℕ → List ℕ → List ℕ → Windows
b_below low high vs =
    record { a = record { base = stack_start; bytes = octas (high ++ program) }; b = record { base = stack_start - 72; bytes = octas (vs ++ low) } }

-- rO and rS
abbrev top_at : State → ℕ → State
top_at s o = with_special (with_special s r_o o) r_s o

-- ---- the task that parks: $0 is 7 and its only local, $255 is 77

abbrev saving : State
saving = top_at (with_special (with_special (with_special (stored (stored (with_special start r_g 255) 0 7) 255 77) r_l 1) r_j 3) r_z 5) (stack_start - 51)

-- $0, the local count, $255, rB to rH; rJ to rY, rZ, rG and rA
abbrev low : List ℕ
low = 7 ∷ 1 ∷ 77 ∷ 0 ∷ 0 ∷ 0 ∷ 0 ∷ []

abbrev high : List ℕ
high = 3 ∷ 0 ∷ 0 ∷ 0 ∷ 0 ∷ 0 ∷ 0 ∷ 5 ∷ 255 * 2 ^ 56 ∷ []

-- after SAVE and PUT: $255 is the packed octabyte's address, low bits and all
abbrev parked : State
parked = with_special (top_at (stored (stored (with_special saving r_l 0) 0 0) 255 (stack_start + 69)) (stack_start + 77)) r_z 9

-- ---- the calls: two instructions a turn, the program at p, the other's stack at o

abbrev empty : (List ℕ → List ℕ → List ℕ → Windows) → Windows
empty w = w (replicate 7 0) (replicate 9 0) (0 ∷ 0 ∷ [])

abbrev other : ℕ → ℕ → State
other p o = goes (top_at start o) (p + 0x10)

-- its PUSHJ done, and SWYM
abbrev called : ℕ → ℕ → State
called p o = goes (with_special (top_at start (o + 16)) r_j (p + 0x14)) (p + 0x1C)

abbrev example : (List ℕ → List ℕ → List ℕ → Windows) → List ℕ → ℕ → ℕ → ℕ → List ℕ → List ℕ → List State → List ℕ → TaskExample
example w ns p o g cs rs ss vs = record {
  begin = goes saving p ∷ other p o ∷ [];
  window = empty w;
  parts = ns;
  q = 2;
  grant = g;
  reply = 0;
  counts = cs ++ replicate 6 0;
  refusals = rs ++ replicate 6 0;
  end = ss;
  left = w low high vs;
}

-- SAVE, PUT, then the other's PUSHJ and SWYM; one more, UNSAVE; and where the other asks at the context, by 32, that one is UNSAVE too
abbrev examples : (List ℕ → List ℕ → List ℕ → Windows) → List ℕ → ℕ → ℕ → ℕ → List TaskExample
examples w ns p o bad =
    example w ns p o 4 (2 ∷ 2 ∷ []) (0 ∷ 0 ∷ []) (goes parked (p + 8) ∷ called p o ∷ []) (0 ∷ 1 ∷ [])
    ∷ example w ns p o 5 (3 ∷ 2 ∷ []) (0 ∷ 0 ∷ []) (goes saving (p + 0xC) ∷ called p o ∷ []) (0 ∷ 1 ∷ [])
    ∷ example w ns p bad 3 (3 ∷ 0 ∷ []) (0 ∷ 32 ∷ []) (goes saving (p + 0xC) ∷ other p bad ∷ []) (0 ∷ 0 ∷ []) ∷ []

unfoldable pub parked_examples : List TaskExample
parked_examples =
    -- the other asks at the context's last octabyte of B, and its own first; and at its own last, and the context's first
    examples a_below (0 ∷ 72 ∷ 72 ∷ 16 ∷ []) (stack_start - 88) (stack_start + 72) (stack_start + 64)
    ++ examples b_below (16 ∷ 56 ∷ 0 ∷ 16 ∷ []) (stack_start + 72) (stack_start - 72) (stack_start - 64)

-- on from the first of each: UNSAVE by a run, which then stops at TRAP 0,0,0
abbrev runs : (List ℕ → List ℕ → List ℕ → Windows) → ℕ → RunExample
runs w p = record {
  begin = goes parked (p + 8);
  window = w low high (0 ∷ 1 ∷ []);
  grant = 2;
  done = 1;
  reply = 4;
  end = goes saving (p + 0xC);
  left = w low high (0 ∷ 1 ∷ []);
}

unfoldable pub unparked_runs : List RunExample
unparked_runs = runs a_below (stack_start - 88) ∷ runs b_below (stack_start + 72) ∷ []

abbrev pub ParkedExamplesMet : Type 0
ParkedExamplesMet = (all_work parked_examples ≡ true) × (all_stop unparked_runs ≡ true)
