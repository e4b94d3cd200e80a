-- Theorem. Two windows, computed: frames and contexts across both, touching either way and across 2^64; stores in each; 22, and what comes before and
-- after it; the reader's parts of A and of B.
use Rattle.std.specs.Prelude.{◌≡◌, ℕ, ◌+◌, ◌*◌, ◌^◌, Bool, true, ◌&&◌, List, [], ◌∷◌, ◌++◌, replicate}
use Rattle.model.specs.Octa.{bytes_of}
use Rattle.model.specs.Memory.{Windows}
use Rattle.model.specs.Registers.{r_j, r_o, r_s, r_g, r_l, r_z, stack_start, goes, with_special, stored}
use Rattle.model.specs.Step.{Item, step}
use Rattle.model.specs.Bench.{Point, all_met, start}
use Rattle.model.specs.examples.ReaderExamples.{reads}
use Rattle.model.specs.examples.LoadStoreExamples.{minus}
use Rattle.model.specs.declared.State.{State}

-- the bytes of some octabytes
abbrev octas : List ℕ → List ℕ
octas [] = []
octas (v ∷ vs) = bytes_of v ++ octas vs

-- A at p and B at q, octabyte by octabyte
abbrev windows : ℕ → List ℕ → ℕ → List ℕ → Windows
windows p us q vs = record { a = record { base = p; bytes = octas us }; b = record { base = q; bytes = octas vs } }

abbrev example : State → Windows → List Item → List ℕ → State → Windows → Point
example s w is rs t v = record { begin = s; window = w; items = is; replies = rs; end = t; left = v }

-- ---- a frame across both: PUSHJ $32 with $0 = 7 and $1 = 9 stores 7, 9 and the hole's number 2; then POP

abbrev two : State
two = stored (stored (with_special start r_l 2) 0 7) 1 9

abbrev top_at : State → ℕ → State
top_at s o = with_special (with_special s r_o o) r_s o

abbrev frames : Windows → Windows → List Point
frames w v =
    example two w (step 0xF2 32 0 1 ∷ []) (0 ∷ []) (goes (with_special (top_at start (stack_start + 24)) r_j 4) 4) v
    ∷ example two w (step 0xF2 32 0 1 ∷ step 0xF8 0 0 0 ∷ []) (0 ∷ 0 ∷ []) (goes (with_special two r_j 4) 4) v ∷ []

-- from the last octabyte below 2^64
abbrev wraps : Windows → Windows → Point
wraps w v = example (with_special two r_o (minus 8)) w (step 0xF2 32 0 1 ∷ []) (0 ∷ []) (goes (with_special (top_at start 16) r_j 4) 4) v

abbrev frame_examples : List Point
frame_examples =
    -- A below B, B below A; A below B and B below A across 2^64
    frames (windows stack_start (0 ∷ []) (stack_start + 8) (0 ∷ 0 ∷ [])) (windows stack_start (7 ∷ []) (stack_start + 8) (9 ∷ 2 ∷ []))
    ++ (frames (windows (stack_start + 8) (0 ∷ 0 ∷ []) stack_start (0 ∷ [])) (windows (stack_start + 8) (9 ∷ 2 ∷ []) stack_start (7 ∷ []))
    ++ (wraps (windows (minus 8) (0 ∷ []) 0 (0 ∷ 0 ∷ [])) (windows (minus 8) (7 ∷ []) 0 (9 ∷ 2 ∷ []))
    ∷ wraps (windows 0 (0 ∷ 0 ∷ []) (minus 8) (0 ∷ [])) (windows 0 (9 ∷ 2 ∷ []) (minus 8) (7 ∷ []))
    -- an octabyte between them that lies in neither: 6
    ∷ example two (windows stack_start (0 ∷ []) (stack_start + 16) (0 ∷ [])) (step 0xF2 32 0 1 ∷ []) (6 ∷ [])
    two (windows stack_start (0 ∷ []) (stack_start + 16) (0 ∷ []))
    -- "One step may use both", and two steps one each: a store to A while the frame is in B
    ∷ example (stored (stored two 33 3) 34 1000) (windows 1000 (0 ∷ []) stack_start (0 ∷ 0 ∷ 0 ∷ []))
    (step 0xF2 32 0 1 ∷ step 0xAD 33 34 0 ∷ step 0xF8 0 0 0 ∷ []) (0 ∷ 0 ∷ 0 ∷ [])
    (goes (with_special (stored (stored two 33 3) 34 1000) r_j 4) 4) (windows 1000 (3 ∷ []) stack_start (7 ∷ 9 ∷ 2 ∷ [])) ∷ []))

-- ---- stores and loads in windows that touch: STO $1 at $2, then at $2 + 8; LDO $3 from there

abbrev storing : State
storing = stored (stored (with_special start r_l 4) 1 5) 2 stack_start

-- A or B at the stack's start holds u, the other, right above it, v
abbrev a_low : ℕ → ℕ → Windows
a_low u v = windows stack_start (u ∷ []) (stack_start + 8) (v ∷ [])

abbrev b_low : ℕ → ℕ → Windows
b_low u v = windows (stack_start + 8) (v ∷ []) stack_start (u ∷ [])

abbrev does : Windows → ℕ → ℕ → ℕ → State → Windows → Point
does w op x z t v = example storing w (step op x 2 z ∷ []) (0 ∷ []) (goes t 4) v

abbrev touch_examples : List Point
touch_examples =
    does (a_low 1 2) 0xAD 1 0 storing (a_low 5 2)
    ∷ does (a_low 1 2) 0xAD 1 8 storing (a_low 1 5)
    ∷ does (b_low 1 2) 0xAD 1 0 storing (b_low 5 2)
    ∷ does (b_low 1 2) 0xAD 1 8 storing (b_low 1 5)
    ∷ example storing (a_low 1 2) (step 0xAD 1 2 0 ∷ step 0xAD 1 2 8 ∷ []) (0 ∷ 0 ∷ []) (goes storing 8) (a_low 5 5)
    ∷ does (a_low 1 2) 0x8D 3 0 (stored storing 3 1) (a_low 1 2)
    ∷ does (a_low 1 2) 0x8D 3 8 (stored storing 3 2) (a_low 1 2)
    ∷ does (b_low 1 2) 0x8D 3 0 (stored storing 3 1) (b_low 1 2)
    ∷ does (b_low 1 2) 0x8D 3 8 (stored storing 3 2) (b_low 1 2)
    -- 6 means in neither
    ∷ example storing (a_low 1 2) (step 0x8D 3 2 16 ∷ []) (6 ∷ []) storing (a_low 1 2) ∷ []

-- ---- a context across both: SAVE $255 with rG 255 stores 15 octabytes, here 7 of them in one window and 8 in the other; then UNSAVE

abbrev saving : State
saving = with_special (with_special (stored (with_special start r_g 255) 255 77) r_j 3) r_z 5

-- the local count, $255, rB to rJ, rM; rR, rP, rW to rZ, rG and rA
abbrev low : List ℕ
low = 0 ∷ 77 ∷ 0 ∷ 0 ∷ 0 ∷ 0 ∷ 3 ∷ []

abbrev high : List ℕ
high = 0 ∷ 0 ∷ 0 ∷ 0 ∷ 0 ∷ 0 ∷ 5 ∷ 255 * 2 ^ 56 ∷ []

abbrev packed : ℕ
packed = stack_start + 112

abbrev parks : Windows → Windows → List Point
parks w v =
    example saving w (step 0xFA 255 0 0 ∷ []) (0 ∷ []) (goes (top_at (stored saving 255 packed) (stack_start + 120)) 4) v
    ∷ example saving w (step 0xFA 255 0 0 ∷ step 0xFB 0 0 255 ∷ []) (0 ∷ 0 ∷ []) (goes saving 8) v ∷ []

abbrev a_below : List ℕ → List ℕ → Windows
a_below us vs = windows stack_start us (stack_start + 56) vs

abbrev b_below : List ℕ → List ℕ → Windows
b_below us vs = windows (stack_start + 56) vs stack_start us

abbrev context_examples : List Point
context_examples = parks (a_below (replicate 7 0) (replicate 8 0)) (a_below low high) ++ parks (b_below (replicate 7 0) (replicate 8 0)) (b_below low high)

-- ---- judging: SWYM, or an opcode with no arm

abbrev passes : Windows → Point
passes w = example start w (step 0xFD 0 0 0 ∷ []) (0 ∷ []) (goes start 4) w

abbrev refused : State → Windows → ℕ → ℕ → Point
refused s w op n = example s w (step op 0 0 0 ∷ []) (n ∷ []) s w

abbrev judge_examples : List Point
judge_examples =
    -- 22: A's first octabyte in B, B's first in A, the same first, one octabyte past 2^64; before 3
    refused start (windows 8 (0 ∷ 0 ∷ []) 0 (0 ∷ 0 ∷ [])) 0xFD 22
    ∷ refused start (windows 0 (0 ∷ 0 ∷ []) 8 (0 ∷ 0 ∷ [])) 0xFD 22
    ∷ refused start (windows 8 (0 ∷ []) 0 (0 ∷ 0 ∷ 0 ∷ [])) 0xFD 22
    ∷ refused start (windows 0 (0 ∷ 0 ∷ 0 ∷ []) 8 (0 ∷ [])) 0xFD 22
    ∷ refused start (windows 0 (0 ∷ []) 0 (0 ∷ [])) 0xFD 22
    ∷ refused start (windows 0 (0 ∷ []) (minus 8) (0 ∷ 0 ∷ [])) 0xFD 22
    ∷ refused start (windows (minus 8) (0 ∷ 0 ∷ []) 0 (0 ∷ [])) 0xFD 22
    ∷ refused start (windows 8 (0 ∷ 0 ∷ []) 0 (0 ∷ 0 ∷ [])) 0x01 22
    -- 2 before 22, for either; 1 before both
    ∷ refused start (windows 4 (0 ∷ 0 ∷ []) 0 (0 ∷ 0 ∷ [])) 0xFD 2
    ∷ refused start (windows 0 (0 ∷ 0 ∷ []) 4 (0 ∷ 0 ∷ [])) 0xFD 2
    ∷ refused start (windows 4 [] 0 (0 ∷ [])) 0xFD 2
    ∷ refused start (windows 0 (0 ∷ []) 4 []) 0xFD 2
    ∷ refused (with_special start r_g 31) (windows 8 (0 ∷ 0 ∷ []) 0 (0 ∷ 0 ∷ [])) 0xFD 1
    -- windows that touch share none; an empty one shares none
    ∷ passes (windows 0 (0 ∷ []) 8 (0 ∷ []))
    ∷ passes (windows 8 (0 ∷ []) 0 (0 ∷ []))
    ∷ passes (windows (minus 8) (0 ∷ []) 0 (0 ∷ []))
    ∷ passes (windows 8 [] 0 (0 ∷ 0 ∷ []))
    ∷ passes (windows 0 (0 ∷ 0 ∷ []) 8 [])
    ∷ passes (windows 0 [] 0 []) ∷ []

-- ---- the reader: reply, window, start and length of the part

unfoldable pub window_reads : Bool
window_reads =
    -- in B, in A; in neither; in A, one octabyte up, where B goes on, and in B, where A goes on
    reads (windows 0 [] stack_start (low ++ high)) packed 0 1 0 120
    && (reads (windows stack_start (low ++ high) 0 []) packed 0 0 0 120
    && (reads (windows (stack_start + 120) (1 ∷ []) (minus 8) (1 ∷ [])) packed 6 0 0 0
    && (reads (windows (minus 8) (1 ∷ low ++ high) 120 (1 ∷ [])) 112 0 0 8 120
    && (reads (windows 120 (1 ∷ []) (minus 8) (1 ∷ low ++ high)) 112 0 1 8 120
    -- 23: across both; with the packed octabyte alone, or the first alone, in the other; after UNSAVE's checks
    && (reads (a_below low high) packed 23 0 0 0
    && (reads (b_below low high) packed 23 0 0 0
    && (reads (windows packed (255 * 2 ^ 56 ∷ []) stack_start (low ++ replicate 7 0)) packed 23 0 0 0
    && (reads (windows stack_start (0 ∷ []) (stack_start + 8) (replicate 13 0 ++ (255 * 2 ^ 56 ∷ []))) packed 23 0 0 0
    && (reads (windows stack_start (256 ∷ []) (stack_start + 8) (replicate 13 0 ++ (255 * 2 ^ 56 ∷ []))) packed 16 0 0 0
    -- 2, 22
    && (reads (windows 4 [] stack_start (low ++ high)) packed 2 0 0 0
    && reads (windows packed (0 ∷ []) stack_start (low ++ high)) packed 22 0 0 0))))))))))

unfoldable pub window_examples : List Point
window_examples = frame_examples ++ (touch_examples ++ (context_examples ++ judge_examples))

abbrev pub WindowExamplesMet : Type 0
WindowExamplesMet = (all_met window_examples ≡ true) × (window_reads ≡ true)
