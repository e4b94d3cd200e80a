-- Theorem 6. 01's bench points and its traps for the writer, as data: a start, a list of items, and all that is there afterwards, the
-- replies, the whole state and the whole of both windows. P1 to P14 and the traps are met together, by one computed result.
use Rattle.std.specs.Prelude.{◌≡◌, ℕ, ◌+◌, ◌*◌, ◌^◌, Bool, true, false, ◌&&◌, List, [], ◌∷◌, ◌++◌, replicate, ◌==◌}
use Rattle.model.specs.Memory.{Window, Windows, put_octa, both}
use Rattle.model.specs.Lists.{Ran, runs}
use Rattle.model.specs.Registers.{r_j, r_o, r_s, r_l, r_a, r_w, r_x, stack_start, fresh, goes, halted, with_special, stored}
use Rattle.model.specs.Step.{Item, step, exception, mmix}
use Rattle.model.specs.declared.State.{State}

pub record Point : Type 0 where
  pub begin : State
  pub window : Windows
  pub items : List Item
  pub replies : List ℕ
  pub end : State
  pub left : Windows

-- ---- what it is to be met

abbrev pub same_list : List ℕ → List ℕ → Bool
same_list [] [] = true
same_list [] (y ∷ ys) = false
same_list (x ∷ xs) [] = false
same_list (x ∷ xs) (y ∷ ys) = x == y && same_list xs ys

abbrev pub same_state : State → State → Bool
same_state s t =
    same_list s.general t.general
    && (same_list s.special t.special && (s.pc == t.pc && (s.halt == t.halt && (s.marks == t.marks && s.mask == t.mask))))

abbrev same_one : Window → Window → Bool
same_one v w = v.base == w.base && same_list v.bytes w.bytes

abbrev pub same_windows : Windows → Windows → Bool
same_windows v w = same_one v.a w.a && same_one v.b w.b

unfoldable pub shows : Point → Ran State Windows → Bool
shows c r = same_list r.answers c.replies && (same_state r.state c.end && same_windows r.memory c.left)

unfoldable pub met : Point → Bool
met c = shows c (runs both mmix c.begin c.window c.items)

unfoldable pub all_met : List Point → Bool
all_met [] = true
all_met (c ∷ cs) = met c && all_met cs

-- ---- starts

-- "Start: fresh state, all vectors loaded, the program's window, unless told"
unfoldable pub start : State
start = record { general = fresh.general; special = fresh.special; pc = 0; halt = 0; marks = 0x1FF; mask = 0 }

-- B alone: A is empty
abbrev pub stack_alone : Window → Windows
stack_alone b = record { a = record { base = 0; bytes = [] }; b = b }

-- B is n zero bytes at the stack's start; "The bench program's A is 2,048 zero bytes at 0"
abbrev zeros : ℕ → Windows
zeros n = record { a = record { base = 0; bytes = replicate 2048 0 }; b = record { base = stack_start; bytes = replicate n 0 } }

abbrev program : Windows
program = zeros 2048

-- octabyte number k of the stack's window becomes v
abbrev holding : Windows → ℕ → ℕ → Windows
holding w k v = put_octa w (stack_start + 8 * k) v

-- rO and rS are k octabytes up the stack
abbrev grown : State → ℕ → State
grown s k = with_special (with_special s r_o (stack_start + 8 * k)) r_s (stack_start + 8 * k)

-- rL is 2, $0 is a and $1 is b
abbrev two : ℕ → ℕ → State
two a b = stored (stored (with_special start r_l 2) 0 a) 1 b

-- rL is 3 and $0 to $2 are 1, 2, 3
abbrev three : State
three = stored (stored (stored (with_special start r_l 3) 0 1) 1 2) 2 3

abbrev point : State → Windows → List Item → List ℕ → State → Windows → Point
point s w is rs t v = record { begin = s; window = w; items = is; replies = rs; end = t; left = v }

-- one item in the program's window that is done: the state that it leaves
abbrev does : State → Item → State → Point
does s i t = point s program (i ∷ []) (0 ∷ []) t program

-- one item that is refused by a number from 7 to 18, or by 29 or 31
abbrev refuses : State → Item → ℕ → Point
refuses s i n = point s program (i ∷ []) (n ∷ []) (halted s) program

-- what SAVE $255 stores of the start with $255 = v: octabytes 0 to 237, where 0 is rL, 224 is $255 and 237 is rG and rA
abbrev parked : Windows → ℕ → Windows
parked w v = holding (holding w 224 v) 237 (32 * 2 ^ 56)

-- a context at the program's window whose local count is n, and the state whose $255 has its address
abbrev counted : ℕ → Windows
counted n = holding (parked program 0) 0 n

abbrev addressed : State
addressed = stored start 255 0x6000000000000768

abbrev too_many : ℕ → Point
too_many n = point addressed (counted n) (step 0xFB 0 0 255 ∷ []) (16 ∷ []) (halted addressed) (counted n)

-- P12 and P13 leave the same trip registers: $255 and rJ are 0, @ is 0 and the instruction is 0
abbrev after_trip : State → State
after_trip s = with_special (with_special s r_w 4) r_x (2 ^ 63)

unfoldable pub points : List Point
points =
    -- P1, P2, P3
    point (two 7 9) program (step 0xF2 1 0 5 ∷ []) (0 ∷ [])
    (goes (with_special (grown start 2) r_j 4) 0x14) (holding (holding program 0 7) 1 1)
    ∷ point (two 7 9) program (step 0xF2 1 0 5 ∷ step 0xF8 0 0 0 ∷ []) (0 ∷ 0 ∷ [])
    (goes (with_special (stored (with_special start r_l 1) 0 7) r_j 4) 4) (holding (holding program 0 7) 1 1)
    ∷ point (two 7 9) program (step 0xF2 1 0 5 ∷ step 0xF8 1 0 0 ∷ []) (0 ∷ 0 ∷ [])
    (goes (with_special (stored (with_special start r_l 2) 0 7) r_j 4) 4) (holding (holding program 0 7) 1 1)
    -- P4
    ∷ point (two 7 9) program (step 0xF2 32 0 5 ∷ []) (0 ∷ [])
    (goes (with_special (grown start 3) r_j 4) 0x14) (holding (holding (holding program 0 7) 1 9) 2 2)
    -- P5
    ∷ refuses (with_special start r_j 0x100) (step 0xF8 0 0 3) 29
    -- P6
    ∷ refuses (with_special start r_o 0x6000000000000001) (step 0xF8 0 0 0) 12
    ∷ refuses (with_special start r_o 0x8000000000000000) (step 0xF8 0 0 0) 12
    -- P7
    ∷ refuses start (step 0xF7 19 0 31) 10
    ∷ refuses (stored start 255 256) (step 0xF6 19 0 255) 10
    ∷ does start (step 0xF7 19 0 32) (goes start 4)
    -- P8
    ∷ does (two 7 9) (step 0xF7 20 0 5) (goes (two 7 9) 4)
    -- P9
    ∷ does (stored start 255 0x3FFFF) (step 0xF6 21 0 255) (goes (with_special (stored start 255 0x3FFFF) r_a 0x3FFFF) 4)
    ∷ refuses (stored start 255 0x40000) (step 0xF6 21 0 255) 11
    -- P10
    ∷ point start (zeros 1904) (step 0xFA 255 0 0 ∷ []) (0 ∷ [])
    (goes (grown addressed 238) 4) (parked (zeros 1904) 0)
    ∷ point start (zeros 1896) (step 0xFA 255 0 0 ∷ []) (6 ∷ []) start (zeros 1896)
    -- P11
    ∷ does (goes (stored start 255 (2 ^ 63)) 0x40000) (step 0x41 255 0 0) (stored start 255 (2 ^ 63))
    ∷ does (goes (stored start 255 (2 ^ 63)) 0x40000) (step 0x41 255 255 255) (goes (stored start 255 (2 ^ 63)) 0x3fffc)
    -- P12, P13
    ∷ does (with_special start r_a 0x4000) (exception 0xC0 0 0 0 0 0 0) (goes (with_special (after_trip start) r_a 0x4080) 0x20)
    ∷ does (with_special start r_a 0xC000) (exception 0xC0 0 0 0 0 0 0) (goes (with_special (after_trip start) r_a 0xC040) 0x10)
    -- P14: "in P14, whose window reaches address 0, A is empty"
    ∷ point (with_special (two 7 9) r_o 0xFFFFFFFFFFFFFFF8) (stack_alone (record { base = 0xFFFFFFFFFFFFFFF8; bytes = replicate 16 0 })) (step 0xF2 1 0 1 ∷ []) (0 ∷ [])
    (goes (with_special (with_special (with_special start r_o 8) r_s 8) r_j 4) 4)
    (stack_alone (record { base = 0xFFFFFFFFFFFFFFF8; bytes = replicate 7 0 ++ (7 ∷ replicate 7 0) ++ (1 ∷ []) }))
    -- "the hole given the first output", "a PUSH that copies after clearing"
    ∷ point three program (step 0xF2 0 0 1 ∷ []) (0 ∷ [])
    (goes (with_special (grown (two 2 3) 1) r_j 4) 4) program
    ∷ point three program (step 0xF2 0 0 1 ∷ step 0xF8 2 0 0 ∷ []) (0 ∷ 0 ∷ [])
    (goes (with_special (two 3 2) r_j 4) 4) program
    -- "SAVE's $X stored before the globals"
    ∷ point (stored start 255 77) program (step 0xFA 255 0 0 ∷ []) (0 ∷ [])
    (goes (grown addressed 238) 4) (parked program 77)
    ∷ point (stored start 255 77) program (step 0xFA 255 0 0 ∷ step 0xFB 0 0 255 ∷ []) (0 ∷ 0 ∷ [])
    (goes (stored start 255 77) 8) (parked program 77)
    -- "a wide local count cut to a byte before it is compared": 256, 256 + rG, 2^32
    ∷ too_many 256
    ∷ too_many 288
    ∷ too_many (2 ^ 32)
    ∷ []

abbrev pub PointsMet : Type 0
PointsMet = all_met points ≡ true
