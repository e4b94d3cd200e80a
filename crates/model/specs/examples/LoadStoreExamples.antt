-- Theorem 12. Loads and stores, computed: Fascicle 1's figures, every opcode, the limits of what fits, trips, addresses, claims; and that a store into
-- a caller's frame does change its local.
use Rattle.std.specs.Prelude.{◌≡◌, ℕ, ◌+◌, ◌-◌, ◌*◌, ◌^◌, true, List, [], ◌∷◌, ◌++◌, replicate}
use Rattle.model.specs.Memory.{Windows, put_octa}
use Rattle.model.specs.Registers.{r_b, r_j, r_l, r_a, r_w, r_x, r_y, r_z, stack_start, goes, halted, with_special, stored}
use Rattle.model.specs.Step.{step}
use Rattle.model.specs.Bench.{Point, all_met, start, stack_alone}
use Rattle.model.specs.declared.State.{State}

-- M8[1000], and nothing else
abbrev holding : ℕ → Windows
holding v = put_octa (stack_alone (record { base = 1000; bytes = replicate 8 0 })) 1000 v

abbrev figure : ℕ
figure = 0x0123456789ABCDEF

-- −n
abbrev pub minus : ℕ → ℕ
minus n = 2 ^ 64 - n

-- four locals: $1 = u, $2 = a, $3 = k
abbrev having : ℕ → ℕ → ℕ → State
having u a k = stored (stored (stored (with_special start r_l 4) 1 u) 2 a) 3 k

-- one step of op with X, Y, Z
abbrev example : State → Windows → ℕ → ℕ → ℕ → ℕ → ℕ → State → Windows → Point
example s w op x y z r t v = record { begin = s; window = w; items = step op x y z ∷ []; replies = r ∷ []; end = t; left = v }

-- ---- loads: $1 from 1000 + k, by $3 and by Z

abbrev loads : ℕ → ℕ → ℕ → List Point
loads op k v =
    example (having 0 1000 k) (holding figure) op 1 2 3 0 (goes (having v 1000 k) 4) (holding figure)
    ∷ example (having 0 1000 0) (holding figure) (op + 1) 1 2 k 0 (goes (having v 1000 0) 4) (holding figure) ∷ []

-- LDB, LDW, LDT, LDO and their unsigned kin
abbrev load_examples : List Point
load_examples =
    loads 0x80 2 0x45 ++ (loads 0x84 2 0x4567 ++ (loads 0x88 2 0x01234567 ++ (loads 0x8C 2 figure
    ++ (loads 0x80 5 0xFFFFFFFFFFFFFFAB ++ (loads 0x84 5 0xFFFFFFFFFFFF89AB ++ (loads 0x88 5 0xFFFFFFFF89ABCDEF ++ (loads 0x8C 5 figure
    ++ (loads 0x82 5 0xAB ++ (loads 0x86 5 0x89AB ++ (loads 0x8A 5 0x89ABCDEF ++ loads 0x8E 5 figure))))))))))

-- ---- stores: $1 = u to 1000 + k, of which v is made; V is not enabled, and added to rA or not

abbrev stores : ℕ → ℕ → ℕ → ℕ → ℕ → List Point
stores op u k v f =
    example (having u 1000 k) (holding figure) op 1 2 3 0 (goes (with_special (having u 1000 k) r_a f) 4) (holding v)
    ∷ example (having u 1000 0) (holding figure) (op + 1) 1 2 k 0 (goes (with_special (having u 1000 0) r_a f) 4) (holding v) ∷ []

-- STB, STW, STT, STO of −65536 and their unsigned kin
abbrev store_examples : List Point
store_examples =
    stores 0xA0 (minus 65536) 5 0x012345678900CDEF 0x40 ++ (stores 0xA4 (minus 65536) 5 0x012345670000CDEF 0x40
    ++ (stores 0xA8 (minus 65536) 5 0x01234567FFFF0000 0 ++ (stores 0xAC (minus 65536) 5 0xFFFFFFFFFFFF0000 0
    ++ (stores 0xA2 (minus 65536) 5 0x012345678900CDEF 0 ++ (stores 0xA6 (minus 65536) 5 0x012345670000CDEF 0
    ++ (stores 0xAA (minus 65536) 5 0x01234567FFFF0000 0 ++ stores 0xAE (minus 65536) 5 0xFFFFFFFFFFFF0000 0))))))

-- what just fits, and what just does not
abbrev stored0 : ℕ → ℕ → ℕ → ℕ → Point
stored0 op u v f = example (having u 1000 0) (holding 0) op 1 2 0 0 (goes (with_special (having u 1000 0) r_a f) 4) (holding v)

abbrev fit_examples : List Point
fit_examples =
    stored0 0xA1 0x7F (0x7F * 2 ^ 56) 0 ∷ stored0 0xA1 0x80 (0x80 * 2 ^ 56) 0x40 ∷ stored0 0xA1 (minus 0x80) (0x80 * 2 ^ 56) 0 ∷ stored0 0xA1 (minus 0x81) (0x7F * 2 ^ 56) 0x40
    ∷ stored0 0xA5 0x7FFF (0x7FFF * 2 ^ 48) 0 ∷ stored0 0xA5 0x8000 (0x8000 * 2 ^ 48) 0x40 ∷ stored0 0xA5 (minus 0x8000) (0x8000 * 2 ^ 48) 0 ∷ stored0 0xA5 (minus 0x8001) (0x7FFF * 2 ^ 48) 0x40
    ∷ stored0 0xA9 0x7FFFFFFF (0x7FFFFFFF * 2 ^ 32) 0 ∷ stored0 0xA9 0x80000000 (0x80000000 * 2 ^ 32) 0x40
    ∷ stored0 0xA9 (minus 0x80000000) (0x80000000 * 2 ^ 32) 0 ∷ stored0 0xA9 (minus 0x80000001) (0x7FFFFFFF * 2 ^ 32) 0x40 ∷ []

-- ---- trips: STB of −65536 at 1005, V enabled, $255 = 7, rJ = 9; and of $255 itself

abbrev enabling : State → State
enabling s = with_special (with_special (stored s 255 7) r_j 9) r_a 0x4000

abbrev unloaded : State → State
unloaded s = record { general = s.general; special = s.special; pc = s.pc; halt = s.halt; marks = 0x1FB; mask = s.mask }

-- rB, $255, rW, rX, rY and rZ of a store of the value u in $x
abbrev taken : State → ℕ → ℕ → ℕ → State
taken s b x u =
    with_special (with_special (with_special (with_special (with_special (stored s 255 9) r_b b) r_w 4) r_x (2 ^ 63 + 0xA0000203 + x * 2 ^ 16)) r_y 1005) r_z u

abbrev trip_examples : List Point
trip_examples =
    example (enabling (having (minus 65536) 1000 5)) (holding figure) 0xA0 1 2 3 0
    (goes (taken (enabling (having (minus 65536) 1000 5)) 7 1 (minus 65536)) 0x20) (holding 0x012345678900CDEF)
    ∷ example (unloaded (enabling (having (minus 65536) 1000 5))) (holding figure) 0xA0 1 2 3 19
    (halted (taken (unloaded (enabling (having (minus 65536) 1000 5))) 7 1 (minus 65536))) (holding 0x012345678900CDEF)
    ∷ example (stored (enabling (having 0 1000 5)) 255 0x1FF) (holding figure) 0xA0 255 2 3 0
    (goes (taken (enabling (having 0 1000 5)) 0x1FF 255 0x1FF) 0x20) (holding 0x0123456789FFCDEF) ∷ []

-- ---- addresses, and registers that are both target and operand

abbrev address_examples : List Point
address_examples =
    -- 6 comes before the claim, and leaves all
    example (having 0 1008 0) (holding figure) 0x8D 9 2 0 6 (having 0 1008 0) (holding figure)
    ∷ example (having 0 999 0) (holding figure) 0x8D 9 2 0 6 (having 0 999 0) (holding figure)
    ∷ example (having 0 1008 0) (holding figure) 0xAD 1 2 0 6 (having 0 1008 0) (holding figure)
    -- the last byte of the last octabyte; $9 is claimed
    ∷ example (having 0 1007 0) (holding figure) 0x83 9 2 0 0 (goes (stored (with_special (having 0 1007 0) r_l 10) 9 0xEF) 4) (holding figure)
    -- X = Y, X = Z, X = 255
    ∷ example (having 0 1000 1) (holding figure) 0x82 2 2 3 0 (goes (having 0 0x23 1) 4) (holding figure)
    ∷ example (having 0 1000 1) (holding figure) 0x82 3 2 3 0 (goes (having 0 1000 0x23) 4) (holding figure)
    ∷ example (having 0 1000 0) (holding figure) 0x8D 255 2 0 0 (goes (stored (having 0 1000 0) 255 figure) 4) (holding figure)
    -- $9 is marginal and held: it is Y, and cleared by the claim after it was read; stored as held
    ∷ example (stored (having 0 0 1) 9 1000) (holding figure) 0x82 9 9 3 0 (goes (stored (with_special (having 0 0 1) r_l 10) 9 0x23) 4) (holding figure)
    ∷ example (stored (having 0 1000 0) 9 5) (holding figure) 0xAD 9 2 0 0 (goes (stored (having 0 1000 0) 9 5) 4) (holding 5)
    -- an address wraps at 2^64; one above 2^63 is in the window or not, as any other
    ∷ example (having 0 (minus 8) 1008) (holding figure) 0x8C 1 2 3 0 (goes (having figure (minus 8) 1008) 4) (holding figure)
    ∷ example (having 0 (minus 8) 0) (stack_alone (record { base = minus 8; bytes = replicate 8 1 })) 0x83 1 2 7 0
    (goes (having 1 (minus 8) 0) 4) (stack_alone (record { base = minus 8; bytes = replicate 8 1 })) ∷ []

-- ---- a store into a caller's frame: PUSHJ $1 with $0 = 5, then STO $33 = 9 at $32, the frame's first octabyte, then POP: $0 is 9

abbrev calling : State
calling = stored (stored (stored (with_special start r_l 1) 0 5) 32 stack_start) 33 9

abbrev frame_example : Point
frame_example = record {
  begin = calling;
  window = stack_alone (record { base = stack_start; bytes = replicate 16 0 });
  items = step 0xF2 1 0 1 ∷ step 0xAD 33 32 0 ∷ step 0xF8 0 0 0 ∷ [];
  replies = 0 ∷ 0 ∷ 0 ∷ [];
  end = goes (with_special (stored calling 0 9) r_j 4) 4;
  left = put_octa (put_octa (stack_alone (record { base = stack_start; bytes = replicate 16 0 })) stack_start 9) (stack_start + 8) 1;
}

unfoldable pub load_store_examples : List Point
load_store_examples = load_examples ++ (store_examples ++ (fit_examples ++ (trip_examples ++ (address_examples ++ (frame_example ∷ [])))))

abbrev pub LoadStoreExamplesMet : Type 0
LoadStoreExamplesMet = all_met load_store_examples ≡ true
