-- Theorem 10. More examples, of the same kind as 01's points: one at each limit of a definition that no other theorem of this crate holds in its place.
-- oracle/definitions/constants changes each constant of the definitions in turn: each change is refused by a theorem or by an example.
use Rattle.std.specs.Prelude.{◌≡◌, ℕ, ◌+◌, ◌-◌, ◌*◌, ◌^◌, Bool, true, false, cond, not, ◌&&◌, List, [], ◌∷◌, ◌++◌, replicate}
use Rattle.model.specs.Fill.{tab}
use Rattle.model.specs.Memory.{Windows, Shape, ruled}
use Rattle.model.specs.Registers.{r_b, r_d, r_e, r_h, r_j, r_m, r_r, r_bb, r_c, r_n, r_o, r_s, r_i, r_t, r_tt, r_k, r_q, r_u, r_v, r_g, r_l, r_a, r_f, r_p, r_w, r_x, r_y, r_z, r_ww, r_xx, r_yy, r_zz, stack_start, fresh, goes, halted, with_special, fresh_at, stored}
use Rattle.model.specs.Step.{Item, step, exception}
use Rattle.model.specs.examples.ReaderExamples.{nowhere, reader_examples}
use Rattle.model.specs.Bench.{Point, all_met, start, stack_alone, same_list, same_state}
use Rattle.model.specs.declared.State.{State}

-- ---- on no memory

-- one octabyte, 0
abbrev eight : Windows
eight = stack_alone (record { base = stack_start; bytes = replicate 8 0 })

-- n locals, each 1 up to $1
abbrev locals : ℕ → State
locals n = stored (stored (with_special start r_l n) 0 1) 1 1

-- one item: its reply and the state that it leaves
abbrev gives : State → Item → ℕ → State → Point
gives s i n t = record { begin = s; window = nowhere; items = i ∷ []; replies = n ∷ []; end = t; left = nowhere }

abbrev refused : State → Item → ℕ → Point
refused s i n = gives s i n s

-- ---- "Bit k of the marks": of nine vectors only number k is loaded, or all but number k

abbrev marked : State → ℕ → State
marked s m = record { general = s.general; special = s.special; pc = s.pc; halt = s.halt; marks = m; mask = s.mask }

-- the trip registers of an instruction 0 at @ = 0
abbrev trip_registers : State → State
trip_registers s = with_special (with_special s r_w 4) r_x (2 ^ 63)

abbrev trap_registers : State → ℕ → State
trap_registers s word = with_special (with_special s r_ww 4) r_xx (2 ^ 63 + word)

-- TRIP, whose vector is number 0
abbrev trip_marks : List Point
trip_marks =
    gives (marked fresh 1) (step 0xFF 0 0 0) 0 (goes (with_special (trip_registers (marked fresh 1)) r_x (2 ^ 63 + 0xFF000000)) 0)
    ∷ gives (marked fresh 0x1FE) (step 0xFF 0 0 0) 19 (halted (with_special (trip_registers (marked fresh 0x1FE)) r_x (2 ^ 63 + 0xFF000000))) ∷ []

-- the exception of vector number k + 1: its flag and its enable are 2^(7 − k)
abbrev armed : ℕ → ℕ → State
armed k m = with_special (marked fresh m) r_a (2 ^ (15 - k))

abbrev mark_examples : ℕ → List Point
mark_examples k =
    gives (armed k (2 ^ (k + 1))) (exception (2 ^ (7 - k)) 0 0 0 0 0 0) 0 (goes (trip_registers (armed k (2 ^ (k + 1)))) (16 * (k + 1)))
    ∷ gives (armed k (0x1FF - 2 ^ (k + 1))) (exception (2 ^ (7 - k)) 0 0 0 0 0 0) 19 (halted (trip_registers (armed k (0x1FF - 2 ^ (k + 1)))))
    -- not enabled: it is added to rA
    ∷ gives start (exception (2 ^ (7 - k)) 0 0 0 0 0 0) 0 (goes (with_special start r_a (2 ^ (7 - k))) 4) ∷ []

-- ---- TRAP: "a Y that `from_u8` names" with X = 0 is 4; with another Y, or another X, 20

abbrev trap_named : ℕ → Point
trap_named y = refused start (step 0 0 y 0) 4

abbrev trap_unnamed : ℕ → ℕ → Point
trap_unnamed x y = gives start (step 0 x y 0) 20 (halted (trap_registers start (65536 * x + 256 * y)))

abbrev trap_examples : List Point
trap_examples =
    trap_named 0 ∷ trap_named 10 ∷ trap_named 0x80 ∷ trap_named 0x82
    ∷ trap_unnamed 0 11 ∷ trap_unnamed 0 0x7F ∷ trap_unnamed 0 0x83 ∷ trap_unnamed 0 0xFF
    ∷ trap_unnamed 1 10 ∷ trap_unnamed 1 11 ∷ trap_unnamed 1 0x7F ∷ trap_unnamed 1 0x80 ∷ trap_unnamed 1 0x82 ∷ trap_unnamed 1 0x83 ∷ []

-- ---- the registers of a trip and of a trap, each with a value of its own

abbrev apart : State
apart = goes (with_special (stored (stored (stored start 255 255) 40 140) 50 150) r_j 44) 0x1000

abbrev interrupt_examples : List Point
interrupt_examples =
    gives apart (step 0xFF 7 40 50) 0
    (goes (with_special (with_special (with_special (with_special (with_special (stored apart 255 44) r_b 255) r_w 0x1004) r_x (2 ^ 63 + 0xFF072832)) r_y 140) r_z 150) 0)
    ∷ gives apart (step 0 7 40 50) 20
    (halted (with_special (with_special (with_special (with_special (with_special (stored apart 255 44) r_bb 255) r_ww 0x1004) r_xx (2 ^ 63 + 0x072832)) r_yy 140) r_zz 150)) ∷ []

-- ---- a marginal register reads as it is held: rL 0, $0 = 1, BNZ $0,0,5

abbrev marginal_example : Point
marginal_example = gives (stored start 0 1) (step 0x4A 0 0 5) 0 (goes (stored start 0 1) 0x14)

-- ---- every opcode: where each arm goes, and 3 beside the arms

-- a branch from 0x40000 on $255: taken or not on 0, 1, 2, 2^63 − 1, 2^63 and 2^63 + 1
abbrev branching : ℕ → State
branching v = goes (stored start 255 v) 0x40000

abbrev branches : ℕ → ℕ → ℕ → Bool → Point
branches op v target t = gives (branching v) (step op 255 255 255) 0 (goes (branching v) (cond t target 0x40004))

-- the same of the branch forward (YZ 65535: 0x7fffc), backward (0x3fffc) and their probable kin
abbrev kin : ℕ → ℕ → Bool → List Point
kin op v t = branches op v 0x7fffc t ∷ branches (op + 1) v 0x3fffc t ∷ branches (op + 0x10) v 0x7fffc t ∷ branches (op + 0x11) v 0x3fffc t ∷ []

abbrev condition : ℕ → Bool → Bool → Bool → Bool → Bool → Bool → List Point
condition op a b c d e f = kin op 0 a ++ (kin op 1 b ++ (kin op 2 c ++ (kin op (2 ^ 63 - 1) d ++ (kin op (2 ^ 63) e ++ kin op (2 ^ 63 + 1) f))))

-- BN, BZ, BP, BOD, BNN, BNZ, BNP, BEV
abbrev branch_examples : List Point
branch_examples =
    condition 0x40 false false false false true true ++ (condition 0x42 true false false false false false
    ++ (condition 0x44 false true true true false false ++ (condition 0x46 false true false true false true
    ++ (condition 0x48 true true true true false false ++ (condition 0x4A false true true true true true
    ++ (condition 0x4C true false false false true true ++ condition 0x4E true false true false true false))))))

abbrev far : State
far = goes start 0x40000000

-- $40 and $50 hold 0x123 and 0x1000, which GO adds; the target wraps
abbrev adding : State
adding = stored (stored start 40 0x123) 50 0x1000

abbrev control_examples : List Point
control_examples =
    -- JMP, JMPB
    gives far (step 0xF0 1 2 3) 0 (goes start 0x4004080C)
    ∷ gives far (step 0xF0 255 255 255) 0 (goes start 0x43fffffc)
    ∷ gives far (step 0xF1 255 255 255) 0 (goes start 0x3ffffffc)
    ∷ gives far (step 0xF1 0 0 0) 0 (goes start 0x3c000000)
    ∷ gives start (step 0xF1 255 255 255) 0 (goes start 0xfffffffffffffffc)
    -- GETA, GETAB
    ∷ gives far (step 0xF4 40 2 3) 0 (goes (stored start 40 0x4000080C) 0x40000004)
    ∷ gives far (step 0xF5 40 255 255) 0 (goes (stored start 40 0x3ffffffc) 0x40000004)
    ∷ gives far (step 0xF5 40 0 0) 0 (goes (stored start 40 0x3ffc0000) 0x40000004)
    ∷ gives (goes start 0xfffffffffffffffc) (step 0xF4 40 0 1) 0 start
    -- GO, GOI
    ∷ gives adding (step 0x9E 60 40 50) 0 (goes (stored adding 60 4) 0x1123)
    ∷ gives adding (step 0x9F 60 40 50) 0 (goes (stored adding 60 4) 0x155)
    ∷ gives (stored adding 40 0xffffffffffffffff) (step 0x9F 60 40 2) 0 (goes (stored (stored adding 40 0xffffffffffffffff) 60 4) 1)
    -- SYNC, SWYM
    ∷ gives start (step 0xFC 0 0 3) 0 (goes start 4)
    ∷ gives start (step 0xFC 0 0 4) 17 (halted start)
    ∷ gives start (step 0xFC 0 0 7) 17 (halted start)
    ∷ gives start (step 0xFC 0 0 8) 18 (halted start)
    ∷ gives start (step 0xFC 0 1 0) 18 (halted start)
    ∷ gives start (step 0xFC 1 0 0) 18 (halted start)
    ∷ gives start (step 0xFD 1 2 3) 0 (goes start 4)
    -- GET, and 5
    ∷ gives start (step 0xFE 40 0 9) 0 (goes (stored start 40 2009) 4)
    ∷ gives start (step 0xFE 40 0 31) 0 (goes start 4)
    ∷ refused start (step 0xFE 40 0 32) 5 ∷ []

-- a call on two octabytes: PUSHJ, PUSHJB, PUSHGO, PUSHGOI of $0 from 0x40000 store the hole's number 0
abbrev calling : State
calling = goes adding 0x40000

abbrev calls : ℕ → ℕ → ℕ → ℕ → Point
calls op y z target = record {
  begin = calling;
  window = eight;
  items = step op 0 y z ∷ [];
  replies = 0 ∷ [];
  end = goes (with_special (with_special (with_special adding r_o (stack_start + 8)) r_s (stack_start + 8)) r_j 0x40004) target;
  left = eight;
}

abbrev call_examples : List Point
call_examples = calls 0xF2 2 3 0x4080C ∷ calls 0xF3 255 255 0x3fffc ∷ calls 0xBE 40 50 0x1123 ∷ calls 0xBF 40 50 0x155 ∷ []

-- POP of three outputs, and of one more than there are: the frame below rO has one local, 7
abbrev frame : Windows
frame = stack_alone (record { base = stack_start; bytes = replicate 7 0 ++ (7 ∷ replicate 7 0) ++ (1 ∷ []) })

abbrev outputs : State
outputs = stored (stored (stored (with_special (with_special (with_special start r_o (stack_start + 16)) r_s (stack_start + 16)) r_l 3) 0 1) 1 2) 2 3

abbrev pops : ℕ → ℕ → State → Point
pops x l t = record { begin = outputs; window = frame; items = step 0xF8 x 0 0 ∷ []; replies = 0 ∷ []; end = with_special t r_l l; left = frame }

abbrev pop_examples : List Point
pop_examples =
    pops 3 4 (stored (stored (stored (stored start 0 7) 1 3) 2 1) 3 2)
    ∷ pops 4 5 (stored (stored (stored (stored start 0 7) 2 1) 3 2) 4 3) ∷ []

-- rA's enables are its second byte: all of them, and more of rA set
abbrev enable_examples : List Point
enable_examples =
    gives (with_special start r_a 0xFF00) (exception 0x80 0 0 0 0 0 0) 0 (goes (trip_registers (with_special start r_a 0xFF00)) 0x10)
    ∷ gives (with_special start r_a 0x3FFFF) (exception 0x80 0 0 0 0 0 0) 0 (goes (trip_registers (with_special start r_a 0x3FFFF)) 0x10) ∷ []

abbrev no_arm : ℕ → Point
no_arm op = refused start (step op 0 0 0) 3

-- the opcodes beside those that have an arm, and RESUME
abbrev no_arm_examples : List Point
no_arm_examples =
    no_arm 0x01 ∷ no_arm 0x17 ∷ no_arm 0x60 ∷ no_arm 0x7F ∷ no_arm 0x90 ∷ no_arm 0x9D ∷ no_arm 0xB0 ∷ no_arm 0xBD ∷ no_arm 0xC0 ∷ no_arm 0xEF ∷ no_arm 0xF9 ∷ no_arm 0x100 ∷ []

-- ---- PUTI 33 to each special register, and to number 32

abbrev put_done : ℕ → Point
put_done k = gives start (step 0xF7 k 0 33) 0 (goes (with_special start k 33) 4)

abbrev put_refused : ℕ → ℕ → Point
put_refused k n = gives start (step 0xF7 k 0 33) n (halted start)

abbrev put_examples : List Point
put_examples =
    put_done 0 ∷ put_done 1 ∷ put_done 2 ∷ put_done 3 ∷ put_done 4 ∷ put_done 5 ∷ put_done 6 ∷ put_done 7
    ∷ put_refused 8 8 ∷ put_refused 9 9 ∷ put_refused 10 9 ∷ put_refused 11 9 ∷ put_refused 12 8 ∷ put_refused 13 8 ∷ put_refused 14 8 ∷ put_refused 15 8
    ∷ put_refused 16 8 ∷ put_refused 17 8 ∷ put_refused 18 8 ∷ put_done 19 ∷ gives start (step 0xF7 20 0 33) 0 (goes start 4) ∷ put_done 21 ∷ put_done 22 ∷ put_done 23
    ∷ put_done 24 ∷ put_done 25 ∷ put_done 26 ∷ put_done 27 ∷ put_done 28 ∷ put_done 29 ∷ put_done 30 ∷ put_done 31
    ∷ put_refused 32 7 ∷ put_refused 255 7
    -- rG: 255, and 256 through $255; rL: fewer locals, the dropped ones cleared; rG below rL
    ∷ gives start (step 0xF7 19 0 255) 0 (goes (with_special start r_g 255) 4)
    ∷ gives (locals 2) (step 0xF7 20 0 1) 0 (goes (stored (locals 1) 1 0) 4)
    ∷ gives (with_special (locals 33) r_g 40) (step 0xF7 19 0 32) 10 (halted (with_special (locals 33) r_g 40))
    ∷ gives (with_special (locals 33) r_g 40) (step 0xF7 19 0 33) 0 (goes (with_special (locals 33) r_g 33) 4) ∷ []

-- ---- 1: each limit of an admissible state, one beyond it, and 1 before 3

abbrev admitted : State → Point
admitted s = gives s (step 0xFD 0 0 0) 0 (goes s 4)

abbrev inadmissible : State → Point
inadmissible s = refused s (step 0x01 0 0 0) 1

abbrev admissible_examples : List Point
admissible_examples =
    admitted (with_special start r_g 32) ∷ inadmissible (with_special start r_g 31)
    ∷ admitted (with_special start r_g 255) ∷ inadmissible (with_special start r_g 256)
    ∷ admitted (with_special start r_l 32) ∷ inadmissible (with_special start r_l 33)
    ∷ admitted (with_special start r_a 0x3FFFF) ∷ inadmissible (with_special start r_a 0x40000)
    ∷ admitted (marked start 0x1FF) ∷ inadmissible (marked start 0x200)
    ∷ gives (with_special start r_g 31) (exception 0 0 0 0 0 0 0) 1 (with_special start r_g 31) ∷ []

-- ---- 2: the window's rule, by its shape: the same of A and of B

abbrev shape : ℕ → ℕ → Shape
shape b n = record { from = b; size = n }

-- two windows obey the rule where this one does, as A and as B
abbrev either_ruled : Shape → Bool
either_ruled w = ruled (record { a = w; b = shape 8 0 }) && ruled (record { a = shape 8 0; b = w })

abbrev neither_ruled : Shape → Bool
neither_ruled w = not (ruled (record { a = w; b = shape 8 0 })) && not (ruled (record { a = shape 8 0; b = w }))

unfoldable pub ruled_shapes : Bool
ruled_shapes =
    either_ruled (shape 0 1048576) && (either_ruled (shape (2 ^ 64 - 8) 8) && (either_ruled (shape 8 0)
    && (neither_ruled (shape 0 1048584) && (neither_ruled (shape 0 4) && (neither_ruled (shape 4 8) && (neither_ruled (shape (2 ^ 64) 8) && neither_ruled (shape 1 0)))))))

-- ---- the special registers' numbers, and the fresh state's, one by one

unfoldable pub numbered : Bool
numbered = same_list
    (r_b ∷ r_d ∷ r_e ∷ r_h ∷ r_j ∷ r_m ∷ r_r ∷ r_bb ∷ r_c ∷ r_n ∷ r_o ∷ r_s ∷ r_i ∷ r_t ∷ r_tt ∷ r_k
    ∷ r_q ∷ r_u ∷ r_v ∷ r_g ∷ r_l ∷ r_a ∷ r_f ∷ r_p ∷ r_w ∷ r_x ∷ r_y ∷ r_z ∷ r_ww ∷ r_xx ∷ r_yy ∷ r_zz ∷ [])
    (tab 0 32 (λ k. k))

-- number by number, with the stack at a; elsewhere rO and rS alone are others
abbrev fresh_written : ℕ → State
fresh_written a = record {
  general = replicate 256 0;
  special = 0 ∷ 0 ∷ 0 ∷ 0 ∷ 0 ∷ 0 ∷ 0 ∷ 0 ∷ 0 ∷ 2009 ∷ a ∷ a ∷ 0
      ∷ 0x8000000500000000 ∷ 0x8000000600000000 ∷ 0xFFFFFFFFFFFFFFFF ∷ 0 ∷ 0 ∷ 0x369C200400000000 ∷ 32
      ∷ 0 ∷ 0 ∷ 0 ∷ 0 ∷ 0 ∷ 0 ∷ 0 ∷ 0 ∷ 0 ∷ 0 ∷ 0 ∷ 0 ∷ [];
  pc = 0;
  halt = 0;
  marks = 0;
  mask = 0;
}

unfoldable pub fresh_is : Bool
fresh_is = same_state fresh (fresh_written 0x6000000000000000)

unfoldable pub fresh_at_is : Bool
fresh_at_is = same_state (fresh_at stack_start) fresh && same_state (fresh_at 0xFEDCBA9876543210) (fresh_written 0xFEDCBA9876543210)

unfoldable pub more_examples : List Point
more_examples =
    trip_marks ++ (mark_examples 0 ++ (mark_examples 1 ++ (mark_examples 2 ++ (mark_examples 3 ++ (mark_examples 4 ++ (mark_examples 5 ++ (mark_examples 6 ++ (mark_examples 7
    ++ (trap_examples ++ (interrupt_examples ++ (marginal_example ∷ (branch_examples ++ (control_examples ++ (call_examples ++ (pop_examples ++ (enable_examples ++ (no_arm_examples ++ (put_examples ++ admissible_examples))))))))))))))))))

abbrev pub MoreExamplesMet : Type 0
MoreExamplesMet = (all_met more_examples ≡ true) × (ruled_shapes ≡ true) × (numbered ≡ true) × (fresh_is ≡ true) × (fresh_at_is ≡ true) × (reader_examples ≡ true)
