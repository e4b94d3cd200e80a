-- Theorem. Hidden registers, computed: which masks a state may have; GET and PUT of each special under a mask; what else a mask leaves as it was; and the same
-- of fetched instructions, and of a run.
use Rattle.std.specs.Prelude.{◌≡◌, ℕ, ◌+◌, ◌*◌, ◌^◌, Bool, true, not, ◌&&◌, List, [], ◌∷◌, ◌++◌}
use Rattle.model.specs.Octa.{bytes_of}
use Rattle.model.specs.Memory.{Windows}
use Rattle.model.specs.Registers.{r_b, r_d, r_e, r_h, r_j, r_m, r_r, r_bb, r_c, r_n, r_o, r_s, r_i, r_t, r_tt, r_k, r_q, r_u, r_v, r_g, r_l, r_a, r_f, r_p, r_w, r_x, r_y, r_z, r_ww, r_xx, r_yy, r_zz, stack_start, sp, admissible, masked, goes, halted, with_special, stored}
use Rattle.model.specs.Step.{Item, step, exception, fetched}
use Rattle.model.specs.Bench.{Point, all_met, start}
use Rattle.model.specs.examples.RunExamples.{RunExample, all_stop, alls}
use Rattle.model.specs.declared.State.{State}

-- ---- masks of one bit

-- "Only rBB, rC, rN, rI, rT, rTT, rK, rQ, rU, rV, rF, rWW, rXX, rYY and rZZ may be in it"; the others may not, and no bit above 31
abbrev hidden : List ℕ
hidden = r_bb ∷ r_c ∷ r_n ∷ r_i ∷ r_t ∷ r_tt ∷ r_k ∷ r_q ∷ r_u ∷ r_v ∷ r_f ∷ r_ww ∷ r_xx ∷ r_yy ∷ r_zz ∷ []

abbrev under : ℕ → State
under k = masked start (2 ^ k)

unfoldable pub masks_taken : Bool
masks_taken =
    alls (λ k. admissible (under k)) hidden
    && alls (λ k. not (admissible (under k))) (r_b ∷ r_d ∷ r_e ∷ r_h ∷ r_j ∷ r_m ∷ r_r ∷ r_o ∷ r_s ∷ r_g ∷ r_l ∷ r_a ∷ r_p ∷ r_w ∷ r_x ∷ r_y ∷ r_z ∷ 32 ∷ 63 ∷ [])

-- ---- one item, with a program of one octabyte at 0 and no stack

abbrev holding : ℕ → Windows
holding t = record { a = record { base = 0; bytes = bytes_of (t * 2 ^ 32) }; b = record { base = stack_start; bytes = [] } }

abbrev gives : State → Item → ℕ → State → Point
gives s i n t = record { begin = s; window = holding 0; items = i ∷ []; replies = n ∷ []; end = t; left = holding 0 }

-- 31: halt code 1, and nothing else
abbrev hides31 : State → Item → Point
hides31 s i = gives s i 31 (halted s)

-- all that may be hidden is; and marginal $3 is 7
abbrev veiled : State
veiled = stored (masked start 0xF047F380) 3 7

-- GET $255 and PUT of each register that is hidden, alone, are refused; so they are in a state in which all are
abbrev each31 : List ℕ → List Point
each31 [] = []
each31 (k ∷ ks) =
    hides31 (under k) (step 0xFE 255 0 k) ∷ hides31 (under k) (step 0xF7 k 0 0) ∷ hides31 veiled (step 0xFE 255 0 k) ∷ hides31 veiled (step 0xF6 k 0 255) ∷ each31 ks

-- @ + 4, and special k in $255
abbrev got : State → ℕ → State
got s k = goes (stored s 255 (sp s k)) 4

abbrev step_examples : List Point
step_examples =
    -- GET $5,rN claims nothing; GET and PUT 32 are 5 and 7, which a mask does not hide
    hides31 veiled (step 0xFE 5 0 r_n)
    ∷ gives veiled (step 0xFE 255 0 32) 5 veiled
    ∷ gives veiled (step 0xF7 32 0 0) 7 (halted veiled)
    -- rC hidden: rBB and rN are seen, and PUT rN is 9, PUT rI 8
    ∷ gives (under r_c) (step 0xFE 255 0 r_bb) 0 (got (under r_c) r_bb)
    ∷ gives (under r_c) (step 0xFE 255 0 r_n) 0 (got (under r_c) r_n)
    ∷ gives (under r_c) (step 0xF7 r_n 0 0) 9 (halted (under r_c))
    ∷ gives (under r_c) (step 0xF7 r_i 0 0) 8 (halted (under r_c))
    ∷ gives (under r_c) (step 0xF7 r_bb 0 1) 0 (goes (with_special (under r_c) r_bb 1) 4)
    -- all hidden: rR, rO and rG are seen, and 10 is judged
    ∷ gives veiled (step 0xFE 255 0 r_r) 0 (got veiled r_r)
    ∷ gives veiled (step 0xFE 255 0 r_o) 0 (got veiled r_o)
    ∷ gives veiled (step 0xFE 255 0 r_g) 0 (got veiled r_g)
    ∷ gives veiled (step 0xF7 r_r 0 1) 0 (goes (with_special veiled r_r 1) 4)
    ∷ gives veiled (step 0xF7 r_g 0 31) 10 (halted veiled)
    -- rR's bit, and one above 31, make a state not admissible: for a step, an exception and a fetched instruction
    ∷ gives (under r_r) (step 0xFD 0 0 0) 1 (under r_r)
    ∷ gives (under r_r) (exception 0 0 0 0 0 0 0) 1 (under r_r)
    ∷ gives (under r_r) fetched 1 (under r_r)
    ∷ gives (under 32) (step 0xFD 0 0 0) 1 (under 32) ∷ []

-- ---- "Trips and traps still write these registers"

-- $255 is 5: TRAP 1,255,3
abbrev trapping : State
trapping = stored veiled 255 5

abbrev trap_example : Point
trap_example = gives trapping (step 0 1 255 3) 20 (halted (with_special (with_special (with_special (with_special (with_special (stored trapping 255 0)
    r_bb 5) r_ww 4) r_xx (2 ^ 63 + 0x01FF03)) r_yy 5) r_zz 7))

-- ---- fetched: the claim of $5 clears $3, and 31 gives it back

abbrev fetches : ℕ → ℕ → State → Point
fetches t n e = record { begin = veiled; window = holding t; items = fetched ∷ []; replies = n ∷ []; end = e; left = holding t }

abbrev fetch_examples : List Point
fetch_examples =
    fetches 0xFE050009 31 (halted veiled)
    ∷ fetches 0xF7070001 31 (halted veiled)
    ∷ fetches 0xFE05000A 0 (goes (stored (with_special (stored veiled 3 0) r_l 6) 5 (sp veiled r_o)) 4) ∷ []

unfoldable pub hidden_examples : List Point
hidden_examples = each31 hidden ++ (step_examples ++ (trap_example ∷ fetch_examples))

-- a run: SWYM is done, GET $5,rN refused
abbrev swym_get : Windows
swym_get = record { a = record { base = 0; bytes = bytes_of 0xFD000000FE050009 }; b = record { base = stack_start; bytes = [] } }

unfoldable pub hidden_runs : List RunExample
hidden_runs = record { begin = veiled; window = swym_get; grant = 9; done = 1; reply = 31; end = goes (halted veiled) 4; left = swym_get } ∷ []

abbrev pub HiddenExamplesMet : Type 0
HiddenExamplesMet = (masks_taken ≡ true) × (all_met hidden_examples ≡ true) × (all_stop hidden_runs ≡ true)
