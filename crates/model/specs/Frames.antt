-- 01, 'Steps', PUSH and POP (stack.rs, `push_frame`, `pop_frame`): Knuth's rules, and the departures from them by name.
-- Knuth: Fascicle 1, 1.3.1', 'Register stack'; mmix-doc on PUSHJ, PUSHGO and POP; mmix-sim for the letter.
use Rattle.std.specs.Prelude.{ℕ, ◌+◌, ◌-◌, ◌*◌, ◌%◌, ◌^◌, min, Bool, cond, not, ◌&&◌, List, [], ◌==◌, nat_le, nat_lt, slice_index, slice_set}
use Rattle.model.specs.Fill.{over, tab}
use Rattle.model.specs.Plan.{Plan, answer, read}
use Rattle.model.specs.NoMemory.{refuse, tell}
use Rattle.model.specs.Registers.{with_parts, r_j, r_o, r_g, r_l, stack_start, sp, reg, following, goes, with_special, claim_local, spilled}
use Rattle.model.specs.declared.State.{State}

-- ---- PUSH

-- "if X ≥ rG the hole number H is rL, else X"
unfoldable pub hole : State → ℕ → ℕ
hole s x = cond (nat_le (sp s r_g) x) (sp s r_l) x

-- octabyte i of the frame: "It stores $0 to $(H−1) from rO and H after them; these H + 1 octabytes are the frame"
unfoldable pub framed : State → ℕ → ℕ → ℕ
framed s h i = cond (nat_lt i h) (reg s i) h

-- Knuth's frame: a marginal X is claimed first (if X ≥ rL, rL is increased to X + 1, the new locals zero).
-- Departure: `framed` takes marginal registers as held; they differ only where one below X is not zero.
unfoldable pub framed_rule : State → ℕ → ℕ → ℕ
framed_rule s x i = framed (claim_local s x) (hole s x) i

-- $i once the local registers have slid down by n: "The callee gets $(H+1) upward .. registers up to rG − 1 are else 0"
unfoldable pub slid : State → ℕ → ℕ → ℕ
slid s n i = cond (nat_lt i (sp s r_l - n)) (reg s (n + i)) 0

-- "rL is max(0, rL − H − 1) .. rO .. grow by 8 × (H + 1)", n for H + 1
unfoldable pub slide : State → ℕ → State
slide s n = with_parts s
    (over (slid s n) 0 (sp s r_g) s.general)
    (slice_set (slice_set s.special r_l (sp s r_l - n)) r_o ((sp s r_o + 8 * n) % 2 ^ 64))

-- Knuth's PUSH with hole h: ".. rJ is @ + 4"
unfoldable pub pushed_rule : State → ℕ → State
pushed_rule s h = with_special (slide s (h + 1)) r_j (following s)

-- the step: rS moves with rO
unfoldable pub pushed : State → ℕ → State
pushed s h = spilled (pushed_rule s h)

-- a call of t
unfoldable pub push_frame : State → ℕ → ℕ → Plan State
push_frame s h t = answer 0 (goes (pushed s h) t) (sp s r_o) (tab 0 (h + 1) (framed s h))

-- ---- POP

-- "the count is X, or rL + 1 with a zero hole if X > rL"
unfoldable pub count_of : State → ℕ → ℕ
count_of s x = cond (nat_lt (sp s r_l) x) (sp s r_l + 1) x

-- "$H gets the last output (0 if count is 0)"
unfoldable pub last_output : State → ℕ → ℕ
last_output s x = cond (nat_lt (sp s r_l) x) 0 (cond (x == 0) 0 (reg s (x - 1)))

-- $i of the caller, ls read back: "$H gets the last output .., the others follow it in order, $0 to $(H−1) are read back,
-- other registers below rG cleared"
unfoldable pub restored : State → ℕ → ℕ → List ℕ → ℕ → ℕ
restored s x h ls i = cond (nat_lt i h) (slice_index ls i) (cond (i == h) (last_output s x) (cond (nat_lt i (h + count_of s x)) (reg s (i - h - 1)) 0))

-- "Registers at or above rG are never written. rL is min(H + count, rG); rO .. become rO − 8 × (H + 1)"
unfoldable pub unslide : State → ℕ → ℕ → List ℕ → State
unslide s x h ls = with_parts s
    (over (restored s x h ls) 0 (sp s r_g) s.general)
    (slice_set (slice_set s.special r_l (min (h + count_of s x) (sp s r_g))) r_o (sp s r_o - 8 * (h + 1)))

-- the step: rS moves with rO
unfoldable pub popped : State → ℕ → ℕ → List ℕ → State
popped s x h ls = spilled (unslide s x h ls)

-- "$i for each i below both H and rG"
unfoldable pub pop_to : State → ℕ → ℕ → ℕ → Plan State
pop_to s x t h = read 6 (sp s r_o - 8 * (h + 1)) (min h (sp s r_g)) (λ ls. answer 0 (goes (popped s x h ls) t) 0 [])

-- Knuth's POP to t: "H is the octabyte below rO modulo 256"
unfoldable pub pop_rule : State → ℕ → ℕ → Plan State
pop_rule s x t = read 6 (sp s r_o - 8) 1 (λ v. pop_to s x t (slice_index v 0 % 256))

-- Departure: "POP with rO ≤ 0x6000000000000000" is 29
unfoldable pub no_frame : State → Bool
no_frame s = nat_le (sp s r_o) stack_start

-- Departure: "rO above stack start, not a multiple of 8 or ≥ 0x8000000000000000" is 12
unfoldable pub misplaced : State → Bool
misplaced s = not (sp s r_o % 8 == 0 && nat_lt (sp s r_o) 0x8000000000000000)

-- "such a POP is refused and only the halt code changes, to 1", "where the no-frame test stands": POP judges 29, 12, 6
unfoldable pub pop_frame : State → ℕ → ℕ → Plan State
pop_frame s x t = cond (no_frame s) (tell (refuse 29 s)) (cond (misplaced s) (tell (refuse 12 s)) (pop_rule s x t))
