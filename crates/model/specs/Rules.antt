-- Knuth's rules beside the steps: of reading a register, and of each arm; from these his whole step, `step_rule`, and his exception,
-- `exception_rule`, under 01's order of judging. Departures says where step and rule are equal.
-- Knuth: Fascicle 1, 1.3.1'; mmix-doc; mmix-sim for the letter, as we know them.
use Rattle.std.specs.Prelude.{ℕ, ◌+◌, ◌-◌, ◌*◌, ◌/◌, ◌%◌, ◌^◌, min, cond, List, [], ◌∷◌, ◌==◌, nat_lt, slice_index}
use Rattle.model.specs.Fill.{over, tab}
use Rattle.model.specs.Octa.{octa}
use Rattle.model.specs.Registers.{with_parts, r_c, r_o, r_i, r_u, r_g, r_l, sp, reg, admissible, goes, next, with_special, is_marginal, spilled}
use Rattle.model.specs.Plan.{Plan, answer, read, map_plan}
use Rattle.model.specs.Opcodes.{Operand, register, immediate, Width, Sign}
use Rattle.model.specs.NoMemory.{Said, say, tell}
use Rattle.model.specs.Control.{is_negative}
use Rattle.model.specs.Frames.{hole, framed_rule, pushed_rule, unslide}
use Rattle.model.specs.Contexts.{below, unsaved_special, packed_at, octas_of, count_below}
use Rattle.model.specs.Trips.{word_of, trip_rule, enabled, vector_of, added_rule, flagged}
use Rattle.model.specs.LoadStore.{merged, fits, load_from, flag_v}
use Rattle.model.specs.ArithmeticStep.{results_in, with_results}
use Rattle.model.specs.declared.State.{State}
use Rattle.model.specs.declared.Operation.{Operation}

-- ---- reading

-- a marginal register reads as zero. Departure: `reg` reads it as held; they differ only where it is not zero
unfoldable pub read_rule : State → ℕ → ℕ
read_rule s k = cond (is_marginal s k) 0 (reg s k)

abbrev pub operand_rule : State → Operand → ℕ → ℕ
operand_rule s register z = read_rule s z
operand_rule s immediate z = z

abbrev pub sum_rule : State → Operand → ℕ → ℕ → ℕ
sum_rule s o y z = (read_rule s y + operand_rule s o z) % 2 ^ 64

-- ---- what a rule leaves

-- the program goes on from a state; or the instruction is illegal or privileged: it is not done, and the machine interrupts the program
pub data After : Type 0 where
  goes_on : State → After
  interrupts : After

abbrev pub going : Plan State → Plan After
going p = map_plan goes_on p

abbrev pub done : State → Plan After
done s = going (tell (say 0 s))

abbrev pub interrupt : Plan After
interrupt = answer 0 interrupts 0 []

-- ---- PUSH and POP: rS stays

-- a call of t with hole number X, or rL
unfoldable pub push_rule : State → ℕ → ℕ → Plan State
push_rule s x t = answer 0 (goes (pushed_rule s (hole s x)) t) (sp s r_o) (tab 0 (hole s x + 1) (framed_rule s x))

-- the address k octabytes below rO
unfoldable pub below_top : State → ℕ → ℕ
below_top s k = (sp s r_o + (2 ^ 64 - 8 * k)) % 2 ^ 64

unfoldable pub popped_rule : State → ℕ → ℕ → List ℕ → State
popped_rule s x h ls = with_special (unslide s x h ls) r_o (below_top s (h + 1))

-- POP, whatever rO is: the hole's number from the octabyte below rO, then the locals below the hole
unfoldable pub pop_hole_rule : State → ℕ → ℕ → ℕ → Plan State
pop_hole_rule s x t h = read 6 (below_top s (h + 1)) (min h (sp s r_g)) (λ ls. answer 0 (goes (popped_rule s x h ls) t) 0 [])

unfoldable pub pop_any_rule : State → ℕ → ℕ → Plan State
pop_any_rule s x t = read 6 (below_top s 1) 1 (λ v. pop_hole_rule s x t (slice_index v 0 % 256))

-- ---- UNSAVE: the address's low bits dropped, rG taken as saved, rA's low 18 bits, the count's low byte, rL cut to rG

unfoldable pub unsaved_general_rule : ℕ → ℕ → List ℕ → ℕ → ℕ
unsaved_general_rule g l vs i = cond (nat_lt i (min l g)) (slice_index vs i) (cond (nat_lt i g) 0 (slice_index vs (l + 1 + (i - g))))

unfoldable pub unsaved_special_rule : State → ℕ → ℕ → ℕ → ℕ → List ℕ → ℕ → ℕ
unsaved_special_rule s o g a l vs k = cond (k == r_l) (min l g) (unsaved_special s o g a l vs k)

unfoldable pub unsaved_rule : State → ℕ → ℕ → ℕ → ℕ → List ℕ → State
unsaved_rule s o g a l vs = spilled (with_parts s
    (over (unsaved_general_rule g l vs) 0 256 s.general)
    (over (unsaved_special_rule s o g a l vs) 0 32 s.special))

unfoldable pub unsave_rest_rule : State → ℕ → ℕ → ℕ → ℕ → Plan State
unsave_rest_rule s q g a l = read 6 (below q (packed_at l g)) (octas_of l g) (λ vs. answer 0 (next (unsaved_rule s (below q (packed_at l g) % 2 ^ 64) g a l vs)) 0 [])

unfoldable pub unsave_count_rule : State → ℕ → ℕ → ℕ → Plan State
unsave_count_rule s q g a = read 6 (below q (count_below g)) 1 (λ v. unsave_rest_rule s q g a (slice_index v 0 % 256))

unfoldable pub unsave_rule : State → ℕ → Plan State
unsave_rule s p = read 6 (octa p) 1 (λ v. unsave_count_rule s (octa p) (slice_index v 0 / 2 ^ 56) (slice_index v 0 % 2 ^ 18))

-- ---- flags: every exception but the taken one is added, and U without X isn't; the trip is taken whatever is at the vector

unfoldable pub with_added_rule : State → ℕ → State
with_added_rule s f = flagged s (added_rule s f)

unfoldable pub raised_rule : State → ℕ → ℕ → ℕ → ℕ → State
raised_rule s f word u v =
    cond (enabled s f == 0) (next (with_added_rule s f))
    (trip_rule (with_added_rule s f) (vector_of (enabled s f)) word u v)

-- ---- loads and stores: an address of 2^63 or more is the kernel's, an interrupt

unfoldable pub load_rule : State → Width → Sign → ℕ → ℕ → Plan After
load_rule s d g x a = cond (is_negative a) interrupt (going (load_from s d g x a))

unfoldable pub store_state : State → Width → Sign → ℕ → ℕ → ℕ → State
store_state s d g u a word = cond (fits d g u) (next s) (raised_rule s flag_v word a u)

unfoldable pub store_rule : State → Width → Sign → ℕ → ℕ → ℕ → Plan After
store_rule s d g u a word =
    cond (is_negative a) interrupt (going (read 6 a 1 (λ v. answer 0 (store_state s d g u a word) a (merged d a (slice_index v 0) u ∷ []))))

-- ---- arithmetic

unfoldable pub arithmetic_rule : State → Operation → ℕ → ℕ → ℕ → ℕ → State
arithmetic_rule s f x u v word =
    cond ((results_in s f u v).flags == 0) (next (with_results s x (results_in s f u v)))
    (raised_rule (with_results s x (results_in s f u v)) (results_in s f u v).flags word u v)

-- ---- exceptions

-- KNUTH'S exception; "this entry judges 1"
unfoldable pub exception_rule : State → ℕ → ℕ → ℕ → ℕ → ℕ → ℕ → ℕ → Said
exception_rule s f op x y z u v = cond (admissible s) (say 0 (raised_rule s f (word_of op x y z) u v)) (say 1 s)

-- ---- the counters

-- what time does to a state: c cycles for rC, i for the interval counter rI, which counts down, u uses of what rU counts. How many, an
-- implementation says. Departure: here they never count, c, u and i are 0
unfoldable pub counted : ℕ → ℕ → ℕ → State → State
counted c u i s =
    with_special (with_special (with_special s r_c ((sp s r_c + c) % 2 ^ 64)) r_u ((sp s r_u + u) % 2 ^ 64)) r_i ((sp s r_i + (2 ^ 64 - i % 2 ^ 64)) % 2 ^ 64)
