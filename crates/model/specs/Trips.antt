-- 01, 'Steps', exceptions, TRIP and TRAP (exceptions.rs, `raise_exceptions`, `trip`; system.rs, `halt_unsimulated_trap`).
-- Knuth: mmix-doc, 'Trips and traps'.
use Rattle.std.specs.Prelude.{ℕ, ◌+◌, ◌-◌, ◌*◌, ◌/◌, ◌%◌, ◌^◌, Bool, cond, ◌&&◌, ◌==◌, bit_and, bit_or, slice_set}
use Rattle.std.specs.Int.Count.{count_leading_zeros}
use Rattle.model.specs.NoMemory.{Said, say, refuse}
use Rattle.model.specs.Registers.{with_parts, r_b, r_j, r_bb, r_k, r_t, r_a, r_w, r_x, r_y, r_z, r_ww, r_xx, r_yy, r_zz, sp, reg, following, goes, next, with_special}
use Rattle.model.specs.Control.{xyz_of}
use Rattle.model.specs.declared.State.{State}

-- rX: "2^63 + op × 2^24 + XYZ"
abbrev pub word_of : ℕ → ℕ → ℕ → ℕ → ℕ
word_of op x y z = 2 ^ 63 + op * 2 ^ 24 + xyz_of x y z

-- "A trip sets rB to $255, then $255 to rJ, rW to @ + 4, rX to .., rY and rZ to the operands"; under the numbers b, w, x, y, z
unfoldable pub interrupted : State → ℕ → ℕ → ℕ → ℕ → ℕ → ℕ → ℕ → ℕ → State
interrupted s b w x y z word u v = with_parts s
    (slice_set s.general 255 (sp s r_j))
    (slice_set (slice_set (slice_set (slice_set (slice_set s.special b (reg s 255)) w (following s)) x word) y u) z v)

abbrev pub tripped : State → ℕ → ℕ → ℕ → State
tripped s word u v = interrupted s r_b r_w r_x r_y r_z word u v

-- "into rBB, rWW, rXX, rYY, rZZ"
abbrev pub trapped : State → ℕ → ℕ → ℕ → State
trapped s word u v = interrupted s r_bb r_ww r_xx r_yy r_zz word u v

-- Knuth's trip through vector k: ".. PC to the vector"
unfoldable pub trip_rule : State → ℕ → ℕ → ℕ → ℕ → State
trip_rule s k word u v = goes (tripped s word u v) (16 * k)

-- "Bit k of the marks, k from 0 to 8, says that all four bytes at 16 × k were loaded"
abbrev pub is_loaded : State → ℕ → Bool
is_loaded s k = s.marks / 2 ^ k % 2 == 1

-- Departure, 19: "vector not marked loaded": "trip registers and rA's additions set, PC unmoved, halt code 1"
unfoldable pub trip_to : State → ℕ → ℕ → ℕ → ℕ → Said
trip_to s k word u v = cond (is_loaded s k) (say 0 (trip_rule s k word u v)) (refuse 19 (tripped s word u v))

-- Knuth's forced trap: the kernel's handler at rT, interrupts masked off
unfoldable pub trap_rule : State → ℕ → ℕ → ℕ → State
trap_rule s word u v = goes (with_special (trapped s word u v) r_k 0) (sp s r_t)

-- Departure, 20: "An unnamed TRAP does so .. and halts with PC unmoved"
unfoldable pub trap_of : State → ℕ → ℕ → ℕ → Said
trap_of s word u v = refuse 20 (trapped s word u v)

-- "Bits from left: D V W I O U Z X, 0x80 to 0x01; enables are rA's next eight bits"
abbrev pub enables : State → ℕ
enables s = sp s r_a / 256 % 256

-- the raised and enabled flags of a byte f
abbrev pub enabled : State → ℕ → ℕ
enabled s f = bit_and (f % 256) (enables s)

-- "its vector 16 × (leading zeros + 1)": the number of the vector of the leftmost of some flags, 1 of D to 8 of X
abbrev pub vector_of : ℕ → ℕ
vector_of e = count_leading_zeros 8 e + 1

-- the leftmost of some flags, 0x80 of vector 1 to 0x01 of vector 8; 0 where there is none
unfoldable pub leftmost : ℕ → ℕ
leftmost e = cond (e == 0) 0 (2 ^ (8 - vector_of e))

-- "The taken exception is the leftmost enabled one": its flag, 0 where none is taken
abbrev pub taken : State → ℕ → ℕ
taken s f = leftmost (enabled s f)

-- what is added to rA: "every exception but the taken one is added, enabled or not"; with none taken all are
unfoldable pub added : State → ℕ → ℕ
added s f = bit_and (f % 256) (255 - taken s f)

-- U is raised without X and is not enabled: the result is exact
unfoldable pub exact_underflow : State → ℕ → Bool
exact_underflow s f = f / 4 % 2 == 1 && (f % 2 == 0 && enables s / 4 % 2 == 0)

-- Knuth's: mmix-sim drops U then, and adds all others but the taken one. Departure: `added` keeps U
unfoldable pub added_rule : State → ℕ → ℕ
added_rule s f = bit_and (cond (exact_underflow s f) (f % 256 - 4) (f % 256)) (255 - taken s f)

-- rA with more flags
abbrev pub flagged : State → ℕ → State
flagged s n = with_special s r_a (bit_or (sp s r_a) n)

unfoldable pub with_added : State → ℕ → State
with_added s f = flagged s (added s f)

-- the exception step: what is added to rA, then the taken trip; "With none taken, PC is @ + 4"
unfoldable pub raised : State → ℕ → ℕ → ℕ → ℕ → Said
raised s f word u v =
    cond (enabled s f == 0) (say 0 (next (with_added s f)))
    (trip_to (with_added s f) (vector_of (enabled s f)) word u v)
