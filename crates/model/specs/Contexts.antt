-- 01, 'Steps', SAVE and UNSAVE (stack.rs, `save_context`, `unsave_context`). Knuth: mmix-doc on SAVE and UNSAVE, the picture of a context.
use Rattle.std.specs.Prelude.{ℕ, ◌+◌, ◌-◌, ◌*◌, ◌/◌, ◌%◌, ◌^◌, cond, ◌&&◌, List, [], ◌==◌, nat_le, nat_lt, slice_index, slice_set}
use Rattle.model.specs.Fill.{over, tab}
use Rattle.model.specs.Plan.{Plan, answer, read}
use Rattle.model.specs.NoMemory.{refuse, tell}
use Rattle.model.specs.Registers.{with_parts, r_r, r_o, r_g, r_l, r_a, r_p, r_z, sp, reg, next, halted, stored, spilled}
use Rattle.model.specs.declared.State.{State}

-- ---- the layout, for l locals and threshold g: l locals, l itself, 256 − g globals, 12 specials, and the packed octabyte

-- which octabyte, from 0, is the first special's; which one is the packed one; how many there are
abbrev pub specials_at : ℕ → ℕ → ℕ
specials_at l g = l + 257 - g

abbrev pub packed_at : ℕ → ℕ → ℕ
packed_at l g = l + 269 - g

abbrev pub octas_of : ℕ → ℕ → ℕ
octas_of l g = l + 270 - g

-- how far below the packed octabyte the local count is
abbrev pub count_below : ℕ → ℕ
count_below g = 269 - g

-- ---- SAVE

-- "That is rL + 270 − rG octabytes"
abbrev pub extent : State → ℕ
extent s = octas_of (sp s r_l) (sp s r_g)

-- the special that is number k of the twelve (`SAVE_SPECIALS`): rB, rD, rE, rH, rJ, rM, rR, then rP, rW, rX, rY, rZ
unfoldable pub saved_special : ℕ → ℕ
saved_special k = cond (nat_le k r_r) k (k + 16)

-- octabyte i: "stores from rO: rL locals, rL, globals $rG to $255, the 12 specials, then rG × 2^56 + rA"
unfoldable pub saved : State → ℕ → ℕ
saved s i =
    cond (nat_lt i (sp s r_l)) (reg s i)
    (cond (i == sp s r_l) (sp s r_l)
    (cond (nat_lt i (specials_at (sp s r_l) (sp s r_g))) (reg s (sp s r_g + (i - sp s r_l - 1)))
    (cond (nat_lt i (packed_at (sp s r_l) (sp s r_g))) (sp s (saved_special (i - (specials_at (sp s r_l) (sp s r_g)))))
    (sp s r_g * 2 ^ 56 + sp s r_a))))

-- "the last one's address with rO's low bits kept"
abbrev pub context_address : State → ℕ
context_address s = (sp s r_o + 8 * (packed_at (sp s r_l) (sp s r_g))) % 2 ^ 64

-- "$X gets the last one's address .., registers below rG become 0, rL 0, rO .. follow it", rS apart
unfoldable pub saved_unspilled : State → ℕ → State
saved_unspilled s x = stored (with_parts s
    (over (λ i. 0) 0 (sp s r_g) s.general)
    (slice_set (slice_set s.special r_l 0) r_o ((sp s r_o + 8 * extent s) % 2 ^ 64))) x (context_address s)

-- ".. and rS follow it": mmix-sim's SAVE too ends with all registers in memory, rS = rO
unfoldable pub saved_state : State → ℕ → State
saved_state s x = spilled (saved_unspilled s x)

-- "SAVE $X with X ≥ rG"; "SAVE judges 13 before 6"
unfoldable pub save_context : State → ℕ → Plan State
save_context s x = cond (nat_lt x (sp s r_g)) (tell (refuse 13 s)) (answer 0 (next (saved_state s x)) (sp s r_o) (tab 0 (extent s) (saved s)))

-- ---- UNSAVE: a context of l locals and threshold g, vs its octabytes from the first local up

-- the address k octabytes below p
abbrev pub below : ℕ → ℕ → ℕ
below p k = p + (2 ^ 64 - 8 * k)

-- $i: locals and globals as saved, "unsaved locals 0"
unfoldable pub unsaved_general : ℕ → ℕ → List ℕ → ℕ → ℕ
unsaved_general g l vs i = cond (nat_lt i l) (slice_index vs i) (cond (nat_lt i g) 0 (slice_index vs (l + 1 + (i - g))))

-- special k: rG, rL, rA and rO by their own, the twelve as saved, any other as it was
unfoldable pub unsaved_special : State → ℕ → ℕ → ℕ → ℕ → List ℕ → ℕ → ℕ
unsaved_special s o g a l vs k =
    cond (k == r_g) g (cond (k == r_l) l (cond (k == r_a) a (cond (k == r_o) o
    (cond (nat_le k r_r) (slice_index vs (specials_at l g + k))
    (cond (nat_le r_p k && nat_le k r_z) (slice_index vs (specials_at l g + (k - 16))) (sp s k))))))

-- o, the address of the first local, is the restored rO; rS apart
unfoldable pub unsaved_unspilled : State → ℕ → ℕ → ℕ → ℕ → List ℕ → State
unsaved_unspilled s o g a l vs = with_parts s
    (over (unsaved_general g l vs) 0 256 s.general)
    (over (unsaved_special s o g a l vs) 0 32 s.special)

-- "rS becomes the restored rO": in mmix-sim too
unfoldable pub unsaved : State → ℕ → ℕ → ℕ → ℕ → List ℕ → State
unsaved s o g a l vs = spilled (unsaved_unspilled s o g a l vs)

-- The context whose packed octabyte is at p, for UNSAVE and for the reader alike: `bad` where it is refused, else `found` of the
-- first local's address, rG, rA, the local count and the octabytes. "UNSAVE judges 6, 14, 15, 6, 16, 6 as its needs appear."

-- 16: "local count above saved rG"; ".. if that passes, the rest"
unfoldable pub context_rest : {S : Type 0} → S → (ℕ → ℕ → ℕ → ℕ → List ℕ → S) → ℕ → ℕ → ℕ → ℕ → Plan S
context_rest bad found p g a l =
    cond (nat_le l g)
    (read 6 (below p (packed_at l g)) (octas_of l g) (λ vs. answer 0 (found (below p (packed_at l g) % 2 ^ 64) g a l vs) 0 []))
    (answer 16 bad 0 [])

-- 14, 15: "saved rG outside 32 to 255; saved rA too large"; ".. if that passes, the local count"
unfoldable pub context_count : {S : Type 0} → S → (ℕ → ℕ → ℕ → ℕ → List ℕ → S) → ℕ → ℕ → ℕ → Plan S
context_count bad found p g a =
    cond (nat_le 32 g && nat_le g 255)
    (cond (nat_le a 0x3FFFF) (read 6 (below p (count_below g)) 1 (λ v. context_rest bad found p g a (slice_index v 0))) (answer 15 bad 0 []))
    (answer 14 bad 0 [])

-- "UNSAVE needs the packed one": rG is its top byte, rA all below
unfoldable pub context_at : {S : Type 0} → S → (ℕ → ℕ → ℕ → ℕ → List ℕ → S) → ℕ → Plan S
context_at bad found p = read 6 p 1 (λ v. context_count bad found p (slice_index v 0 / 2 ^ 56) (slice_index v 0 % 2 ^ 56))

-- "UNSAVE reads this layout backward from the address in $Z"
unfoldable pub unsave_context : State → ℕ → Plan State
unsave_context s p = context_at (halted s) (λ o g a l vs. next (unsaved s o g a l vs)) p
