-- 01, 'State and window': the state, its registers by name, what is admissible, the fresh state; and the writes that steps are made of.
-- Each write leaves what it does not name as it was.
use Rattle.std.specs.Prelude.{◌≡◌, ℕ, ◌+◌, ◌/◌, ◌%◌, ◌^◌, ◌<◌, ◌≤◌, min, max, Bool, false, cond, ◌&&◌, ◌||◌, List, [], ◌∷◌, length, set, replicate, ◌==◌, bit_and, nat_le, nat_lt, slice_index, slice_set}
use Rattle.model.specs.Fill.{over}
use Rattle.model.specs.declared.State.{State}

-- ---- the special registers' numbers (Fascicle 1, table 2; registers.rs, `SpecialReg`)

abbrev pub r_b : ℕ
r_b = 0

abbrev pub r_d : ℕ
r_d = 1

abbrev pub r_e : ℕ
r_e = 2

abbrev pub r_h : ℕ
r_h = 3

abbrev pub r_j : ℕ
r_j = 4

abbrev pub r_m : ℕ
r_m = 5

abbrev pub r_r : ℕ
r_r = 6

abbrev pub r_bb : ℕ
r_bb = 7

abbrev pub r_c : ℕ
r_c = 8

abbrev pub r_n : ℕ
r_n = 9

abbrev pub r_o : ℕ
r_o = 10

abbrev pub r_s : ℕ
r_s = 11

abbrev pub r_i : ℕ
r_i = 12

abbrev pub r_t : ℕ
r_t = 13

abbrev pub r_tt : ℕ
r_tt = 14

abbrev pub r_k : ℕ
r_k = 15

abbrev pub r_q : ℕ
r_q = 16

abbrev pub r_u : ℕ
r_u = 17

abbrev pub r_v : ℕ
r_v = 18

abbrev pub r_g : ℕ
r_g = 19

abbrev pub r_l : ℕ
r_l = 20

abbrev pub r_a : ℕ
r_a = 21

abbrev pub r_f : ℕ
r_f = 22

abbrev pub r_p : ℕ
r_p = 23

abbrev pub r_w : ℕ
r_w = 24

abbrev pub r_x : ℕ
r_x = 25

abbrev pub r_y : ℕ
r_y = 26

abbrev pub r_z : ℕ
r_z = 27

abbrev pub r_ww : ℕ
r_ww = 28

abbrev pub r_xx : ℕ
r_xx = 29

abbrev pub r_yy : ℕ
r_yy = 30

abbrev pub r_zz : ℕ
r_zz = 31

abbrev pub is_one_of : List ℕ → ℕ → Bool
is_one_of [] k = false
is_one_of (x ∷ xs) k = k == x || is_one_of xs k

-- where the register stack starts
abbrev pub stack_start : ℕ
stack_start = 0x6000000000000000

-- ---- reading a state

-- special register k
abbrev pub sp : State → ℕ → ℕ
sp s k = slice_index s.special k

-- $k
abbrev pub reg : State → ℕ → ℕ
reg s k = slice_index s.general k

-- @ + 4
abbrev pub following : State → ℕ
following s = (s.pc + 4) % 2 ^ 64

-- ---- the mask of hidden registers, "bit k for special k"

-- "Only rBB, rC, rN, rI, rT, rTT, rK, rQ, rU, rV, rF, rWW, rXX, rYY and rZZ may be in it"
unfoldable pub hideable : ℕ → Bool
hideable k = is_one_of (r_bb ∷ r_c ∷ r_n ∷ r_i ∷ r_t ∷ r_tt ∷ r_k ∷ r_q ∷ r_u ∷ r_v ∷ r_f ∷ r_ww ∷ r_xx ∷ r_yy ∷ r_zz ∷ []) k

-- their bits: those of 7 to 9, 12 to 18, 22 and 28 to 31
abbrev pub hideable_bits : ℕ
hideable_bits = 0xF047F380

-- special k is hidden by the mask m
unfoldable pub hides : ℕ → ℕ → Bool
hides m k = hideable k && m / 2 ^ k % 2 == 1

-- ---- what a state is

-- "A state has 256 general registers, 32 special ones"
pub record Sized (s : State) : Type 0 where
  pub generals : length s.general ≡ 256
  pub specials : length s.special ≡ 32

-- each register, PC, halt code, marks and mask is an octabyte
pub record Words (s : State) : Type 0 where
  pub general_word : (k : ℕ) → reg s k < 2 ^ 64
  pub special_word : (k : ℕ) → sp s k < 2 ^ 64
  pub pc_word : s.pc < 2 ^ 64
  pub halt_word : s.halt < 2 ^ 64
  pub marks_word : s.marks < 2 ^ 64
  pub mask_word : s.mask < 2 ^ 64

-- "It is admissible when 32 ≤ rG ≤ 255, rL ≤ rG, rA ≤ 0x3FFFF and no mark bit above 8 is set"; "any other bit of the mask's octabyte makes a state not
-- admissible"
unfoldable pub admissible : State → Bool
admissible s =
    nat_le 32 (sp s r_g) && (nat_le (sp s r_g) 255 && (nat_le (sp s r_l) (sp s r_g) && (nat_le (sp s r_a) 0x3FFFF
    && (nat_lt s.marks (2 ^ 9) && bit_and s.mask hideable_bits == s.mask))))

-- "Registers from rL to rG − 1 are marginal": the state in which they are all zero
pub record MarginalZero (s : State) : Type 0 where
  pub zero_at : (i : ℕ) → sp s r_l ≤ i → i < sp s r_g → reg s i ≡ 0

-- "The fresh state is that of `initialize`: rG 32, rL 0, rO and rS 0x6000000000000000, rN 2009, rK, rT, rTT, rV as written there,
-- all else 0"
unfoldable pub fresh : State
fresh = record {
  general = replicate 256 0;
  special = set (set (set (set (set (set (set (set (replicate 32 0)
      r_n 2009) r_g 32) r_o stack_start) r_s stack_start) r_k 0xFFFFFFFFFFFFFFFF) r_t 0x8000000500000000) r_tt 0x8000000600000000) r_v 0x369C200400000000;
  pc = 0;
  halt = 0;
  marks = 0;
  mask = 0;
}

-- ---- writes

-- s with other registers, PC and halt code
abbrev pub built : State → List ℕ → List ℕ → ℕ → ℕ → State
built s general special pc halt = record { general = general; special = special; pc = pc; halt = halt; marks = s.marks; mask = s.mask }

-- s with other registers
abbrev pub with_parts : State → List ℕ → List ℕ → State
with_parts s general special = built s general special s.pc s.halt

-- s under the mask m, which no step makes
abbrev pub masked : State → ℕ → State
masked s m = record { general = s.general; special = s.special; pc = s.pc; halt = s.halt; marks = s.marks; mask = m }

-- PC becomes a
unfoldable pub goes : State → ℕ → State
goes s a = built s s.general s.special a s.halt

-- "any step not said to go elsewhere, goes to @ + 4"
abbrev pub next : State → State
next s = goes s (following s)

-- the halt code becomes 1
unfoldable pub halted : State → State
halted s = built s s.general s.special s.pc 1

-- special register k becomes v
unfoldable pub with_special : State → ℕ → ℕ → State
with_special s k v = with_parts s s.general (slice_set s.special k v)

-- the fresh state with the register stack at another address: rO and rS are a
unfoldable pub fresh_at : ℕ → State
fresh_at a = with_special (with_special fresh r_o a) r_s a

-- $x becomes v, and nothing is claimed
unfoldable pub stored : State → ℕ → ℕ → State
stored s x v = with_parts s (slice_set s.general x v) s.special

-- $a to $(b − 1) become 0
unfoldable pub cleared : State → ℕ → ℕ → State
cleared s a b = with_parts s (over (λ k. 0) a b s.general) s.special

-- rL ≤ x < rG
abbrev pub is_marginal : State → ℕ → Bool
is_marginal s x = nat_le (sp s r_l) x && nat_lt x (sp s r_g)

-- "Writing $X with rL ≤ X < rG clears $rL to $X and makes rL X + 1 .."
unfoldable pub claim_local : State → ℕ → State
claim_local s x = cond (is_marginal s x) (with_special (cleared s (sp s r_l) (x + 1)) r_l (x + 1)) s

-- ".. then stores"
unfoldable pub set_register : State → ℕ → ℕ → State
set_register s x v = stored (claim_local s x) x v

-- "PUT rL sets min(value, rL) and clears what is dropped"
unfoldable pub put_locals : State → ℕ → State
put_locals s v = with_special (cleared s (min v (sp s r_l)) (sp s r_l)) r_l (min v (sp s r_l))

-- "PUT rG clears every register from the lower threshold to the higher − 1"
unfoldable pub put_globals : State → ℕ → State
put_globals s v = with_special (cleared s (min v (sp s r_g)) (max v (sp s r_g))) r_g v

-- all that was pushed is in memory, so that rS, the end of what is in memory, is rO. So mmix-sim's SAVE and UNSAVE end.
-- Departure from Knuth: PUSH and POP do so too. (Fascicle 1 keeps the topmost registers in the processor and lets rS lag behind.)
unfoldable pub spilled : State → State
spilled s = with_special s r_s (sp s r_o)
