-- 01, 'Steps', PUT, GET and SYNC (registers.rs, `put_special`; system.rs).
use Rattle.std.specs.Prelude.{ℕ, Bool, cond, ◌||◌, [], ◌∷◌, ◌==◌, nat_le, nat_lt}
use Rattle.model.specs.NoMemory.{Said, say, refuse}
use Rattle.model.specs.Registers.{r_c, r_n, r_o, r_s, r_i, r_t, r_tt, r_k, r_q, r_u, r_v, r_g, r_l, r_a, is_one_of, sp, hides, next, with_special, claim_local, set_register, put_locals, put_globals}
use Rattle.model.specs.declared.State.{State}

-- 8: "PUT rC, rI, rK, rQ, rT, rU, rV, rTT"
abbrev pub is_privileged : ℕ → Bool
is_privileged x = is_one_of (r_c ∷ r_i ∷ r_k ∷ r_q ∷ r_t ∷ r_u ∷ r_v ∷ r_tt ∷ []) x

-- 9: "PUT rN, rO, rS"
abbrev pub is_illegal : ℕ → Bool
is_illegal x = is_one_of (r_n ∷ r_o ∷ r_s ∷ []) x

-- 7: "PUT above 31". 10: "PUT rG below 32, below rL or above 255". 11: "PUT rA above 0x3FFFF"
unfoldable pub put_refusal : State → ℕ → ℕ → ℕ
put_refusal s x v =
    cond (nat_lt 31 x) 7
    (cond (is_privileged x) 8
    (cond (is_illegal x) 9
    (cond (x == r_g) (cond (nat_lt v 32 || (nat_lt v (sp s r_l) || nat_lt 255 v)) 10 0)
    (cond (x == r_a) (cond (nat_lt 0x3FFFF v) 11 0) 0))))

-- "other specials are just set"
unfoldable pub put_state : State → ℕ → ℕ → State
put_state s x v = cond (x == r_l) (put_locals s v) (cond (x == r_g) (put_globals s v) (with_special s x v))

-- Departure, 31: "GET and PUT by a program refuse a hidden register and set only the halt code, to 1"; d where special k is not hidden
unfoldable pub unless_hidden : State → ℕ → Said → Said
unless_hidden s k d = cond (hides s.mask k) (refuse 31 s) d

-- 31 "before 7 for PUT"
unfoldable pub put_special : State → ℕ → ℕ → Said
put_special s x v = unless_hidden s x (cond (put_refusal s x v == 0) (say 0 (next (put_state s x v))) (refuse (put_refusal s x v) s))

-- "GET puts special Z in $X"
unfoldable pub got : State → ℕ → ℕ → State
got s x z = set_register s x (sp s z)

-- 31 "after 5 for GET"
unfoldable pub get_special : State → ℕ → ℕ → Said
get_special s x z = unless_hidden s z (say 0 (next (got s x z)))

-- Knuth's GET: mmix-sim makes $X a local before it reads special Z.
-- Departure: `got` reads first; they differ only for Z = rL and a marginal X.
unfoldable pub got_rule : State → ℕ → ℕ → State
got_rule s x z = set_register s x (sp (claim_local s x) z)

-- 17, 18: "SYNC 4 to 7; above 7"
unfoldable pub sync_of : State → ℕ → Said
sync_of s n = cond (nat_lt 7 n) (refuse 18 s) (cond (nat_le 4 n) (refuse 17 s) (say 0 (next s)))
