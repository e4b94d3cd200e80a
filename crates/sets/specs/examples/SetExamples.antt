-- Theorem. Sets, computed: reply, place and the whole state afterwards; and the pairs that octabytes and bytes are.
use Rattle.std.specs.Prelude.{ℕ, ◌^◌, ◌≡◌, Bool, true, ◌&&◌, List, [], ◌∷◌, ◌++◌, eqb, replicate}
use Rattle.model.specs.Octa.{bytes_of}
use Rattle.model.specs.Registers.{r_b, r_j, r_r, r_bb, r_c, r_n, r_g, r_l, r_a, r_f, masked, halted, with_special, stored}
use Rattle.model.specs.Bench.{same_state, start}
use Rattle.model.specs.declared.State.{State}
use Rattle.sets.specs.Sets.{Pair, pair, SetOutcome, put_set_of, pairs_of, pairs_in}

-- a start and a set, and all that is there afterwards
pub record SetExample : Type 0 where
  pub begin : State
  pub pairs : List Pair
  pub reply : ℕ
  pub place : ℕ
  pub end : State

unfoldable pub gives : SetExample → SetOutcome → Bool
gives c o = eqb o.reply c.reply && (eqb o.place c.place && same_state o.state c.end)

unfoldable pub all_give : List SetExample → Bool
all_give [] = true
all_give (c ∷ cs) = gives c (put_set_of c.begin c.pairs) && all_give cs

-- rG is g and rL is l, $1 is 7 and $40 is 9
abbrev between : ℕ → ℕ → State
between g l = stored (stored (with_special (with_special start r_g g) r_l l) 1 7) 40 9

abbrev does : State → List Pair → State → SetExample
does s ps t = record { begin = s; pairs = ps; reply = 0; place = 0; end = t }

abbrev refuses : State → List Pair → ℕ → ℕ → SetExample
refuses s ps n i = record { begin = s; pairs = ps; reply = n; place = i; end = halted s }

abbrev leaves : State → List Pair → ℕ → SetExample
leaves s ps n = record { begin = s; pairs = ps; reply = n; place = 0; end = s }

unfoldable pub set_examples : List SetExample
set_examples =
    does (between 50 2) [] (between 50 2)
    -- a study: rL drops $1, rG drops $40
    ∷ does (between 32 2) (pair r_l 1 ∷ pair r_g 41 ∷ pair r_a 0x3FFFF ∷ pair r_j 0x100 ∷ [])
    (with_special (with_special (with_special (with_special start r_g 41) r_l 1) r_a 0x3FFFF) r_j 0x100)
    -- rG of 32 passes where rL was lowered before, and not the other way round; rL is never raised
    ∷ does (between 50 48) (pair r_l 0 ∷ pair r_g 32 ∷ []) (with_special (with_special start r_g 32) r_l 0)
    ∷ refuses (between 50 48) (pair r_g 32 ∷ pair r_l 0 ∷ []) 10 0
    ∷ does (between 50 2) (pair r_l 5 ∷ []) (between 50 2)
    -- the later of two for one register stands
    ∷ does start (pair r_j 1 ∷ pair r_j 2 ∷ []) (with_special start r_j 2)
    -- none takes effect
    ∷ refuses (between 50 2) (pair r_g 33 ∷ pair r_a 0x40000 ∷ []) 11 1
    ∷ refuses (between 50 2) (pair r_l 0 ∷ pair r_c 0 ∷ pair 32 0 ∷ []) 8 1
    ∷ refuses (between 50 2) (pair r_b 1 ∷ pair r_j 2 ∷ pair r_n 0 ∷ []) 9 2
    ∷ refuses start (pair r_b 1 ∷ pair 32 0 ∷ []) 7 1
    -- a number is as wide as an octabyte: no part of it is cut off
    ∷ refuses start (pair 275 40 ∷ []) 7 0
    ∷ refuses start (pair (2 ^ 63) 0 ∷ []) 7 0
    ∷ does start (replicate 32 (pair r_b 1)) (with_special start r_b 1)
    ∷ refuses start (replicate 31 (pair r_b 1) ++ (pair r_c 0 ∷ [])) 8 31
    -- what is hidden is set like any other, and its own number refuses it
    ∷ does (masked start 0xF047F380) (pair r_bb 1 ∷ pair r_f 2 ∷ []) (masked (with_special (with_special start r_bb 1) r_f 2) 0xF047F380)
    ∷ refuses (masked start 0xF047F380) (pair r_bb 1 ∷ pair r_c 0 ∷ []) 8 1
    ∷ leaves (masked start (2 ^ r_r)) (pair r_b 1 ∷ []) 1
    -- 1, then 30, whatever the pairs are
    ∷ leaves start (replicate 33 (pair r_c 0)) 30
    ∷ leaves (with_special start r_g 31) (replicate 33 (pair r_b 1)) 1
    ∷ leaves (with_special start r_g 31) (pair r_g 32 ∷ []) 1
    ∷ []

pub record SetExamplesMet : Type 0 where
  pub examples : all_give set_examples ≡ true
  pub odd_last : pairs_of (r_g ∷ 40 ∷ r_l ∷ []) ≡ pair r_g 40 ∷ []
  pub part_of_pair : pairs_in (bytes_of r_g ++ (bytes_of 0x0102030405060708 ++ (bytes_of r_l ++ (1 ∷ 2 ∷ [])))) ≡ pair r_g 0x0102030405060708 ∷ []
