-- 02, 'PUT for a whole set': "Loading a study sets rG, rL, rA and others, and half a load is worse than none."
use Rattle.std.specs.Prelude.{ℕ, suc, ◌/◌, ◌≡◌, cond, List, [], ◌∷◌, ltb, eqb, length}
use Rattle.model.specs.Registers.{admissible, halted}
use Rattle.model.specs.System.{put_refusal, put_state}
use Rattle.model.specs.declared.State.{State}
use Rattle.machine.specs.Octabytes.{octas}

-- "A call takes a list of pairs of register number and value"
pub record Pair : Type 0 where
  pub register : ℕ
  pub value : ℕ

abbrev pub pair : ℕ → ℕ → Pair
pair x v = record { register = x; value = v }

-- the reply, "the first failing pair's place, from 0", which is 0 where none fails, and the state
pub record SetOutcome : Type 0 where
  pub reply : ℕ
  pub place : ℕ
  pub state : State

abbrev pub set_says : ℕ → ℕ → State → SetOutcome
set_says r i s = record { reply = r; place = i; state = s }

-- "Each is judged as PUT would judge it in the state the earlier pairs left"; i is the place of the first
unfoldable pub put_pairs : State → ℕ → List Pair → SetOutcome
put_pairs s i [] = set_says 0 0 s
put_pairs s i (p ∷ ps) =
    cond (eqb (put_refusal s p.register p.value) 0)
    (put_pairs (put_state s p.register p.value) (suc i) ps)
    (set_says (put_refusal s p.register p.value) i s)

-- "all take effect or none does. A refusal .. sets the halt code to 1 and changes nothing else"
unfoldable pub all_or_none : State → SetOutcome → SetOutcome
all_or_none s o = cond (eqb o.reply 0) o (set_says o.reply o.place (halted s))

abbrev pub pairs_max : ℕ
pairs_max = 32

-- THE set: 1, then "30, more than 32 pairs, judged after 1", which change nothing. "PC doesn't move; an empty list succeeds"
unfoldable pub put_set_of : State → List Pair → SetOutcome
put_set_of s ps = cond (admissible s) (cond (ltb pairs_max (length ps)) (set_says 30 0 s) (all_or_none s (put_pairs s 0 ps))) (set_says 1 0 s)

-- ---- the pairs of a call

-- of octabytes, two a pair: number, then value; an odd last one is not looked at
unfoldable pub pairs_of : List ℕ → List Pair
pairs_of [] = []
pairs_of (x ∷ []) = []
pairs_of (x ∷ (v ∷ l)) = pair x v ∷ pairs_of l

-- of bytes, 16 a pair, high byte first; a part of a pair at the end is not looked at
unfoldable pub pairs_in : List ℕ → List Pair
pairs_in l = pairs_of (octas l 0 (length l / 8))

-- a call on the state s with these pairs: its number, the place, and t the state afterwards
pub record PutSet (s : State) (ps : List Pair) (n place : ℕ) (t : State) : Type 0 where
  pub reply_is : n ≡ (put_set_of s ps).reply
  pub place_is : place ≡ (put_set_of s ps).place
  pub state_is : t ≡ (put_set_of s ps).state
