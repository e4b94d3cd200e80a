-- A step as a plan: a small program over octabytes. `perform` runs it, `needs` says which octabytes it needs; both read the same plan.
-- A judge gives the number by which an address is refused, 0 where it is not.
use Rattle.std.specs.Prelude.{◌≡◌, ℕ, zero, suc, ◌+◌, max, Bool, cond, List, [], ◌∷◌, ◌++◌, length, ◌==◌}
use Rattle.model.specs.Octa.{octa, value_of}
use Rattle.model.specs.Memory.{Store}

-- answer: reply, state, and the octabytes stored from an address up.
-- read: the number given where one is missing, an address, how many octabytes from there up, and what to do with them
pub data Plan (S : Type 0) : Type 0 where
  answer : ℕ → S → ℕ → List ℕ → Plan S
  read : ℕ → ℕ → ℕ → (List ℕ → Plan S) → Plan S

pub record Outcome (S M : Type 0) : Type 0 where
  pub reply : ℕ
  pub state : S
  pub memory : M

-- the same plan, and the same outcome, with f of each state answered
unfoldable pub map_plan : {S T : Type 0} → (S → T) → Plan S → Plan T
map_plan f (answer r t a vs) = answer r (f t) a vs
map_plan f (read q a n k) = read q a n (λ vs. map_plan f (k vs))

unfoldable pub map_outcome : {S T M : Type 0} → (S → T) → Outcome S M → Outcome T M
map_outcome f o = record { reply = o.reply; state = f o.state; memory = o.memory }

-- the addresses of a run of n octabytes from a up
unfoldable pub ups : ℕ → ℕ → List ℕ
ups a zero = []
ups a (suc n) = a ∷ ups (a + 8) n

-- the number that refuses a run: the largest that refuses one of its octabytes
unfoldable pub worst : (ℕ → ℕ) → ℕ → ℕ → ℕ
worst j a zero = 0
worst j a (suc n) = max (j a) (worst j (a + 8) n)

-- the run passes
abbrev pub clear : (ℕ → ℕ) → ℕ → ℕ → Bool
clear j a n = worst j a n == 0

-- the addresses of a run that are refused
unfoldable pub missing : (ℕ → ℕ) → ℕ → ℕ → List ℕ
missing j a zero = []
missing j a (suc n) = cond (j a == 0) [] (a ∷ []) ++ missing j (a + 8) n

-- 6 under the number that this read gives it
unfoldable pub named : ℕ → ℕ → ℕ
named q r = cond (r == 6) q r

-- P holds of each address of a list
unfoldable pub All : (ℕ → Type 0) → List ℕ → Type 0
All P [] = Unit {0}
All P (x ∷ xs) = P x × All P xs

-- the octabyte that a names is none of F
abbrev pub Off : (ℕ → Type 0) → ℕ → Type 0
Off F a = F (octa a) → ⊥

module _ {M Sh : Type 0} (st : Store M Sh) where
  unfoldable pub look : M → ℕ → ℕ
  look m a = value_of 0 (st.raw m a)

  unfoldable pub looks : M → ℕ → ℕ → List ℕ
  looks m a zero = []
  looks m a (suc n) = look m a ∷ looks m (a + 8) n

  unfoldable pub puts : M → ℕ → List ℕ → M
  puts m a [] = m
  puts m a (v ∷ vs) = puts (st.put m a v) (a + 8) vs

  -- what becomes of state and memory; where an octabyte is missing both stay
  unfoldable pub perform : {S : Type 0} → (ℕ → ℕ) → S → Plan S → M → Outcome S M
  perform j s (answer r t a vs) m =
      cond (clear j a (length vs)) (record { reply = r; state = t; memory = puts m a vs }) (record { reply = worst j a (length vs); state = s; memory = m })
  perform j s (read q a n k) m =
      cond (clear j a n) (perform j s (k (looks m a n)) m) (record { reply = named q (worst j a n); state = s; memory = m })

  -- "A step needs the octabytes that it reads or writes. .. What a refusal forestalls isn't needed; what 6 finds missing is":
  -- of a run that passes, the whole run and then what follows; of one that does not, the missing octabytes alone
  unfoldable pub needs : {S : Type 0} → (ℕ → ℕ) → Plan S → M → List ℕ
  needs j (answer r t a vs) m = cond (clear j a (length vs)) (ups a (length vs)) (missing j a (length vs))
  needs j (read q a n k) m = cond (clear j a n) (ups a n ++ needs j (k (looks m a n)) m) (missing j a n)

  -- the wider reading: of a run that does not pass, the whole run
  unfoldable pub wider_needs : {S : Type 0} → (ℕ → ℕ) → Plan S → M → List ℕ
  wider_needs j (answer r t a vs) m = ups a (length vs)
  wider_needs j (read q a n k) m = cond (clear j a n) (ups a n ++ wider_needs j (k (looks m a n)) m) (ups a n)

  -- two memories that are equal octabyte by octabyte outside F
  pub record Agree (F : ℕ → Type 0) (m n : M) : Type 0 where
    pub shape_same : st.shape m ≡ st.shape n
    pub rest_same : (a : ℕ) → Off F a → st.raw m a ≡ st.raw n a
