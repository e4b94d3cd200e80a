-- The mask of hidden registers: which may be in it, and what its test says of its bits.
use Rattle.model.proofs.Logic.{min, suc, zero, ℕ, ◌%◌, ◌*◌, ◌+◌, ◌/◌, ◌<◌, ◌^◌, ◌≤◌, Bool, cond, false, false≢true, true, ◌&&◌, ◌||◌, List, [], ◌∷◌, ap}
use Rattle.model.proofs.Logic.{refl, sym, ◌∙◌, ◌≡◌, dec_lt, ℕ_discrete, div-eq_of_lt, arith, and_shr, and_step, and_zero_l, bit_and, eqb, leb, pow_mono}
use Rattle.model.proofs.Logic.{pow_pos, shr-shr, eq-eqb, eqb-true, leb-true}
use Rattle.model.specs.Registers.{r_bb, r_c, r_n, r_i, r_t, r_tt, r_k, r_q, r_u, r_v, r_f, r_ww, r_xx, r_yy, r_zz, is_one_of, hideable, hideable_bits, hides, admissible, masked}
use Rattle.model.specs.Unseen.{is_set, MaskMeant}
use Rattle.model.specs.declared.State.{State}
use Rattle.model.proofs.Bools.{and_left, and_right, each, at_each}
use Rattle.model.proofs.AdmissibleKept.{adm}

-- ---- which registers

-- what holds of each of a list holds of one of them
each_of : (ℕ → Bool) → List ℕ → Bool
each_of f [] = true
each_of f (x ∷ xs) = f x && each_of f xs

one_of : (f : ℕ → Bool) (l : List ℕ) (k : ℕ) → each_of f l ≡ true → is_one_of l k ≡ true → f k ≡ true
unfolding each_of
one_of f [] k a e = absurd (false≢true e)
one_of f (x ∷ xs) k a e = go (eqb k x) refl e (one_of f xs k (and_right (f x) _ a))
  where
    go : (b : Bool) → eqb k x ≡ b → (b || is_one_of xs k) ≡ true → (is_one_of xs k ≡ true → f k ≡ true) → f k ≡ true
    go true q r h = rw (eqb-true k x q) (and_left (f x) _ a)
    go false q r h = h r

-- they are special registers
pub hideable_special : (k : ℕ) → hideable k ≡ true → k ≤ 31
unfolding hideable
hideable_special k e =
    leb-true k 31 (one_of (λ n. leb n 31) (r_bb ∷ r_c ∷ r_n ∷ r_i ∷ r_t ∷ r_tt ∷ r_k ∷ r_q ∷ r_u ∷ r_v ∷ r_f ∷ r_ww ∷ r_xx ∷ r_yy ∷ r_zz ∷ []) k (unfold each_of in refl) e)

pub above_special : (k : ℕ) → 32 ≤ k → hideable k ≡ false
above_special k l = go (hideable k) refl
  where
    go : (b : Bool) → hideable k ≡ b → b ≡ false
    go true e = let h : k ≤ 31 = hideable_special k e in absurd (omega arith)
    go false e = refl

-- what may not be hidden is not
pub unhideable : (m k : ℕ) → hideable k ≡ false → hides m k ≡ false
unfolding hides
unhideable m k e = rw e

pub hides_above : (m k : ℕ) → 32 ≤ k → hides m k ≡ false
hides_above m k l = unhideable m k (above_special k l)

-- nor does an empty mask hide any
pub unmasked : (m k : ℕ) → m ≡ 0 → hides m k ≡ false
unfolding hides
unmasked m k e = rw (e, div-eq_of_lt (pow_pos k)) (go (hideable k))
  where
    go : (b : Bool) → (b && false) ≡ false
    go true = refl
    go false = refl

pub hidden_special : (m k : ℕ) → hides m k ≡ true → k ≤ 31
unfolding hides
hidden_special m k e = hideable_special k (and_left (hideable k) _ e)

-- ---- the bits of a mask

-- bit k of what two numbers share is set where it is set in both
and_bit : (a b k : ℕ) → bit_and a b / 2 ^ k % 2 ≡ min (a / 2 ^ k % 2) (b / 2 ^ k % 2)
and_bit a b k =
    let s : bit_and (a / 2 ^ k) (b / 2 ^ k) ≡ bit_and (a / 2 ^ k / 2) (b / 2 ^ k / 2) * 2 + min (a / 2 ^ k % 2) (b / 2 ^ k % 2) = and_step (a / 2 ^ k) (b / 2 ^ k) in
    ap (λ (n : ℕ). n % 2) (and_shr a b k ∙ s) ∙ omega arith

-- a number whose bits are all set in another shares all of itself with it
share_all : (n a b : ℕ) → a ≤ n → ((k : ℕ) → a / 2 ^ k % 2 ≡ 1 → b / 2 ^ k % 2 ≡ 1) → bit_and a b ≡ a
share_all zero a b l h = let z : a ≡ 0 = omega arith in rw z (and_zero_l b)
share_all (suc n) a b l h =
    let r : bit_and (a / 2) (b / 2) ≡ a / 2 = share_all n (a / 2) (b / 2) (omega arith) (λ k e. ap (λ (m : ℕ). m % 2) (shr-shr b 1 k) ∙ h (1 + k) (sym (ap (λ (m : ℕ). m % 2) (shr-shr a 1 k)) ∙ e)) in
    and_step a b ∙ rw r (go (ℕ_discrete (a % 2) 1) (h 0))
  where
    go : Dec (a % 2 ≡ 1) → (a / 1 % 2 ≡ 1 → b / 1 % 2 ≡ 1) → a / 2 * 2 + min (a % 2) (b % 2) ≡ a
    go (yes e) f = let g : b / 1 % 2 ≡ 1 = f (omega arith) in omega arith
    go (no e) f = omega arith

-- the bits of the registers that may be hidden
bits_are : (k : ℕ) → hideable_bits / 2 ^ k % 2 ≡ cond (hideable k) 1 0
bits_are k = go (dec_lt k 32)
  where
    go : Dec (k < 32) → hideable_bits / 2 ^ k % 2 ≡ cond (hideable k) 1 0
    go (yes l) = eqb-true _ _ (at_each 32 (λ n. eqb (hideable_bits / 2 ^ n % 2) (cond (hideable n) 1 0)) (unfold each hideable in refl) k l)
    go (no l) =
        let p : 2 ^ 32 ≤ 2 ^ k = pow_mono {i = 32} {j = k} (omega arith) in
        let z : hideable_bits / 2 ^ k ≡ 0 = div-eq_of_lt (omega arith) in
        ap (λ (n : ℕ). n % 2) z ∙ rw (above_special k (omega arith))

-- each bit of a mask that passes is that of a register that may be hidden
set_hideable : (m k : ℕ) → bit_and m hideable_bits ≡ m → is_set m k ≡ true → hideable k ≡ true
set_hideable m k e b = go (hideable k) (bits_are k)
  where
    go : (h : Bool) → hideable_bits / 2 ^ k % 2 ≡ cond h 1 0 → h ≡ true
    go true q = refl
    go false q =
        let s : m / 2 ^ k % 2 ≡ 1 = eqb-true _ _ b in
        let t : bit_and m hideable_bits / 2 ^ k % 2 ≡ min (m / 2 ^ k % 2) (hideable_bits / 2 ^ k % 2) = and_bit m hideable_bits k in
        let u : bit_and m hideable_bits / 2 ^ k % 2 ≡ m / 2 ^ k % 2 = ap (λ (n : ℕ). n / 2 ^ k % 2) e in
        absurd (omega arith)

-- and a mask of such bits passes
hideable_mask : (m : ℕ) → ((k : ℕ) → is_set m k ≡ true → hideable k ≡ true) → bit_and m hideable_bits ≡ m
hideable_mask m h = share_all m m hideable_bits (omega arith) (λ k e. bits_are k ∙ rw (h k (eq-eqb _ _ e)))

-- special k is hidden where its bit is one that the mask shares with those that it may have
pub hides_bit : (m k : ℕ) → hides m k ≡ eqb (bit_and m hideable_bits / 2 ^ k % 2) 1
unfolding hides
hides_bit m k = go (hideable k) (bits_are k)
  where
    go : (h : Bool) → hideable_bits / 2 ^ k % 2 ≡ cond h 1 0 → (h && eqb (m / 2 ^ k % 2) 1) ≡ eqb (bit_and m hideable_bits / 2 ^ k % 2) 1
    go true q =
        let t : min (m / 2 ^ k % 2) (hideable_bits / 2 ^ k % 2) ≡ m / 2 ^ k % 2 = omega arith in
        rw (and_bit m hideable_bits k, t)
    go false q =
        let t : min (m / 2 ^ k % 2) (hideable_bits / 2 ^ k % 2) ≡ 0 = omega arith in
        rw (and_bit m hideable_bits k, t)

-- ---- the theorem

other_bit : (s : State) (k : ℕ) → is_set s.mask k ≡ true → hideable k ≡ false → admissible s ≡ false
other_bit s k b h = go (admissible s) refl
  where
    go : (a : Bool) → admissible s ≡ a → a ≡ false
    go true e = sym (set_hideable s.mask k (adm s e).mask_in' b) ∙ h
    go false e = refl

no_other_bit : (s : State) → ((k : ℕ) → is_set s.mask k ≡ true → hideable k ≡ true) → admissible s ≡ admissible (masked s 0)
unfolding admissible
no_other_bit s h = rw (eq-eqb _ _ (hideable_mask s.mask h))

hidden_bit : (s : State) (k : ℕ) → admissible s ≡ true → hides s.mask k ≡ is_set s.mask k
unfolding hides
hidden_bit s k e = go (is_set s.mask k) refl
  where
    go : (b : Bool) → is_set s.mask k ≡ b → (hideable k && b) ≡ b
    go true q = rw (set_hideable s.mask k (adm s e).mask_in' q)
    go false q = on_false (hideable k)
      where
        on_false : (b : Bool) → (b && false) ≡ false
        on_false true = refl
        on_false false = refl

pub mask_meant : MaskMeant
mask_meant = record { other_bit = other_bit; no_other_bit = no_other_bit; hidden_bit = hidden_bit }
