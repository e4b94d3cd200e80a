-- Laws of trips, traps and exceptions, over plain variables and in this order: what each tells, from what its callees ensure.
-- The other arms that touch no memory: NoMemoryReplies of crate instruction.
use Rattle.model.proofs.Prelude.{ℕ, ◌%◌, ◌*◌, ◌+◌, ◌-◌, ◌/◌, ◌<◌, ◌^◌, ◌≤◌, Bool, false, true, ◌&&◌, List, ap, refl, ◌∙◌, ◌≡◌, arith, bit_and, bit_or}
use Rattle.model.proofs.Prelude.{leading_le, leading_top, count_leading_zeros, trailing_le, count_trailing_zeros, eqb, get_or, set, eqb-true, ne_eqb, reply_of, made}
use Rattle.model.proofs.Prelude.{admissible, r_a, reg, with_special, exception_of, is_named, added, enables, interrupted, is_loaded, leftmost, raised}
use Rattle.model.proofs.Prelude.{trap_of, trapped, tripped, trip_rule, trip_to, with_added, word_of, at_each, each}
use Rattle.model.specs.declared.State.{State}
use Rattle.model.specs.declared.Reply.{Reply}
use Rattle.model.specs.declared.Reply.TheVariants.{Done, NotAdmissible, NamedTrap, NotLoaded, Trapped}
use Rattle.exceptions.specs.Interrupts.{trip_of, trap_step}
use Rattle.exceptions.specs.Told.{Told}
use Rattle.exceptions.proofs.PcAndHalt.{goes_is, next_is, halted_is}

-- ---- trips and traps

-- the stores of a trip or a trap, in their order
pub interrupted_is : (g l : List ℕ) (pc halt marks mask b w x y z word u v n : ℕ) → n ≡ (pc + 4) % 2 ^ 64
    → made (set g 255 (get_or l 4 0)) (set (set (set (set (set l b (get_or g 255 0)) w n) x word) y u) z v) pc halt marks mask
    ≡ interrupted (made g l pc halt marks mask) b w x y z word u v
unfolding interrupted
interrupted_is g l pc halt marks mask b w x y z word u v n e =
    ap (λ (k : ℕ). made (set g 255 (get_or l 4 0)) (set (set (set (set (set l b (get_or g 255 0)) w k) x word) y u) z v) pc halt marks mask) e

module _ (s t : State) (k word u v : ℕ) (e : t ≡ tripped s word u v) where
  pub trip_loaded : is_loaded s k ≡ true → Told (trip_to s k word u v) Done (made t.general t.special (16 * k) t.halt t.marks t.mask)
  unfolding trip_to trip_rule reply_of
  trip_loaded h = rw h (record { reply_is = refl; state_is = goes_is t _ e (16 * k) })

  pub trip_not_loaded : is_loaded s k ≡ false → Told (trip_to s k word u v) NotLoaded (made t.general t.special t.pc 1 t.marks t.mask)
  unfolding trip_to reply_of
  trip_not_loaded h = rw h (record { reply_is = refl; state_is = halted_is t _ e })

module _ (s : State) (op x y z : ℕ) where
  pub trip_says : (r : Reply) (t : State) → Told (trip_to s 0 (word_of op x y z) (reg s y) (reg s z)) r t → Told (trip_of s op x y z) r t
  unfolding trip_of
  trip_says r t h = h

  pub trap_named' : (eqb x 0 && is_named y) ≡ true → Told (trap_step s op x y z) NamedTrap s
  unfolding trap_step reply_of
  trap_named' h = rw h (record { reply_is = refl; state_is = refl })

  pub trap_done : (t : State) → (eqb x 0 && is_named y) ≡ false → t ≡ trapped s (word_of op x y z) (reg s y) (reg s z)
      → Told (trap_step s op x y z) Trapped (made t.general t.special t.pc 1 t.marks t.mask)
  unfolding trap_step trap_of reply_of
  trap_done t h e = rw h (record { reply_is = refl; state_is = halted_is t _ e })

-- ---- exceptions

-- what is added, of a byte of flags
pub added_is : (g l : List ℕ) (pc halt marks mask f t : ℕ) → f < 256 → t ≡ leftmost (bit_and f (get_or l r_a 0 / 256 % 256))
    → made g (set l r_a (bit_or (get_or l r_a 0) (bit_and f (255 - t)))) pc halt marks mask ≡ with_added (made g l pc halt marks mask) f
unfolding with_added with_special added
added_is g l pc halt marks mask f t h q =
    let b : f ≡ f % 256 = omega arith in
    let r = get_or l r_a 0 in
    ap (λ (n : ℕ). made g (set l r_a (bit_or r (bit_and f (255 - n)))) pc halt marks mask) q
    ∙ ap (λ (n : ℕ). made g (set l r_a (bit_or r (bit_and n (255 - leftmost (bit_and n (r / 256 % 256)))))) pc halt marks mask) b

-- the zeros of a byte, counted from either end
pub zeros_small : (n : ℕ) → (count_leading_zeros 8 n ≤ 8) × (count_trailing_zeros 8 n ≤ 8)
zeros_small n = (leading_le 8 n, trailing_le 8 n)

-- the leftmost flag names one of vectors 1 to 8
pub vector_small : (n : ℕ) → n < 256 → 0 < n → count_leading_zeros 8 n + 1 ≤ 8
vector_small n h p = let top = leading_top 8 n p h in omega (arith, top.1)

-- the leftmost flag, as code shifts it
halves : ℕ → Bool
halves k = eqb (128 / 2 ^ k) (2 ^ (8 - (k + 1)))

halves_are : each 8 halves ≡ true
unfolding each halves
halves_are = refl

pub leftmost_none : (n : ℕ) → n ≡ 0 → 0 ≡ leftmost n
unfolding leftmost
leftmost_none n e = rw e

pub leftmost_is : (n : ℕ) → n < 256 → (n ≡ 0 → ⊥) → 128 / 2 ^ count_leading_zeros 8 n ≡ leftmost n
unfolding leftmost halves
leftmost_is n h q =
    let small : count_leading_zeros 8 n + 1 ≤ 8 = vector_small n h (omega (arith, q)) in
    rw (ne_eqb n 0 q) (eqb-true _ _ (at_each 8 halves halves_are (count_leading_zeros 8 n) (omega arith)))

module _ (s t : State) (f word u v : ℕ) (b : f < 256) (same : t ≡ with_added s f) where
  byte : f % 256 ≡ f
  byte = omega arith

  -- e are the flags raised and enabled
  pub none_taken : (n e : ℕ) → e ≡ bit_and f (enables s) → e ≡ 0 → n ≡ (t.pc + 4) % 2 ^ 64
      → Told (raised s f word u v) Done (made t.general t.special n t.halt t.marks t.mask)
  unfolding raised reply_of
  none_taken n e w q h = rw (byte, ← w, q) (record { reply_is = refl; state_is = next_is t _ same n h })

  pub one_taken : (k e : ℕ) (r : Reply) (o : State) → e ≡ bit_and f (enables s) → (e ≡ 0 → ⊥) → k ≡ count_leading_zeros 8 e + 1
      → Told (trip_to t k word u v) r o → Told (raised s f word u v) r o
  unfolding raised
  one_taken k e r o w q i h = rw (byte, ← w, ne_eqb _ 0 q) (rw (same, i) at h)

-- the entry: 1, then what is raised
module _ (s : State) (f op x y z u v : ℕ) where
  pub not_admissible : admissible s ≡ false → Told (exception_of s f op x y z u v) NotAdmissible s
  unfolding exception_of reply_of
  not_admissible a = rw a (record { reply_is = refl; state_is = refl })

  pub exception_told : (r : Reply) (t : State) → admissible s ≡ true → Told (raised s f (word_of op x y z) u v) r t → Told (exception_of s f op x y z u v) r t
  unfolding exception_of
  exception_told r t a h = rw a h
