-- Of two states that agree in what a step touches, each state builder leaves such states, and the first as it was in the rest. Few has the arms.
use Rattle.model.proofs.Logic.{ℕ, ◌%◌, ◌+◌, ◌-◌, ◌/◌, ◌<◌, ◌^◌, false, ◌&&◌, List, ap, refl, sym, ◌∙◌, ◌≡◌, dec_lt, ℕ_discrete, arith, bit_and, bit_or, leb}
use Rattle.model.proofs.Logic.{ltb, get_or, length, length-set, get_or_eq_default, set, ext_get_or, get_or-set_other, get_or-set_same}
use Rattle.model.specs.Registers.{r_h, r_r, r_j, r_g, r_l, r_a, sp, reg, following, admissible, built, with_parts, goes, next, halted, with_special, stored, is_marginal, claim_local, set_register}
use Rattle.model.specs.Trips.{interrupted, leftmost, added, with_added}
use Rattle.model.specs.ArithmeticStep.{with_results}
use Rattle.model.specs.Few.{SameTouched, joined}
use Rattle.model.specs.declared.State.{State}
use Rattle.model.specs.declared.Results.{Results}

-- what is left of s, u, and of a state that agrees with it, v
pub record Touched (x : ℕ) (s u v : State) : Type 0 where
  pub count_same : length u.general ≡ length v.general
  pub count_kept : length u.general ≡ length s.general
  pub x_same : reg u x ≡ reg v x
  pub last_same : reg u 255 ≡ reg v 255
  pub rest_kept : (k : ℕ) → (k ≡ x → ⊥) → (k ≡ 255 → ⊥) → reg u k ≡ reg s k
  pub special_same : u.special ≡ v.special
  pub pc_same : u.pc ≡ v.pc
  pub halt_same : u.halt ≡ v.halt
  pub marks_same : u.marks ≡ v.marks
  pub mask_same : u.mask ≡ v.mask

-- one element set in both
set_at : (gs hs : List ℕ) (k i u v : ℕ) → length gs ≡ length hs → u ≡ v → get_or gs i 0 ≡ get_or hs i 0 → get_or (set gs k u) i 0 ≡ get_or (set hs k v) i 0
set_at gs hs k i u v n e h = at (ℕ_discrete i k) (dec_lt i (length gs))
  where
    at : Dec (i ≡ k) → Dec (i < length gs) → get_or (set gs k u) i 0 ≡ get_or (set hs k v) i 0
    at (yes q) (yes l) = rw (← q) (get_or-set_same gs i u 0 l ∙ e ∙ sym (get_or-set_same hs i v 0 (rw (← n) l)))
    at (yes q) (no l) = get_or_eq_default (set gs k u) 0 (omega (arith, length-set gs k u)) ∙ sym (get_or_eq_default (set hs k v) 0 (omega (arith, length-set hs k v, n)))
    at (no q) d = get_or-set_other gs k i u 0 q ∙ h ∙ sym (get_or-set_other hs k i v 0 q)

module _ (x : ℕ) (o : State) where
  abbrev R : State → State → Type 0
  R s t = Touched x o s t

  -- ---- what is read

  pub sp_same : (s t : State) (k : ℕ) → R s t → sp s k ≡ sp t k
  sp_same s t k h = ap (λ (l : List ℕ). get_or l k 0) h.special_same

  pub following_same : (s t : State) → R s t → following s ≡ following t
  following_same s t h = ap (λ (a : ℕ). (a + 4) % 2 ^ 64) h.pc_same

  pub admissible_same : (s t : State) → R s t → admissible s ≡ admissible t
  unfolding admissible
  admissible_same s t h = rw (h.special_same, h.marks_same, h.mask_same)

  marginal_same : (s t : State) → R s t → is_marginal s x ≡ is_marginal t x
  marginal_same s t h = let l : sp s r_l ≡ sp t r_l = sp_same s t r_l h in let g : sp s r_g ≡ sp t r_g = sp_same s t r_g h in λ i. leb (l i) x && ltb x (g i)

  -- ---- builders

  -- other special registers, PC and halt code
  beside_left : (s t : State) (ks ls : List ℕ) (p q a b : ℕ) → ks ≡ ls → p ≡ q → a ≡ b → R s t → R (built s s.general ks p a) (built t t.general ls q b)
  beside_left s t ks ls p q a b e f g h = record {
    count_same = h.count_same;
    count_kept = h.count_kept;
    x_same = h.x_same;
    last_same = h.last_same;
    rest_kept = h.rest_kept;
    special_same = e;
    pc_same = f;
    halt_same = g;
    marks_same = h.marks_same;
    mask_same = h.mask_same;
  }

  -- $k, one of the two, and other special registers
  set_left : (s t : State) (k u v : ℕ) (ks ls : List ℕ) → ((i : ℕ) → (i ≡ x → ⊥) → (i ≡ 255 → ⊥) → i ≡ k → ⊥) → u ≡ v → ks ≡ ls → R s t
      → R (with_parts s (set s.general k u) ks) (with_parts t (set t.general k v) ls)
  set_left s t k u v ks ls off e f h = record {
    count_same = length-set s.general k u ∙ h.count_same ∙ sym (length-set t.general k v);
    count_kept = length-set s.general k u ∙ h.count_kept;
    special_same = f;
    pc_same = h.pc_same;
    halt_same = h.halt_same;
    marks_same = h.marks_same;
    mask_same = h.mask_same;
    x_same = set_at s.general t.general k x u v h.count_same e h.x_same;
    last_same = set_at s.general t.general k 255 u v h.count_same e h.last_same;
    rest_kept = λ i p q. get_or-set_other s.general k i u 0 (off i p q) ∙ h.rest_kept i p q;
  }

  pub goes_left : (s t : State) (a b : ℕ) → a ≡ b → R s t → R (goes s a) (goes t b)
  unfolding goes
  goes_left s t a b e h = beside_left s t _ _ a b _ _ h.special_same e h.halt_same h

  pub next_left : (s t : State) → R s t → R (next s) (next t)
  next_left s t h = goes_left s t _ _ (following_same s t h) h

  pub halted_left : (s t : State) → R s t → R (halted s) (halted t)
  unfolding halted
  halted_left s t h = beside_left s t _ _ _ _ 1 1 h.special_same h.pc_same refl h

  pub with_left : (s t : State) (k u v : ℕ) → u ≡ v → R s t → R (with_special s k u) (with_special t k v)
  unfolding with_special
  with_left s t k u v e h = beside_left s t _ _ _ _ _ _ (λ i. set (h.special_same i) k (e i)) h.pc_same h.halt_same h

  -- $x, which is not marginal
  pub write_left : (s t : State) (u v : ℕ) → is_marginal s x ≡ false → u ≡ v → R s t → R (set_register s x u) (set_register t x v)
  unfolding set_register claim_local stored
  write_left s t u v m e h = rw (← (marginal_same s t h), m) (set_left s t x u v _ _ (λ i p q. p) e h.special_same h)

  pub interrupted_left : (s t : State) (b w i y z word u v : ℕ) → R s t → R (interrupted s b w i y z word u v) (interrupted t b w i y z word u v)
  unfolding interrupted
  interrupted_left s t b w i y z word u v h =
      set_left s t 255 _ _ _ _ (λ i p q. q) (sp_same s t r_j h)
      (λ j. set (set (set (set (set (h.special_same j) b (h.last_same j)) w (following_same s t h j)) i word) y u) z v) h

  pub added_left : (s t : State) (f : ℕ) → R s t → R (with_added s f) (with_added t f)
  unfolding with_added added
  added_left s t f h = let a : sp s r_a ≡ sp t r_a = sp_same s t r_a h in with_left s t r_a _ _ (λ i. bit_or (a i) (bit_and (f % 256) (255 - leftmost (bit_and (f % 256) (a i / 256 % 256))))) h

  pub results_left : (s t : State) (r : Results) → is_marginal s x ≡ false → R s t → R (with_results s x r) (with_results t x r)
  unfolding with_results
  results_left s t r m h = with_left _ _ r_r _ _ refl (with_left _ _ r_h _ _ refl (write_left s t _ _ m refl h))

-- ---- where a step begins, and what it comes to

pub start : (x y z : ℕ) (s t : State) → SameTouched x y z s t → Touched x s s t
start x y z s t h = record {
  count_same = h.count_same;
  count_kept = refl;
  special_same = h.special_same;
  pc_same = h.pc_same;
  halt_same = h.halt_same;
  marks_same = h.marks_same;
  mask_same = h.mask_same;
  x_same = h.x_same;
  last_same = h.last_same;
  rest_kept = λ k p q. refl;
}

-- s with $x and $255 from v
joined_general : (x : ℕ) (s u v : State) → Touched x s u v → u.general ≡ set (set s.general x (reg v x)) 255 (reg v 255)
joined_general x s u v h =
    ext_get_or 0 u.general (set (set s.general x (reg v x)) 255 (reg v 255))
    (h.count_kept ∙ sym (length-set s.general x (reg v x)) ∙ sym (length-set (set s.general x (reg v x)) 255 (reg v 255)))
    (λ k l. at k l (ℕ_discrete k 255) (ℕ_discrete k x))
  where
    at : (k : ℕ) → k < length u.general → Dec (k ≡ 255) → Dec (k ≡ x) → reg u k ≡ get_or (set (set s.general x (reg v x)) 255 (reg v 255)) k 0
    at k l (yes p) q =
        rw p (h.last_same ∙ sym (get_or-set_same (set s.general x (reg v x)) 255 (reg v 255) 0 (omega (arith, l, p, h.count_kept, length-set s.general x (reg v x)))))
    at k l (no p) (yes q) =
        rw q (h.x_same ∙ sym (get_or-set_same s.general x (reg v x) 0 (omega (arith, l, q, h.count_kept))) ∙ sym (get_or-set_other (set s.general x (reg v x)) 255 x (reg v 255) 0 (λ e. p (q ∙ e))))
    at k l (no p) (no q) =
        h.rest_kept k q p ∙ sym (get_or-set_other s.general x k (reg v x) 0 q) ∙ sym (get_or-set_other (set s.general x (reg v x)) 255 k (reg v 255) 0 p)

pub joined_is : (x : ℕ) (s u v : State) → Touched x s u v → u ≡ joined s x v
joined_is x s u v h = λ i. record {
  general = joined_general x s u v h i;
  special = h.special_same i;
  pc = h.pc_same i;
  halt = h.halt_same i;
  marks = h.marks_same i;
  mask = h.mask_same i;
}
