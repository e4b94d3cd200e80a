-- Two states under one mask m that differ only in hidden registers: so do the states that each builder makes of them.
use Rattle.model.proofs.Logic.{max, min, ℕ, ◌%◌, ◌*◌, ◌+◌, ◌-◌, ◌/◌, ◌<◌, ◌^◌, cond, false, ◌&&◌, List, ap, refl, sym, ◌∙◌, ◌≡◌, dec_lt, ℕ_discrete}
use Rattle.model.proofs.Logic.{arith, bit_and, bit_or, eqb, leb, ltb, get_or, length, length-set, get_or_eq_default, set, get_or-set_other, get_or-set_same}
use Rattle.model.specs.Fill.{over}
use Rattle.model.specs.Registers.{r_h, r_j, r_o, r_s, r_g, r_l, r_a, r_r, sp, reg, following, hideable, hides, admissible, built, with_parts, goes, next, halted, with_special, stored, cleared, is_marginal, claim_local, set_register, put_locals, put_globals, spilled}
use Rattle.model.specs.Frames.{slid, slide, pushed_rule, pushed, count_of, last_output, restored, unslide, popped}
use Rattle.model.specs.Contexts.{saved_unspilled, saved_state, unsaved_general, unsaved_special, unsaved_unspilled, unsaved}
use Rattle.model.specs.System.{put_state}
use Rattle.model.specs.Trips.{interrupted, leftmost, added, with_added}
use Rattle.model.specs.ArithmeticStep.{with_results}
use Rattle.model.specs.Unseen.{SameSpecials, SameSeen}
use Rattle.model.specs.declared.State.{State}
use Rattle.model.specs.declared.Results.{Results}
use Rattle.model.proofs.Bools.{on_both}
use Rattle.model.proofs.Fill.{over_in, over_above, length_over}
use Rattle.model.proofs.Mask.{unhideable}

-- `SameSeen` with the mask by name
pub record Seen (m : ℕ) (s t : State) : Type 0 where
  pub general_same : s.general ≡ t.general
  pub special_same : SameSpecials m s.special t.special
  pub pc_same : s.pc ≡ t.pc
  pub halt_same : s.halt ≡ t.halt
  pub marks_same : s.marks ≡ t.marks
  pub first_mask : s.mask ≡ m
  pub second_mask : t.mask ≡ m

pub seen_of : (s t : State) → SameSeen s t → Seen s.mask s t
seen_of s t h = record {
  general_same = h.general_same;
  special_same = h.special_same;
  pc_same = h.pc_same;
  halt_same = h.halt_same;
  marks_same = h.marks_same;
  first_mask = refl;
  second_mask = sym h.mask_same;
}

pub of_seen : (m : ℕ) (s t : State) → Seen m s t → SameSeen s t
of_seen m s t h = record {
  general_same = h.general_same;
  special_same = rw h.first_mask h.special_same;
  pc_same = h.pc_same;
  halt_same = h.halt_same;
  marks_same = h.marks_same;
  mask_same = h.first_mask ∙ sym h.second_mask;
}

unsaved_special_same : (s t : State) (o g a l : ℕ) (vs : List ℕ) (k : ℕ) → sp s k ≡ sp t k → unsaved_special s o g a l vs k ≡ unsaved_special t o g a l vs k
unfolding unsaved_special
unsaved_special_same s t o g a l vs k e = rw e

module _ (m : ℕ) where
  set_same : (ks ls : List ℕ) (k u v : ℕ) → u ≡ v → SameSpecials m ks ls → SameSpecials m (set ks k u) (set ls k v)
  set_same ks ls k u v e h = record { count_same = length-set ks k u ∙ h.count_same ∙ sym (length-set ls k v); seen_same = λ i f. go i f (ℕ_discrete i k) (dec_lt i (length ks)) }
    where
      go : (i : ℕ) → hides m i ≡ false → Dec (i ≡ k) → Dec (i < length ks) → get_or (set ks k u) i 0 ≡ get_or (set ls k v) i 0
      go i f (yes q) (yes l) = rw (← q) (get_or-set_same ks i u 0 l ∙ e ∙ sym (get_or-set_same ls i v 0 (rw (← h.count_same) l)))
      go i f (yes q) (no l) =
          get_or_eq_default (set ks k u) 0 (omega (arith, length-set ks k u)) ∙ sym (get_or_eq_default (set ls k v) 0 (omega (arith, length-set ls k v, h.count_same)))
      go i f (no q) d = get_or-set_other ks k i u 0 q ∙ h.seen_same i f ∙ sym (get_or-set_other ls k i v 0 q)

  -- ---- what is read

  pub seen : (s t : State) (k : ℕ) → hideable k ≡ false → Seen m s t → sp s k ≡ sp t k
  seen s t k e h = h.special_same.seen_same k (unhideable m k e)

  pub g_same : (s t : State) → Seen m s t → sp s r_g ≡ sp t r_g
  g_same s t = seen s t r_g (unfold hideable in refl)

  pub l_same : (s t : State) → Seen m s t → sp s r_l ≡ sp t r_l
  l_same s t = seen s t r_l (unfold hideable in refl)

  pub o_same : (s t : State) → Seen m s t → sp s r_o ≡ sp t r_o
  o_same s t = seen s t r_o (unfold hideable in refl)

  pub a_same : (s t : State) → Seen m s t → sp s r_a ≡ sp t r_a
  a_same s t = seen s t r_a (unfold hideable in refl)

  pub j_same : (s t : State) → Seen m s t → sp s r_j ≡ sp t r_j
  j_same s t = seen s t r_j (unfold hideable in refl)

  pub reg_same : (s t : State) (i : ℕ) → Seen m s t → reg s i ≡ reg t i
  reg_same s t i h = ap (λ (l : List ℕ). get_or l i 0) h.general_same

  pub following_same : (s t : State) → Seen m s t → following s ≡ following t
  following_same s t h = ap (λ (a : ℕ). (a + 4) % 2 ^ 64) h.pc_same

  pub hides_same : (s t : State) (k : ℕ) → Seen m s t → hides s.mask k ≡ hides t.mask k
  hides_same s t k h = rw (h.first_mask, h.second_mask)

  pub admissible_same : (s t : State) → Seen m s t → admissible s ≡ admissible t
  unfolding admissible
  admissible_same s t h = rw (g_same s t h, l_same s t h, a_same s t h, h.marks_same, h.first_mask, h.second_mask)

  -- ---- builders

  built_seen : (s t : State) (gs hs ks ls : List ℕ) (p q a b : ℕ) → gs ≡ hs → SameSpecials m ks ls → p ≡ q → a ≡ b → Seen m s t → Seen m (built s gs ks p a) (built t hs ls q b)
  built_seen s t gs hs ks ls p q a b e f g i h = record {
    general_same = e;
    special_same = f;
    pc_same = g;
    halt_same = i;
    marks_same = h.marks_same;
    first_mask = h.first_mask;
    second_mask = h.second_mask;
  }

  pub parts_seen : (s t : State) (gs hs ks ls : List ℕ) → gs ≡ hs → SameSpecials m ks ls → Seen m s t → Seen m (with_parts s gs ks) (with_parts t hs ls)
  parts_seen s t gs hs ks ls e f h = built_seen s t gs hs ks ls s.pc t.pc s.halt t.halt e f h.pc_same h.halt_same h

  pub goes_seen : (s t : State) (a b : ℕ) → a ≡ b → Seen m s t → Seen m (goes s a) (goes t b)
  unfolding goes
  goes_seen s t a b e h = built_seen s t _ _ _ _ a b s.halt t.halt h.general_same h.special_same e h.halt_same h

  pub next_seen : (s t : State) → Seen m s t → Seen m (next s) (next t)
  next_seen s t h = goes_seen s t _ _ (following_same s t h) h

  pub halted_seen : (s t : State) → Seen m s t → Seen m (halted s) (halted t)
  unfolding halted
  halted_seen s t h = built_seen s t _ _ _ _ s.pc t.pc 1 1 h.general_same h.special_same h.pc_same refl h

  with_seen : (s t : State) (k u v : ℕ) → u ≡ v → Seen m s t → Seen m (with_special s k u) (with_special t k v)
  unfolding with_special
  with_seen s t k u v e h = parts_seen s t _ _ _ _ h.general_same (set_same s.special t.special k u v e h.special_same) h

  stored_seen : (s t : State) (x u v : ℕ) → u ≡ v → Seen m s t → Seen m (stored s x u) (stored t x v)
  unfolding stored
  stored_seen s t x u v e h = parts_seen s t _ _ _ _ (λ i. set (h.general_same i) x (e i)) h.special_same h

  cleared_seen : (s t : State) (a b c d : ℕ) → a ≡ c → b ≡ d → Seen m s t → Seen m (cleared s a b) (cleared t c d)
  unfolding cleared
  cleared_seen s t a b c d e f h = parts_seen s t _ _ _ _ (λ i. over (λ k. 0) (e i) (f i) (h.general_same i)) h.special_same h

  pub claim_seen : (s t : State) (x : ℕ) → Seen m s t → Seen m (claim_local s x) (claim_local t x)
  unfolding claim_local
  claim_seen s t x h =
      let l : sp s r_l ≡ sp t r_l = l_same s t h in
      let g : sp s r_g ≡ sp t r_g = g_same s t h in
      let e : is_marginal s x ≡ is_marginal t x = (λ i. leb (l i) x && ltb x (g i)) in
      rw e (on_both (Seen m) (is_marginal t x) (λ f. with_seen _ _ r_l (x + 1) (x + 1) refl (cleared_seen s t _ _ _ _ l refl h)) (λ f. h))

  pub write_seen : (s t : State) (x u v : ℕ) → u ≡ v → Seen m s t → Seen m (set_register s x u) (set_register t x v)
  unfolding set_register
  write_seen s t x u v e h = stored_seen _ _ x u v e (claim_seen s t x h)

  spilled_seen : (s t : State) → Seen m s t → Seen m (spilled s) (spilled t)
  unfolding spilled
  spilled_seen s t h = with_seen s t r_s _ _ (o_same s t h) h

  pub pushed_seen : (s t : State) (n : ℕ) → Seen m s t → Seen m (pushed s n) (pushed t n)
  unfolding pushed pushed_rule
  pushed_seen s t n h = spilled_seen _ _ (with_seen _ _ r_j _ _ (following_same s t h) slid_same)
    where
      l : sp s r_l ≡ sp t r_l
      l = l_same s t h

      g : sp s r_g ≡ sp t r_g
      g = g_same s t h

      o : sp s r_o ≡ sp t r_o
      o = o_same s t h

      slid_same : Seen m (slide s (n + 1)) (slide t (n + 1))
      slid_same = unfold slide slid in (parts_seen s t _ _ _ _
          (λ i. over (λ k. cond (ltb k (l i - (n + 1))) (get_or (h.general_same i) (n + 1 + k) 0) 0) 0 (g i) (h.general_same i))
          (set_same _ _ r_o _ _ (λ i. (o i + 8 * (n + 1)) % 2 ^ 64) (set_same _ _ r_l _ _ (λ i. l i - (n + 1)) h.special_same)) h)

  pub popped_seen : (s t : State) (x n : ℕ) (ls : List ℕ) → Seen m s t → Seen m (popped s x n ls) (popped t x n ls)
  unfolding popped
  popped_seen s t x n ls h = spilled_seen _ _ unslid
    where
      l : sp s r_l ≡ sp t r_l
      l = l_same s t h

      g : sp s r_g ≡ sp t r_g
      g = g_same s t h

      o : sp s r_o ≡ sp t r_o
      o = o_same s t h

      gs : s.general ≡ t.general
      gs = h.general_same

      unslid : Seen m (unslide s x n ls) (unslide t x n ls)
      unslid = unfold unslide restored last_output count_of in (parts_seen s t _ _ _ _
          (λ i. over (λ k. cond (ltb k n) (get_or ls k 0) (cond (eqb k n) (cond (ltb (l i) x) 0 (cond (eqb x 0) 0 (get_or (gs i) (x - 1) 0)))
          (cond (ltb k (n + cond (ltb (l i) x) (l i + 1) x)) (get_or (gs i) (k - n - 1) 0) 0))) 0 (g i) (gs i))
          (set_same _ _ r_o _ _ (λ i. o i - 8 * (n + 1)) (set_same _ _ r_l _ _ (λ i. min (n + cond (ltb (l i) x) (l i + 1) x) (g i)) h.special_same)) h)

  pub saved_seen : (s t : State) (x : ℕ) → Seen m s t → Seen m (saved_state s x) (saved_state t x)
  unfolding saved_state saved_unspilled
  saved_seen s t x h =
      let l : sp s r_l ≡ sp t r_l = l_same s t h in
      let g : sp s r_g ≡ sp t r_g = g_same s t h in
      let o : sp s r_o ≡ sp t r_o = o_same s t h in
      spilled_seen _ _ (stored_seen _ _ x _ _ (λ i. (o i + 8 * (l i + 269 - g i)) % 2 ^ 64) (parts_seen s t _ _ _ _
      (λ i. over (λ k. 0) 0 (g i) (h.general_same i))
      (set_same _ _ r_o _ _ (λ i. (o i + 8 * (l i + 270 - g i)) % 2 ^ 64) (set_same _ _ r_l _ _ refl h.special_same)) h))

  pub unsaved_seen : (s t : State) (o g a l : ℕ) (vs : List ℕ) → Seen m s t → Seen m (unsaved s o g a l vs) (unsaved t o g a l vs)
  unfolding unsaved unsaved_unspilled
  unsaved_seen s t o g a l vs h = spilled_seen _ _ (parts_seen s t _ _ _ _
      (λ i. over (unsaved_general g l vs) 0 256 (h.general_same i))
      (record {
        count_same = length_over _ 0 32 s.special ∙ h.special_same.count_same ∙ sym (length_over _ 0 32 t.special);
        seen_same = λ k f. at k f (dec_lt k (length s.special)) (dec_lt k 32);
      }) h)
    where
      at : (k : ℕ) → hides m k ≡ false → Dec (k < length s.special) → Dec (k < 32)
          → get_or (over (unsaved_special s o g a l vs) 0 32 s.special) k 0 ≡ get_or (over (unsaved_special t o g a l vs) 0 32 t.special) k 0
      at k f (yes p) (yes q) =
          let e : sp s k ≡ sp t k = h.special_same.seen_same k f in
          let u : unsaved_special s o g a l vs k ≡ unsaved_special t o g a l vs k = unsaved_special_same s t o g a l vs k e in
          over_in (unsaved_special s o g a l vs) 0 32 s.special k (omega arith) q p ∙ u
          ∙ sym (over_in (unsaved_special t o g a l vs) 0 32 t.special k (omega arith) q (omega (arith, h.special_same.count_same)))
      at k f (yes p) (no q) =
          over_above (unsaved_special s o g a l vs) 0 32 s.special k (omega arith) p ∙ h.special_same.seen_same k f
          ∙ sym (over_above (unsaved_special t o g a l vs) 0 32 t.special k (omega arith) (omega (arith, h.special_same.count_same)))
      at k f (no p) q =
          get_or_eq_default (over (unsaved_special s o g a l vs) 0 32 s.special) 0 (omega (arith, length_over (unsaved_special s o g a l vs) 0 32 s.special))
          ∙ sym (get_or_eq_default (over (unsaved_special t o g a l vs) 0 32 t.special) 0 (omega (arith, length_over (unsaved_special t o g a l vs) 0 32 t.special, h.special_same.count_same)))

  -- "Trips and traps still write these registers": what they write is the same
  pub interrupted_seen : (s t : State) (b w x y z word u v : ℕ) → Seen m s t → Seen m (interrupted s b w x y z word u v) (interrupted t b w x y z word u v)
  unfolding interrupted
  interrupted_seen s t b w x y z word u v h =
      let j : sp s r_j ≡ sp t r_j = j_same s t h in
      parts_seen s t _ _ _ _ (λ i. set (h.general_same i) 255 (j i))
      (set_same _ _ z _ _ refl (set_same _ _ y _ _ refl (set_same _ _ x _ _ refl (set_same _ _ w _ _ (following_same s t h) (set_same _ _ b _ _ (reg_same s t 255 h) h.special_same))))) h

  pub added_seen : (s t : State) (f : ℕ) → Seen m s t → Seen m (with_added s f) (with_added t f)
  unfolding with_added added
  added_seen s t f h = let a : sp s r_a ≡ sp t r_a = a_same s t h in with_seen s t r_a _ _ (λ i. bit_or (a i) (bit_and (f % 256) (255 - leftmost (bit_and (f % 256) (a i / 256 % 256))))) h

  pub put_state_seen : (s t : State) (x v : ℕ) → Seen m s t → Seen m (put_state s x v) (put_state t x v)
  unfolding put_state put_locals put_globals
  put_state_seen s t x v h =
      let l : sp s r_l ≡ sp t r_l = l_same s t h in
      let g : sp s r_g ≡ sp t r_g = g_same s t h in
      on_both (Seen m) (eqb x r_l) (λ e. with_seen _ _ r_l _ _ (λ i. min v (l i)) (cleared_seen s t _ _ _ _ (λ i. min v (l i)) l h))
      (λ e. on_both (Seen m) (eqb x r_g) (λ f. with_seen _ _ r_g _ _ refl (cleared_seen s t _ _ _ _ (λ i. min v (g i)) (λ i. max v (g i)) h)) (λ f. with_seen s t x v v refl h))

  pub results_seen : (s t : State) (x : ℕ) (r : Results) → Seen m s t → Seen m (with_results s x r) (with_results t x r)
  unfolding with_results
  results_seen s t x r h = with_seen _ _ r_r _ _ refl (with_seen _ _ r_h _ _ refl (write_seen s t x _ _ refl h))
