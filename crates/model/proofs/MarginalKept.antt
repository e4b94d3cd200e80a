-- "Registers from rL to rG − 1 are marginal; once all zero, they stay zero through every step and every exception."
use Rattle.model.proofs.Logic.{max, min, ℕ, ◌+◌, ◌-◌, ◌<◌, ◌≤◌, Bool, cond, false, true, ◌&&◌, List, ⊎_elim, refl, ◌∙◌, ◌≡◌, arith, eqb, leb, ltb}
use Rattle.model.proofs.Logic.{length, length-set, get_or-set_other, eqb-false, eqb-true, le-ltb, leb-false, leb-true, lt-ltb, ltb-false, ltb-true}
use Rattle.model.specs.Fill.{over}
use Rattle.model.specs.Registers.{r_b, r_j, r_bb, r_o, r_s, r_g, r_l, r_a, r_w, r_x, r_y, r_z, r_ww, r_xx, r_yy, r_zz, sp, reg, following, goes, halted, with_special, cleared, claim_local, stored, set_register, put_locals, put_globals, spilled}
use Rattle.model.specs.Frames.{slid, slide, pushed_rule, pushed, count_of, last_output, restored, unslide, popped}
use Rattle.model.specs.Contexts.{context_address, saved_unspilled, saved_state, unsaved_special, unsaved_general, unsaved_unspilled, unsaved}
use Rattle.model.specs.Trips.{interrupted, with_added}
use Rattle.model.specs.declared.State.{State}
use Rattle.model.proofs.Fill.{over_in, over_below, over_above, lt_or_le}
use Rattle.model.proofs.AdmissibleKept.{Good, spec_other, spec_same, goes_good, halted_good, back_good, stored_good, cleared_good, with_local_good, put_locals_good, put_globals_good, with_status_good, with_special_good, slide_good, unslide_good, saved_unspilled_good, unsaved_unspilled_good, unsaved_special_law, tripped_good, trapped_good, added_good}
use Rattle.model.proofs.Bools.{and_left, and_right, on, on_both}
use Rattle.model.proofs.ItemInvariant.{Keeps}

-- good, and all marginal registers zero
pub record Calm (s : State) : Type 0 where
  pub good : Good s
  pub zero_at : (i : ℕ) → sp s r_l ≤ i → i < sp s r_g → reg s i ≡ 0

calm_by : (t : State) → Good t → (l g : ℕ) → sp t r_l ≡ l → sp t r_g ≡ g → ((i : ℕ) → l ≤ i → i < g → reg t i ≡ 0) → Calm t
calm_by t h l g el eg z = record { good = h; zero_at = λ i p q. z i (omega arith) (omega arith) }

goes_calm : (s : State) (a : ℕ) → Calm s → Calm (goes s a)
unfolding goes
goes_calm s a h = calm_by (goes s a) (goes_good s a h.good) (sp s r_l) (sp s r_g) refl refl h.zero_at

halted_calm : (s : State) → Calm s → Calm (halted s)
unfolding halted
halted_calm s h = calm_by (halted s) (halted_good s h.good) (sp s r_l) (sp s r_g) refl refl h.zero_at

-- a register that is not marginal
stored_calm : (s : State) (x v : ℕ) → ((sp s r_l ≤ x) → (x < sp s r_g) → ⊥) → Calm s → Calm (stored s x v)
unfolding stored
stored_calm s x v n h = calm_by (stored s x v) (stored_good s x v h.good) (sp s r_l) (sp s r_g) refl refl
    (λ i p q. get_or-set_other s.general x i v 0 (λ e. let f : i ≡ x = e in n (omega arith) (omega arith)) ∙ h.zero_at i p q)

other_calm : (s : State) (k v : ℕ) → eqb r_g k ≡ false → eqb r_l k ≡ false → Good (with_special s k v) → Calm s → Calm (with_special s k v)
unfolding with_special
other_calm s k v g l w h = calm_by (with_special s k v) w (sp s r_l) (sp s r_g) (spec_other s.special k r_l v l) (spec_other s.special k r_g v g) h.zero_at

claimed_calm : (s : State) (x : ℕ) → sp s r_l ≤ x → x < sp s r_g → Calm s → Calm (with_special (cleared s (sp s r_l) (x + 1)) r_l (x + 1))
unfolding with_special cleared
claimed_calm s x a b h =
    let n : length s.special ≡ 32 = h.good.size.specials in
    let m : length s.general ≡ 256 = h.good.size.generals in
    let gh : sp s r_g ≤ 255 = h.good.admits.g_high in
    calm_by (with_special (cleared s (sp s r_l) (x + 1)) r_l (x + 1)) (with_local_good (cleared s (sp s r_l) (x + 1)) (x + 1) (omega arith) (cleared_good s (sp s r_l) (x + 1) h.good)) (x + 1) (sp s r_g)
    (simp (spec_same, n)) (simp spec_other)
    (λ i p q. over_above (λ k. 0) (sp s r_l) (x + 1) s.general i p (omega arith) ∙ h.zero_at i (omega arith) q)

claim_calm : (s : State) (x : ℕ) → Calm s → Calm (claim_local s x)
unfolding claim_local
claim_calm s x h =
    on Calm (leb (sp s r_l) x && ltb x (sp s r_g))
    (λ e. claimed_calm s x (leb-true _ _ (and_left (leb (sp s r_l) x) _ e)) (ltb-true _ _ (and_right (leb (sp s r_l) x) _ e)) h) (λ e. h)

claimed_r_l : (s : State) (x : ℕ) → length s.special ≡ 32 → sp (with_special (cleared s (sp s r_l) (x + 1)) r_l (x + 1)) r_l ≡ x + 1
unfolding with_special cleared
claimed_r_l s x n = simp (spec_same, n)

set_calm : (s : State) (x v : ℕ) → Calm s → Calm (set_register s x v)
unfolding set_register claim_local
set_calm s x v h = go (leb (sp s r_l) x) (ltb x (sp s r_g)) refl refl
  where
    go : (a b : Bool) → leb (sp s r_l) x ≡ a → ltb x (sp s r_g) ≡ b → Calm (stored (cond (a && b) (with_special (cleared s (sp s r_l) (x + 1)) r_l (x + 1)) s) x v)
    go true true e f =
        let n : length s.special ≡ 32 = h.good.size.specials in
        let l : sp (with_special (cleared s (sp s r_l) (x + 1)) r_l (x + 1)) r_l ≡ x + 1 = claimed_r_l s x n in
        stored_calm (with_special (cleared s (sp s r_l) (x + 1)) r_l (x + 1)) x v (λ p q. omega arith) (claimed_calm s x (leb-true _ _ e) (ltb-true _ _ f) h)
    go true false e f = let k : sp s r_g ≤ x = ltb-false _ _ f in stored_calm s x v (λ p q. omega arith) h
    go false b e f = let k : x < sp s r_l = leb-false _ _ e in stored_calm s x v (λ p q. omega arith) h

locals_calm : (s : State) (v : ℕ) → Calm s → Calm (put_locals s v)
unfolding put_locals with_special cleared
locals_calm s v h =
    let n : length s.special ≡ 32 = h.good.size.specials in
    let m : length s.general ≡ 256 = h.good.size.generals in
    let gh : sp s r_g ≤ 255 = h.good.admits.g_high in
    calm_by (put_locals s v) (put_locals_good s v h.good) (min v (sp s r_l)) (sp s r_g) (simp (spec_same, n)) (simp spec_other)
    (λ i p q. ⊎_elim (λ lo. over_in (λ k. 0) (min v (sp s r_l)) (sp s r_l) s.general i p lo (omega arith))
    (λ hi. over_above (λ k. 0) (min v (sp s r_l)) (sp s r_l) s.general i hi (omega arith) ∙ h.zero_at i hi q) (lt_or_le i (sp s r_l)))

globals_calm : (s : State) (v : ℕ) → 32 ≤ v → v ≤ 255 → sp s r_l ≤ v → Calm s → Calm (put_globals s v)
unfolding put_globals with_special cleared
globals_calm s v a b c h =
    let n : length s.special ≡ 32 = h.good.size.specials in
    let m : length s.general ≡ 256 = h.good.size.generals in
    calm_by (put_globals s v) (put_globals_good s v a b c h.good) (sp s r_l) v (simp spec_other) (simp (spec_same, n))
    (λ i p q. ⊎_elim (λ lo. over_below (λ k. 0) (min v (sp s r_g)) (max v (sp s r_g)) s.general i lo (omega arith) ∙ h.zero_at i p (omega arith))
    (λ hi. over_in (λ k. 0) (min v (sp s r_g)) (max v (sp s r_g)) s.general i hi (omega arith) (omega arith)) (lt_or_le i (min v (sp s r_g))))

slid_zero : (s : State) (n i : ℕ) → sp s r_l - n ≤ i → slid s n i ≡ 0
unfolding slid
slid_zero s n i p = rw (le-ltb i (sp s r_l - n) p)

spilled_calm : (s : State) → Calm s → Calm (spilled s)
unfolding spilled
spilled_calm s h = other_calm s r_s (sp s r_o) refl refl (with_special_good s r_s (sp s r_o) refl refl refl h.good) h

slide_calm : (s : State) (n : ℕ) → Calm s → Calm (slide s n)
unfolding slide
slide_calm s n c =
    let k : length s.special ≡ 32 = c.good.size.specials in
    let m : length s.general ≡ 256 = c.good.size.generals in
    let gh : sp s r_g ≤ 255 = c.good.admits.g_high in
    calm_by (slide s n) (slide_good s n c.good) (sp s r_l - n) (sp s r_g) (simp (spec_other, spec_same, length-set, k)) (simp spec_other)
    (λ i p q. over_in (slid s n) 0 (sp s r_g) s.general i (omega arith) q (omega arith) ∙ slid_zero s n i p)

pushed_calm : (s : State) (h : ℕ) → Calm s → Calm (pushed s h)
unfolding pushed pushed_rule
pushed_calm s h c =
    let d : Calm (slide s _) = slide_calm s _ c in
    spilled_calm _ (other_calm (slide s _) r_j (following s) refl refl (with_special_good (slide s _) r_j (following s) refl refl refl d.good) d)

-- beyond the outputs: only where the count is 0 is the hole one of these, and then it is 0
none_last : (s : State) (x : ℕ) → count_of s x ≡ 0 → last_output s x ≡ 0
unfolding count_of last_output
none_last s x =
    on_both (λ (c o : ℕ). c ≡ 0 → o ≡ 0) (ltb (sp s r_l) x) (λ e f. refl)
    (λ e f. on (λ (o : ℕ). o ≡ 0) (eqb x 0) (λ g. refl) (λ g. absurd (eqb-false x 0 g f)))

restored_zero : (s : State) (x h : ℕ) (ls : List ℕ) (i : ℕ) → h + count_of s x ≤ i → restored s x h ls i ≡ 0
unfolding restored
restored_zero s x h ls i p =
    rw (le-ltb i h (omega arith), le-ltb i (h + count_of s x) p)
    (on (λ (o : ℕ). o ≡ 0) (eqb i h) (λ e. let f : i ≡ h = eqb-true i h e in none_last s x (omega arith)) (λ e. refl))

popped_calm : (s : State) (x h : ℕ) (ls : List ℕ) → Calm s → Calm (popped s x h ls)
unfolding popped
popped_calm s x h ls c = spilled_calm _ moved
  where
    moved : Calm (unslide s x h ls)
    moved = unfold unslide in (
        let n : length s.special ≡ 32 = c.good.size.specials in
        let m : length s.general ≡ 256 = c.good.size.generals in
        let gh : sp s r_g ≤ 255 = c.good.admits.g_high in
        calm_by (unslide s x h ls) (unslide_good s x h ls c.good) (min (h + count_of s x) (sp s r_g)) (sp s r_g) (simp (spec_other, spec_same, length-set, n)) (simp spec_other)
        (λ i p q. over_in (restored s x h ls) 0 (sp s r_g) s.general i (omega arith) q (omega arith) ∙ restored_zero s x h ls i (omega arith)))

saved_calm : (s : State) (x : ℕ) → sp s r_g ≤ x → Calm s → Calm (saved_state s x)
unfolding saved_state saved_unspilled stored
saved_calm s x b c =
    let n : length s.special ≡ 32 = c.good.size.specials in
    let m : length s.general ≡ 256 = c.good.size.generals in
    let gh : sp s r_g ≤ 255 = c.good.admits.g_high in
    spilled_calm _ (calm_by _ (saved_unspilled_good s x c.good) 0 (sp s r_g) (simp (spec_other, spec_same, length-set, n)) (simp spec_other)
    (λ i p q. get_or-set_other (over (λ k. 0) 0 (sp s r_g) s.general) x i (context_address s) 0 (λ e. let f : i ≡ x = e in omega arith)
    ∙ over_in (λ k. 0) 0 (sp s r_g) s.general i p q (omega arith)))

unsaved_zero : (g l : ℕ) (vs : List ℕ) (i : ℕ) → l ≤ i → i < g → unsaved_general g l vs i ≡ 0
unfolding unsaved_general
unsaved_zero g l vs i p q = rw (le-ltb i l p, lt-ltb i g q)

unsaved_calm : (s : State) (o g a l : ℕ) (vs : List ℕ) → 32 ≤ g → g ≤ 255 → a ≤ 0x3FFFF → l ≤ g → Calm s → Calm (unsaved s o g a l vs)
unfolding unsaved unsaved_unspilled
unsaved_calm s o g a l vs b1 b2 b3 b4 c =
    let n : length s.special ≡ 32 = c.good.size.specials in
    let m : length s.general ≡ 256 = c.good.size.generals in
    spilled_calm _ (calm_by _ (unsaved_unspilled_good s o g a l vs b1 b2 b3 b4 c.good) l g
    (unsaved_special_law s o g a l vs r_l n (omega arith) ∙ (unfold unsaved_special in refl)) (unsaved_special_law s o g a l vs r_g n (omega arith) ∙ (unfold unsaved_special in refl))
    (λ i p q. over_in (unsaved_general g l vs) 0 256 s.general i (omega arith) (omega arith) (omega arith) ∙ unsaved_zero g l vs i p q))

-- under any numbers but rG and rL
interrupted_calm : (s : State) (b w x y z word u v : ℕ) → eqb r_g b ≡ false → eqb r_g w ≡ false → eqb r_g x ≡ false → eqb r_g y ≡ false → eqb r_g z ≡ false
    → eqb r_l b ≡ false → eqb r_l w ≡ false → eqb r_l x ≡ false → eqb r_l y ≡ false → eqb r_l z ≡ false
    → Good (interrupted s b w x y z word u v) → Calm s → Calm (interrupted s b w x y z word u v)
unfolding interrupted
interrupted_calm s b w x y z word u v g1 g2 g3 g4 g5 l1 l2 l3 l4 l5 g h = let gh : sp s r_g ≤ 255 = h.good.admits.g_high in
    calm_by _ g (sp s r_l) (sp s r_g) (rw (spec_other _ z r_l v l5, spec_other _ y r_l u l4, spec_other _ x r_l word l3, spec_other _ w r_l (following s) l2, spec_other _ b r_l (reg s 255) l1))
    (rw (spec_other _ z r_g v g5, spec_other _ y r_g u g4, spec_other _ x r_g word g3, spec_other _ w r_g (following s) g2, spec_other _ b r_g (reg s 255) g1))
    (λ i p q. get_or-set_other s.general 255 i (sp s r_j) 0 (λ e. let f : i ≡ 255 = e in omega arith) ∙ h.zero_at i p q)

added_calm : (s : State) (f : ℕ) → Calm s → Calm (with_added s f)
unfolding with_added
added_calm s f h = other_calm s r_a _ refl refl (added_good s f h.good) h

pub calm_keeps : Keeps Calm
calm_keeps = record {
  at_pc = goes_calm;
  at_halt' = halted_calm;
  claim = claim_calm;
  back = λ s t h g. record { good = back_good s t h.good g.good; zero_at = h.zero_at };
  write = set_calm;
  locals = locals_calm;
  globals = globals_calm;
  status = λ s v b h. other_calm s r_a v refl refl (with_status_good s v b h.good) h;
  other = λ s k v g l a h. other_calm s k v g l (with_special_good s k v g l a h.good) h;
  pushes = pushed_calm;
  pops = popped_calm;
  saves = saved_calm;
  unsaves = unsaved_calm;
  trips = λ s word u v h. interrupted_calm s r_b r_w r_x r_y r_z word u v refl refl refl refl refl refl refl refl refl refl (tripped_good s word u v h.good) h;
  traps = λ s word u v h. interrupted_calm s r_bb r_ww r_xx r_yy r_zz word u v refl refl refl refl refl refl refl refl refl refl (trapped_good s word u v h.good) h;
  adds = added_calm;
}
