-- Sized and admissible: what `admissible` says as facts, reads of a special after writes, and that each state builder keeps both.
use Rattle.model.proofs.Logic.{max, min, ℕ, ◌%◌, ◌+◌, ◌-◌, ◌<◌, ◌^◌, ◌≤◌, Bool, cond, false, true, ◌&&◌, List, refl, ◌∙◌, ◌≡◌, arith, and_le_r, bit_and}
use Rattle.model.proofs.Logic.{bit_or, or_lt, eqb, leb, ltb, get_or, length, length-set, set, get_or-set_other, get_or-set_same, eq-eqb, eqb-false, eqb-true}
use Rattle.model.proofs.Logic.{le-leb, leb-true, lt-ltb, ltb-true}
use Rattle.model.specs.Fill.{over}
use Rattle.model.specs.Registers.{with_parts, r_j, r_o, r_s, r_g, r_l, r_a, sp, following, hideable_bits, Sized, admissible, goes, halted, with_special, cleared, claim_local, stored, set_register, put_locals, put_globals, spilled}
use Rattle.model.specs.Frames.{slid, slide, pushed_rule, pushed, count_of, restored, unslide, popped}
use Rattle.model.specs.Contexts.{saved_unspilled, saved_state, unsaved_special, unsaved_general, unsaved_unspilled, unsaved}
use Rattle.model.specs.Trips.{interrupted, tripped, trapped, taken, added, with_added}
use Rattle.model.specs.declared.State.{State}
use Rattle.model.proofs.Fill.{length_over, over_in}
use Rattle.model.proofs.Bools.{and_left, and_right}

pub record Adm (s : State) : Type 0 where
  pub g_low : 32 ≤ sp s r_g
  pub g_high : sp s r_g ≤ 255
  pub l_g : sp s r_l ≤ sp s r_g
  pub a_high : sp s r_a ≤ 0x3FFFF
  pub marks_high : s.marks < 512
  pub mask_in' : bit_and s.mask hideable_bits ≡ s.mask

pub record Good (s : State) : Type 0 where
  pub size : Sized s
  pub admits : Adm s

pub adm : (s : State) → admissible s ≡ true → Adm s
unfolding admissible
adm s e =
    let e1 : (leb (sp s r_g) 255 && (leb (sp s r_l) (sp s r_g) && (leb (sp s r_a) 0x3FFFF && (ltb s.marks (2 ^ 9) && eqb (bit_and s.mask hideable_bits) s.mask)))) ≡ true
    = and_right (leb 32 (sp s r_g)) _ e in
    let e2 : (leb (sp s r_l) (sp s r_g) && (leb (sp s r_a) 0x3FFFF && (ltb s.marks (2 ^ 9) && eqb (bit_and s.mask hideable_bits) s.mask))) ≡ true
    = and_right (leb (sp s r_g) 255) _ e1 in
    let e3 : (leb (sp s r_a) 0x3FFFF && (ltb s.marks (2 ^ 9) && eqb (bit_and s.mask hideable_bits) s.mask)) ≡ true = and_right (leb (sp s r_l) (sp s r_g)) _ e2 in
    let e4 : (ltb s.marks (2 ^ 9) && eqb (bit_and s.mask hideable_bits) s.mask) ≡ true = and_right (leb (sp s r_a) 0x3FFFF) _ e3 in
    record {
      g_low = leb-true _ _ (and_left (leb 32 (sp s r_g)) _ e);
      g_high = leb-true _ _ (and_left (leb (sp s r_g) 255) _ e1);
      l_g = leb-true _ _ (and_left (leb (sp s r_l) (sp s r_g)) _ e2);
      a_high = leb-true _ _ (and_left (leb (sp s r_a) 0x3FFFF) _ e3);
      marks_high = ltb-true _ _ (and_left (ltb s.marks (2 ^ 9)) _ e4);
      mask_in' = eqb-true _ _ (and_right (ltb s.marks (2 ^ 9)) _ e4);
    }

pub adm_of : (s : State) → Adm s → admissible s ≡ true
unfolding admissible
adm_of s a =
    rw (le-leb _ _ a.g_low, le-leb _ _ a.g_high, le-leb _ _ a.l_g, le-leb _ _ a.a_high, lt-ltb _ _ a.marks_high) (eq-eqb _ _ a.mask_in')

-- reads of a special after writes: the side conditions compute
pub spec_other : (l : List ℕ) (i j v : ℕ) → eqb j i ≡ false → get_or (set l i v) j 0 ≡ get_or l j 0
spec_other l i j v e = get_or-set_other l i j v 0 (eqb-false j i e)

pub spec_same : (l : List ℕ) (i v : ℕ) → length l ≡ 32 → ltb i 32 ≡ true → get_or (set l i v) i 0 ≡ v
spec_same l i v n e = get_or-set_same l i v 0 (let k : i < 32 = ltb-true i 32 e in omega arith)

-- ---- builders

pub good_by : (s t : State) → length t.general ≡ length s.general → length t.special ≡ length s.special
    → (g l a : ℕ) → sp t r_g ≡ g → sp t r_l ≡ l → sp t r_a ≡ a → t.marks ≡ s.marks → t.mask ≡ s.mask
    → 32 ≤ g → g ≤ 255 → l ≤ g → a ≤ 0x3FFFF → Good s → Good t
good_by s t eg es g l a e1 e2 e3 em ek b1 b2 b3 b4 h =
    let n1 : length s.general ≡ 256 = h.size.generals in
    let n2 : length s.special ≡ 32 = h.size.specials in
    let m : s.marks < 512 = h.admits.marks_high in
    record {
      size = record { generals = eg ∙ n1; specials = es ∙ n2 };
      admits = record { g_low = omega arith; g_high = omega arith; l_g = omega arith; a_high = omega arith; marks_high = omega arith; mask_in' = rw ek h.admits.mask_in' };
    }

-- where rG and rA are as before
pub good_l : (s t : State) → length t.general ≡ length s.general → length t.special ≡ length s.special
    → (l : ℕ) → sp t r_g ≡ sp s r_g → sp t r_l ≡ l → sp t r_a ≡ sp s r_a → t.marks ≡ s.marks → t.mask ≡ s.mask → l ≤ sp s r_g → Good s → Good t
good_l s t eg es l e1 e2 e3 em ek b h =
    good_by s t eg es (sp s r_g) l (sp s r_a) e1 e2 e3 em ek h.admits.g_low h.admits.g_high b h.admits.a_high h

pub goes_good : (s : State) (a : ℕ) → Good s → Good (goes s a)
unfolding goes
goes_good s a h = good_l s (goes s a) refl refl (sp s r_l) refl refl refl refl refl h.admits.l_g h

pub halted_good : (s : State) → Good s → Good (halted s)
unfolding halted
halted_good s h = good_l s (halted s) refl refl (sp s r_l) refl refl refl refl refl h.admits.l_g h

pub stored_good : (s : State) (x v : ℕ) → Good s → Good (stored s x v)
unfolding stored
stored_good s x v h = good_l s (stored s x v) (length-set s.general x v) refl (sp s r_l) refl refl refl refl refl h.admits.l_g h

pub cleared_good : (s : State) (a b : ℕ) → Good s → Good (cleared s a b)
unfolding cleared
cleared_good s a b h = good_l s (cleared s a b) (length_over (λ k. 0) a b s.general) refl (sp s r_l) refl refl refl refl refl h.admits.l_g h

-- a special that is none of the three
pub with_special_good : (s : State) (k v : ℕ) → eqb r_g k ≡ false → eqb r_l k ≡ false → eqb r_a k ≡ false → Good s → Good (with_special s k v)
unfolding with_special
with_special_good s k v g l a h =
    good_l s (with_special s k v) refl (length-set s.special k v) (sp s r_l) (spec_other s.special k r_g v g) (spec_other s.special k r_l v l)
    (spec_other s.special k r_a v a) refl refl h.admits.l_g h

pub with_local_good : (s : State) (v : ℕ) → v ≤ sp s r_g → Good s → Good (with_special s r_l v)
unfolding with_special
with_local_good s v b h = let n : length s.special ≡ 32 = h.size.specials in
    good_l s (with_special s r_l v) refl (length-set s.special r_l v) v (simp spec_other) (simp (spec_same, n)) (simp spec_other) refl refl b h

pub with_global_good : (s : State) (v : ℕ) → 32 ≤ v → v ≤ 255 → sp s r_l ≤ v → Good s → Good (with_special s r_g v)
unfolding with_special
with_global_good s v b c d h = let n : length s.special ≡ 32 = h.size.specials in
    good_by s (with_special s r_g v) refl (length-set s.special r_g v) v (sp s r_l) (sp s r_a) (simp (spec_same, n)) (simp spec_other) (simp spec_other) refl refl b c d h.admits.a_high h

pub with_status_good : (s : State) (v : ℕ) → v ≤ 0x3FFFF → Good s → Good (with_special s r_a v)
unfolding with_special
with_status_good s v b h = let n : length s.special ≡ 32 = h.size.specials in
    good_by s (with_special s r_a v) refl (length-set s.special r_a v) (sp s r_g) (sp s r_l) v (simp spec_other) (simp spec_other) (simp (spec_same, n)) refl refl h.admits.g_low h.admits.g_high h.admits.l_g b h

pub claim_good : (s : State) (x : ℕ) → Good s → Good (claim_local s x)
unfolding claim_local cleared
claim_good s x h = go (leb (sp s r_l) x && ltb x (sp s r_g)) refl
  where
    go : (b : Bool) → (leb (sp s r_l) x && ltb x (sp s r_g)) ≡ b → Good (cond b (with_special (cleared s (sp s r_l) (x + 1)) r_l (x + 1)) s)
    go true e = let l : x < sp s r_g = ltb-true _ _ (and_right (leb (sp s r_l) x) _ e) in with_local_good (cleared s (sp s r_l) (x + 1)) (x + 1) (omega arith) (cleared_good s (sp s r_l) (x + 1) h)
    go false e = h

-- t with the registers of s
pub back_good : (s t : State) → Good s → Good t → Good (with_parts t s.general s.special)
back_good s t h g = record {
  size = record { generals = h.size.generals; specials = h.size.specials };
  admits = record { g_low = h.admits.g_low; g_high = h.admits.g_high; l_g = h.admits.l_g; a_high = h.admits.a_high; marks_high = g.admits.marks_high; mask_in' = g.admits.mask_in' };
}

pub set_good : (s : State) (x v : ℕ) → Good s → Good (set_register s x v)
unfolding set_register
set_good s x v h = stored_good (claim_local s x) x v (claim_good s x h)

pub put_locals_good : (s : State) (v : ℕ) → Good s → Good (put_locals s v)
unfolding put_locals cleared
put_locals_good s v h = let b : sp s r_l ≤ sp s r_g = h.admits.l_g in
    with_local_good (cleared s (min v (sp s r_l)) (sp s r_l)) (min v (sp s r_l)) (omega arith) (cleared_good s (min v (sp s r_l)) (sp s r_l) h)

pub put_globals_good : (s : State) (v : ℕ) → 32 ≤ v → v ≤ 255 → sp s r_l ≤ v → Good s → Good (put_globals s v)
unfolding put_globals cleared
put_globals_good s v b c d h = with_global_good (cleared s (min v (sp s r_g)) (max v (sp s r_g))) v b c d (cleared_good s (min v (sp s r_g)) (max v (sp s r_g)) h)

pub spilled_good : (s : State) → Good s → Good (spilled s)
unfolding spilled
spilled_good s h = with_special_good s r_s (sp s r_o) refl refl refl h

pub slide_good : (s : State) (n : ℕ) → Good s → Good (slide s n)
unfolding slide
slide_good s n g = let m : length s.special ≡ 32 = g.size.specials in let b : sp s r_l ≤ sp s r_g = g.admits.l_g in
    good_l s (slide s n) (length_over (slid s n) 0 (sp s r_g) s.general) (simp length-set) (sp s r_l - n)
    (simp spec_other) (simp (spec_other, spec_same, length-set, m)) (simp spec_other) refl refl (omega arith) g

pub pushed_good : (s : State) (h : ℕ) → Good s → Good (pushed s h)
unfolding pushed pushed_rule
pushed_good s h g = spilled_good _ (with_special_good (slide s _) r_j (following s) refl refl refl (slide_good s _ g))

pub unslide_good : (s : State) (x h : ℕ) (ls : List ℕ) → Good s → Good (unslide s x h ls)
unfolding unslide
unslide_good s x h ls g = let m : length s.special ≡ 32 = g.size.specials in
    good_l s (unslide s x h ls) (length_over (restored s x h ls) 0 (sp s r_g) s.general) (simp length-set) (min (h + count_of s x) (sp s r_g))
    (simp spec_other) (simp (spec_other, spec_same, length-set, m)) (simp spec_other) refl refl (omega arith) g

pub popped_good : (s : State) (x h : ℕ) (ls : List ℕ) → Good s → Good (popped s x h ls)
unfolding popped
popped_good s x h ls g = spilled_good _ (unslide_good s x h ls g)

-- SAVE's state but for rS
pub saved_unspilled_good : (s : State) (x : ℕ) → Good s → Good (saved_unspilled s x)
unfolding saved_unspilled stored
saved_unspilled_good s x g = let m : length s.special ≡ 32 = g.size.specials in
    good_l s _ (simp (length-set, length_over)) (simp length-set) 0 (simp spec_other) (simp (spec_other, spec_same, length-set, m)) (simp spec_other) refl refl (omega arith) g

pub saved_good : (s : State) (x : ℕ) → Good s → Good (saved_state s x)
unfolding saved_state
saved_good s x g = spilled_good _ (saved_unspilled_good s x g)

pub unsaved_special_law : (s : State) (o g a l : ℕ) (vs : List ℕ) (k : ℕ) → length s.special ≡ 32 → k < 32
    → get_or (over (unsaved_special s o g a l vs) 0 32 s.special) k 0 ≡ unsaved_special s o g a l vs k
unsaved_special_law s o g a l vs k n b = over_in (unsaved_special s o g a l vs) 0 32 s.special k (omega arith) b (omega arith)

-- UNSAVE's state but for rS
pub unsaved_unspilled_good : (s : State) (o g a l : ℕ) (vs : List ℕ) → 32 ≤ g → g ≤ 255 → a ≤ 0x3FFFF → l ≤ g → Good s → Good (unsaved_unspilled s o g a l vs)
unfolding unsaved_unspilled
unsaved_unspilled_good s o g a l vs p q r u h =
    let n : length s.special ≡ 32 = h.size.specials in
    good_by s _ (length_over (unsaved_general g l vs) 0 256 s.general) (length_over (unsaved_special s o g a l vs) 0 32 s.special) g l a
    (unsaved_special_law s o g a l vs r_g n (omega arith) ∙ (unfold unsaved_special in refl))
    (unsaved_special_law s o g a l vs r_l n (omega arith) ∙ (unfold unsaved_special in refl))
    (unsaved_special_law s o g a l vs r_a n (omega arith) ∙ (unfold unsaved_special in refl)) refl refl p q u r h

pub unsaved_good : (s : State) (o g a l : ℕ) (vs : List ℕ) → 32 ≤ g → g ≤ 255 → a ≤ 0x3FFFF → l ≤ g → Good s → Good (unsaved s o g a l vs)
unfolding unsaved
unsaved_good s o g a l vs p q r u h = spilled_good _ (unsaved_unspilled_good s o g a l vs p q r u h)

pub tripped_good : (s : State) (word u v : ℕ) → Good s → Good (tripped s word u v)
unfolding interrupted
tripped_good s word u v h = good_l s (tripped s word u v) (length-set s.general 255 (sp s r_j)) (simp length-set) (sp s r_l) (simp spec_other) (simp spec_other) (simp spec_other) refl refl h.admits.l_g h

pub trapped_good : (s : State) (word u v : ℕ) → Good s → Good (trapped s word u v)
unfolding interrupted
trapped_good s word u v h = good_l s (trapped s word u v) (length-set s.general 255 (sp s r_j)) (simp length-set) (sp s r_l) (simp spec_other) (simp spec_other) (simp spec_other) refl refl h.admits.l_g h

-- what is added to rA is a byte
pub added_byte : (s : State) (f : ℕ) → added s f ≤ 255
unfolding added
added_byte s f = let c : bit_and (f % 256) (255 - taken s f) ≤ 255 - taken s f = and_le_r (f % 256) (255 - taken s f) in omega arith

pub added_good : (s : State) (f : ℕ) → Good s → Good (with_added s f)
unfolding with_added
added_good s f h =
    let b : sp s r_a ≤ 0x3FFFF = h.admits.a_high in
    let c : added s f ≤ 255 = added_byte s f in
    let d : bit_or (sp s r_a) (added s f) < 2 ^ 18 = or_lt 18 (sp s r_a) (added s f) (omega arith) (omega arith) in
    with_status_good s (bit_or (sp s r_a) (added s f)) (omega arith) h
