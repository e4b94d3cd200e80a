-- Theorem 7: the registers that SAVE and then UNSAVE leave, and the assembled claim.
use Rattle.model.proofs.Logic.{ℕ, ◌%◌, ◌+◌, ◌-◌, ◌<◌, ◌^◌, ◌≤◌, Bool, cond, false, true, ◌&&◌, ◌||◌, List, ◌≢◌, ap, refl, sym, ◌∙◌, ◌≡◌, ℕ_discrete}
use Rattle.model.proofs.Logic.{arith, eqb, leb, ltb, get_or, length, length-set, set, ext_get_or, get_or-set_other, eqb-true, leb-true, ltb-false, ltb-true}
use Rattle.model.specs.Fill.{over}
use Rattle.model.specs.Memory.{Windows, shapes_of, both}
use Rattle.model.specs.Registers.{r_o, r_s, r_g, r_l, r_a, r_p, r_r, r_z, sp, reg, Sized, Words, following, goes, next, with_special, stored, spilled}
use Rattle.model.specs.Contexts.{extent, saved, context_address, saved_unspilled, saved_state, unsaved_general, unsaved_special, unsaved_unspilled, unsaved}
use Rattle.model.specs.Step.{refusing, step_of}
use Rattle.model.specs.Demand.{Within}
use Rattle.model.specs.Roundtrip.{unparked, unsave_after, ContextsKept}
use Rattle.model.specs.declared.State.{State}
use Rattle.model.proofs.Bools.{and_left, and_right, on, on_both}
use Rattle.model.proofs.Fill.{length_over, over_in, over_below, over_above}
use Rattle.model.proofs.Memory.{both_lawful}
use Rattle.model.proofs.Plan.{kept_refl}
use Rattle.model.proofs.AdmissibleKept.{Adm, Good, adm_of, spec_same, goes_good, saved_good, unsaved_good, unsaved_special_law}
use Rattle.model.proofs.SaveUnsave.{Saves, saved_on, save_done, save_is, saved_state_address, saved_special_low, saved_special_high, saved_local, saved_global, saved_twelve, with_context, Unsaves, unsave_back}
use Rattle.model.proofs.Reader.{reader_reply, reader_part}

-- ---- the registers that UNSAVE leaves

-- the specials that a context holds
unfoldable pub is_saved : ℕ → Bool
is_saved k = eqb k r_g || (eqb k r_l || (eqb k r_a || (eqb k r_o || (leb k r_r || (leb r_p k && leb k r_z)))))

-- the general registers, marginal ones zero
abbrev calmed : State → List ℕ
calmed s = over (λ k. 0) (sp s r_l) (sp s r_g) s.general

-- vs are the octabytes that SAVE stored of s, and e is any state
module _ (s e : State) (b : Adm s) (vs : List ℕ) (are : (i : ℕ) → i < extent s → get_or vs i 0 ≡ saved s i) where
  general_at : (i : ℕ) → i < 256 → length s.general ≡ 256 → unsaved_general (sp s r_g) (sp s r_l) vs i ≡ get_or (calmed s) i 0
  unfolding unsaved_general
  general_at i l n =
      on (λ (v : ℕ). v ≡ get_or (calmed s) i 0) (ltb i (sp s r_l))
      (λ f. let p : i < sp s r_l = ltb-true _ _ f in
      are i (omega arith) ∙ saved_local s b i p ∙ sym (over_below (λ k. 0) (sp s r_l) (sp s r_g) s.general i p (omega arith)))
      (λ f. let p : sp s r_l ≤ i = ltb-false _ _ f in
      on (λ (v : ℕ). v ≡ get_or (calmed s) i 0) (ltb i (sp s r_g))
      (λ g. let q : i < sp s r_g = ltb-true _ _ g in sym (over_in (λ k. 0) (sp s r_l) (sp s r_g) s.general i p q (omega arith)))
      (λ g. let q : sp s r_g ≤ i = ltb-false _ _ g in
      are (sp s r_l + 1 + (i - sp s r_g)) (omega arith) ∙ saved_global s b i q l ∙ sym (over_above (λ k. 0) (sp s r_l) (sp s r_g) s.general i q (omega arith))))

  pub unsaved_generals : Sized s → Sized e → (with_context s e vs).general ≡ calmed s
  unfolding unsaved spilled with_special unsaved_unspilled
  unsaved_generals n m =
      let c : length s.general ≡ 256 = n.generals in
      let d : length e.general ≡ 256 = m.generals in
      ext_get_or 0 (over (unsaved_general (sp s r_g) (sp s r_l) vs) 0 256 e.general) (calmed s)
      (length_over (unsaved_general (sp s r_g) (sp s r_l) vs) 0 256 e.general ∙ d ∙ sym (length_over (λ k. 0) (sp s r_l) (sp s r_g) s.general ∙ c))
      (λ i q. let l : i < 256 = omega (arith, length_over (unsaved_general (sp s r_g) (sp s r_l) vs) 0 256 e.general) in
      over_in (unsaved_general (sp s r_g) (sp s r_l) vs) 0 256 e.general i (omega arith) l (omega arith) ∙ general_at i l c)

  special_at : (k : ℕ) → unsaved_special e (sp s r_o) (sp s r_g) (sp s r_a) (sp s r_l) vs k ≡ cond (is_saved k) (sp s k) (sp e k)
  unfolding unsaved_special is_saved
  special_at k =
      peel (eqb k r_g) _ (λ f. ap (sp s) (sym (eqb-true k r_g f)))
      (peel (eqb k r_l) _ (λ f. ap (sp s) (sym (eqb-true k r_l f)))
      (peel (eqb k r_a) _ (λ f. ap (sp s) (sym (eqb-true k r_a f)))
      (peel (eqb k r_o) _ (λ f. ap (sp s) (sym (eqb-true k r_o f)))
      (peel (leb k r_r) _
      (λ f. let h : k ≤ r_r = leb-true _ _ f in are (sp s r_l + 257 - sp s r_g + k) (omega arith) ∙ saved_twelve s b k (omega arith) ∙ rw (saved_special_low k h))
      (on_both (λ (x y : ℕ). x ≡ y) (leb r_p k && leb k r_z)
      (λ f. let h : r_p ≤ k = leb-true _ _ (and_left (leb r_p k) _ f) in
      let r : k ≤ r_z = leb-true _ _ (and_right (leb r_p k) _ f) in
      are (sp s r_l + 257 - sp s r_g + (k - 16)) (omega arith) ∙ saved_twelve s b (k - 16) (omega arith) ∙ rw (saved_special_high k h))
      (λ f. refl))))))
    where
      -- one test of two
      peel : {x y : ℕ} (a c : Bool) → (a ≡ true → x ≡ sp s k) → y ≡ cond c (sp s k) (sp e k) → cond a x y ≡ cond (a || c) (sp s k) (sp e k)
      peel true c f g = f refl
      peel false c f g = g

  pub unsaved_specials : (k : ℕ) → Sized e → k < 32 → k ≢ r_s → sp (with_context s e vs) k ≡ cond (is_saved k) (sp s k) (sp e k)
  unfolding unsaved spilled with_special unsaved_unspilled
  unsaved_specials k n l h =
      get_or-set_other (unsaved_unspilled e (sp s r_o) (sp s r_g) (sp s r_a) (sp s r_l) vs).special r_s k _ 0 h
      ∙ unsaved_special_law e (sp s r_o) (sp s r_g) (sp s r_a) (sp s r_l) vs k n.specials l ∙ special_at k

  pub unsaved_r_s : Sized e → sp (with_context s e vs) r_s ≡ sp s r_o
  unfolding unsaved spilled with_special unsaved_unspilled
  unsaved_r_s n =
      let m : length e.special ≡ 32 = n.specials in
      let v : length (over (unsaved_special e (sp s r_o) (sp s r_g) (sp s r_a) (sp s r_l) vs) 0 32 e.special) ≡ 32 = length_over _ 0 32 e.special ∙ m in
      spec_same (over (unsaved_special e (sp s r_o) (sp s r_g) (sp s r_a) (sp s r_l) vs) 0 32 e.special) r_s _ v refl
      ∙ unsaved_special_law e (sp s r_o) (sp s r_g) (sp s r_a) (sp s r_l) vs r_o m (omega arith) ∙ (unfold unsaved_special in refl)

-- ---- UNSAVE right after SAVE

differs : (k i : ℕ) → is_saved k ≡ false → is_saved i ≡ true → k ≢ i
differs k i f g q = let e : k ≡ i = q in let o : ◌≡◌ {A = ℕ} 0 1 = cc in omega arith

-- the state that SAVE leaves
abbrev parked : State → ℕ → State
parked s x = next (saved_state s x)

parked_good : (s : State) (x : ℕ) → Good s → Good (parked s x)
parked_good s x g = goes_good (saved_state s x) _ (saved_good s x g)

parked_special : (s : State) (x k : ℕ) → is_saved k ≡ false → k ≢ r_s → sp (parked s x) k ≡ sp s k
unfolding saved_state saved_unspilled spilled with_special stored goes
parked_special s x k f h =
    get_or-set_other (saved_unspilled s x).special r_s k _ 0 h
    ∙ get_or-set_other (set s.special r_l 0) r_o k _ 0 (differs k r_o f (unfold is_saved in refl)) ∙ get_or-set_other s.special r_l k _ 0 (differs k r_l f (unfold is_saved in refl))

parked_address : (s : State) (x : ℕ) → Sized s → x < 256 → reg (parked s x) x ≡ context_address s
unfolding goes
parked_address s x n l = saved_state_address s x n l

module _ (s : State) (x : ℕ) (good : Good s) (vs : List ℕ) (are : (i : ℕ) → i < extent s → get_or vs i 0 ≡ saved s i) where
  abbrev back : State
  back = with_context s (parked s x) vs

  back_special : (k : ℕ) → k < 32 → Dec (k ≡ r_s) → sp back k ≡ get_or (set s.special r_s (sp s r_o)) k 0
  back_special k l (yes q) = rw q (unsaved_r_s s (parked s x) good.admits vs are (parked_good s x good).size ∙ sym (spec_same s.special r_s (sp s r_o) good.size.specials refl))
  back_special k l (no h) =
      unsaved_specials s (parked s x) good.admits vs are k (parked_good s x good).size l h
      ∙ on (λ (v : ℕ). v ≡ sp s k) (is_saved k) (λ f. refl) (λ f. parked_special s x k f h)
      ∙ sym (get_or-set_other s.special r_s k (sp s r_o) 0 h)

  back_specials : back.special ≡ set s.special r_s (sp s r_o)
  back_specials =
      let b : Adm s = good.admits in
      let n : length back.special ≡ 32 = (unsaved_good (parked s x) (sp s r_o) (sp s r_g) (sp s r_a) (sp s r_l) vs b.g_low b.g_high b.a_high b.l_g (parked_good s x good)).size.specials in
      ext_get_or 0 back.special (set s.special r_s (sp s r_o)) (n ∙ sym (length-set s.special r_s (sp s r_o) ∙ good.size.specials)) (λ k l. back_special k (omega arith) (ℕ_discrete k r_s))

  back_rest : (back.pc ≡ following s) × (back.halt ≡ s.halt) × (back.marks ≡ s.marks) × (back.mask ≡ s.mask)
  unfolding unsaved spilled with_special unsaved_unspilled saved_state saved_unspilled stored goes
  back_rest = (refl, refl, refl, refl)

  -- two steps on
  back_is : next back ≡ unparked s
  unfolding unparked goes
  back_is =
      let r : (back.pc ≡ following s) × (back.halt ≡ s.halt) × (back.marks ≡ s.marks) × (back.mask ≡ s.mask) = back_rest in
      let p : back.pc ≡ following s = r.0 in
      let on_two : (back.pc + 4) % 2 ^ 64 ≡ (s.pc + 8) % 2 ^ 64 = rw p (omega arith) in
      λ i. record {
        general = unsaved_generals s (parked s x) good.admits vs are good.size (parked_good s x good).size i;
        special = back_specials i;
        pc = on_two i;
        halt = r.1 i;
        marks = r.2 i;
        mask = r.3 i;
      }

-- SAVE puts the address in $X: X is a byte
save_address : (w : Windows) (s : State) (x y z : ℕ) → x < 256 → Sized s → (step_of w s 0xFA x y z).reply ≡ 0 → reg (step_of w s 0xFA x y z).state x ≡ context_address s
save_address w s x y z l n h = rw (save_is w s x y z (save_done w s x y z h)) (parked_address s x n l)

-- for any rO, misaligned too: X is a byte
save_unsave : (w : Windows) (s : State) (x y z y' z' : ℕ) → x < 256 → Sized s → Words s → (step_of w s 0xFA x y z).reply ≡ 0
    → unsave_after (step_of w s 0xFA x y z) x y' z' ≡ record { reply = 0; state = unparked s; memory = (step_of w s 0xFA x y z).memory }
save_unsave w s x y z y' z' l n words h =
    let c : Saves (refusing (shapes_of w)) w s x = save_done w s x y z h in
    let good : Good s = record { size = n; admits = c.admits } in
    let u : Unsaves s (parked s x) (saved_on w s) (step_of (saved_on w s) (parked s x) 0xFB y' z' x)
    = unsave_back w (saved_on w s) s x c words (kept_refl both both_lawful (Within (sp s r_o) (extent s)) (saved_on w s)) (parked s x) y' z' x
    (adm_of (parked s x) (parked_good s x good).admits) (parked_address s x n l) in
    rw (save_is w s x y z c) (u.outcome_is ∙ rw (back_is s x good u.octas u.octas_are))

pub contexts_kept : ContextsKept
contexts_kept = record { reader_reply = reader_reply; reader_part = reader_part; save_unsave = save_unsave; save_address = save_address }
