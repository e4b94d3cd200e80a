-- The ways out of save_context_judged and unsave_context_judged, in that order: each is what the plan gives, PC apart. What SAVE stores is in
-- SaveStores, what UNSAVE loads in UnsaveLoads, what `locate` tells in LocateAnswers.
use Rattle.model.proofs.Prelude.{ℕ, ◌<◌, ◌≤◌, false, true, List, ap, refl, sym, ◌∙◌, ◌≡◌, eqb, eq-eqb, le-ltb, lt-ltb, ne_eqb, context_at, extent, save_context}
use Rattle.model.proofs.Prelude.{saved, saved_state, saved_unspilled, unsave_context, unsaved, unsaved_unspilled, tab, both, shapes_of, Windows, tell, number_of}
use Rattle.model.proofs.Prelude.{reply_of, made, Outcome, perform, puts, worst, admissible, goes, halted, next, r_g, r_o, sp, spilled, stored, with_special}
use Rattle.model.proofs.Prelude.{refusing, Adm, adm, Inside, perform_on, said, numbered, length_tab, worst_six}
use Rattle.contexts.proofs.Prelude.{Reply, Done, Missing, NotAdmissible, SaveLocal, State, guarded_only, guarded_open, judged_by, only_one, only_open}
use Rattle.contexts.proofs.Prelude.{refused_guarded}
use Rattle.stack.specs.GivenBack.{refusal_on, Gives}
use Rattle.contexts.specs.SaveUnsave.{save_of, save_in, unsave_of, unsave_in, LocatedIs}
use Rattle.contexts.specs.ContextWork.{Ranged, StoresContext, unsaved_as}
use Rattle.contexts.specs.declared.layout.SavedContext.{SavedContext}
use Rattle.contexts.specs.SaveUnsave.{Located}
use Rattle.contexts.specs.declared.layout.ContextError.TheVariants.{Bad, Lost}
use Rattle.std.specs.Prelude.{Ok, Err}
use Rattle.contexts.proofs.LocateAnswers.{comes}

-- the bounds of an admissible state
pub ranged : (general special : List ℕ) (pc halt marks mask : ℕ) → admissible (made general special pc halt marks mask) ≡ true → Ranged special
ranged general special pc halt marks mask e =
    let b : Adm (made general special pc halt marks mask) = adm (made general special pc halt marks mask) e in
    record { g_low = b.g_low; g_high = b.g_high; l_g = b.l_g; a_high = b.a_high }

-- ---- outcomes as what is given back

module _ (w : Windows) (s : State) (o : Outcome State Windows) (n : ℕ) (r : Reply) (q : r ≡ reply_of n) where
  kept : o ≡ record { reply = n; state = s; memory = w } → Gives o s r s w
  unfolding goes
  kept e = rw e (record { reply_is = q; state_is = refl; window_is = refl })

  halts : o ≡ record { reply = n; state = halted s; memory = w } → Gives o s r (halted s) w
  unfolding goes halted
  halts e = rw e (record { reply_is = q; state_is = refl; window_is = refl })

  moves : (t u : State) → t ≡ u → u.pc ≡ s.pc → o ≡ record { reply = n; state = next u; memory = w } → Gives o s r t w
  unfolding goes
  moves t u d f e = rw (e, d) (record { reply_is = q; state_is = ap (λ (a : ℕ). made u.general u.special a u.halt u.marks u.mask) f; window_is = refl })

-- ---- SAVE

module _ (w : Windows) (s : State) (x : ℕ) where
  pub save_state : admissible s ≡ false → Gives (save_in w s x) s NotAdmissible s w
  unfolding save_in reply_of
  save_state a = kept w s _ 1 NotAdmissible refl (only_one w s (admissible s) (save_context s x) a)

  -- by value: refused, or what is done in place
  pub save_refused : (n : ℕ) → n ≡ refusal_on w s → (n ≡ 0 → ⊥) → (q : Reply) → q ≡ reply_of n → Gives (save_of w s x) s q s w
  unfolding save_of
  save_refused n e f q d = kept w s _ n q d (refused_guarded w s (save_context s x) n e f)

  pub save_judged : refusal_on w s ≡ 0 → save_in w s x ≡ save_of w s x
  unfolding save_of save_in
  save_judged e = sym (guarded_only w s (admissible s) (save_context s x) e (λ a. a))

  module _ (a : admissible s ≡ true) where
    pub save_local : x < sp s r_g → Gives (save_in w s x) s SaveLocal (halted s) w
    unfolding save_in reply_of
    save_local l = halts w s _ 13 SaveLocal refl (only_open w s (admissible s) (save_context s x) a ∙ plan)
      where
        plan : perform_on w s (save_context s x) ≡ record { reply = 13; state = halted s; memory = w }
        plan = unfold save_context tell in rw (lt-ltb x (sp s r_g) l) (said w s (halted s) 13)

    pub save_missing : sp s r_g ≤ x → (Inside w (sp s r_o) (extent s) → ⊥) → (q : Reply) → q ≡ Missing → Gives (save_in w s x) s q s w
    unfolding save_in reply_of
    save_missing l f q d = kept w s _ 6 q d (only_open w s (admissible s) (save_context s x) a ∙ plan)
      where
        short : eqb (worst (refusing (shapes_of w)) (sp s r_o) (extent s)) 0 ≡ false
        short = ne_eqb _ _ f

        plan : perform_on w s (save_context s x) ≡ record { reply = 6; state = s; memory = w }
        plan = unfold save_context perform in
            rw (le-ltb x (sp s r_g) l, length_tab (extent s) 0 (saved s), short, worst_six (shapes_of w) (extent s) (sp s r_o) short)

    pub save_done : sp s r_g ≤ x → Inside w (sp s r_o) (extent s) → (t : State) (v : Windows) → t ≡ saved_state s x
        → StoresContext s.general s.special w v → Gives (save_in w s x) s Done t v
    unfolding save_in reply_of
    save_done l f t v et c =
        let ev : v ≡ puts both w (sp s r_o) (tab 0 (extent s) (saved s)) = c.stores s.pc s.halt s.marks s.mask f in
        rw ev (moves (puts both w (sp s r_o) (tab 0 (extent s) (saved s))) s _ 0 Done refl t (saved_state s x) et same (only_open w s (admissible s) (save_context s x) a ∙ plan))
      where
        same : (saved_state s x).pc ≡ s.pc
        same = unfold saved_state spilled with_special saved_unspilled stored in refl

        plan : perform_on w s (save_context s x) ≡ record { reply = 0; state = next (saved_state s x); memory = puts both w (sp s r_o) (tab 0 (extent s) (saved s)) }
        plan = unfold save_context perform in rw (le-ltb x (sp s r_g) l, length_tab (extent s) 0 (saved s), eq-eqb _ _ f)

-- ---- UNSAVE

module _ (w : Windows) (s : State) (p : ℕ) where
  -- by value: refused, or what is done in place
  pub unsave_refused : (n : ℕ) → n ≡ refusal_on w s → (n ≡ 0 → ⊥) → (q : Reply) → q ≡ reply_of n → Gives (unsave_of w s p) s q s w
  unfolding unsave_of
  unsave_refused n e f q d = kept w s _ n q d (refused_guarded w s (unsave_context s p) n e f)

  pub unsave_judged : refusal_on w s ≡ 0 → unsave_in w s p ≡ unsave_of w s p
  unfolding unsave_of unsave_in
  unsave_judged e = let j = judged_by w s e in sym (guarded_open w s (unsave_context s p) j.0 j.1)

  module _ (at : Located) (h : LocatedIs w p at) where
    abbrev found : ℕ → ℕ → ℕ → ℕ → List ℕ → State
    found o g a l vs = next (unsaved s o g a l vs)

    opened : unsave_in w s p ≡ perform_on w s (context_at (halted s) found p)
    unfolding unsave_in unsave_context
    opened = refl

    pub unsave_done : (c : SavedContext) → at ≡ Ok c → (t : State)
        → t ≡ unsaved_as w s c → Gives (unsave_in w s p) s Done t w
    unfolding reply_of
    unsave_done c z t d =
        moves w s _ 0 Done refl t (unsaved_as w s c) d same
        (opened ∙ (comes w p s (halted s) found at h).done c z)
      where
        same : (unsaved_as w s c).pc ≡ s.pc
        same = unfold unsaved spilled with_special unsaved_unspilled in refl

    pub unsave_lost : (q : Reply) → at ≡ Err (Lost q) → Gives (unsave_in w s p) s q s w
    unsave_lost q z = kept w s _ (number_of q) q (sym (numbered.reply_number q)) (opened ∙ (comes w p s (halted s) found at h).lost q z)

    pub unsave_bad : (q : Reply) → at ≡ Err (Bad q) → Gives (unsave_in w s p) s q (halted s) w
    unsave_bad q z = halts w s _ (number_of q) q (sym (numbered.reply_number q)) (opened ∙ (comes w p s (halted s) found at h).other q z)
