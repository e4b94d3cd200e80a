-- A parked context survives, of any machine with a caller in it. The idea: a SAVE that is done stored the context (`save_item`), by step or fetched, where X is global
-- and so nothing is claimed; a list that touches none of its octabytes keeps them (`runs_kept` of Lists); UNSAVE then finds what SAVE stored (`unsave_found`).
use Rattle.model.proofs.Prelude.{ℕ, ◌<◌, ◌≤◌, Bool, false, true, List, ap, refl, subst, sym, ◌∙◌, ◌≡◌, arith, ltb, get_or, length, ltb-false, context_address}
use Rattle.model.proofs.Prelude.{context_at, extent, save_context, saved, saved_state, unsave_context, unsaved, unsaved_unspilled, over, Machine, step_on, both}
use Rattle.model.proofs.Prelude.{Shapes, shapes_of, Windows, tell, arm_of, op_save, op_unsave, All, map_outcome, Off, Outcome, perform, Plan, worst, admissible}
use Rattle.model.proofs.Prelude.{claim_local, following, goes, halted, next, reg, r_g, r_l, r_o, r_s, Sized, sp, spilled, with_special, Words, claims, from_three}
use Rattle.model.proofs.Prelude.{instruction_plan, item_plan, keeps_claim, plan_of, refusal_of, settled_by, taken_back, unruled_by, by_fetch, by_step, item_by, NamesBy}
use Rattle.model.proofs.Prelude.{Way, x_by, y_by, z_by, Adm, adm, adm_of, goes_good, Good, saved_good, after_in, Caller, reply_of', touched_by, claim_global}
use Rattle.model.proofs.Prelude.{claim_other, said_by_law, over_above, over_below, over_in, runs_always, runs_kept, both_lawful, Kept, save_fits, save_stores}
use Rattle.model.proofs.Prelude.{saved_on, saved_state_address, Saves, shape_same, unsave_found, unsaved_next, Unsaves, with_context, Wraps, item_opened}
use Rattle.model.proofs.Prelude.{item_opens, Opened, plan_by}
use Rattle.task_model.proofs.Prelude.{State}
use Rattle.model.proofs.Roundtrip.{is_saved, unsaved_generals, unsaved_specials, unsaved_r_s}
use Rattle.task_model.specs.Parked.{in_context, ComesBack, Asks, Context}

-- ---- the registers

in_context_law : (k : ℕ) → in_context k ≡ is_saved k
unfolding in_context is_saved
in_context_law k = refl

not_stack : (k : ℕ) → is_saved k ≡ true → k ≡ r_s → ⊥
not_stack k e q = let f : is_saved r_s ≡ false = (unfold is_saved in refl) in let o : ◌≡◌ {A = ℕ} 0 1 = cc in omega arith

-- e is any state of the task, vs what its UNSAVE reads: the octabytes that SAVE stored of s
comes_back : (s e : State) (vs : List ℕ) → Good s → Sized e → ((i : ℕ) → i < extent s → get_or vs i 0 ≡ saved s i) → ComesBack s (next (with_context s e vs))
unfolding goes
comes_back s e vs good n are =
    let b : Adm s = good.admits in
    let m : length s.general ≡ 256 = good.size.generals in
    let g : (with_context s e vs).general ≡ over (λ k. 0) (sp s r_l) (sp s r_g) s.general = unsaved_generals s e b vs are good.size n in
    record {
      special_back = λ k l q. special k l (sym (in_context_law k) ∙ q);
      stack_back = unsaved_r_s s e b vs are n ∙ sym (special r_o (omega arith) (unfold is_saved in refl));
      local_back = λ i l. ap (λ (xs : List ℕ). get_or xs i 0) g ∙ over_below (λ k. 0) (sp s r_l) (sp s r_g) s.general i l (omega arith);
      other_zero = λ i l u. ap (λ (xs : List ℕ). get_or xs i 0) g ∙ over_in (λ k. 0) (sp s r_l) (sp s r_g) s.general i l u (omega arith);
      global_back = λ i l u. ap (λ (xs : List ℕ). get_or xs i 0) g ∙ over_above (λ k. 0) (sp s r_l) (sp s r_g) s.general i l (omega arith);
    }
  where
    special : (k : ℕ) → k < 32 → is_saved k ≡ true → sp (with_context s e vs) k ≡ sp s k
    special k l q = unsaved_specials s e good.admits vs are k n l (not_stack k q) ∙ rw q

unsaved_rest : (s e : State) (vs : List ℕ) → ((next (with_context s e vs)).pc ≡ following e) × ((next (with_context s e vs)).halt ≡ e.halt)
unfolding unsaved spilled with_special unsaved_unspilled goes
unsaved_rest s e vs = (refl, refl)

saved_address : (s : State) (x : ℕ) → Sized s → x < 256 → reg (next (saved_state s x)) x ≡ context_address s
unfolding goes
saved_address s x n l = saved_state_address s x n l

-- ---- SAVE

-- fetched and done, it claimed nothing: a marginal X is refused by 13
save_unclaimed : (j : ℕ → ℕ) (w : Windows) (s : State) (x : ℕ) → (perform both j s (taken_back s (save_context (claim_local s x) x)) w).reply ≡ 0
    → taken_back s (save_context (claim_local s x) x) ≡ save_context s x
save_unclaimed j w s x = go (ltb x (sp s r_g)) refl
  where
    g : sp (claim_local s x) r_g ≡ sp s r_g
    g = claim_other s x r_g refl

    refused : ltb x (sp s r_g) ≡ true → (perform both j s (taken_back s (save_context (claim_local s x) x)) w).reply ≡ 13
    refused e = unfold save_context tell taken_back in (rw (g, e) (ap (λ (o : Outcome State Windows). o.reply) (said_by_law j w s _ 13)))

    kept : ltb x (sp s r_g) ≡ false → taken_back s (save_context s x) ≡ save_context s x
    kept e = unfold save_context taken_back settled_by keeps_claim in (rw e)

    go : (b : Bool) → ltb x (sp s r_g) ≡ b → (perform both j s (taken_back s (save_context (claim_local s x) x)) w).reply ≡ 0
        → taken_back s (save_context (claim_local s x) x) ≡ save_context s x
    go true e d = absurd (omega (arith, refused e, d))
    go false e d = ap (λ (t : State). taken_back s (save_context t x)) (claim_global s x (ltb-false _ _ e)) ∙ kept e

save_plan : (i : Way) (j : ℕ → ℕ) (w : Windows) (s : State) (x y z : ℕ) → (perform both j s (plan_by i s op_save x y z) w).reply ≡ 0 → plan_by i s op_save x y z ≡ save_context s x
unfolding from_three instruction_plan plan_of arm_of refusal_of claims
save_plan (by_step a b c) j w s x y z d = refl
save_plan by_fetch j w s x y z d = save_unclaimed j w s x d

pub record SaveItem (j : ℕ → ℕ) (w : Windows) (s : State) (i : Way) : Type 0 where
  pub saves : Saves j w s (x_by i w s)
  pub outcome_is : perform both j s (item_plan s (shapes_of w) (item_by i op_save)) w ≡ record { reply = 0; state = next (saved_state s (x_by i w s)); memory = saved_on w s }

pub save_item : (j : ℕ → ℕ) (w : Windows) (s : State) (i : Way) → NamesBy i op_save w s → (perform both j s (item_plan s (shapes_of w) (item_by i op_save)) w).reply ≡ 0 → SaveItem j w s i
save_item j w s i e d =
    let m : Opened op_save j w s i = item_opened op_save j w s i e d in
    let x : ℕ = x_by i w s in
    let p : plan_by i s op_save x (y_by i w s) (z_by i w s) ≡ save_context s x
    = save_plan i j w s x (y_by i w s) (z_by i w s) (ap (λ (o : Outcome State Windows). o.reply) (sym m.opens) ∙ d) in
    let o : perform both j s (item_plan s (shapes_of w) (item_by i op_save)) w ≡ perform both j s (save_context s x) w
    = m.opens ∙ ap (λ (q : Plan State). perform both j s q w) p in
    let f : (sp s r_g ≤ x) × (worst j (sp s r_o) (extent s) ≡ 0) = save_fits j w s x (ap (λ (q : Outcome State Windows). q.reply) (sym o) ∙ d) in
    let c : Saves j w s x = record { admits = adm s m.admitted; fine = m.fine; global = f.0; fits = f.1 } in
    record { saves = c; outcome_is = o ∙ save_stores j w s x c }

-- ---- UNSAVE: it claims nothing

unsave_plan : (i : Way) (s : State) (x y z : ℕ) → plan_by i s op_unsave x y z ≡ context_at (halted s) (unsaved_next s) (reg s z)
unfolding from_three instruction_plan plan_of arm_of refusal_of claims unsave_context
unsave_plan (by_step a b c) s x y z = refl
unsave_plan by_fetch s x y z = refl

unsave_item : (j : ℕ → ℕ) (w : Windows) (s : State) (a : ℕ) (i : Way) → admissible s ≡ true → unruled_by (shapes_of w) ≡ 0 → Asks j w s a i
    → perform both j s (item_plan s (shapes_of w) (item_by i op_unsave)) w ≡ perform both j s (context_at (halted s) (unsaved_next s) a) w
unsave_item j w s a i e r q =
    item_opens op_unsave j w s i e r q.names q.lent
    ∙ ap (λ (p : Plan State). perform both j s p w) (unsave_plan i s (x_by i w s) (y_by i w s) (z_by i w s) ∙ ap (context_at (halted s) (unsaved_next s)) q.address)

-- ---- the list between them

module _ {S I : Type 0} (mc : Machine S I Shapes) (k : Caller mc) (wraps : (w : Shapes) → Wraps (k.judge w)) where
  -- what UNSAVE leaves of es and v: the caller's state is `end`, all else stays
  pub record UnparksIn (s : State) (es : S) (v : Windows) (o : Outcome S Windows) : Type 0 where
    pub there : k.There es
    pub end : State
    pub outcome_is : o ≡ record { reply = 0; state = k.put es end; memory = v }
    pub state_back : ComesBack s end
    pub pc_next : end.pc ≡ following (k.get es)
    pub halt_same : end.halt ≡ (k.get es).halt

  module _ (w : Windows) (ss : S) (i u : Way) (is : List I) (there : k.There ss) (n : Sized (k.get ss)) (words : Words (k.get ss)) where
    abbrev pub Survives : Outcome S Windows → Type 0
    Survives o = All (Off (Context (k.get ss))) (touched_by mc k o is)
        → Asks (k.judge (shapes_of (after_in mc k o is).memory)) (after_in mc k o is).memory (k.get (after_in mc k o is).state) (reg (k.get o.state) (x_by i w (k.get ss))) u
        → UnparksIn (k.get ss) (after_in mc k o is).state (after_in mc k o is).memory
        (step_on both mc (after_in mc k o is).state (after_in mc k o is).memory (k.does (item_by u op_unsave)))

    abbrev pub parked : State
    parked = next (saved_state (k.get ss) (x_by i w (k.get ss)))

    pub survives : Saves (k.judge (shapes_of w)) w (k.get ss) (x_by i w (k.get ss)) → x_by i w (k.get ss) < 256
        → Survives (record { reply = 0; state = k.put ss parked; memory = saved_on w (k.get ss) })
    unfolding map_outcome
    survives c byte off asks =
        let s : State = k.get ss in
        let j : ℕ → ℕ = k.judge (shapes_of w) in
        let o : Outcome S Windows = record { reply = 0; state = k.put ss parked; memory = saved_on w s } in
        let es : S = (after_in mc k o is).state in
        let e : State = k.get es in
        let v : Windows = (after_in mc k o is).memory in
        let good : Good s = record { size = n; admits = c.admits } in
        let was : k.get (k.put ss parked) ≡ parked = k.get_put ss parked there in
        let kept : Kept both (Context s) (saved_on w s) v = runs_kept both both_lawful mc (Context s) k.all_sound is (k.put ss parked) (saved_on w s) off in
        let end : k.There es × Good e
        = runs_always both both_lawful mc (λ t. k.There t × Good (k.get t)) k.keeps is (k.put ss parked) (saved_on w s)
        (k.put_there ss parked there, subst Good (sym was) (goes_good _ _ (saved_good s _ good))) in
        let same : shapes_of v ≡ shapes_of w = shape_same j (wraps (shapes_of w)) w v (k.sound (shapes_of w)) s _ c words kept in
        let found : Unsaves s e v (perform both j e (context_at (halted e) (unsaved_next e) (context_address s)) v)
        = unsave_found j (wraps (shapes_of w)) w v (k.sound (shapes_of w)) s _ c words kept e in
        let t : State = next (with_context s e found.octas) in
        let a : reg (k.get (k.put ss parked)) (x_by i w s) ≡ context_address s = ap (λ (q : State). reg q (x_by i w s)) was ∙ saved_address s (x_by i w s) n byte in
        let does : perform both (k.judge (shapes_of v)) e (item_plan e (shapes_of v) (item_by u op_unsave)) v ≡ record { reply = 0; state = t; memory = v }
        = unsave_item (k.judge (shapes_of v)) v e _ u (adm_of e end.1.admits) (ap unruled_by same ∙ c.fine) asks
        ∙ (λ q. perform both (k.judge (same q)) e (context_at (halted e) (unsaved_next e) (a q)) v)
        ∙ found.outcome_is in
        record {
          there = end.0;
          end = t;
          outcome_is = k.does_is es v (item_by u op_unsave) ∙ ap (map_outcome (k.put es)) does;
          state_back = comes_back s e found.octas good end.1.size found.octas_are;
          pc_next = (unsaved_rest s e found.octas).0;
          halt_same = (unsaved_rest s e found.octas).1;
        }

    pub parked_survives_in : NamesBy i op_save w (k.get ss) → x_by i w (k.get ss) < 256 → (step_on both mc ss w (k.does (item_by i op_save))).reply ≡ 0
        → Survives (step_on both mc ss w (k.does (item_by i op_save)))
    unfolding map_outcome
    parked_survives_in names byte done =
        let c : SaveItem (k.judge (shapes_of w)) w (k.get ss) i
        = save_item (k.judge (shapes_of w)) w (k.get ss) i names (sym (reply_of' mc k ss w (item_by i op_save)) ∙ done) in
        subst Survives (sym (k.does_is ss w (item_by i op_save) ∙ ap (map_outcome (k.put ss)) c.outcome_is)) (survives c.saves byte)
