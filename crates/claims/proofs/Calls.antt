-- Demand 3 of the C functions, from demand 3 of the machine: a list of calls is a list of steps on the state that is held (Chains), and each beginning of the
-- first list's steps answers alike in both runs, so that the second list's calls end as the first's do.
use Rattle.model.proofs.Prelude.{suc, zero, ℕ, ◌+◌, Bool, cond, false, true, head-eq_of_cons-eq, List, [], ◌++◌, ◌∷◌, ap, refl, subst, sym, ◌∙◌, ◌≡◌, arith}
use Rattle.model.proofs.Prelude.{eqb, length, replicate, eqb-true, after, AtPop, GivesBack, opcode_of, pop_after, PopMet, Private, SameOutside, Within, hole}
use Rattle.model.proofs.Prelude.{Bytes, Fits, InstructionFits, needs_of, Ran, run_needs, run_needs_by, runs, step_on, both, shapes_of, Windows, op_pop, All, Off}
use Rattle.model.proofs.Prelude.{Outcome, reg, r_o, sp, exception, fetched, Item, item_plan, mmix, refusing, step, step_of, item_by, MetBy, Way, shapes_outside, on}
use Rattle.model.proofs.Prelude.{demand3, All_both, All_left, All_right, done_is}
use Rattle.claims.proofs.Prelude.{State}
use Rattle.claims.specs.OneCall.{Held, held_state, HeldIs, Entry, on_image, run_image, on_lent, on_parts, run_parts, decode, encode, looking, tried_items, tried_answers, asked_by, asked, answered_by, Meets, Made}
use Rattle.claims.specs.Calls.{Chain, last_held, last_window, items, AllFit, Carried, Returns, Demand3Calls}
use Rattle.claims.proofs.Tried.{Alongside, twins}
use Rattle.claims.proofs.OneCall.{Intact, intact, After, after_call}
use Rattle.claims.proofs.Forms.{form, form_after, form_after_law, form_asked, same_held}
use Rattle.claims.proofs.Chains.{Kept, kept, Ended, SameCalls, same_calls, twins_at, same_form, chain_ended}

-- one call that asks for one item; for a step
pub record ItemMade (g : Held) (w : Windows) (i : Item) (r : ℕ) (k : Held) (v : Windows) : Type 0 where
  pub reply_is : r ≡ (step_on both mmix (held_state g) w i).reply
  pub state_is : held_state k ≡ (step_on both mmix (held_state g) w i).state
  pub window_is : v ≡ (step_on both mmix (held_state g) w i).memory
  pub whole : Intact k
  pub bytes : Bytes v

pub record StepMade (g : Held) (w : Windows) (op x y z r : ℕ) (k : Held) (v : Windows) : Type 0 where
  pub reply_is : r ≡ (step_of w (held_state g) op x y z).reply
  pub state_is : held_state k ≡ (step_of w (held_state g) op x y z).state
  pub window_is : v ≡ (step_of w (held_state g) op x y z).memory
  pub whole : Intact k
  pub bytes : Bytes v

-- no run asks for a step
unfoldable is_fetched : Item → ℕ
is_fetched (step op x y z) = 0
is_fetched (exception f op x y z u v) = 0
is_fetched fetched = 1

none_step : (k op x y z : ℕ) → replicate k fetched ≡ step op x y z ∷ [] → ⊥
unfolding is_fetched
none_step zero op x y z e = omega (arith, ap length e)
none_step (suc k) op x y z e = let q : ◌≡◌ {A = ℕ} 1 0 = ap is_fetched (head-eq_of_cons-eq e) in omega arith

no_step : (r n op x y z : ℕ) → tried_items r n ≡ step op x y z ∷ [] → ⊥
unfolding tried_items
no_step r n op x y z =
    on {A = List Item} (λ l. l ≡ step op x y z ∷ [] → ⊥) (eqb r 25) (λ b e. omega (arith, ap length e)) (λ b. none_step (cond (eqb r 0) n (suc n)) op x y z)

pub asked_step : (e : Entry) (r n q m op x y z : ℕ) → asked_by e r n ≡ step op x y z ∷ [] → asked_by e q m ≡ step op x y z ∷ []
unfolding asked_by
asked_step (on_image b i) r n q m op x y z a = a
asked_step (run_image b g) r n q m op x y z a = absurd (no_step r n op x y z a)
asked_step (on_lent f o p t) r n q m op x y z a = a
asked_step (on_parts i) r n q m op x y z a = a
asked_step (run_parts g) r n q m op x y z a = absurd (no_step r n op x y z a)
asked_step decode r n q m op x y z a = a
asked_step (encode b) r n q m op x y z a = a
asked_step (looking l) r n q m op x y z a = a

-- a run of one instruction is answered by its reply too
answered_run : (r n : ℕ) (i : Item) → tried_items r n ≡ i ∷ [] → tried_answers r n ≡ r ∷ []
unfolding tried_items tried_answers
answered_run r n i = go (eqb r 25) (eqb r 0) refl n
  where
    go : (a b : Bool) → eqb r 0 ≡ b → (n : ℕ) → cond a [] (replicate (cond b n (suc n)) fetched) ≡ i ∷ [] → cond a [] (replicate n 0 ++ cond b [] (r ∷ [])) ≡ r ∷ []
    go true b e n h = absurd (omega (arith, ap length h))
    go false true e zero h = absurd (omega (arith, ap length h))
    go false true e (suc zero) h = ap (λ (q : ℕ). q ∷ []) (sym (eqb-true r 0 e))
    go false true e (suc (suc n)) h = absurd (omega (arith, ap length h))
    go false false e zero h = refl
    go false false e (suc n) h = absurd (omega (arith, ap length h))

answered_one : (e : Entry) (r n : ℕ) (i : Item) → asked_by e r n ≡ i ∷ [] → answered_by e r n ≡ r ∷ []
unfolding asked_by answered_by
answered_one (on_image b j) r n i a = refl
answered_one (run_image b g) r n i a = answered_run r n i a
answered_one (on_lent f p q t) r n i a = refl
answered_one (on_parts j) r n i a = refl
answered_one (run_parts g) r n i a = answered_run r n i a
answered_one decode r n i a = absurd (omega (arith, ap length a))
answered_one (encode b) r n i a = absurd (omega (arith, ap length a))
answered_one (looking l) r n i a = absurd (omega (arith, ap length a))

pub item_made : (g : Held) (w : Windows) (c : Made) (i : Item) → Intact g → Bytes w → asked c ≡ i ∷ [] → Fits i → Meets g w c
    → ItemMade g w i c.reply c.held c.window
unfolding AllFit runs
item_made g w c i h b a f m =
    let n : After (held_state g) w c.entry c.reply c.count c.held c.window = after_call g w c.entry c.reply c.count c.held c.window h m in
    let t : Kept (held_state g) w (i ∷ []) c.held c.window
    = subst (λ (is : List Item). Kept (held_state g) w is c.held c.window) a (kept g w c.entry c.reply c.count c.held c.window h b (subst AllFit (sym a) (f, tt)) n) in
    record {
      reply_is = head-eq_of_cons-eq (sym (answered_one c.entry c.reply c.count i a) ∙ n.answers_are ∙ ap (λ (is : List Item). (runs both mmix (held_state g) w is).answers) a);
      state_is = t.state_is;
      window_is = n.window_is ∙ ap (λ (is : List Item). (runs both mmix (held_state g) w is).memory) a;
      whole = t.whole;
      bytes = t.bytes;
    }

pub step_made : (g : Held) (w : Windows) (c : Made) (op x y z : ℕ) → Intact g → Bytes w → asked c ≡ step op x y z ∷ []
    → InstructionFits op x y z → Meets g w c → StepMade g w op x y z c.reply c.held c.window
unfolding Fits step_on mmix item_plan both step_of
step_made g w c op x y z h b a f m =
    let t : ItemMade g w (step op x y z) c.reply c.held c.window = item_made g w c (step op x y z) h b a f m in
    record { reply_is = t.reply_is; state_is = t.state_is; window_is = t.window_is; whole = t.whole; bytes = t.bytes }

-- a POP on what is held and windows that are those of r
pub returns : (h : ℕ) (s : State) (g : Held) (v : Windows) (r : Ran State Windows) → Intact g → Bytes v → held_state g ≡ r.state → v ≡ r.memory
    → ((u : Way) → PopMet r u → GivesBack h s (pop_after r u)) → Returns h s g v
returns h s g v r i b es ev back c u a f met m =
    let t : ItemMade g v (item_by u op_pop) c.reply c.held c.window = item_made g v c (item_by u op_pop) i b a f m in
    let o : step_on both mmix (held_state g) v (item_by u op_pop) ≡ pop_after r u
    = (λ j. step_on both mmix (es j) (ev j) (item_by u op_pop)) ∙ done_is u op_pop r.memory r.state in
    let n : PopMet r u
    = subst (λ (x : Windows). MetBy op_pop (refusing (shapes_of x)) x r.state u) ev
    (subst (λ (x : State). MetBy op_pop (refusing (shapes_of v)) v x u) es met) in (
      t.reply_is ∙ ap (λ (o : Outcome State Windows). o.reply) o ∙ (back u n).done,
      λ i less. ap (λ (t : State). reg t i) (t.state_is ∙ ap (λ (o : Outcome State Windows). o.state) o) ∙ (back u n).locals i less,
    )

-- the rest of a list after its first call's outcome
rest_ended : (g : Held) (w : Windows) (op x y z : ℕ) (a : Made) (cs : List Made) (is : List Item) → StepMade g w op x y z a.reply a.held a.window
    → AllFit (items cs) → items cs ≡ is → Chain a.held a.window cs → Ended a.held a.window cs (after (step_of w (held_state g) op x y z) is)
rest_ended g w op x y z a cs is t f e c =
    let o : Outcome State Windows = step_of w (held_state g) op x y z in
    let d : Ended a.held a.window cs (runs both mmix (held_state a.held) a.window is)
    = subst (λ (js : List Item). Ended a.held a.window cs (runs both mmix (held_state a.held) a.window js)) e
    (chain_ended a.held a.window cs t.whole t.bytes f c) in
    subst (λ (s : State). Ended a.held a.window cs (runs both mmix s o.memory is)) t.state_is
    (subst (λ (v : Windows). Ended a.held a.window cs (runs both mmix (held_state a.held) v is)) t.window_is d)

-- the needs of a list's beginning are among the list's
needs_first : (P : ℕ → Type 0) (is js : List Item) (s : State) (w : Windows) → All P (run_needs both mmix s w (is ++ js)) → All P (run_needs both mmix s w is)
unfolding run_needs_by All
needs_first P [] js s w h = tt
needs_first P (i ∷ is) js s w h =
    All_both P (needs_of both mmix s w i) _ (All_left P (needs_of both mmix s w i) _ h)
    (needs_first P is js (step_on both mmix s w i).state (step_on both mmix s w i).memory (All_right P (needs_of both mmix s w i) _ h))

pub demand3_calls : Demand3Calls
unfolding Chain
demand3_calls w g k c x y z a b cs ds hg hk hw f fs alike ea eb es ga gb done pcs off =
    let s : State = held_state g in
    let t : State = held_state k in
    let h : ℕ = hole s x in
    let is : List Item = items cs in
    let o : Outcome State Windows = step_of w s (opcode_of c) x y z in
    let u : Outcome State Windows = step_of w t (opcode_of c) x y z in
    let p : StepMade g w (opcode_of c) x y z a.reply a.held a.window = step_made g w a (opcode_of c) x y z (intact g hg) hw ea f ga.0 in
    let fb : asked b ≡ step (opcode_of c) x y z ∷ []
    = ap (λ (e : Entry). asked_by e b.reply b.count) eb ∙ asked_step a.entry a.reply a.count b.reply b.count (opcode_of c) x y z ea in
    let q : StepMade k w (opcode_of c) x y z b.reply b.held b.window = step_made k w b (opcode_of c) x y z (intact k hk) hw fb f gb.0 in
    let frame : ℕ → Type 0 = Off (Within (sp s r_o) (h + 1)) in
    let away : All frame (run_needs both mmix o.state o.memory is)
    = subst (λ (v : State). All frame (run_needs both mmix v o.memory is)) p.state_is
    (subst (λ (v : Windows). All frame (run_needs both mmix (held_state a.held) v is)) p.window_is off) in
    let private : (js : List Item) → All frame (run_needs both mmix o.state o.memory js) → Private h s t o u js
    = λ js clear. demand3 w s t c x y z js (intact g hg).sized (intact k hk).sized (intact g hg).words (intact k hk).words alike
    (sym p.reply_is ∙ done) (ap (λ (v : State). v.pc) (sym p.state_is) ∙ pcs ∙ ap (λ (v : State). v.pc) q.state_is) clear in
    let along : (js ks : List Item) → is ≡ js ++ ks → Alongside o.state o.memory u.state u.memory js
    = λ js ks e. let d : Private h s t o u js
    = private js (needs_first frame js ks o.state o.memory (subst (λ (l : List Item). All frame (run_needs both mmix o.state o.memory l)) e away)) in
    record { answers_same = d.answers_same; state_same = d.state_same; shapes_same = shapes_outside (Within (sp s r_o) h) _ _ d.window_same } in
    let same : SameCalls cs ds
    = same_calls a.held b.held a.window b.window cs ds p.whole q.whole p.bytes q.bytes fs es ga.1 gb.1
    (twins_at is _ _ _ _ _ _ _ _ p.state_is p.window_is q.state_is q.window_is (twins is o.state o.memory u.state u.memory along)) in
    let d : Private h s t o u is = private is away in
    let ra : Ended a.held a.window cs (after o is) = rest_ended g w (opcode_of c) x y z a cs is p fs refl ga.1 in
    let rb : Ended b.held b.window ds (after u is)
    = rest_ended k w (opcode_of c) x y z b ds is q (subst AllFit same.items_same fs) (sym same.items_same) gb.1 in
    let ca : Carried a.held a.window cs (after o is) = ra.carried in
    let cb : Carried b.held b.window ds (after u is) = rb.carried in
    let at_pop_law : AtPop h (sp (held_state a.held) r_o) (held_state (last_held a.held cs)) → AtPop h (sp o.state r_o) (after o is).state
    = λ l. subst (λ (v : State). AtPop h (sp v r_o) (after o is).state) p.state_is
    (subst (λ (v : State). AtPop h (sp (held_state a.held) r_o) v) ca.state_is l) in
    record {
      call_same = q.reply_is ∙ d.call_same ∙ sym p.reply_is;
      replies_same = same.replies_same;
      counts_same = same.counts_same;
      held_same = same_held _ _ _ ca.held_is (subst (HeldIs (last_held b.held ds)) (sym d.state_same) cb.held_is)
          (same_form a.held b.held a.window b.window cs ds p.whole q.whole p.bytes q.bytes fs (subst AllFit same.items_same fs) es ga.1 gb.1
          (form_after_law g w a.entry _ _ _ _ (intact g hg).sized ga.0 ∙ form_asked a.entry (form g) (form k) _ _ _ ea
          ∙ ap (form_after (form k)) (sym eb) ∙ sym (form_after_law k w b.entry _ _ _ _ (intact k hk).sized gb.0)));
      window_same = subst (λ (v : Windows). SameOutside (Within (sp s r_o) h) v (last_window b.window ds)) (sym ca.window_is)
          (subst (λ (v : Windows). SameOutside (Within (sp s r_o) h) (after o is).memory v) (sym cb.window_is) d.window_same);
      first_back = λ l. returns h s _ _ (after o is) ra.whole ra.bytes ca.state_is ca.window_is (d.first_back (at_pop_law l));
      second_back = λ l. returns h t _ _ (after u is) rb.whole rb.bytes cb.state_is cb.window_is (d.second_back (at_pop_law l));
    }
