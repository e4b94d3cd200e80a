-- Demand 3, whole: over `step_of` and `exception_of` with every arm in them. It is DemandCore's of the machine `mmix`, whose caller is its state;
-- `step_private` is that of the four calls as steps, in any machine.
use Rattle.model.proofs.Logic.{ℕ, ◌+◌, ◌<◌, ◌≤◌, Bool, cond, false, true, List, ap, refl, sym, ◌∙◌, ◌≡◌, arith, leb, leb-false}
use Rattle.model.specs.Registers.{r_o, r_g, r_l, sp, admissible}
use Rattle.model.specs.Memory.{Windows, Shapes, shapes_of, both}
use Rattle.model.specs.Plan.{Plan, Outcome, map_outcome, perform, All, Off}
use Rattle.model.specs.Opcodes.{forward, backward, register, immediate, arm_of}
use Rattle.model.specs.Control.{near, sum_of}
use Rattle.model.specs.Frames.{hole, push_frame}
use Rattle.model.specs.Lists.{Machine, Ran, step_on}
use Rattle.model.specs.Step.{refusal_of, unruled_by, plan_of, refusing, step_plan, from_three, step_of, fetched_of, Item, step, item_plan, mmix}
use Rattle.model.specs.Ways.{Way, by_step, by_fetch}
use Rattle.model.specs.Demand.{Within, Call, PUSHJ, PUSHJB, PUSHGO, PUSHGOI, opcode_of, Alike, GivesBack, after, pop_after, Private, Demand3, Demand3Wider}
use Rattle.model.specs.declared.State.{State}
use Rattle.model.proofs.Plan.{Always, Always_map}
use Rattle.model.proofs.Entry.{plan_open, guarded_done, sound, mmix_sound}
use Rattle.model.proofs.Memory.{both_lawful}
use Rattle.model.proofs.Lists.{run_touches_off, run_wider_off}
use Rattle.model.proofs.AdmissibleKept.{Adm, Good, adm}
use Rattle.model.proofs.ItemInvariant.{item_keeps}
use Rattle.model.proofs.Invariants.{good_keeps}
use Rattle.model.proofs.DemandCore.{Caller, Passed, Calls, push_fits, pop_of, GivesBackIn, Paired, PrivateIn, touched_by, reply_of', call_private}

-- ---- the call

abbrev pub target_of_call : Call → State → ℕ → ℕ → ℕ
target_of_call PUSHJ s y z = near s forward y z
target_of_call PUSHJB s y z = near s backward y z
target_of_call PUSHGO s y z = sum_of s register y z
target_of_call PUSHGOI s y z = sum_of s immediate y z

pub call_plan : (c : Call) (s : State) (x y z : ℕ) → plan_of s (arm_of (opcode_of c)) (opcode_of c) x y z ≡ push_frame s (hole s x) (target_of_call c s y z)
unfolding plan_of arm_of
call_plan PUSHJ s x y z = refl
call_plan PUSHJB s x y z = refl
call_plan PUSHGO s x y z = refl
call_plan PUSHGOI s x y z = refl

pub call_arm : (c : Call) (x y z : ℕ) → refusal_of (arm_of (opcode_of c)) x y z ≡ 0
unfolding refusal_of arm_of
call_arm PUSHJ x y z = refl
call_arm PUSHJB x y z = refl
call_arm PUSHGO x y z = refl
call_arm PUSHGOI x y z = refl

pub hole_le : (s : State) (x : ℕ) → Adm s → hole s x ≤ sp s r_g
unfolding hole
hole_le s x a = go (leb (sp s r_g) x) refl
  where
    go : (b : Bool) → leb (sp s r_g) x ≡ b → cond b (sp s r_l) x ≤ sp s r_g
    go true e = a.l_g
    go false e = let l : x < sp s r_g = leb-false _ _ e in omega arith

pub hole_alike : (s t : State) (x : ℕ) → s.special ≡ t.special → hole s x ≡ hole t x
unfolding hole
hole_alike s t x e = rw e

pub admissible_alike : (s t : State) → s.special ≡ t.special → s.marks ≡ t.marks → s.mask ≡ t.mask → admissible s ≡ admissible t
unfolding admissible
admissible_alike s t e f g = rw (e, f, g)

pub call_open : (c : Call) (j : ℕ → ℕ) (w : Windows) (s : State) (x y z : ℕ) → admissible s ≡ true → unruled_by (shapes_of w) ≡ 0
    → Calls j w s (step (opcode_of c) x y z) s (hole s x) (target_of_call c s y z)
unfolding item_plan
call_open c j w s x y z a r =
    ap (λ (p : Plan State). perform both j s p w) (plan_open (shapes_of w) s (opcode_of c) x y z a r (call_arm c x y z) ∙ call_plan c s x y z)

pub call_passed : (c : Call) (j : ℕ → ℕ) (w : Windows) (s : State) (x y z : ℕ)
    → (perform both j s (item_plan s (shapes_of w) (step (opcode_of c) x y z)) w).reply ≡ 0 → Passed j w s (hole s x)
unfolding item_plan step_plan
call_passed c j w s x y z d =
    let met : (admissible s ≡ true) × (unruled_by (shapes_of w) ≡ 0) = guarded_done j w s s (from_three s (arm_of (opcode_of c)) (opcode_of c) x y z) d in
    record {
      admitted = met.0;
      fine = met.1;
      fits = push_fits j w s s (hole s x) (target_of_call c s y z)
          (ap (λ (o : Outcome State Windows). o.reply) (sym (call_open c j w s x y z met.0 met.1)) ∙ d);
    }

module _ {S I : Type 0} (mc : Machine S I Shapes) (k : Caller mc) where
  pub step_private : (w : Windows) (ss ts : S) (c : Call) (x y z : ℕ) (is : List I) → Paired mc k ss ts → Alike (hole (k.get ss) x) (k.get ss) (k.get ts)
      → (step_on both mc ss w (k.does (step (opcode_of c) x y z))).reply ≡ 0
      → (k.get (step_on both mc ss w (k.does (step (opcode_of c) x y z))).state).pc ≡ (k.get (step_on both mc ts w (k.does (step (opcode_of c) x y z))).state).pc
      → All (Off (Within (sp (k.get ss) r_o) (hole (k.get ss) x + 1))) (touched_by mc k (step_on both mc ss w (k.does (step (opcode_of c) x y z))) is)
      → PrivateIn mc k (hole (k.get ss) x) (k.get ss) (k.get ts)
      (step_on both mc ss w (k.does (step (opcode_of c) x y z))) (step_on both mc ts w (k.does (step (opcode_of c) x y z))) is
  step_private w ss ts c x y z is two alike done =
      let s : State = k.get ss in
      let t : State = k.get ts in
      let h : ℕ = hole (k.get ss) x in
      let j : ℕ → ℕ = k.judge (shapes_of w) in
      let met : Passed j w s h = call_passed c j w s x y z (sym (reply_of' mc k ss w (step (opcode_of c) x y z)) ∙ done) in
      let at : admissible t ≡ true = sym (admissible_alike s t alike.special_same alike.marks_same alike.mask_same) ∙ met.admitted in
      call_private mc k w ss ts s t h (target_of_call c s y z) is two two.words two.words_too
      (record { size = two.sized; admits = adm s met.admitted }) (record { size = two.sized_too; admits = adm t at }) (hole_le s x (adm s met.admitted)) alike met.fine met.fits
      (step (opcode_of c) x y z) (target_of_call c t y z) (call_open c j w s x y z met.admitted met.fine)
      (call_open c j w t x y z at met.fine ∙ ap (λ (n : ℕ). perform both j t (push_frame t n (target_of_call c t y z)) w) (sym (hole_alike s t x alike.special_same)))

-- ---- the machine of 01

pub mmix_keeps : (s : State) (w : Shapes) (i : Item) → Unit {0} × Good s → Always (λ t. Unit {0} × Good t) (mmix.plan s w i)
unfolding mmix
mmix_keeps s w i h = Always_map Good (λ t. Unit {0} × Good t) (λ t g. (tt, g)) (item_plan s w i) (item_keeps Good Good good_keeps (λ t g. g) s w i (λ e. h.1) h.1)

pub mmix_does : (s : State) (w : Windows) (i : Item) → step_on both mmix s w i ≡ map_outcome (λ t. t) (perform both (refusing (shapes_of w)) s (item_plan s (shapes_of w) i) w)
unfolding step_on mmix both map_outcome
mmix_does s w i = refl

abbrev pub mmix_caller : Caller mmix
mmix_caller = record {
  There = λ s. Unit {0};
  get = λ s. s;
  put = λ s t. t;
  judge = refusing;
  does = λ i. i;
  get_put = λ s t h. refl;
  put_there = λ s t h. tt;
  sound = sound;
  all_sound = mmix_sound;
  keeps = mmix_keeps;
  does_is = mmix_does;
}

pop_is_back : (h : ℕ) (s : State) (r : Ran State Windows) (u : Way) → GivesBackIn mmix mmix_caller h s (pop_of mmix mmix_caller r u) → GivesBack h s (pop_after r u)
unfolding step_of fetched_of step_on mmix both item_plan
pop_is_back h s r (by_step x y z) g = record { done = g.done; locals = g.locals }
pop_is_back h s r by_fetch g = record { done = g.done; locals = g.locals }

pub private_is : (h : ℕ) (s t : State) (a b : Outcome State Windows) (is : List Item) → PrivateIn mmix mmix_caller h s t a b is → Private h s t a b is
unfolding step_of step_on mmix both item_plan
private_is h s t a b is p = record {
  call_same = p.call_same;
  answers_same = p.answers_same;
  state_same = p.states_same;
  window_same = p.window_same;
  first_back = λ at u m. pop_is_back h s (after a is) u (p.first_back at u m);
  second_back = λ at u m. pop_is_back h t (after b is) u (p.second_back at u m);
}

pub demand3 : Demand3
unfolding step_of step_on mmix both item_plan
demand3 w s t c x y z is ns nt ws wt alike done pcs off =
    private_is (hole s x) s t (step_of w s (opcode_of c) x y z) (step_of w t (opcode_of c) x y z) is
    (step_private mmix mmix_caller w s t c x y z is
    (record { there = tt; there_too = tt; put_same = λ q. refl; sized = ns; sized_too = nt; words = ws; words_too = wt }) alike done pcs
    (run_touches_off both both_lawful mmix (Off (Within (sp s r_o) (hole s x + 1))) is (step_of w s (opcode_of c) x y z).state (step_of w s (opcode_of c) x y z).memory off))

-- the wider needs hold the needs
pub demand3_wider : Demand3Wider
demand3_wider w s t c x y z is ns nt ws wt alike done pcs off =
    demand3 w s t c x y z is ns nt ws wt alike done pcs
    (run_wider_off both both_lawful mmix (Off (Within (sp s r_o) (hole s x + 1))) is (step_of w s (opcode_of c) x y z).state (step_of w s (opcode_of c) x y z).memory off)
