-- Demand 3 over any machine with a caller in it, whose list may hold all that the machine does. The idea:
-- 1. a call from two states that are alike leaves one state and two memories that agree outside the frame's locals (`push_same`);
-- 2. a list that touches none of them then does the same in both runs, and keeps the whole frame (`runs_agree`, `runs_kept` of Lists);
-- 3. a POP at the call's rO finds the frame as it was pushed (`pop_is`, `pop_reg` of PushPop): `back_core`;
-- 4. `pair_core` puts the two runs together, `call_private` says it of an item that calls.
use Rattle.model.proofs.Logic.{ℕ, ◌%◌, ◌*◌, ◌+◌, ◌<◌, ◌^◌, ◌≤◌, true, List, ap, refl, subst, sym, ◌∙◌, ◌≡◌, arith, get_or}
use Rattle.model.specs.Fill.{tab}
use Rattle.model.specs.Registers.{r_o, r_g, stack_start, sp, reg, Sized, Words, admissible, goes, with_special, spilled}
use Rattle.model.specs.Memory.{Windows, Shapes, shapes_of, both}
use Rattle.model.specs.Plan.{Outcome, map_outcome, perform, All, Off, worst, puts, Agree}
use Rattle.model.specs.Opcodes.{op_pop}
use Rattle.model.specs.Frames.{framed, pushed_rule, pushed, push_frame, pop_frame}
use Rattle.model.specs.Lists.{Machine, Ran, step_on, runs}
use Rattle.model.specs.Step.{unruled_by, Item, item_plan}
use Rattle.model.specs.Ways.{Way, item_by, x_by, MetBy}
use Rattle.model.specs.Demand.{Within, Alike, AtPop, SameOutside}
use Rattle.model.specs.declared.State.{State}
use Rattle.model.proofs.Plan.{Kept, Sound, Always, All_map, All_of, puts_shape}
use Rattle.model.proofs.Entry.{answered, bytes_agree}
use Rattle.model.proofs.Memory.{both_lawful}
use Rattle.model.proofs.Runs.{length_tab}
use Rattle.model.proofs.Ways.{target_by, pop_item}
use Rattle.model.proofs.Lists.{run_touches, SameRun, runs_agree, runs_kept, run_touches_agree, runs_always}
use Rattle.model.proofs.AdmissibleKept.{Good, adm_of, goes_good, pushed_good}
use Rattle.model.proofs.PushPop.{called, called_alike, push_from, push_is, push_same, pop_is, pop_reg, push_r_o}

-- a caller in a machine: its state in the machine's, by which number its octabytes are refused, and the machine's item that is an item of its own
pub record Caller {S I : Type 0} (mc : Machine S I Shapes) : Type 1 where
  pub There : S → Type 0
  pub get : S → State
  pub put : S → State → S
  pub judge : Shapes → ℕ → ℕ
  pub does : Item → I
  pub get_put : (ss : S) (s : State) → There ss → get (put ss s) ≡ s
  pub put_there : (ss : S) (s : State) → There ss → There (put ss s)
  pub sound : (w : Shapes) → Sound both (judge w) w
  pub all_sound : (ss : S) (w : Shapes) (i : I) → Sound both (mc.judge ss w i) w
  -- whatever is done in the machine, it stays there and good
  pub keeps : (ss : S) (w : Shapes) (i : I) → There ss × Good (get ss) → Always (λ t. There t × Good (get t)) (mc.plan ss w i)
  pub does_is : (ss : S) (w : Windows) (i : Item)
      → step_on both mc ss w (does i) ≡ map_outcome (put ss) (perform both (judge (shapes_of w)) (get ss) (item_plan (get ss) (shapes_of w) i) w)

-- ---- the call

-- the outcome of a call of u from s
abbrev pub pushed_on : Windows → State → ℕ → ℕ → Outcome State Windows
pushed_on w s h u = record { reply = 0; state = called s h u; memory = puts both w (sp s r_o) (tab 0 (h + 1) (framed s h)) }

-- what a call from s that is done has passed
pub record Passed (j : ℕ → ℕ) (w : Windows) (s : State) (h : ℕ) : Type 0 where
  pub admitted : admissible s ≡ true
  pub fine : unruled_by (shapes_of w) ≡ 0
  pub fits : worst j (sp s r_o) (h + 1) ≡ 0

-- at b, item i calls u from s, which is b or b with a register claimed
abbrev pub Calls : (ℕ → ℕ) → Windows → State → Item → State → ℕ → ℕ → Type 0
Calls j w b i s h u = perform both j b (item_plan b (shapes_of w) i) w ≡ perform both j b (push_frame s h u) w

pub push_fits : (j : ℕ → ℕ) (w : Windows) (b s : State) (h u : ℕ) → (perform both j b (push_frame s h u) w).reply ≡ 0 → worst j (sp s r_o) (h + 1) ≡ 0
unfolding push_frame
push_fits j w b s h u d = rw (length_tab (h + 1) 0 (framed s h)) at (answered j b (called s h u) 0 (sp s r_o) (tab 0 (h + 1) (framed s h)) w d)

pub pushed_pc : (s : State) (h u : ℕ) → (called s h u).pc ≡ u
unfolding pushed pushed_rule spilled with_special goes
pushed_pc s h u = refl

pub window_shape : (w : Windows) (a : ℕ) (vs : List ℕ) → shapes_of (puts both w a vs) ≡ shapes_of w
unfolding both
window_shape w a vs = puts_shape both both_lawful vs w a

kept_shape : (F : ℕ → Type 0) (v w : Windows) → Kept both F v w → shapes_of w ≡ shapes_of v
unfolding both
kept_shape F v w k = k.shape_kept

place : (r o h : ℕ) → r ≡ (o + 8 * (h + 1)) % 2 ^ 64 → o < 2 ^ 64 → h ≤ 255 → stack_start < r → r ≡ o + 8 * (h + 1)
place r o h q u m n = omega arith

pub narrow : (a h : ℕ) (xs : List ℕ) → All (Off (Within a (h + 1))) xs → All (Off (Within a h)) xs
narrow a h xs o = All_map _ _ xs (λ b f e. f (record { place = e.place; place_below = let l : e.place < h = e.place_below in omega arith; named_by = e.named_by })) o

module _ {S I : Type 0} (mc : Machine S I Shapes) (k : Caller mc) where
  -- what the demand says, in the machine's own terms
  abbrev pub after_in : Outcome S Windows → List I → Ran S Windows
  after_in o is = runs both mc o.state o.memory is

  abbrev pub pop_of : Ran S Windows → Way → Outcome S Windows
  pop_of r u = step_on both mc r.state r.memory (k.does (item_by u op_pop))

  abbrev pub PopMetIn : Ran S Windows → Way → Type 0
  PopMetIn r u = MetBy op_pop (k.judge (shapes_of r.memory)) r.memory (k.get r.state) u

  pub record GivesBackIn (h : ℕ) (s : State) (o : Outcome S Windows) : Type 0 where
    pub done : o.reply ≡ 0
    pub locals : (i : ℕ) → i < h → reg (k.get o.state) i ≡ reg s i

  pub record PrivateIn (h : ℕ) (s t : State) (a b : Outcome S Windows) (is : List I) : Type 0 where
    pub call_same : b.reply ≡ a.reply
    pub answers_same : (after_in a is).answers ≡ (after_in b is).answers
    pub states_same : (after_in a is).state ≡ (after_in b is).state
    pub window_same : SameOutside (Within (sp s r_o) h) (after_in a is).memory (after_in b is).memory
    pub first_back : AtPop h (sp (k.get a.state) r_o) (k.get (after_in a is).state) → (u : Way) → PopMetIn (after_in a is) u → GivesBackIn h s (pop_of (after_in a is) u)
    pub second_back : AtPop h (sp (k.get a.state) r_o) (k.get (after_in a is).state) → (u : Way) → PopMetIn (after_in b is) u → GivesBackIn h t (pop_of (after_in b is) u)

  -- two states of the machine that are equal but for the caller's, and what both runs have before the call
  pub record Paired (ss ts : S) : Type 0 where
    pub there : k.There ss
    pub there_too : k.There ts
    pub put_same : (q : State) → k.put ss q ≡ k.put ts q
    pub sized : Sized (k.get ss)
    pub sized_too : Sized (k.get ts)
    pub words : Words (k.get ss)
    pub words_too : Words (k.get ts)

  -- what the list touches
  abbrev pub touched_by : Outcome S Windows → List I → List ℕ
  touched_by o is = run_touches both mc o.state o.memory is

  abbrev pub called_by : Windows → S → State → ℕ → ℕ → Outcome S Windows
  called_by w ss s h u = record { reply = 0; state = k.put ss (called s h u); memory = (pushed_on w s h u).memory }

  pop_opens : (v : Windows) (es : S) (u : Way) → admissible (k.get es) ≡ true → unruled_by (shapes_of v) ≡ 0 → MetBy op_pop (k.judge (shapes_of v)) v (k.get es) u
      → step_on both mc es v (k.does (item_by u op_pop))
      ≡ map_outcome (k.put es) (perform both (k.judge (shapes_of v)) (k.get es) (pop_frame (k.get es) (x_by u v (k.get es)) (target_by u v (k.get es))) v)
  pop_opens v es u a r m = k.does_is es v (item_by u op_pop) ∙ ap (map_outcome (k.put es)) (pop_item (k.judge (shapes_of v)) v (k.get es) u a r m)

  sound_at : (w : Windows) → Sound both (k.judge (shapes_of w)) (both.shape w)
  unfolding both
  sound_at w = k.sound (shapes_of w)

  -- a reply of the caller's own item
  pub reply_of' : (ss : S) (w : Windows) (i : Item)
      → (step_on both mc ss w (k.does i)).reply ≡ (perform both (k.judge (shapes_of w)) (k.get ss) (item_plan (k.get ss) (shapes_of w) i) w).reply
  unfolding map_outcome
  reply_of' ss w i = ap (λ (o : Outcome S Windows). o.reply) (k.does_is ss w i)

  -- ---- one run

  module _ (w : Windows) (ss : S) (s : State) (h u : ℕ) (is : List I) (there : k.There ss) (words : Words s) (good : Good s) (fine : unruled_by (shapes_of w) ≡ 0) (hg : h ≤ sp s r_g)
      (fits : worst (k.judge (shapes_of w)) (sp s r_o) (h + 1) ≡ 0) where
    abbrev end : Ran S Windows
    end = after_in (called_by w ss s h u) is

    pub good_end : k.There end.state × Good (k.get end.state)
    good_end =
        runs_always both both_lawful mc (λ t. k.There t × Good (k.get t)) k.keeps is (k.put ss (called s h u)) (pushed_on w s h u).memory
        (k.put_there ss (called s h u) there, subst Good (sym (k.get_put ss (called s h u) there)) (goes_good _ u (pushed_good s h good)))

    -- no list changes the windows' bases or lengths
    pub end_shape : shapes_of end.memory ≡ shapes_of w
    end_shape =
        kept_shape (λ o. ⊥) (pushed_on w s h u).memory end.memory
        (runs_kept both both_lawful mc (λ o. ⊥) k.all_sound is (k.put ss (called s h u)) (pushed_on w s h u).memory (All_of _ (touched_by (called_by w ss s h u) is) (λ b x. x)))
        ∙ window_shape w (sp s r_o) (tab 0 (h + 1) (framed s h))

    pub back_core : All (Off (Within (sp s r_o) (h + 1))) (touched_by (called_by w ss s h u) is)
        → AtPop h (sp (called s h u) r_o) (k.get end.state) → (i : Way) → PopMetIn end i → GivesBackIn h s (pop_of end i)
    unfolding map_outcome
    back_core touched at i met =
        let es : S = end.state in
        let e : State = k.get es in
        let v : Windows = end.memory in
        let j : ℕ → ℕ = k.judge (shapes_of w) in
        let ge : Good e = good_end.1 in
        let kept : Kept both (Within (sp s r_o) (h + 1)) (pushed_on w s h u).memory v
        = runs_kept both both_lawful mc (Within (sp s r_o) (h + 1)) k.all_sound is (k.put ss (called s h u)) (pushed_on w s h u).memory touched in
        let gg : sp s r_g ≤ 255 = good.admits.g_high in
        let small : h ≤ 255 = omega arith in
        let ro : sp e r_o ≡ (sp s r_o + 8 * (h + 1)) % 2 ^ 64 = at.back ∙ push_r_o s h u good.size.specials in
        let b1 : sp e r_o % 8 ≡ 0 = rw at.back at.aligned in
        let b2 : stack_start < sp e r_o = rw at.back at.above in
        let b3 : sp e r_o < 2 ^ 63 = rw at.back at.below in
        let b0 : sp e r_o ≡ sp s r_o + 8 * (h + 1) = place (sp e r_o) (sp s r_o) h ro (words.special_word r_o) small b2 in
        let x : ℕ = x_by i v e in
        let t : ℕ = target_by i v e in
        let op : pop_of end i ≡ map_outcome (k.put es) (perform both j e (pop_frame e x t) v)
        = pop_opens v es i (adm_of e ge.admits) (ap unruled_by end_shape ∙ fine) met
        ∙ ap (λ (q : Shapes). map_outcome (k.put es) (perform both (k.judge q) e (pop_frame e x t) v)) end_shape in
        record {
          done = ap (λ (o : Outcome S Windows). o.reply) op
              ∙ ap (λ (o : Outcome State Windows). o.reply) (pop_is both both_lawful j s e h w v small (sound_at w) fits words.general_word kept b0 b1 b2 b3 at.reach ge.admits.g_high ge.size x t);
          locals = λ n l. ap (λ (o : Outcome S Windows). reg (k.get o.state) n) op
              ∙ ap (λ (q : State). reg q n) (k.get_put es (perform both j e (pop_frame e x t) v).state good_end.0)
              ∙ pop_reg both both_lawful j s e h w v small (sound_at w) fits words.general_word kept b0 b1 b2 b3 at.reach ge.admits.g_high ge.size x t n l;
        }

  -- ---- two runs

  module _ (w : Windows) (ss ts : S) (s t : State) (h u : ℕ) (is : List I) (two : Paired ss ts)
      (ws : Words s) (wt : Words t) (gs : Good s) (gt : Good t) (hg : h ≤ sp s r_g) (alike : Alike h s t) (fine : unruled_by (shapes_of w) ≡ 0)
      (fits : worst (k.judge (shapes_of w)) (sp s r_o) (h + 1) ≡ 0) where
    fits_too : worst (k.judge (shapes_of w)) (sp t r_o) (h + 1) ≡ 0
    fits_too = subst (λ (o : ℕ). worst (k.judge (shapes_of w)) o (h + 1) ≡ 0) (ap (λ (l : List ℕ). get_or l r_o 0) alike.special_same) fits

    pair_core : All (Off (Within (sp s r_o) (h + 1))) (touched_by (called_by w ss s h u) is)
        → PrivateIn h s t (called_by w ss s h u) (called_by w ts t h u) is
    pair_core touched =
        let os : sp s r_o ≡ sp t r_o = ap (λ (l : List ℕ). get_or l r_o 0) alike.special_same in
        let gse : sp s r_g ≡ sp t r_g = ap (λ (l : List ℕ). get_or l r_g 0) alike.special_same in
        let one : called s h u ≡ called t h u = called_alike s t h u gs.size gt.size hg alike in
        let st : k.put ss (called s h u) ≡ k.put ts (called t h u) = two.put_same (called s h u) ∙ ap (k.put ts) one in
        let ms : Agree both (Within (sp s r_o) h) (pushed_on w s h u).memory (pushed_on w t h u).memory
        = (rw (push_is both both_lawful (k.judge (shapes_of w)) s h u w fits, push_is both both_lawful (k.judge (shapes_of w)) t h u w fits_too)
        at (push_same both both_lawful (k.judge (shapes_of w)) s t h u w gs.size gt.size hg alike (sound_at w) fits)).memory_same in
        let near : All (Off (Within (sp s r_o) h)) (touched_by (called_by w ss s h u) is) = narrow (sp s r_o) h _ touched in
        let same : SameRun both mc (Within (sp s r_o) h) (after_in (called_by w ss s h u) is) (after_in (called_by w ts t h u) is)
        = subst (λ (q : S). SameRun both mc (Within (sp s r_o) h) (after_in (called_by w ss s h u) is) (runs both mc q (pushed_on w t h u).memory is)) st
        (runs_agree both both_lawful mc (Within (sp s r_o) h) k.all_sound is (k.put ss (called s h u)) (pushed_on w s h u).memory (pushed_on w t h u).memory ms near) in
        let te : touched_by (called_by w ss s h u) is ≡ touched_by (called_by w ts t h u) is
        = run_touches_agree both both_lawful mc (Within (sp s r_o) h) k.all_sound is (k.put ss (called s h u)) (pushed_on w s h u).memory (pushed_on w t h u).memory ms near
        ∙ ap (λ (q : S). run_touches both mc q (pushed_on w t h u).memory is) st in
        let touched_t : All (Off (Within (sp t r_o) (h + 1))) (touched_by (called_by w ts t h u) is)
        = subst (λ (o : ℕ). All (Off (Within o (h + 1))) (touched_by (called_by w ts t h u) is)) os
        (subst (λ (xs : List ℕ). All (Off (Within (sp s r_o) (h + 1))) xs) te touched) in
        let ce : k.get (k.put ss (called s h u)) ≡ called s h u = k.get_put ss (called s h u) two.there in
        let ee : k.get (after_in (called_by w ss s h u) is).state ≡ k.get (after_in (called_by w ts t h u) is).state = ap k.get same.state_same in
        record {
          call_same = refl;
          answers_same = same.answers_same;
          states_same = same.state_same;
          window_same = bytes_agree (Within (sp s r_o) h) _ _ (ap unruled_by (end_shape w ss s h u is two.there ws gs fine hg fits) ∙ fine) same.memory_same;
          first_back = λ at. back_core w ss s h u is two.there ws gs fine hg fits touched
              (subst (λ (q : State). AtPop h (sp q r_o) (k.get (after_in (called_by w ss s h u) is).state)) ce at);
          second_back = λ at. back_core w ts t h u is two.there_too wt gt fine (subst (λ (g : ℕ). h ≤ g) gse hg) fits_too touched_t
              (subst (λ (q : State). AtPop h (sp q r_o) (k.get (after_in (called_by w ts t h u) is).state)) (ce ∙ one)
              (subst (λ (q : State). AtPop h (sp (k.get (k.put ss (called s h u))) r_o) q) ee at));
        }

    -- of the machine's item that is the caller's item i, which calls from s and from t; the second call's target is equal since PC is
    pub call_private : (i : Item) (v : ℕ) → Calls (k.judge (shapes_of w)) w (k.get ss) i s h u → Calls (k.judge (shapes_of w)) w (k.get ts) i t h v
        → (k.get (step_on both mc ss w (k.does i)).state).pc ≡ (k.get (step_on both mc ts w (k.does i)).state).pc
        → All (Off (Within (sp s r_o) (h + 1))) (touched_by (step_on both mc ss w (k.does i)) is)
        → PrivateIn h s t (step_on both mc ss w (k.does i)) (step_on both mc ts w (k.does i)) is
    unfolding map_outcome
    call_private i v ca cb pcs =
        let la : step_on both mc ss w (k.does i) ≡ called_by w ss s h u = k.does_is ss w i ∙ ap (map_outcome (k.put ss)) (ca ∙ push_from both both_lawful (k.judge (shapes_of w)) (k.get ss) s h u w fits) in
        let lb : step_on both mc ts w (k.does i) ≡ called_by w ts t h v = k.does_is ts w i ∙ ap (map_outcome (k.put ts)) (cb ∙ push_from both both_lawful (k.judge (shapes_of w)) (k.get ts) t h v w fits_too) in
        let vs : v ≡ u
        = sym (ap (λ (o : Outcome S Windows). (k.get o.state).pc) lb ∙ ap (λ (q : State). q.pc) (k.get_put ts (called t h v) two.there_too) ∙ pushed_pc t h v)
        ∙ sym pcs ∙ (ap (λ (o : Outcome S Windows). (k.get o.state).pc) la ∙ ap (λ (q : State). q.pc) (k.get_put ss (called s h u) two.there) ∙ pushed_pc s h u) in
        let lb2 : step_on both mc ts w (k.does i) ≡ called_by w ts t h u = lb ∙ ap (λ (q : ℕ). called_by w ts t h q) vs in
        subst (λ (a : Outcome S Windows). All (Off (Within (sp s r_o) (h + 1))) (touched_by a is) → PrivateIn h s t a (step_on both mc ts w (k.does i)) is) (sym la)
        (λ touched. subst (λ (b : Outcome S Windows). PrivateIn h s t (called_by w ss s h u) b is) (sym lb2) (pair_core touched))
