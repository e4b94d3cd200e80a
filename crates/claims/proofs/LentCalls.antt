-- mmix_tasks on some of the tasks: Together's of those that are lent, among all.
use Rattle.model.proofs.Prelude.{suc, zero, ℕ, ◌<◌, Bool, cond, false, true, List, [], ◌∷◌, ap, refl, subst, sym, ◌∙◌, ◌≡◌, arith, eqb, length, set, eqb-true}
use Rattle.model.proofs.Prelude.{Bytes, Ran, run_needs_by, runs, both, Windows, Agree, All, Off, fresh}
use Rattle.claims.proofs.Prelude.{State, call_of, among_all, Once, picked, put_back, renamed, TurnsBelow, studies, Turn, turn_needs, tried_turns, below_tried}
use Rattle.claims.proofs.Prelude.{lent_turns, picked_length, placed_length}
use Rattle.claims.specs.OneCall.{Held, struct, held_state}
use Rattle.claims.specs.TaskCalls.{states_held, TaskMade, lent_held, lent_made, LentMet, turns_lent}
use Rattle.claims.proofs.HeldLists.{AllIntact, task_held, states_length, states_set, set_intact}
use Rattle.claims.proofs.WholeTurns.{AsTurns}
use Rattle.claims.proofs.Together.{done_lengths, together_made, SameTogether, together_same}

-- ---- what is lent

pub lent_states : (hs : List Held) (js : List ℕ) → states_held (lent_held hs js) ≡ picked fresh (states_held hs) js
unfolding picked states_held
lent_states hs [] = refl
lent_states hs (j ∷ js) = λ i. sym (task_held hs j) i ∷ lent_states hs js i

placed_states : (hs : List Held) (js : List ℕ) (gs : List Held) → states_held (put_back hs js gs) ≡ put_back (states_held hs) js (states_held gs)
unfolding put_back states_held
placed_states hs [] gs = refl
placed_states hs (j ∷ js) [] = refl
placed_states hs (j ∷ js) (g ∷ gs) = states_set (put_back hs js gs) j g ∙ ap (λ (l : List State). set l j (held_state g)) (placed_states hs js gs)

pub lent_intact : (hs : List Held) (js : List ℕ) → Once (length hs) js → AllIntact hs → AllIntact (lent_held hs js)
unfolding picked Once
lent_intact hs [] o h k l = absurd (omega arith)
lent_intact hs (j ∷ js) o h zero l = h j o.0
lent_intact hs (j ∷ js) o h (suc k) l = lent_intact hs js o.2 h k (omega arith)

placed_intact : (hs : List Held) (js : List ℕ) (gs : List Held) → Once (length hs) js → AllIntact hs → AllIntact gs → AllIntact (put_back hs js gs)
unfolding put_back Once
placed_intact hs [] gs o h i = h
placed_intact hs (j ∷ js) [] o h i = h
placed_intact hs (j ∷ js) (g ∷ gs) o h i =
    set_intact (put_back hs js gs) j g (let q : j < length hs = o.0 in omega (arith, placed_length hs js gs))
    (placed_intact hs js gs o.2 h (λ k l. i (suc k) (omega arith))) (i 0 (omega arith))

-- ---- the turns are of those that are lent

module _ (hs : List Held) (w : Windows) (js : List ℕ) (e : ℕ) (ns : List ℕ) (q grant : ℕ) (c : TaskMade) (m : LentMet hs w js e ns q grant c) where
  abbrev gs : List Held
  gs = lent_held hs js

  abbrev ts : List Turn
  ts = turns_lent gs w ns q grant c.reply

  lent_count : length gs ≡ length js
  lent_count = picked_length (struct fresh) hs js

  pub lent_below : TurnsBelow (length js) ts
  unfolding turns_lent
  lent_below = go (eqb c.reply 0) refl
    where
      go : (b : Bool) → eqb c.reply 0 ≡ b → TurnsBelow (length js) (cond b (tried_turns ns (call_of w (states_held gs) ns q grant).given) [])
      go true z = subst (λ (n : ℕ). TurnsBelow n (tried_turns ns (call_of w (states_held gs) ns q grant).given))
          ((done_lengths gs w e ns q grant (lent_made js c) m.those (eqb-true _ _ z)).count ∙ lent_count) (below_tried w (states_held gs) ns q grant)
      go false z = unfold TurnsBelow in tt

  -- on all states
  pub lent_runs : runs both studies (states_held hs) w (renamed js ts) ≡ among_all (states_held hs) js (runs both studies (states_held gs) w ts)
  lent_runs =
      lent_turns.turns_among (states_held hs) w js ts (subst (λ (n : ℕ). Once n js) (sym (states_length hs)) m.once) lent_below
      ∙ ap (λ (qs : List State). among_all (states_held hs) js (runs both studies qs w ts)) (sym (lent_states hs js))

  pub lent_needs : run_needs_by both studies turn_needs (states_held hs) w (renamed js ts) ≡ run_needs_by both studies turn_needs (states_held gs) w ts
  lent_needs =
      lent_turns.needs_among (states_held hs) w js ts (subst (λ (n : ℕ). Once n js) (sym (states_length hs)) m.once) lent_below
      ∙ ap (λ (qs : List State). run_needs_by both studies turn_needs qs w ts) (sym (lent_states hs js))

  pub lent_made' : AllIntact hs → Bytes w → AsTurns hs w (renamed js ts) c.held c.window
  lent_made' h b =
      let t : AsTurns gs w ts (lent_held c.held js) c.window = together_made gs w e ns q grant (lent_made js c) m.those (lent_intact hs js m.once h) b in
      record {
        states_are = ap states_held m.others ∙ placed_states hs js (lent_held c.held js) ∙ ap (put_back (states_held hs) js) t.states_are
            ∙ sym (ap (λ (r : Ran (List State) Windows). r.state) lent_runs);
        window_is = t.window_is ∙ sym (ap (λ (r : Ran (List State) Windows). r.memory) lent_runs);
        whole = subst AllIntact (sym m.others) (placed_intact hs js (lent_held c.held js) m.once h t.whole);
        bytes = t.bytes;
        count = ap length m.others ∙ placed_length hs js (lent_held c.held js);
      }

-- ---- side by side

pub record SameLent (F : ℕ → Type 0) (hs : List Held) (w u : Windows) (js ns : List ℕ) (q grant : ℕ) (c d : TaskMade) : Type 0 where
  pub reply_same : c.reply ≡ d.reply
  pub counts_same : c.counts ≡ d.counts
  pub refusals_same : c.refusals ≡ d.refusals
  pub held_same : c.held ≡ d.held
  pub agree : Agree both F c.window d.window
  pub turns_same : renamed js (turns_lent (lent_held hs js) w ns q grant c.reply) ≡ renamed js (turns_lent (lent_held hs js) u ns q grant d.reply)

pub lent_same : (F : ℕ → Type 0) (hs : List Held) (w u : Windows) (js : List ℕ) (e : ℕ) (ns : List ℕ) (q grant : ℕ) (c d : TaskMade) → Agree both F w u
    → All (Off F) (run_needs_by both studies turn_needs (states_held hs) w (renamed js (turns_lent (lent_held hs js) w ns q grant c.reply)))
    → LentMet hs w js e ns q grant c → LentMet hs u js e ns q grant d → SameLent F hs w u js ns q grant c d
lent_same F hs w u js e ns q grant c d a off mc md =
    let s : SameTogether F (lent_held hs js) w u e ns q grant (lent_made js c) (lent_made js d)
    = together_same F (lent_held hs js) w u e ns q grant (lent_made js c) (lent_made js d) a (subst (All (Off F)) (lent_needs hs w js e ns q grant c mc) off) mc.those md.those in
    record {
      reply_same = s.reply_same;
      counts_same = s.counts_same;
      refusals_same = s.refusals_same;
      held_same = mc.others ∙ ap (put_back hs js) s.held_same ∙ sym md.others;
      agree = s.agree;
      turns_same = ap (renamed js) s.turns_same;
    }
