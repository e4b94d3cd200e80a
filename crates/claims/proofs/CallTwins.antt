-- Two calls of the same function whose turns have the same answers: they have the same replies and tallies.
use Rattle.model.proofs.Prelude.{suc, zero, ℕ, ◌*◌, ◌<◌, Bool, cond, false, true, ◌&&◌, List, [], ◌∷◌, ⊎_elim, ap, refl, subst, sym, ◌∙◌, ◌≡◌, ℕ_discrete}
use Rattle.model.proofs.Prelude.{arith, eqb, length, length-set, set, get_or-set_other, get_or-set_same, eq-eqb, eqb-true, Bytes, Ran, runs, step_on, both, shape_of}
use Rattle.model.proofs.Prelude.{Shapes, shapes_of, Windows, map_outcome, Outcome, admissible, fresh, Sized, Item, mmix, by_test}
use Rattle.claims.proofs.Prelude.{State, all_admissible, call_of, call_refusal, each_below, tasks_in, tasks_of, tasks_ruled, Once, picked, renamed, TurnsBelow}
use Rattle.claims.proofs.Prelude.{Given, mmix_in, Own, studies, task_of, Turn, turn, tried_turns, foreign_meant, lent_turns, picked_length, call_ruled}
use Rattle.claims.proofs.Prelude.{CallRuled, turn_is, each_length, images_fit, states_from, states_in}
use Rattle.claims.specs.OneCall.{Held, struct, held_state, Entry, asked_by}
use Rattle.claims.proofs.Chains.{SameCall, same_call}
use Rattle.claims.specs.TaskCalls.{held_by, states_held, lent_held, lent_made, turns_lent, TaskEntry, alone, together, TaskMade, AloneMet, TogetherMet, TaskMeetsBy, whole_of, turns_of, turns_by, tallies_by, task_replied_by}
use Rattle.claims.specs.TaskLists.{tallies_of}
use Rattle.claims.proofs.HeldLists.{AllIntact, task_held, states_length}
use Rattle.claims.proofs.HeldImages.{Lengths, lengths}
use Rattle.claims.proofs.Ranges.{Ranged, turn_ranged}
use Rattle.claims.proofs.WholeTurns.{turns_do}
use Rattle.claims.proofs.TaskLists.{tallied_together}
use Rattle.claims.proofs.LentCalls.{lent_states, lent_intact, lent_below}
use Rattle.claims.proofs.TurnsRange.{TurnsFit, first_ranged}
use Rattle.claims.proofs.Twins.{admits_same, twins_of}
use Rattle.claims.proofs.BegunTurns.{call_twins}

-- ---- turns keep what is admissible

turn_admits : (p : Own) (ss : List State) (w : Windows) (k : ℕ) (i : Item) → k < length ss → Sized (task_of ss k)
    → (j : ℕ) → admissible (task_of (step_on both studies ss w (turn k p i)).state j) ≡ admissible (task_of ss j)
unfolding map_outcome
turn_admits p ss w k i l n j = ap (λ (o : Outcome (List State) Windows). admissible (task_of o.state j)) (turn_is p ss w k i) ∙ go (ℕ_discrete j k)
  where
    o : Outcome State Windows
    o = step_on both (mmix_in p) (task_of ss k) w i

    its : admissible o.state ≡ admissible (task_of ss k)
    its = ⊎_elim (λ e. ap (λ (q : Outcome State Windows). admissible q.state) e ∙ admits_same w (task_of ss k) i n)
        (λ e. ap (λ (q : Outcome State Windows). admissible q.state) e) (foreign_meant.either p w (task_of ss k) i)

    go : Dec (j ≡ k) → admissible (task_of (set ss k o.state) j) ≡ admissible (task_of ss j)
    go (yes e) = rw (e, get_or-set_same ss k o.state fresh l) its
    go (no m) = ap admissible (get_or-set_other ss k j o.state fresh m)

runs_admit : (ts : List Turn) (bs ss : List State) (w : Windows) → TurnsFit (length bs) ts → Ranged bs ss w
    → (j : ℕ) → admissible (task_of (runs both studies ss w ts).state j) ≡ admissible (task_of ss j)
unfolding TurnsFit runs
runs_admit [] bs ss w f h j = refl
runs_admit (turn k p i ∷ ts) bs ss w f h j =
    let l : k < length ss = let q : k < length bs = f.0 in omega (arith, h.count) in
    runs_admit ts bs (step_on both studies ss w (turn k p i)).state (step_on both studies ss w (turn k p i)).memory f.2 (turn_ranged p bs ss w k i f.1 f.0 h) j
    ∙ turn_admits p ss w k i l (h.each k l).range.sized j

pub held_admit : (hs : List Held) (w : Windows) (ts : List Turn) → AllIntact hs → Bytes w → TurnsFit (length hs) ts
    → (j : ℕ) → admissible (task_of (runs both studies (states_held hs) w ts).state j) ≡ admissible (task_of (states_held hs) j)
held_admit hs w ts h b f = runs_admit ts (states_held hs) (states_held hs) w (subst (λ (n : ℕ). TurnsFit n ts) (sym (states_length hs)) f) (first_ranged hs w h b)

pub runs_count : (ts : List Turn) (ss : List State) (w : Windows) → length (runs both studies ss w ts).state ≡ length ss
unfolding runs map_outcome
runs_count [] ss w = refl
runs_count (turn k p i ∷ ts) ss w =
    runs_count ts (step_on both studies ss w (turn k p i)).state (step_on both studies ss w (turn k p i)).memory
    ∙ ap (λ (o : Outcome (List State) Windows). length o.state) (turn_is p ss w k i) ∙ length-set ss k _

-- ---- what both runs have before a call

pub record Level (hs ks : List Held) (w v : Windows) : Type 0 where
  pub intact : AllIntact hs
  pub intact_too : AllIntact ks
  pub bytes : Bytes w
  pub bytes_too : Bytes v
  pub count_same : length hs ≡ length ks
  pub shapes_same : shapes_of w ≡ shapes_of v
  pub admits : (j : ℕ) → admissible (task_of (states_held hs) j) ≡ admissible (task_of (states_held ks) j)

pub record SameMade (e : TaskEntry) (c d : TaskMade) : Type 0 where
  pub reply_same : task_replied_by e c.reply ≡ task_replied_by e d.reply
  pub tallies_same : tallies_by e c.count c.counts c.refusals ≡ tallies_by e d.count d.counts d.refusals

abbrev pub Answered : List Held → List Held → Windows → Windows → List Turn → Type 0
Answered hs ks w v ts = (runs both studies (states_held hs) w ts).answers ≡ (runs both studies (states_held ks) v ts).answers

-- ---- a function on what one task holds

pub wholes_same : (w v : Windows) → shapes_of w ≡ shapes_of v → whole_of w ≡ whole_of v
unfolding shapes_of shape_of
wholes_same w v e = λ i. record { start = 0; size = (e i).b.size }

-- the answers to its turns are those to the items, on what it holds
pub alone_answers : (hs ks : List Held) (w v : Windows) (k : ℕ) → Level hs ks w v → k < length hs → k < length ks → (is : List Item)
    → Answered hs ks w v (turns_of k (whole_of w) is) → (runs both mmix (held_state (held_by hs k)) w is).answers ≡ (runs both mmix (held_state (held_by ks k)) v is).answers
alone_answers hs ks w v k lev l m is ans =
    sym (its hs w l) ∙ ans ∙ ap (λ (p : Own). (runs both studies (states_held ks) v (turns_of k p is)).answers) (wholes_same w v lev.shapes_same) ∙ its ks v m
  where
    its : (gs : List Held) (x : Windows) → k < length gs → (runs both studies (states_held gs) x (turns_of k (whole_of x) is)).answers ≡ (runs both mmix (held_state (held_by gs k)) x is).answers
    its gs x n = ap (λ (r : Ran (List State) Windows). r.answers) (turns_do k (states_held gs) x is (rw (states_length gs) n)) ∙ ap (λ (q : State). (runs both mmix q x is).answers) (task_held gs k)

pub alone_admits : (hs ks : List Held) (w v : Windows) (k : ℕ) → Level hs ks w v → admissible (held_state (held_by hs k)) ≡ admissible (held_state (held_by ks k))
alone_admits hs ks w v k lev = ap admissible (sym (task_held hs k)) ∙ lev.admits k ∙ ap admissible (task_held ks k)

alone_twins : (hs ks : List Held) (w v : Windows) (k : ℕ) (e : Entry) (c d : TaskMade) → Level hs ks w v
    → Answered hs ks w v (turns_of k (whole_of w) (asked_by e c.reply c.count)) → AloneMet hs w k e c → AloneMet ks v k e d
    → SameCall e c.reply c.count d.reply d.count
alone_twins hs ks w v k e c d lev ans mc md =
    same_call e (held_by hs k) (held_by ks k) (held_by c.held k) (held_by d.held k) w v c.window d.window c.reply c.count d.reply d.count
    (lev.intact k mc.there) (lev.intact_too k md.there) mc.contract md.contract
    (twins_of (asked_by e c.reply c.count) (held_state (held_by hs k)) w (held_state (held_by ks k)) v (lev.intact k mc.there).sized (lev.intact_too k md.there).sized
    (alone_admits hs ks w v k lev) lev.shapes_same (alone_answers hs ks w v k lev mc.there md.there (asked_by e c.reply c.count) ans))

-- ---- mmix_tasks

states_many : (e : ℕ) (l : List ℕ) (n k : ℕ) → length (states_from e l k n) ≡ n
unfolding states_from
states_many e l zero k = refl
states_many e l (suc n) k = ap suc (states_many e l n (suc k))

states_count : (n : ℕ) (l m : List ℕ) → length l ≡ length m → length (states_in n l) ≡ length (states_in n m)
unfolding states_in
states_count n l m e =
    by_test {A = List State} {B = List State} (λ a b. length a ≡ length b) (images_fit n l) (images_fit n m) (unfold images_fit in (rw e))
    (λ q. states_many (each_length n l) l n 0 ∙ sym (states_many (each_length n m) m n 0)) (λ q. refl)

each_same : (n : ℕ) (P Q : ℕ → Bool) → ((k : ℕ) → P k ≡ Q k) → each_below n P ≡ each_below n Q
unfolding each_below
each_same zero P Q h = refl
each_same (suc n) P Q h = λ i. h n i && each_same n P Q h i

refusal_is : (w : Windows) (ss : List State) (ns : List ℕ) (q grant : ℕ) → (tasks_of w ss ns q grant).reply ≡ call_refusal (shapes_of w) ss ns q grant
unfolding tasks_of
refusal_is w ss ns q grant = go (eqb (call_refusal (shapes_of w) ss ns q grant) 0) refl
  where
    go : (b : Bool) → eqb (call_refusal (shapes_of w) ss ns q grant) 0 ≡ b → (tasks_of w ss ns q grant).reply ≡ call_refusal (shapes_of w) ss ns q grant
    go true e = unfold tasks_of in (rw e (sym (eqb-true _ _ e)))
    go false e = unfold tasks_of in (rw e)

module _ (hs ks : List Held) (w v : Windows) (e : ℕ) (ns : List ℕ) (q grant : ℕ) (c d : TaskMade) (lev : Level hs ks w v)
    (mc : TogetherMet hs w e ns q grant c) (md : TogetherMet ks v e ns q grant d) where
  abbrev ss : List State
  ss = states_in (tasks_in ns) mc.before

  abbrev ts : List State
  ts = states_in (tasks_in ns) md.before

  many : length ss ≡ length ts
  many = states_count (tasks_in ns) mc.before md.before (mc.long ∙ ap (λ (n : ℕ). n * e) lev.count_same ∙ sym md.long)

  admit_same : (b : ℕ) → tasks_ruled b ns q ≡ true → all_admissible (tasks_in ns) ss ≡ all_admissible (tasks_in ns) ts
  unfolding all_admissible
  admit_same b z = go (eqb (length ss) (tasks_in ns)) refl
    where
      r : CallRuled ns q
      r = call_ruled b ns q z

      go : (x : Bool) → eqb (length ss) (tasks_in ns) ≡ x
          → (eqb (length ss) (tasks_in ns) && each_below (tasks_in ns) (λ k. admissible (task_of ss k))) ≡ (eqb (length ts) (tasks_in ns) && each_below (tasks_in ns) (λ k. admissible (task_of ts k)))
      go true x =
          let m : length ss ≡ tasks_in ns = eqb-true _ _ x in
          let a : Lengths (tasks_in ns) e mc.before hs = lengths (tasks_in ns) e mc.before hs r.tasks_some r.tasks_few mc.long mc.each mc.lent m in
          let b : Lengths (tasks_in ns) e md.before ks = lengths (tasks_in ns) e md.before ks r.tasks_some r.tasks_few md.long md.each md.lent (sym many ∙ m) in
          let f : (k : ℕ) → admissible (task_of ss k) ≡ admissible (task_of ts k)
          = λ k. ap (λ (qs : List State). admissible (task_of qs k)) a.states_are ∙ lev.admits k ∙ sym (ap (λ (qs : List State). admissible (task_of qs k)) b.states_are) in
          λ i. eqb (many i) (tasks_in ns) && each_same (tasks_in ns) (λ k. admissible (task_of ss k)) (λ k. admissible (task_of ts k)) f i
      go false x =
          let y : eqb (length ts) (tasks_in ns) ≡ false = ap (λ (n : ℕ). eqb n (tasks_in ns)) (sym many) ∙ x in
          rw (x, y)

  refusal_same : call_refusal (shapes_of w) ss ns q grant ≡ call_refusal (shapes_of v) ts ns q grant
  refusal_same = ap (λ (sh : Shapes). call_refusal sh ss ns q grant) lev.shapes_same ∙ (unfold call_refusal in (go (tasks_ruled (shapes_of v).b.size ns q) refl))
    where
      go : (x : Bool) → tasks_ruled (shapes_of v).b.size ns q ≡ x → call_refusal (shapes_of v) ss ns q grant ≡ call_refusal (shapes_of v) ts ns q grant
      go true x = unfold call_refusal in (rw (admit_same (shapes_of v).b.size x))
      go false x = unfold call_refusal in (rw x)

  pub replies_same : c.reply ≡ d.reply
  replies_same = mc.contract.reply_is ∙ refusal_is w ss ns q grant ∙ refusal_same ∙ sym (refusal_is v ts ns q grant) ∙ sym md.contract.reply_is

  abbrev gs : List Given
  gs = (call_of w (states_held hs) ns q grant).given

  abbrev fs : List Given
  fs = (call_of v (states_held ks) ns q grant).given

  givens_same : Answered hs ks w v (cond (eqb c.reply 0) (tried_turns ns gs) []) → c.reply ≡ 0 → gs ≡ fs
  givens_same ans z =
      call_twins w v (states_held hs) (states_held ks) ns q grant
      (subst (λ (b : Bool). Answered hs ks w v (cond b (tried_turns ns gs) [])) (eq-eqb c.reply 0 z) ans)

-- ---- one call

lent_admits : (ss ts : List State) (js : List ℕ) → ((j : ℕ) → admissible (task_of ss j) ≡ admissible (task_of ts j))
    → (j : ℕ) → admissible (task_of (picked fresh ss js) j) ≡ admissible (task_of (picked fresh ts js) j)
unfolding picked
lent_admits ss ts [] h j = refl
lent_admits ss ts (i ∷ js) h zero = h i
lent_admits ss ts (i ∷ js) h (suc j) = lent_admits ss ts js h j

given_answers : (gs ls : List Held) (w v : Windows) (ns : List ℕ) (q grant r : ℕ) → Answered gs ls w v (turns_lent gs w ns q grant r)
    → Answered gs ls w v (cond (eqb r 0) (tried_turns ns (call_of w (states_held gs) ns q grant).given) [])
unfolding turns_lent
given_answers gs ls w v ns q grant r h = h

-- of those that are lent
pub lent_level : (hs ks : List Held) (w v : Windows) (js : List ℕ) → Once (length hs) js → Once (length ks) js → Level hs ks w v → Level (lent_held hs js) (lent_held ks js) w v
lent_level hs ks w v js o p lev = record {
  intact = lent_intact hs js o lev.intact;
  intact_too = lent_intact ks js p lev.intact_too;
  bytes = lev.bytes;
  bytes_too = lev.bytes_too;
  count_same = picked_length (struct fresh) hs js ∙ sym (picked_length (struct fresh) ks js);
  shapes_same = lev.shapes_same;
  admits = λ j. ap (λ (qs : List State). admissible (task_of qs j)) (lent_states hs js) ∙ lent_admits (states_held hs) (states_held ks) js lev.admits j
      ∙ sym (ap (λ (qs : List State). admissible (task_of qs j)) (lent_states ks js));
}

-- the answers to turns of those that are lent are theirs on the states that are lent
pub lent_answers : (hs ks : List Held) (w v : Windows) (js : List ℕ) → Once (length hs) js → Once (length ks) js → (is : List Turn) → TurnsBelow (length js) is
    → Answered hs ks w v (renamed js is) → Answered (lent_held hs js) (lent_held ks js) w v is
lent_answers hs ks w v js o p is below ans = sym (its hs w o) ∙ ans ∙ its ks v p
  where
    its : (gs : List Held) (x : Windows) → Once (length gs) js → (runs both studies (states_held gs) x (renamed js is)).answers ≡ (runs both studies (states_held (lent_held gs js)) x is).answers
    its gs x n = ap (λ (r : Ran (List State) Windows). r.answers) (lent_turns.turns_among (states_held gs) x js is (subst (λ (m : ℕ). Once m js) (sym (states_length gs)) n) below)
        ∙ ap (λ (qs : List State). (runs both studies qs x is).answers) (sym (lent_states gs js))

pub call_twin : (hs ks : List Held) (w v : Windows) (e : TaskEntry) (c d : TaskMade) → Level hs ks w v → Answered hs ks w v (turns_by hs w e c.reply c.count)
    → TaskMeetsBy hs w e c → TaskMeetsBy ks v e d → SameMade e c d
unfolding TaskMeetsBy turns_by tallies_by task_replied_by
call_twin hs ks w v (alone k e) c d lev ans mc md =
    let s : SameCall e c.reply c.count d.reply d.count = alone_twins hs ks w v k e c d lev ans mc md in
    record { reply_same = s.reply_same; tallies_same = s.count_same }
call_twin hs ks w v (together js e ns q grant) c d lev ans mc md =
    let gs : List Held = lent_held hs js in
    let ls : List Held = lent_held ks js in
    let low : Level gs ls w v = lent_level hs ks w v js mc.once md.once lev in
    let r : c.reply ≡ d.reply = replies_same gs ls w v e ns q grant (lent_made js c) (lent_made js d) low mc.those md.those in
    let its : Answered gs ls w v (turns_lent gs w ns q grant c.reply)
    = lent_answers hs ks w v js mc.once md.once (turns_lent gs w ns q grant c.reply) (lent_below hs w js e ns q grant c mc) ans in
    let g : c.reply ≡ 0 → (call_of w (states_held gs) ns q grant).given ≡ (call_of v (states_held ls) ns q grant).given
    = givens_same gs ls w v e ns q grant (lent_made js c) (lent_made js d) low mc.those md.those (given_answers gs ls w v ns q grant c.reply its) in
    record {
      reply_same = ap (λ (n : ℕ). n ∷ []) r;
      tallies_same = tallied_together gs w e ns q grant (lent_made js c) mc.those
          ∙ by_test {A = List ℕ} {B = List ℕ} (λ a b. a ≡ b) (eqb c.reply 0) (eqb d.reply 0) (λ i. eqb (r i) 0) (λ z. ap tallies_of (g (eqb-true _ _ z))) (λ z. refl)
          ∙ sym (tallied_together ls v e ns q grant (lent_made js d) md.those);
    }
