-- A call of a function on what one task holds: as turns of that task, and two such calls, on windows that agree outside F, side by side.
use Rattle.model.proofs.Prelude.{ℕ, ◌<◌, List, ap, subst, sym, ◌∙◌, ◌≡◌, length, length-set, set, Bytes, needs_of, Ran, run_needs_by, runs, both, Windows, Agree}
use Rattle.model.proofs.Prelude.{All, Off, Item, mmix, mmix_sound, runs_agree, run_touches, run_touches_off, SameRun, both_lawful}
use Rattle.claims.proofs.Prelude.{State, studies, turn_needs}
use Rattle.claims.specs.OneCall.{Held, held_state, HeldIs, Entry, asked_by}
use Rattle.claims.specs.Calls.{AllFit}
use Rattle.claims.proofs.OneCall.{Intact, After, after_call}
use Rattle.claims.proofs.Chains.{Kept, kept, SameCall, same_call}
use Rattle.claims.proofs.Forms.{form_after_law, same_held}
use Rattle.claims.specs.TaskCalls.{held_by, states_held, whole_of, turns_of, TaskMade, AloneMet}
use Rattle.claims.proofs.Agreed.{twins_agree}
use Rattle.claims.proofs.HeldLists.{AllIntact, task_held, states_length, states_set, set_intact}
use Rattle.claims.proofs.WholeTurns.{in_tasks, turns_do, turns_need, AsTurns}

module _ (hs : List Held) (w : Windows) (k : ℕ) (e : Entry) (c : TaskMade) (h : AllIntact hs) (b : Bytes w)
    (f : AllFit (asked_by e c.reply c.count)) (met : AloneMet hs w k e c) where
  abbrev its : List Item
  its = asked_by e c.reply c.count

  its_intact : Intact (held_by hs k)
  its_intact = h k met.there

  after_alone : After (held_state (held_by hs k)) w e c.reply c.count (held_by c.held k) c.window
  after_alone = after_call (held_by hs k) w e c.reply c.count (held_by c.held k) c.window its_intact met.contract

  kept_alone : Kept (held_state (held_by hs k)) w its (held_by c.held k) c.window
  kept_alone = kept (held_by hs k) w e c.reply c.count (held_by c.held k) c.window its_intact b f after_alone

  there : k < length (states_held hs)
  there = rw (states_length hs) met.there

  -- the turns leave what the items leave
  turns_leave : runs both studies (states_held hs) w (turns_of k (whole_of w) its) ≡ in_tasks (states_held hs) k (runs both mmix (held_state (held_by hs k)) w its)
  turns_leave =
      turns_do k (states_held hs) w its there
      ∙ ap (λ (s : State). in_tasks (states_held hs) k (runs both mmix s w its)) (task_held hs k)

  pub alone_made : AsTurns hs w (turns_of k (whole_of w) its) c.held c.window
  alone_made = record {
    states_are = ap states_held met.others ∙ states_set hs k (held_by c.held k) ∙ ap (set (states_held hs) k) kept_alone.state_is
        ∙ sym (ap (λ (r : Ran (List State) Windows). r.state) turns_leave);
    window_is = after_alone.window_is ∙ sym (ap (λ (r : Ran (List State) Windows). r.memory) turns_leave);
    whole = subst AllIntact (sym met.others) (set_intact hs k (held_by c.held k) met.there h kept_alone.whole);
    bytes = kept_alone.bytes;
    count = ap length met.others ∙ length-set hs k (held_by c.held k);
  }

-- ---- side by side

-- one call in each run: it ends alike, on the same held
pub record SameAlone (F : ℕ → Type 0) (e : Entry) (c d : TaskMade) : Type 0 where
  pub ends_same : SameCall e c.reply c.count d.reply d.count
  pub held_same : c.held ≡ d.held
  pub agree : Agree both F c.window d.window

pub alone_same : (F : ℕ → Type 0) (hs : List Held) (w u : Windows) (k : ℕ) (e : Entry) (c d : TaskMade) → AllIntact hs → Agree both F w u
    → All (Off F) (run_needs_by both studies turn_needs (states_held hs) w (turns_of k (whole_of w) (asked_by e c.reply c.count)))
    → AloneMet hs w k e c → AloneMet hs u k e d → SameAlone F e c d
alone_same F hs w u k e c d h a off mc md =
    let g : Held = held_by hs k in
    let s : State = held_state g in
    let i : Intact g = h k mc.there in
    let is : List Item = asked_by e c.reply c.count in
    let js : List Item = asked_by e d.reply d.count in
    let t : k < length (states_held hs) = rw (states_length hs) mc.there in
    let needed : All (Off F) (run_needs_by both mmix (needs_of both mmix) s w is)
    = subst (λ (q : State). All (Off F) (run_needs_by both mmix (needs_of both mmix) q w is)) (task_held hs k) (subst (All (Off F)) (turns_need k (states_held hs) w is t) off) in
    let touched : All (Off F) (run_touches both mmix s w is) = run_touches_off both both_lawful mmix (Off F) is s w needed in
    let one : SameCall e c.reply c.count d.reply d.count
    = same_call e g g (held_by c.held k) (held_by d.held k) w u c.window d.window c.reply c.count d.reply d.count i i mc.contract md.contract
    (twins_agree F is s w u a touched) in
    let p : After s w e c.reply c.count (held_by c.held k) c.window = after_call g w e c.reply c.count (held_by c.held k) c.window i mc.contract in
    let q : After s u e d.reply d.count (held_by d.held k) d.window = after_call g u e d.reply d.count (held_by d.held k) d.window i md.contract in
    let r : SameRun both mmix F (runs both mmix s w is) (runs both mmix s u js)
    = subst (λ (l : List Item). SameRun both mmix F (runs both mmix s w is) (runs both mmix s u l)) one.items_same
    (runs_agree both both_lawful mmix F mmix_sound is s w u a touched) in
    let its : held_by c.held k ≡ held_by d.held k
    = same_held _ _ _ p.held_is (subst (HeldIs (held_by d.held k)) (sym r.state_same) q.held_is)
    (form_after_law g w e _ _ _ _ i.sized mc.contract ∙ sym (form_after_law g u e _ _ _ _ i.sized md.contract)) in
    record {
      ends_same = one;
      held_same = mc.others ∙ ap (set hs k) its ∙ sym md.others;
      agree = subst (λ (x : Windows). Agree both F x d.window) (sym p.window_is) (subst (Agree both F (runs both mmix s w is).memory) (sym q.window_is) r.memory_same);
    }
