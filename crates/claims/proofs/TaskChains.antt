-- A list of calls as the list of the turns that they ask for; and two lists of the same calls, on windows that agree outside F, side by side.
use Rattle.model.proofs.Prelude.{ℕ, head-eq_of_cons-eq, List, tail-eq_of_cons-eq, [], ◌++◌, ◌∷◌, ap, refl, subst, sym, ◌∙◌, ◌≡◌, arith, length, Bytes, Ran}
use Rattle.model.proofs.Prelude.{run_needs_by, runs, both, shape_of, shapes_of, Windows, Agree, All, Off, runs_append, All_left, All_right, needs_append}
use Rattle.claims.proofs.Prelude.{State, studies, Turn, turn_needs}
use Rattle.claims.specs.OneCall.{Held}
use Rattle.claims.specs.Calls.{AllFit}
use Rattle.claims.specs.TaskCalls.{states_held, TaskEntry, alone, together, TaskMade, TaskMeetsBy, turns_of, turns_by, FitsBy, tallies_by, task_replied_by, TaskChain, task_entries, task_replies, tallies, task_last_held, task_last_window, AllFitIn, calls_need, all_turns}
use Rattle.claims.proofs.HeldLists.{AllIntact}
use Rattle.claims.proofs.WholeTurns.{AsTurns}
use Rattle.claims.proofs.Alone.{alone_made, SameAlone, alone_same}
use Rattle.claims.proofs.LentCalls.{lent_made', SameLent, lent_same}

-- ---- one call, of any function

abbrev turns_in : List Held → Windows → TaskMade → List Turn
turns_in hs w c = turns_by hs w c.entry c.reply c.count

pub call_made : (hs : List Held) (w : Windows) (e : TaskEntry) (c : TaskMade) → AllIntact hs → Bytes w → FitsBy e c.reply c.count → TaskMeetsBy hs w e c
    → AsTurns hs w (turns_by hs w e c.reply c.count) c.held c.window
unfolding FitsBy TaskMeetsBy turns_by
call_made hs w (alone k e) c h b f m = alone_made hs w k e c h b f m
call_made hs w (together js e ns q grant) c h b f m = lent_made' hs w js e ns q grant c m h b

record SameMade (F : ℕ → Type 0) (hs : List Held) (w u : Windows) (e : TaskEntry) (c d : TaskMade) : Type 0 where
  reply_same : task_replied_by e c.reply ≡ task_replied_by e d.reply
  tallies_same : tallies_by e c.count c.counts c.refusals ≡ tallies_by e d.count d.counts d.refusals
  held_same : c.held ≡ d.held
  agree : Agree both F c.window d.window
  turns_same : turns_by hs w e c.reply c.count ≡ turns_by hs u e d.reply d.count
  fits_too : FitsBy e d.reply d.count

call_same : (F : ℕ → Type 0) (hs : List Held) (w u : Windows) (e : TaskEntry) (c d : TaskMade) → AllIntact hs → Agree both F w u
    → All (Off F) (run_needs_by both studies turn_needs (states_held hs) w (turns_by hs w e c.reply c.count))
    → FitsBy e c.reply c.count → TaskMeetsBy hs w e c → TaskMeetsBy hs u e d → SameMade F hs w u e c d
unfolding FitsBy TaskMeetsBy turns_by tallies_by task_replied_by both shapes_of shape_of
call_same F hs w u (alone k e) c d h a off f mc md =
    let s : SameAlone F e c d = alone_same F hs w u k e c d h a off mc md in
    record {
      reply_same = s.ends_same.reply_same;
      tallies_same = s.ends_same.count_same;
      held_same = s.held_same;
      agree = s.agree;
      turns_same = λ i. turns_of k (record { start = 0; size = (a.shape_same i).b.size }) (s.ends_same.items_same i);
      fits_too = subst AllFit s.ends_same.items_same f;
    }
call_same F hs w u (together js e ns q grant) c d h a off f mc md =
    let s : SameLent F hs w u js ns q grant c d = lent_same F hs w u js e ns q grant c d a off mc md in
    record {
      reply_same = ap (λ (n : ℕ). n ∷ []) s.reply_same;
      tallies_same = λ i. s.counts_same i ++ s.refusals_same i;
      held_same = s.held_same;
      agree = s.agree;
      turns_same = s.turns_same;
      fits_too = tt;
    }

-- ---- a list of calls

as_append : (hs ks ls : List Held) (w v x : Windows) (is js : List Turn) → AsTurns hs w is ks v → AsTurns ks v js ls x → AsTurns hs w (is ++ js) ls x
as_append hs ks ls w v x is js a b =
    let all = runs_append both studies is js (states_held hs) w in
    let then : runs both studies (states_held ks) v js ≡ runs both studies (runs both studies (states_held hs) w is).state (runs both studies (states_held hs) w is).memory js
    = λ i. runs both studies (a.states_are i) (a.window_is i) js in
    record {
      states_are = b.states_are ∙ ap (λ (r : Ran (List State) Windows). r.state) then ∙ sym (ap (λ (r : Ran (List State) Windows). r.state) all);
      window_is = b.window_is ∙ ap (λ (r : Ran (List State) Windows). r.memory) then ∙ sym (ap (λ (r : Ran (List State) Windows). r.memory) all);
      whole = b.whole;
      bytes = b.bytes;
      count = b.count ∙ a.count;
    }

pub chain_made : (hs : List Held) (w : Windows) (cs : List TaskMade) → AllIntact hs → Bytes w → AllFitIn cs → TaskChain hs w cs
    → AsTurns hs w (all_turns hs w cs) (task_last_held hs cs) (task_last_window w cs)
unfolding TaskChain AllFitIn all_turns task_last_held task_last_window
chain_made hs w [] h b f m = record { states_are = unfold runs in refl; window_is = unfold runs in refl; whole = h; bytes = b; count = refl }
chain_made hs w (c ∷ cs) h b f m =
    let a : AsTurns hs w (turns_in hs w c) c.held c.window = call_made hs w c.entry c h b f.0 m.0 in
    as_append hs c.held _ w c.window _ (turns_in hs w c) _ a (chain_made c.held c.window cs a.whole a.bytes f.1 m.1)

-- its turns need what the calls need
pub chain_needs : (hs : List Held) (w : Windows) (cs : List TaskMade) → AllIntact hs → Bytes w → AllFitIn cs → TaskChain hs w cs
    → run_needs_by both studies turn_needs (states_held hs) w (all_turns hs w cs) ≡ calls_need hs w cs
unfolding TaskChain AllFitIn all_turns calls_need
chain_needs hs w [] h b f m = unfold run_needs_by in refl
chain_needs hs w (c ∷ cs) h b f m =
    let a : AsTurns hs w (turns_in hs w c) c.held c.window = call_made hs w c.entry c h b f.0 m.0 in
    needs_append both studies turn_needs (turns_in hs w c) (all_turns c.held c.window cs) (states_held hs) w
    ∙ ap (λ (l : List ℕ). run_needs_by both studies turn_needs (states_held hs) w (turns_in hs w c) ++ l)
    (sym (λ i. run_needs_by both studies turn_needs (a.states_are i) (a.window_is i) (all_turns c.held c.window cs))
    ∙ chain_needs c.held c.window cs a.whole a.bytes f.1 m.1)

-- ---- two lists

pub record SameCalls (hs : List Held) (w u : Windows) (cs ds : List TaskMade) : Type 0 where
  pub replies_same : task_replies cs ≡ task_replies ds
  pub tallies_same : tallies cs ≡ tallies ds
  pub held_same : task_last_held hs cs ≡ task_last_held hs ds
  pub turns_same : all_turns hs w cs ≡ all_turns hs u ds
  pub fits_too : AllFitIn ds

pub same_calls : (F : ℕ → Type 0) (hs : List Held) (w u : Windows) (cs ds : List TaskMade) → AllIntact hs → Bytes w → Agree both F w u → AllFitIn cs
    → task_entries ds ≡ task_entries cs → TaskChain hs w cs → TaskChain hs u ds → All (Off F) (calls_need hs w cs) → SameCalls hs w u cs ds
unfolding TaskChain AllFitIn task_entries task_replies tallies task_last_held all_turns calls_need
same_calls F hs w u [] [] h b a f e m n off = record { replies_same = refl; tallies_same = refl; held_same = refl; turns_same = refl; fits_too = tt }
same_calls F hs w u [] (d ∷ ds) h b a f e m n off = absurd (omega (arith, ap length e))
same_calls F hs w u (c ∷ cs) [] h b a f e m n off = absurd (omega (arith, ap length e))
same_calls F hs w u (c ∷ cs) (d ∷ ds) h b a f e m n off =
    let en : d.entry ≡ c.entry = head-eq_of_cons-eq e in
    let one : SameMade F hs w u c.entry c d
    = call_same F hs w u c.entry c d h a (All_left (Off F) _ (calls_need c.held c.window cs) off) f.0 m.0 (subst (λ (x : TaskEntry). TaskMeetsBy hs u x d) en n.0) in
    let k : AsTurns hs w (turns_in hs w c) c.held c.window = call_made hs w c.entry c h b f.0 m.0 in
    let r : SameCalls c.held c.window d.window cs ds
    = same_calls F c.held c.window d.window cs ds k.whole k.bytes one.agree f.1 (tail-eq_of_cons-eq e) m.1
    (subst (λ (g : List Held). TaskChain g d.window ds) (sym one.held_same) n.1)
    (All_right (Off F) (run_needs_by both studies turn_needs (states_held hs) w (turns_in hs w c)) _ off) in
    record {
      replies_same = λ i. (one.reply_same ∙ ap (λ (x : TaskEntry). task_replied_by x d.reply) (sym en)) i ++ r.replies_same i;
      tallies_same = λ i. (one.tallies_same ∙ ap (λ (x : TaskEntry). tallies_by x d.count d.counts d.refusals) (sym en)) i ++ r.tallies_same i;
      held_same = r.held_same ∙ ap (λ (g : List Held). task_last_held g ds) one.held_same;
      turns_same = λ i. (one.turns_same ∙ ap (λ (x : TaskEntry). turns_by hs u x d.reply d.count) (sym en)) i
          ++ (r.turns_same ∙ ap (λ (g : List Held). all_turns g d.window ds) one.held_same) i;
      fits_too = (subst (λ (x : TaskEntry). FitsBy x d.reply d.count) (sym en) one.fits_too, r.fits_too);
    }
