-- The turns that a list of calls tried are of tasks that there are, and their items fit C's types; so what is in range stays so, turn by turn.
use Rattle.model.proofs.Prelude.{suc, zero, ℕ, ◌<◌, Bool, cond, false, true, List, [], ◌++◌, ◌∷◌, refl, subst, sym, ◌∙◌, ◌≡◌, arith, eqb, get_or, length}
use Rattle.model.proofs.Prelude.{eqb-true, Bytes, Fits, runs, step_on, both, Windows, fresh, Item}
use Rattle.claims.proofs.Prelude.{State, call_of, tasks_in, Once, renamed, Own, studies, task_of, Turn, turn, tried_turns, picked_length}
use Rattle.task_model.proofs.Tried.{tried_by}
use Rattle.claims.specs.OneCall.{Held, struct, asked_by}
use Rattle.claims.specs.Calls.{AllFit}
use Rattle.claims.proofs.OneCall.{Intact}
use Rattle.claims.specs.TaskCalls.{held_by, states_held, lent_held, lent_made, turns_lent, TaskEntry, alone, together, TaskMade, TaskMeetsBy, whole_of, turns_of, turns_by, FitsBy, TaskChain, AllFitIn, all_turns}
use Rattle.claims.proofs.HeldLists.{AllIntact, task_held, states_length}
use Rattle.claims.proofs.Ranges.{Stays, Ranged, turn_ranged}
use Rattle.claims.proofs.WholeTurns.{AsTurns}
use Rattle.claims.proofs.Together.{done_lengths}
use Rattle.claims.proofs.TaskChains.{call_made}

unfoldable pub TurnsFit : ℕ → List Turn → Type 0
TurnsFit n [] = Unit {0}
TurnsFit n (turn k p i ∷ ts) = (k < n) × Fits i × TurnsFit n ts

fit_append : (n : ℕ) (is js : List Turn) → TurnsFit n is → TurnsFit n js → TurnsFit n (is ++ js)
unfolding TurnsFit
fit_append n [] js f g = g
fit_append n (turn k p i ∷ is) js f g = (f.0, f.1, fit_append n is js f.2 g)

pub fit_first : (n : ℕ) (is js : List Turn) → TurnsFit n (is ++ js) → TurnsFit n is
unfolding TurnsFit
fit_first n [] js f = tt
fit_first n (turn k p i ∷ is) js f = (f.0, f.1, fit_first n is js f.2)

fit_items : (n k : ℕ) (p : Own) (is : List Item) → k < n → AllFit is → TurnsFit n (turns_of k p is)
unfolding TurnsFit AllFit turns_of
fit_items n k p [] l f = tt
fit_items n k p (i ∷ is) l f = (l, f.0, fit_items n k p is l f.1)

fit_tried : (w : Windows) (ss : List State) (ns : List ℕ) (q grant : ℕ) → TurnsFit (tasks_in ns) (tried_turns ns (call_of w ss ns q grant).given)
unfolding TurnsFit Fits
fit_tried w ss ns q grant = tried_by (TurnsFit (tasks_in ns)) ns tt (λ is k l h. fit_append (tasks_in ns) is _ h (l, tt, tt)) w ss q grant

once_below : (n : ℕ) (js : List ℕ) (k : ℕ) → Once n js → k < length js → get_or js k 0 < n
unfolding Once
once_below n [] k o l = absurd (omega arith)
once_below n (j ∷ js) zero o l = o.0
once_below n (j ∷ js) (suc k) o l = once_below n js k o.2 (omega arith)

fit_renamed : (n : ℕ) (js : List ℕ) (ts : List Turn) → Once n js → TurnsFit (length js) ts → TurnsFit n (renamed js ts)
unfolding TurnsFit renamed
fit_renamed n js [] o f = tt
fit_renamed n js (turn k p i ∷ ts) o f = (once_below n js k o f.0, f.1, fit_renamed n js ts o f.2)

pub call_fit : (hs : List Held) (w : Windows) (e : TaskEntry) (c : TaskMade) → FitsBy e c.reply c.count → TaskMeetsBy hs w e c
    → TurnsFit (length hs) (turns_by hs w e c.reply c.count)
unfolding FitsBy TaskMeetsBy turns_by
call_fit hs w (alone k e) c f m = fit_items (length hs) k (whole_of w) (asked_by e c.reply c.count) m.there f
call_fit hs w (together js e ns q grant) c f m = fit_renamed (length hs) js _ m.once (unfold turns_lent in (go (eqb c.reply 0) refl))
  where
    gs : List Held
    gs = lent_held hs js

    go : (b : Bool) → eqb c.reply 0 ≡ b → TurnsFit (length js) (cond b (tried_turns ns (call_of w (states_held gs) ns q grant).given) [])
    go true z = subst (λ (n : ℕ). TurnsFit n (tried_turns ns (call_of w (states_held gs) ns q grant).given))
        ((done_lengths gs w e ns q grant (lent_made js c) m.those (eqb-true _ _ z)).count ∙ picked_length (struct fresh) hs js) (fit_tried w (states_held gs) ns q grant)
    go false z = unfold TurnsFit in tt

pub chain_fit : (hs : List Held) (w : Windows) (cs : List TaskMade) → AllIntact hs → Bytes w → AllFitIn cs → TaskChain hs w cs → TurnsFit (length hs) (all_turns hs w cs)
unfolding TaskChain AllFitIn all_turns
chain_fit hs w [] h b f m = unfold TurnsFit in tt
chain_fit hs w (c ∷ cs) h b f m =
    let a : AsTurns hs w (turns_by hs w c.entry c.reply c.count) c.held c.window = call_made hs w c.entry c h b f.0 m.0 in
    fit_append (length hs) (turns_by hs w c.entry c.reply c.count) (all_turns c.held c.window cs) (call_fit hs w c.entry c f.0 m.0)
    (subst (λ (n : ℕ). TurnsFit n (all_turns c.held c.window cs)) a.count (chain_fit c.held c.window cs a.whole a.bytes f.1 m.1))

runs_ranged : (ts : List Turn) (bs ss : List State) (w : Windows) → TurnsFit (length bs) ts → Ranged bs ss w
    → Ranged bs (runs both studies ss w ts).state (runs both studies ss w ts).memory
unfolding TurnsFit runs
runs_ranged [] bs ss w f h = h
runs_ranged (turn k p i ∷ ts) bs ss w f h =
    runs_ranged ts bs (step_on both studies ss w (turn k p i)).state (step_on both studies ss w (turn k p i)).memory f.2 (turn_ranged p bs ss w k i f.1 f.0 h)

pub first_ranged : (hs : List Held) (w : Windows) → AllIntact hs → Bytes w → Ranged (states_held hs) (states_held hs) w
first_ranged hs w h b = record { count = refl; each = λ k l. first k l; bytes = b }
  where
    first : (k : ℕ) → k < length (states_held hs) → Stays (task_of (states_held hs) k) (task_of (states_held hs) k) w
    first k l =
        let i : Intact (held_by hs k) = h k (omega (arith, states_length hs)) in
        rw (task_held hs k) (record { range = record { sized = i.sized; words = i.words; bytes = b }; mask_same = refl })

pub held_ranged : (hs : List Held) (w : Windows) (ts : List Turn) → AllIntact hs → Bytes w → TurnsFit (length hs) ts
    → Ranged (states_held hs) (runs both studies (states_held hs) w ts).state (runs both studies (states_held hs) w ts).memory
held_ranged hs w ts h b f =
    runs_ranged ts (states_held hs) (states_held hs) w (subst (λ (n : ℕ). TurnsFit n ts) (sym (states_length hs)) f)
    (first_ranged hs w h b)
