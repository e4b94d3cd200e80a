-- A list of calls is the list of the turns that it tried: answers and tallies; states and windows are TaskChains'.
use Rattle.model.proofs.Prelude.{ℕ, Bool, cond, false, true, List, [], ◌++◌, ◌∷◌, ◌≢◌, ap, refl, subst, sym, ◌∙◌, ◌≡◌, arith, eqb, replicate, ne_eqb, Bytes}
use Rattle.model.proofs.Prelude.{Ran, runs, both, Windows, mmix, runs_append}
use Rattle.claims.proofs.Prelude.{State, call_of, Tasked, tasks_in, tasks_most, whole_refused, worked, Given, studies, task_of, Turn, tried_answers}
use Rattle.claims.proofs.Prelude.{tried_turns, tasks_by, TasksPass, call_listed, Leaves, states_in}
use Rattle.claims.specs.OneCall.{Held, HeldIs, asked_by}
use Rattle.claims.proofs.OneCall.{after_call}
use Rattle.claims.specs.TaskCalls.{held_by, states_held, lent_held, lent_made, turns_lent, TaskEntry, alone, together, TaskMade, TogetherMet, TaskMeetsBy, turns_by, tallies_by, TaskChain, tallies, task_last_held, task_last_window, AllFitIn, all_turns}
use Rattle.claims.specs.TaskLists.{task_answered_by, task_answers, tallies_of, tallies_meant_by, tallies_meant, ListsOfTaskCalls}
use Rattle.claims.proofs.HeldLists.{AllIntact, all_intact, task_held, states_length}
use Rattle.claims.proofs.HeldImages.{Lengths}
use Rattle.claims.proofs.WholeTurns.{turns_do, AsTurns}
use Rattle.claims.proofs.Together.{pass_lengths}
use Rattle.claims.proofs.LentCalls.{lent_runs}
use Rattle.claims.proofs.TaskChains.{call_made, chain_made}

-- ---- one call

lent_answered : (gs : List Held) (w : Windows) (ns : List ℕ) (q grant r : ℕ)
    → cond (eqb r 0) (tried_answers (call_of w (states_held gs) ns q grant).given) [] ≡ (runs both studies (states_held gs) w (turns_lent gs w ns q grant r)).answers
unfolding turns_lent
lent_answered gs w ns q grant r = go (eqb r 0)
  where
    fs : List Given
    fs = (call_of w (states_held gs) ns q grant).given

    go : (b : Bool) → cond b (tried_answers fs) [] ≡ (runs both studies (states_held gs) w (cond b (tried_turns ns fs) [])).answers
    go true = sym (call_listed w (states_held gs) ns q grant).answers_are
    go false = unfold runs in refl

call_answered : (hs : List Held) (w : Windows) (e : TaskEntry) (c : TaskMade) → AllIntact hs → TaskMeetsBy hs w e c
    → task_answered_by hs w e c.reply c.count ≡ (runs both studies (states_held hs) w (turns_by hs w e c.reply c.count)).answers
unfolding task_answered_by turns_by TaskMeetsBy
call_answered hs w (alone k e) c h m =
    (after_call (held_by hs k) w e c.reply c.count (held_by c.held k) c.window (h k m.there) m.contract).answers_are
    ∙ ap (λ (s : State). (runs both mmix s w (asked_by e c.reply c.count)).answers) (sym (task_held hs k))
    ∙ sym (ap (λ (r : Ran (List State) Windows). r.answers) (turns_do k (states_held hs) w (asked_by e c.reply c.count) (rw (states_length hs) m.there)))
call_answered hs w (together js e ns q grant) c h m =
    lent_answered (lent_held hs js) w ns q grant c.reply ∙ sym (ap (λ (r : Ran (List State) Windows). r.answers) (lent_runs hs w js e ns q grant c m))

-- those that are lent
pub tallied_together : (hs : List Held) (w : Windows) (e : ℕ) (ns : List ℕ) (q grant : ℕ) (c : TaskMade) → TogetherMet hs w e ns q grant c
    → c.counts ++ c.refusals ≡ cond (eqb c.reply 0) (tallies_of (call_of w (states_held hs) ns q grant).given) (replicate tasks_most 0 ++ replicate tasks_most 0)
tallied_together hs w e ns q grant c m = tasks_by w taken ns q grant (λ t. Left t → Tallied) refused passed m.contract
  where
    taken : List State
    taken = states_in (tasks_in ns) m.before

    Left : Tasked → Type 0
    Left t = Leaves t (tasks_in ns) m.before c.reply m.after c.window c.counts c.refusals

    Tallied : Type 0
    Tallied = c.counts ++ c.refusals ≡ cond (eqb c.reply 0) (tallies_of (call_of w (states_held hs) ns q grant).given) (replicate tasks_most 0 ++ replicate tasks_most 0)

    refused : (r : ℕ) → r ≢ 0 → Left (whole_refused r w taken) → Tallied
    refused r z l = rw (l.reply_is, ne_eqb r 0 z, l.counts_are, l.refusals_are)

    passed : TasksPass w taken ns q grant → Left (worked (call_of w taken ns q grant)) → Tallied
    passed p l =
        let n : Lengths (tasks_in ns) e m.before hs = pass_lengths hs w e ns q grant c m p in
        (λ i. l.counts_are i ++ l.refusals_are i) ∙ ap (λ (ss : List State). tallies_of (call_of w ss ns q grant).given) n.states_are
        ∙ ap (λ (r : ℕ). cond (eqb r 0) (tallies_of (call_of w (states_held hs) ns q grant).given) (replicate tasks_most 0 ++ replicate tasks_most 0)) (sym l.reply_is)

pub call_tallied : (hs : List Held) (w : Windows) (e : TaskEntry) (c : TaskMade) → TaskMeetsBy hs w e c
    → tallies_by e c.count c.counts c.refusals ≡ tallies_meant_by hs w e c.reply c.count
unfolding tallies_by tallies_meant_by TaskMeetsBy
call_tallied hs w (alone k e) c m = refl
call_tallied hs w (together js e ns q grant) c m = tallied_together (lent_held hs js) w e ns q grant (lent_made js c) m.those

-- ---- the list

chain_answered : (hs : List Held) (w : Windows) (cs : List TaskMade) → AllIntact hs → Bytes w → AllFitIn cs → TaskChain hs w cs
    → task_answers hs w cs ≡ (runs both studies (states_held hs) w (all_turns hs w cs)).answers
unfolding TaskChain AllFitIn all_turns task_answers
chain_answered hs w [] h b f m = unfold runs in refl
chain_answered hs w (c ∷ cs) h b f m =
    let is : List Turn = turns_by hs w c.entry c.reply c.count in
    let js : List Turn = all_turns c.held c.window cs in
    let a : AsTurns hs w is c.held c.window = call_made hs w c.entry c h b f.0 m.0 in
    let x : task_answered_by hs w c.entry c.reply c.count ≡ (runs both studies (states_held hs) w is).answers = call_answered hs w c.entry c h m.0 in
    let y : task_answers c.held c.window cs ≡ (runs both studies (runs both studies (states_held hs) w is).state (runs both studies (states_held hs) w is).memory js).answers
    = chain_answered c.held c.window cs a.whole a.bytes f.1 m.1 ∙ (λ i. (runs both studies (a.states_are i) (a.window_is i) js).answers) in
    (λ i. x i ++ y i) ∙ sym (ap (λ (r : Ran (List State) Windows). r.answers) (runs_append both studies is js (states_held hs) w))

chain_tallied : (hs : List Held) (w : Windows) (cs : List TaskMade) → TaskChain hs w cs → tallies cs ≡ tallies_meant hs w cs
unfolding TaskChain tallies tallies_meant
chain_tallied hs w [] m = refl
chain_tallied hs w (c ∷ cs) m = λ i. call_tallied hs w c.entry c m.0 i ++ chain_tallied c.held c.window cs m.1 i

pub lists_of_task_calls : ListsOfTaskCalls
lists_of_task_calls hs w cs hf b f m =
    let h : AllIntact hs = all_intact hs hf in
    let a : AsTurns hs w (all_turns hs w cs) (task_last_held hs cs) (task_last_window w cs) = chain_made hs w cs h b f m in
    record {
      answers_are = chain_answered hs w cs h b f m;
      tallies_are = chain_tallied hs w cs m;
      states_are = a.states_are;
      held_are = λ k l. subst (HeldIs (held_by (task_last_held hs cs) k)) (sym (task_held (task_last_held hs cs) k) ∙ ap (λ (ss : List State). task_of ss k) a.states_are)
          (a.whole k (omega (arith, a.count))).back;
      count_same = a.count;
      window_is = a.window_is;
    }
