-- Demand 3 anywhere in the turns that a list of calls tried, from the turns' (crate task_model).
use Rattle.model.proofs.Prelude.{ℕ, ◌<◌, append-nil, List, [], ◌++◌, ◌∷◌, ap, subst, sym, ◌∙◌, ◌≡◌, ℕ_discrete, arith, get_or, length, SameOutside, Within, Bytes}
use Rattle.model.proofs.Prelude.{Ran, runs, both, shapes_of, Windows, admissible, reg, r_o, sp, admissible_alike, runs_append}
use Rattle.claims.proofs.Prelude.{State, AlikeThere, at_call, at_pop, caller_at, CallerThere, call_turn, CameBack, Cut, hole_at, pop_turn, PrivateThere}
use Rattle.claims.proofs.Prelude.{Reading, turns_cut, turns_to_pop, any_parts, Condition, OwnFrame, own_needs, TasksAlike, studies, task_of, Turn, turn_needs}
use Rattle.claims.proofs.Prelude.{any_claimed, anywhere_by, Claimed, own_claimed, to_pop, to_pop_memory, turns_shape, twice_by, cut_ends}
use Rattle.claims.specs.OneCall.{Held}
use Rattle.claims.specs.TaskCalls.{states_held, TaskMade, task_last_held, task_last_window, AllFitIn, all_turns}
use Rattle.claims.specs.TaskLists.{TasksCarried}
use Rattle.claims.specs.AnywhereCalls.{CallsBy, AnywhereCalls, AnywhereOwnCalls, TwoLists, CallsTwiceBy, AnywhereCallsTwice, AnywhereOwnCallsTwice}
use Rattle.claims.proofs.HeldLists.{AllIntact, all_intact, task_held, states_length}
use Rattle.claims.proofs.Ranges.{Ranged}
use Rattle.claims.proofs.TurnsRange.{TurnsFit, fit_first, chain_fit, held_ranged}
use Rattle.claims.proofs.TaskLists.{lists_of_task_calls}
use Rattle.claims.proofs.Begun.{Follows, follows_all}
use Rattle.claims.proofs.CallTwins.{held_admit, runs_count, Level, Answered}
use Rattle.claims.proofs.BegunCalls.{fits_too, answered_first, chain_follows, SameChains, chain_twins}

pub caller_there : (hs : List Held) (w : Windows) (k : Cut) (js : List Turn) → AllIntact hs → Bytes w → TurnsFit (length hs) (k.before ++ js) → k.task < length hs
    → CallerThere k (states_held hs) w
caller_there hs w k js h b f l =
    let r : Ranged (states_held hs) (at_call k (states_held hs) w).state (at_call k (states_held hs) w).memory = held_ranged hs w k.before h b (fit_first (length hs) k.before js f) in
    let there : k.task < length (at_call k (states_held hs) w).state = omega (arith, r.count, states_length hs) in
    record { there = there; sized = (r.each k.task there).range.sized; words = (r.each k.task there).range.words }

alike_admits : (c h : ℕ) (ss ts : List State) → TasksAlike c h ss ts → (j : ℕ) → admissible (task_of ss j) ≡ admissible (task_of ts j)
alike_admits c h ss ts a j = go (ℕ_discrete j c)
  where
    go : Dec (j ≡ c) → admissible (task_of ss j) ≡ admissible (task_of ts j)
    go (yes e) = rw e (admissible_alike (task_of ss c) (task_of ts c) a.caller.special_same a.caller.marks_same a.caller.mask_same)
    go (no n) = ap admissible (a.others j n)

pub calls_by : (parted : Condition) (needed : Reading) → Claimed parted needed → CallsBy parted needed
calls_by parted needed claimed hs w cs k hf b f m e l c pop =
    let h : AllIntact hs = all_intact hs hf in
    let ss : List State = states_held hs in
    let fits : TurnsFit (length hs) (turns_cut k) = subst (TurnsFit (length hs)) e (chain_fit hs w cs h b f m) in
    let back : CameBack k ss w = anywhere_by parted needed claimed k ss w (caller_there hs w k _ h b fits l) c pop in
    let t : TasksCarried hs w cs (runs both studies ss w (all_turns hs w cs)) = lists_of_task_calls hs w cs hf b f m in
    record {
      back = back.back;
      answer_is = ap (λ (xs : List ℕ). get_or xs (length (turns_to_pop k)) 1) (t.answers_are ∙ ap (λ (ts : List Turn). (runs both studies ss w ts).answers) e) ∙ back.answer_is;
      held_back = λ z i n. ap (λ (q : State). reg q i) (sym (task_held (task_last_held hs cs) k.task)
          ∙ ap (λ (qs : List State). task_of qs k.task) (t.states_are ∙ ap (λ (ts : List Turn). (runs both studies ss w ts).state) e ∙ cut_ends ss w k.before (call_turn k) k.list (pop_turn k) k.rest z))
          ∙ back.back.locals i n;
    }

pub anywhere_calls : AnywhereCalls
anywhere_calls = calls_by any_parts (λ c. turn_needs) any_claimed

pub anywhere_own_calls : AnywhereOwnCalls
anywhere_own_calls = calls_by OwnFrame own_needs own_claimed

-- ---- two lists

-- the first tried the turns up to the POP and then others: what both have before the lists, where these turns end, and of all that they tried
pub record Both (k : Cut) (hs ks : List Held) (w v : Windows) (cs ds : List TaskMade) : Type 0 where
  pub level : Level hs ks w v
  pub there : PrivateThere k k (states_held hs) (states_held ks) w v
  pub answered : Answered hs ks w v (turns_to_pop k)
  pub follows : Follows (Answered hs ks w v) (all_turns hs w cs) (all_turns ks v ds)
  pub carried : TasksCarried hs w cs (runs both studies (states_held hs) w (all_turns hs w cs))
  pub carried_too : TasksCarried ks v ds (runs both studies (states_held ks) v (all_turns ks v ds))

pub both_lists : (parted : Condition) (needed : Reading) → Claimed parted needed → (k : Cut) (then : List Turn) (hs ks : List Held) (w v : Windows) (cs ds : List TaskMade)
    → TwoLists parted needed k then hs ks w v cs ds → Both k hs ks w v cs ds
unfolding runs
both_lists parted needed claimed k then hs ks w v cs ds two =
    let h : AllIntact hs = all_intact hs two.fit in
    let i : AllIntact ks = all_intact ks two.fit_too in
    let bw : Bytes w = two.bytes in
    let bv : Bytes v = two.bytes_too in
    let f : AllFitIn cs = two.fits in
    let l : k.task < length hs = two.there in
    let a : AlikeThere k k (states_held hs) (states_held ks) w v = two.alike in
    let ss : List State = states_held hs in
    let ts : List State = states_held ks in
    let fit : TurnsFit (length hs) (turns_to_pop k) = fit_first (length hs) (turns_to_pop k) then (subst (TurnsFit (length hs)) two.turns_are (chain_fit hs w cs h bw f two.chain)) in
    let many : length hs ≡ length ks
    = sym (runs_count k.before ss w ∙ states_length hs) ∙ a.alike.count_same ∙ (runs_count k.before ts v ∙ states_length ks) in
    let fit_two : TurnsFit (length ks) (turns_to_pop k) = subst (λ (x : ℕ). TurnsFit x (turns_to_pop k)) many fit in
    let p : PrivateThere k k ss ts w v
    = twice_by parted needed claimed k k.before ss ts w v (caller_there hs w k _ h bw fit l) (caller_there ks v k _ i bv fit_two (omega (arith, many))) two.called a in
    let lev : Level hs ks w v
    = record {
      intact = h;
      intact_too = i;
      bytes = bw;
      bytes_too = bv;
      count_same = many;
      shapes_same = sym (turns_shape k.before ss w) ∙ ap shapes_of a.windows_same ∙ turns_shape k.before ts v;
      admits = λ j. sym (held_admit hs w k.before h bw (fit_first (length hs) k.before _ fit) j) ∙ alike_admits k.task (hole_at k ss w) _ _ a.alike j
          ∙ held_admit ks v k.before i bv (fit_first (length ks) k.before _ fit_two) j;
    } in
    record {
      level = lev;
      there = p;
      answered = ap (λ (r : Ran (List State) Windows). r.answers) (runs_append both studies k.before (call_turn k ∷ k.list) ss w)
          ∙ (λ j. two.before_same j ++ (sym p.call_same j ∷ p.answers_same j))
          ∙ sym (ap (λ (r : Ran (List State) Windows). r.answers) (runs_append both studies k.before (call_turn k ∷ k.list) ts v));
      follows = chain_follows hs ks w v cs ds lev f two.entries_same two.chain two.chain_too;
      carried = lists_of_task_calls hs w cs two.fit bw f two.chain;
      carried_too = lists_of_task_calls ks v ds two.fit_too bv (fits_too cs ds two.entries_same f) two.chain_too;
    }

pub calls_twice_by : (parted : Condition) (needed : Reading) → Claimed parted needed → CallsTwiceBy parted needed
calls_twice_by parted needed claimed k hs ks w v cs ds two =
    let ss : List State = states_held hs in
    let ts : List State = states_held ks in
    let b : Both k hs ks w v cs ds = both_lists parted needed claimed k [] hs ks w v cs ds two in
    let p : PrivateThere k k ss ts w v = b.there in
    let x : TasksCarried hs w cs (runs both studies ss w (all_turns hs w cs)) = b.carried in
    let y : TasksCarried ks v ds (runs both studies ts v (all_turns ks v ds)) = b.carried_too in
    let turns : all_turns hs w cs ≡ turns_to_pop k = two.turns_are ∙ append-nil (turns_to_pop k) in
    let all : Answered hs ks w v (all_turns hs w cs) = subst (Answered hs ks w v) (sym turns) b.answered in
    let its : all_turns ks v ds ≡ turns_to_pop k = follows_all (Answered hs ks w v) (answered_first hs ks w v) (all_turns hs w cs) (all_turns ks v ds) b.follows all ∙ turns in
    let same : SameChains cs ds = chain_twins hs ks w v cs ds b.level two.fits two.entries_same two.chain two.chain_too all in
    let window_a : task_last_window w cs ≡ (at_pop k ss w).memory = x.window_is ∙ ap (λ (is : List Turn). (runs both studies ss w is).memory) turns ∙ to_pop_memory k ss w in
    let window_b : task_last_window v ds ≡ (at_pop k ts v).memory = y.window_is ∙ ap (λ (is : List Turn). (runs both studies ts v is).memory) its ∙ to_pop_memory k ts v in
    record {
      turns_same = turns ∙ sym its;
      replies_same = same.replies_same;
      tallies_same = same.tallies_same;
      answers_same = x.answers_are ∙ ap (λ (is : List Turn). (runs both studies ss w is).answers) turns ∙ b.answered
          ∙ sym (y.answers_are ∙ ap (λ (is : List Turn). (runs both studies ts v is).answers) its);
      states_same = x.states_are ∙ ap (λ (is : List Turn). (runs both studies ss w is).state) turns ∙ to_pop k ss w ∙ p.states_same
          ∙ sym (y.states_are ∙ ap (λ (is : List Turn). (runs both studies ts v is).state) its ∙ to_pop k ts v);
      window_same = subst (λ (z : Windows). SameOutside (Within (sp (caller_at k ss w) r_o) (hole_at k ss w)) z (task_last_window v ds)) (sym window_a)
          (subst (SameOutside (Within (sp (caller_at k ss w) r_o) (hole_at k ss w)) (at_pop k ss w).memory) (sym window_b) p.window_same);
    }

pub anywhere_calls_twice : AnywhereCallsTwice
anywhere_calls_twice = calls_twice_by any_parts (λ c. turn_needs) any_claimed

pub anywhere_own_calls_twice : AnywhereOwnCallsTwice
anywhere_own_calls_twice = calls_twice_by OwnFrame own_needs own_claimed
