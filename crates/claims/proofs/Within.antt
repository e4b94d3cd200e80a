-- Demand 3 in two lists of calls of which the first goes on after the turns before the POP: they may end inside a call of C.
use Rattle.model.proofs.Prelude.{suc, zero, ℕ, append_assoc, List, [], ◌++◌, ◌∷◌, ap, refl, subst, sym, ◌∙◌, ◌≡◌, get_or, length, take, take_at, Ran, runs}
use Rattle.model.proofs.Prelude.{step_on, both, Windows, runs_append, splits}
use Rattle.claims.proofs.Prelude.{State, CameBack, pop_turn, Reading, turns_to_pop, any_parts, Condition, OwnFrame, own_needs, studies, Turn, turn_needs}
use Rattle.claims.proofs.Prelude.{any_claimed, Claimed, own_claimed, to_pop, to_pop_memory}
use Rattle.claims.specs.OneCall.{Held}
use Rattle.claims.specs.TaskCalls.{states_held, TaskEntry, TaskMade, TaskChain, task_entries, AllFitIn, all_turns}
use Rattle.claims.specs.AnywhereCalls.{Begins, CallsWithinBy, AnywhereCallsWithin, AnywhereOwnCallsWithin}
use Rattle.claims.proofs.Begun.{Follows, follows_first, follows_begins}
use Rattle.claims.proofs.CallTwins.{Answered}
use Rattle.claims.proofs.BegunCalls.{answered_first, SameChains, chain_twins}
use Rattle.claims.proofs.AnywhereCalls.{Both, both_lists}

-- ---- the first n calls

fits_take : (n : ℕ) (cs : List TaskMade) → AllFitIn cs → AllFitIn (take n cs)
unfolding AllFitIn
fits_take zero cs f = tt
fits_take (suc n) [] f = tt
fits_take (suc n) (c ∷ cs) f = (f.0, fits_take n cs f.1)

chain_take : (n : ℕ) (hs : List Held) (w : Windows) (cs : List TaskMade) → TaskChain hs w cs → TaskChain hs w (take n cs)
unfolding TaskChain
chain_take zero hs w cs m = tt
chain_take (suc n) hs w [] m = tt
chain_take (suc n) hs w (c ∷ cs) m = (m.0, chain_take n c.held c.window cs m.1)

entries_take : (n : ℕ) (cs : List TaskMade) → task_entries (take n cs) ≡ take n (task_entries cs)
unfolding task_entries
entries_take zero cs = refl
entries_take (suc n) [] = refl
entries_take (suc n) (c ∷ cs) = ap (λ (es : List TaskEntry). c.entry ∷ es) (entries_take n cs)

-- ---- answers to the first turns of a list, and to the next

first_answers : (ss : List State) (w : Windows) (is js : List Turn) → take (length is) (runs both studies ss w (is ++ js)).answers ≡ (runs both studies ss w is).answers
first_answers ss w is js =
    ap (λ (r : Ran (List State) Windows). take (length is) r.answers) (runs_append both studies is js ss w) ∙ take_at _ _ (length is) ((splits both studies).answers_many ss w is)

next_is : (us is : List Turn) (t : Turn) (b : Begins us (is ++ (t ∷ []))) → us ≡ is ++ (t ∷ b.rest)
next_is us is t b = b.turns_are ∙ append_assoc is (t ∷ []) b.rest

pub calls_within_by : (parted : Condition) (needed : Reading) → Claimed parted needed → CallsWithinBy parted needed
calls_within_by parted needed claimed k then hs ks w v cs ds two =
    let ss : List State = states_held hs in
    let ts : List State = states_held ks in
    let is : List Turn = turns_to_pop k in
    let A : List Turn → Type 0 = Answered hs ks w v in
    let b : Both k hs ks w v cs ds = both_lists parted needed claimed k then hs ks w v cs ds two in
    let too : Begins (all_turns ks v ds) is
    = follows_first A (answered_first hs ks w v) is then (all_turns ks v ds) (subst (λ (us : List Turn). Follows A us (all_turns ks v ds)) two.turns_are b.follows) b.answered in
    let next : (t : Turn) → Begins (all_turns hs w cs) (is ++ (t ∷ [])) → Begins (all_turns ks v ds) (is ++ (t ∷ []))
    = λ t m. follows_begins A (answered_first hs ks w v) is t m.rest (all_turns ks v ds)
    (subst (λ (us : List Turn). Follows A us (all_turns ks v ds)) (next_is (all_turns hs w cs) is t m) b.follows) b.answered in
    record {
      turns_too = too;
      next_too = next;
      answers_same = ap (take (length is)) (b.carried.answers_are ∙ ap (λ (us : List Turn). (runs both studies ss w us).answers) two.turns_are) ∙ first_answers ss w is then
          ∙ b.answered
          ∙ sym (ap (take (length is)) (b.carried_too.answers_are ∙ ap (λ (us : List Turn). (runs both studies ts v us).answers) too.turns_are) ∙ first_answers ts v is too.rest);
      states_same = b.there.states_same;
      window_same = b.there.window_same;
      calls_same = λ n m.
          let same : SameChains (take n cs) (take n ds)
          = chain_twins hs ks w v (take n cs) (take n ds) b.level (fits_take n cs two.fits)
          (entries_take n ds ∙ ap (take n) two.entries_same ∙ sym (entries_take n cs)) (chain_take n hs w cs two.chain) (chain_take n ks v ds two.chain_too)
          (answered_first hs ks w v (all_turns hs w (take n cs)) m.rest (subst A m.turns_are b.answered)) in
          (same.replies_same, same.tallies_same);
      second_back = λ m pops.
          let back : CameBack k ts v = b.there.second_back pops in
          let n : Begins (all_turns ks v ds) (is ++ (pop_turn k ∷ [])) = next (pop_turn k) m in (
            back.back,
            ap (λ (xs : List ℕ). get_or xs (length is) 1) (b.carried_too.answers_are ∙ ap (λ (us : List Turn). (runs both studies ts v us).answers) (next_is (all_turns ks v ds) is (pop_turn k) n))
                ∙ (splits both studies).answer_at ts v is (pop_turn k) n.rest 1 ∙ (λ i. (step_on both studies (to_pop k ts v i) (to_pop_memory k ts v i) (pop_turn k)).reply) ∙ back.back.done,
          );
    }

pub anywhere_calls_within : AnywhereCallsWithin
anywhere_calls_within = calls_within_by any_parts (λ c. turn_needs) any_claimed

pub anywhere_own_calls_within : AnywhereOwnCallsWithin
anywhere_own_calls_within = calls_within_by OwnFrame own_needs own_claimed
