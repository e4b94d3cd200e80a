-- The caller's own part in a list of calls: the turns of mmix_tasks stand each on its task's part, and 33 lets none overlap; so none of another task's turns
-- reaches the caller's part, and demand 3 asks of the caller's own needs alone.
use Rattle.model.proofs.Prelude.{ℕ, ◌<◌, Bool, cond, false, true, List, [], ◌++◌, ◌∷◌, inl, inr, ◌≢◌, ◌⊎◌, ap, refl, subst, sym, ◌∙◌, ◌≡◌, arith, eqb, get_or}
use Rattle.model.proofs.Prelude.{length, eqb-true, Ran, runs, both, shapes_of, Windows, fresh, Item}
use Rattle.claims.proofs.Prelude.{State, CalledThere, Cut, pop_turn, turns_to_pop, part_at, tasks_in, tasks_ruled, CalledIn, turns_tried, renamed, Disjoint}
use Rattle.claims.proofs.Prelude.{OthersKept, OwnFrame, own_needs, PartsApart, turn_on, Own, studies, Turn, turn, tasks_by, picked_length, apart_append}
use Rattle.claims.proofs.Prelude.{parts_meant, states_in}
use Rattle.task_model.proofs.OthersKept.{none_alters_another}
use Rattle.task_model.proofs.CallApart.{OnParts, on_tried, apart_last, list_apart_by, cut_at, called_there}
use Rattle.claims.specs.OneCall.{Held, struct, asked_by}
use Rattle.claims.specs.TaskCalls.{states_held, lent_held, lent_made, LentMet, TogetherMet, whole_of, turns_of, turns_lent, turns_by, TaskEntry, alone, together, TaskMade, TaskMeetsBy, TaskChain, all_turns}
use Rattle.claims.specs.OwnCalls.{HasPart, PartLent, PartsLent, OwnPartCalls}
use Rattle.claims.proofs.Together.{done_lengths}
use Rattle.claims.proofs.AnywhereCalls.{anywhere_own_calls}

-- ---- mmix_tasks

-- one that replied 0 passed 33
done_ruled : (gs : List Held) (w : Windows) (e : ℕ) (ns : List ℕ) (q grant : ℕ) (c : TaskMade) → TogetherMet gs w e ns q grant c → c.reply ≡ 0
    → tasks_ruled (shapes_of w).b.size ns q ≡ true
done_ruled gs w e ns q grant c m z =
    tasks_by w (states_in (tasks_in ns) m.before) ns q grant (λ t. t.reply ≡ 0 → tasks_ruled (shapes_of w).b.size ns q ≡ true) (λ r n y. absurd (n y)) (λ p y. p.tasks_ruled')
    (sym m.contract.reply_is ∙ z)

module _ (p : Own) (c : ℕ) where
  -- turns on parts, those of other tasks than c on parts that have no byte of p
  renamed_apart : (js ns : List ℕ) (ts : List Turn) → ((i : ℕ) → i < tasks_in ns → get_or js i 0 ≢ c → Disjoint p (part_at ns i)) → OnParts ns ts → PartsApart p c (renamed js ts)
  unfolding renamed PartsApart OnParts
  renamed_apart js ns [] h f = tt
  renamed_apart js ns (turn k r i ∷ ts) h f = (λ n. subst (Disjoint p) (sym f.1) (h k f.0 n), renamed_apart js ns ts h f.2)

  -- turns of c itself
  own_apart : (k : ℕ) (r : Own) (is : List Item) → k ≡ c → PartsApart p c (turns_of k r is)
  unfolding turns_of PartsApart
  own_apart k r [] e = tt
  own_apart k r (i ∷ is) e = (λ n. absurd (n e), own_apart k r is e)

  module _ (hs : List Held) (w : Windows) (js : List ℕ) (e : ℕ) (ns : List ℕ) (q grant : ℕ) (d : TaskMade) (m : LentMet hs w js e ns q grant d) where
    -- as many parts as tasks that are lent
    lent_many : d.reply ≡ 0 → tasks_in ns ≡ length js
    lent_many z = (done_lengths (lent_held hs js) w e ns q grant (lent_made js d) m.those z).count ∙ picked_length (struct fresh) hs js

    part_apart : HasPart p c js ns ⊎ ((i : ℕ) → i < length js → Disjoint p (part_at ns i)) → d.reply ≡ 0
        → (i : ℕ) → i < tasks_in ns → get_or js i 0 ≢ c → Disjoint p (part_at ns i)
    part_apart (inl h) z i l n =
        subst (λ (r : Own). Disjoint r (part_at ns i)) h.part_is
        (parts_meant.disjoint (shapes_of w).b.size ns q (done_ruled (lent_held hs js) w e ns q grant (lent_made js d) m.those z) h.place i
        (omega (arith, lent_many z, h.place_below)) l (λ x. n (ap (λ (y : ℕ). get_or js y 0) (sym x) ∙ h.names)))
    part_apart (inr h) z i l n = h i (omega (arith, lent_many z))

    lent_apart : HasPart p c js ns ⊎ ((i : ℕ) → i < length js → Disjoint p (part_at ns i)) → PartsApart p c (renamed js (turns_lent (lent_held hs js) w ns q grant d.reply))
    unfolding turns_lent
    lent_apart h = go (eqb d.reply 0) refl
      where
        go : (b : Bool) → eqb d.reply 0 ≡ b → PartsApart p c (renamed js (cond b (turns_tried w (states_held (lent_held hs js)) ns q grant) []))
        go true z = renamed_apart js ns _ (part_apart h (eqb-true _ _ z)) (on_tried w (states_held (lent_held hs js)) ns q grant)
        go false z = unfold renamed PartsApart in tt

  -- ---- a list of calls

  call_apart : (hs : List Held) (w : Windows) (e : TaskEntry) (d : TaskMade) → TaskMeetsBy hs w e d → PartLent p c e → PartsApart p c (turns_by hs w e d.reply d.count)
  unfolding TaskMeetsBy PartLent turns_by
  call_apart hs w (alone k e) d m h = own_apart k (whole_of w) (asked_by e d.reply d.count) h
  call_apart hs w (together js e ns q grant) d m h = lent_apart hs w js e ns q grant d m h

  chain_apart : (hs : List Held) (w : Windows) (cs : List TaskMade) → TaskChain hs w cs → PartsLent p c cs → PartsApart p c (all_turns hs w cs)
  unfolding TaskChain PartsLent all_turns
  chain_apart hs w [] m h = unfold PartsApart in tt
  chain_apart hs w (d ∷ ds) m h =
      apart_append p c (turns_by hs w d.entry d.reply d.count) (all_turns d.held d.window ds) (call_apart hs w d.entry d m.0 h.0)
      (chain_apart d.held d.window ds m.1 h.1)

-- ---- the theorem

swapped : (p r : Own) → Disjoint p r → Disjoint r p
swapped p r (inl h) = inr (inl h)
swapped p r (inr (inl h)) = inl h
swapped p r (inr (inr (inl h))) = inr (inr (inr h))
swapped p r (inr (inr (inr h))) = inr (inr (inl h))

-- the turn after some others
next_apart : (p : Own) (c : ℕ) (is : List Turn) (k : ℕ) (r : Own) (i : Item) (js : List Turn) → PartsApart p c (is ++ (turn k r i ∷ js)) → k ≢ c → Disjoint p r
next_apart p c is k r i js f = go (apart_last p c is (turn k r i ∷ js) f)
  where
    go : PartsApart p c (turn k r i ∷ js) → k ≢ c → Disjoint p r
    go g = unfold PartsApart in g.0

own_called : (p : Own) (c : ℕ) (ss : List State) (w : Windows) (ts : List Turn) → PartsApart p c ts → (k : Cut) (after : List Turn) → k.task ≡ c → k.part ≡ p
    → ts ≡ turns_to_pop k ++ after → CalledIn k ss w → CalledThere k ss w OwnFrame own_needs
own_called p c ss w ts apart k after e f t called =
    called_there k ss w
    (subst (λ (x : ℕ). PartsApart k.part x k.list) (sym e) (subst (λ (x : Own). PartsApart x c k.list) (sym f) (list_apart_by p c k after (subst (PartsApart p c) t apart)))) called

pub own_part_calls : OwnPartCalls
own_part_calls p c hs w cs l hf b f m h =
    let apart : PartsApart p c (all_turns hs w cs) = chain_apart p c hs w cs m h in
    record {
      turns_apart = apart;
      others_kept = λ al before k r i rest t n.
          let x : Ran (List State) Windows = runs both studies (states_held hs) w before in
          let o : OthersKept x.memory x.state k r (turn_on r x.memory x.state k i) = none_alters_another x.memory x.state k r i in
          record {
            state_kept = o.state_kept c n;
            part_kept = o.part_kept p (swapped p r (next_apart p c before k r i rest (subst (PartsApart p c) t apart) (λ e. n (sym e)))) al;
          };
      called_own = own_called p c (states_held hs) w (all_turns hs w cs) apart;
      comes_back = λ k e g t called pop.
          anywhere_own_calls hs w cs k hf b f m t (rw e l) (own_called p c (states_held hs) w (all_turns hs w cs) apart k (pop_turn k ∷ k.rest) e g (t ∙ cut_at k) called) pop;
    }
