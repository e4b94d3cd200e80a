-- What is hidden is not seen by the C functions: two lists of the same calls on what is shown alike try the same turns (CallTwins), and turns on states that
-- are seen alike leave such states and the same windows (crate task_model). What is held keeps its forms, which depend on the functions alone.
use Rattle.model.proofs.Prelude.{suc, zero, ℕ, ◌*◌, ◌<◌, head-eq_of_cons-eq, List, tail-eq_of_cons-eq, [], ◌++◌, ◌∷◌, ap, refl, subst, sym, ◌∙◌, ◌≡◌, dec_lt}
use Rattle.model.proofs.Prelude.{arith, get_or, length, get_or_eq_default, replicate, set, ext_get_or, Bytes, runs, both, Windows, fresh, SameSeen}
use Rattle.model.proofs.Prelude.{admissible_same, seen_of, length_part}
use Rattle.claims.proofs.Prelude.{State, put_back, studies, task_of, Turn, SameTasks, SameTurns, picked_length}
use Rattle.task_model.proofs.TasksUnseen.{tasks_unseen}
use Rattle.claims.specs.OneCall.{Held, struct, held_state, take_point, read_context', encode_refused, Entry, on_image, run_image, on_lent, on_parts, run_parts, decode, encode, looking, told_by, replied_by, LookMet, MeetsBy}
use Rattle.claims.proofs.Forms.{form, form_after, form_after_law}
use Rattle.claims.specs.TaskCalls.{held_by, states_held, images_held, lent_held, TaskEntry, alone, together, TaskMade, TaskMeetsBy, turns_by, FitsBy, tallies_by, task_replied_by, TaskChain, task_entries, tallies, task_last_held, task_last_window, AllFitIn}
use Rattle.claims.specs.HiddenCalls.{AllShown, every_reply, HiddenCalls}
use Rattle.claims.proofs.HeldLists.{AllIntact, all_intact, task_held, states_length}
use Rattle.claims.proofs.WholeTurns.{AsTurns}
use Rattle.claims.proofs.TaskChains.{call_made}
use Rattle.claims.proofs.CallTwins.{Level, SameMade, call_twin}
use Rattle.claims.proofs.BegunCalls.{made_too}
use Rattle.claims.proofs.Shown.{shown_seen, shown_form, seen_shown}

-- ---- the forms of what is held

unfoldable forms : List Held → List ℕ
forms [] = []
forms (h ∷ hs) = form h ∷ forms hs

forms_length : (hs : List Held) → length (forms hs) ≡ length hs
unfolding forms
forms_length [] = refl
forms_length (h ∷ hs) = ap suc (forms_length hs)

form_held : (hs : List Held) (k : ℕ) → get_or (forms hs) k 0 ≡ form (held_by hs k)
unfolding forms form
form_held [] k = refl
form_held (h ∷ hs) zero = refl
form_held (h ∷ hs) (suc k) = form_held hs k

forms_set : (hs : List Held) (k : ℕ) (g : Held) → forms (set hs k g) ≡ set (forms hs) k (form g)
unfolding forms
forms_set [] k g = refl
forms_set (h ∷ hs) zero g = refl
forms_set (h ∷ hs) (suc k) g = ap (λ (l : List ℕ). form h ∷ l) (forms_set hs k g)

forms_placed : (hs : List Held) (js : List ℕ) (gs : List Held) → forms (put_back hs js gs) ≡ put_back (forms hs) js (forms gs)
unfolding put_back forms
forms_placed hs [] gs = refl
forms_placed hs (j ∷ js) [] = refl
forms_placed hs (j ∷ js) (g ∷ gs) = forms_set (put_back hs js gs) j g ∙ ap (λ (l : List ℕ). set l j (form g)) (forms_placed hs js gs)

forms_images : (e : ℕ) (l : List ℕ) (n k : ℕ) → forms (images_held e l k n) ≡ replicate n (suc e)
unfolding forms images_held form
forms_images e l zero k = refl
forms_images e l (suc n) k = λ i. suc (length_part l (k * e) e i) ∷ forms_images e l n (suc k) i

-- after a call that found the forms fs
unfoldable forms_after : List ℕ → TaskEntry → List ℕ
forms_after fs (alone k e) = set fs k (form_after (get_or fs k 0) e)
forms_after fs (together js e ns q grant) = put_back fs js (replicate (length js) (suc e))

forms_after_law : (hs : List Held) (w : Windows) (e : TaskEntry) (c : TaskMade) → AllIntact hs → TaskMeetsBy hs w e c → forms c.held ≡ forms_after (forms hs) e
unfolding TaskMeetsBy forms_after
forms_after_law hs w (alone k e) c h m =
    ap forms m.others ∙ forms_set hs k (held_by c.held k)
    ∙ ap (set (forms hs) k) (form_after_law (held_by hs k) w e _ _ _ _ (h k m.there).sized m.contract ∙ ap (λ (f : ℕ). form_after f e) (sym (form_held hs k)))
forms_after_law hs w (together js e ns q grant) c h m =
    ap forms m.others ∙ forms_placed hs js (lent_held c.held js)
    ∙ ap (put_back (forms hs) js) (ap forms m.those.left ∙ forms_images e m.those.after (length (lent_held hs js)) 0
    ∙ ap (λ (n : ℕ). replicate n (suc e)) (picked_length (struct fresh) hs js))

-- ---- replies

-- that of mmix_context is of the windows alone
told_alike : (e : Entry) (g h i j : Held) (w v u : Windows) (r n q m : ℕ) → replied_by e r ≡ replied_by e q → MeetsBy g w e r n i v → MeetsBy h w e q m j u → r ≡ q
unfolding replied_by told_by MeetsBy LookMet
told_alike (on_image b f) g h i j w v u r n q m x c d = head-eq_of_cons-eq x
told_alike (run_image b grant) g h i j w v u r n q m x c d = head-eq_of_cons-eq x
told_alike (on_lent op y z o) g h i j w v u r n q m x c d = head-eq_of_cons-eq x
told_alike (on_parts f) g h i j w v u r n q m x c d = head-eq_of_cons-eq x
told_alike (run_parts grant) g h i j w v u r n q m x c d = head-eq_of_cons-eq x
told_alike decode g h i j w v u r n q m x c d = head-eq_of_cons-eq x
told_alike (encode b) g h i j w v u r n q m x c d = head-eq_of_cons-eq x
told_alike (looking (take_point b k o)) g h i j w v u r n q m x c d = head-eq_of_cons-eq x
told_alike (looking (read_context' p)) g h i j w v u r n q m x c d = c.0.contract.reply_is ∙ sym d.0.contract.reply_is
told_alike (looking (encode_refused b)) g h i j w v u r n q m x c d = head-eq_of_cons-eq x

reply_alike : (hs ks : List Held) (w : Windows) (e : TaskEntry) (c d : TaskMade) → task_replied_by e c.reply ≡ task_replied_by e d.reply
    → TaskMeetsBy hs w e c → TaskMeetsBy ks w e d → c.reply ≡ d.reply
unfolding task_replied_by TaskMeetsBy
reply_alike hs ks w (alone k e) c d x m n =
    told_alike e (held_by hs k) (held_by ks k) (held_by c.held k) (held_by d.held k) w c.window d.window c.reply c.count d.reply d.count x m.contract n.contract
reply_alike hs ks w (together js e ns q grant) c d x m n = head-eq_of_cons-eq x

-- ---- one call in each

-- what two hosts hold before a call
record TwoHosts (hs ks : List Held) : Type 0 where
  intact : AllIntact hs
  intact_too : AllIntact ks
  forms_same : forms hs ≡ forms ks
  tasks_same : SameTasks (states_held hs) (states_held ks)

counts_same : (hs ks : List Held) → TwoHosts hs ks → length hs ≡ length ks
counts_same hs ks h = sym (forms_length hs) ∙ ap length h.forms_same ∙ forms_length ks

level : (hs ks : List Held) (w : Windows) → TwoHosts hs ks → Bytes w → Level hs ks w w
level hs ks w h b = record {
  intact = h.intact;
  intact_too = h.intact_too;
  bytes = b;
  bytes_too = b;
  count_same = counts_same hs ks h;
  shapes_same = refl;
  admits = λ j. admissible_same (task_of (states_held hs) j).mask (task_of (states_held hs) j) (task_of (states_held ks) j) (seen_of _ _ (h.tasks_same.seen_same j));
}

record CallAlike (e : TaskEntry) (c d : TaskMade) : Type 0 where
  reply_same : c.reply ≡ d.reply
  tallies_same : tallies_by e c.count c.counts c.refusals ≡ tallies_by e d.count d.counts d.refusals
  window_same : c.window ≡ d.window
  alike : TwoHosts c.held d.held
  bytes : Bytes c.window

call_alike : (hs ks : List Held) (w : Windows) (e : TaskEntry) (c d : TaskMade) → TwoHosts hs ks → Bytes w → FitsBy e c.reply c.count
    → TaskMeetsBy hs w e c → TaskMeetsBy ks w e d → CallAlike e c d
call_alike hs ks w e c d h b f m n =
    let is : List Turn = turns_by hs w e c.reply c.count in
    let t : SameTurns (runs both studies (states_held hs) w is) (runs both studies (states_held ks) w is) = tasks_unseen.by_turns w (states_held hs) (states_held ks) is h.tasks_same in
    let one : SameMade e c d = call_twin hs ks w w e c d (level hs ks w h b) t.answers_same m n in
    let x : AsTurns hs w is c.held c.window = call_made hs w e c h.intact b f m in
    let y : AsTurns ks w is d.held d.window = made_too hs ks w w e c d (level hs ks w h b) f m n t.answers_same in
    record {
      reply_same = reply_alike hs ks w e c d one.reply_same m n;
      tallies_same = one.tallies_same;
      window_same = x.window_is ∙ t.memory_same ∙ sym y.window_is;
      alike = record {
        intact = x.whole;
        intact_too = y.whole;
        forms_same = forms_after_law hs w e c h.intact m ∙ ap (λ (fs : List ℕ). forms_after fs e) h.forms_same ∙ sym (forms_after_law ks w e d h.intact_too n);
        tasks_same = subst (λ (ss : List State). SameTasks ss (states_held d.held)) (sym x.states_are) (subst (SameTasks _) (sym y.states_are) t.tasks_same);
      };
      bytes = x.bytes;
    }

-- ---- the lists

record ChainsAlike (hs ks : List Held) (w : Windows) (cs ds : List TaskMade) : Type 0 where
  replies_same : every_reply cs ≡ every_reply ds
  tallies_same : tallies cs ≡ tallies ds
  window_same : task_last_window w cs ≡ task_last_window w ds
  alike : TwoHosts (task_last_held hs cs) (task_last_held ks ds)

chains_alike : (hs ks : List Held) (w : Windows) (cs ds : List TaskMade) → TwoHosts hs ks → Bytes w → AllFitIn cs → task_entries ds ≡ task_entries cs
    → TaskChain hs w cs → TaskChain ks w ds → ChainsAlike hs ks w cs ds
unfolding TaskChain AllFitIn task_entries every_reply tallies task_last_held task_last_window
chains_alike hs ks w [] [] h b f e m n = record { replies_same = refl; tallies_same = refl; window_same = refl; alike = h }
chains_alike hs ks w [] (d ∷ ds) h b f e m n = absurd (omega (arith, ap length e))
chains_alike hs ks w (c ∷ cs) [] h b f e m n = absurd (omega (arith, ap length e))
chains_alike hs ks w (c ∷ cs) (d ∷ ds) h b f e m n =
    let en : d.entry ≡ c.entry = head-eq_of_cons-eq e in
    let one : CallAlike c.entry c d = call_alike hs ks w c.entry c d h b f.0 m.0 (subst (λ (x : TaskEntry). TaskMeetsBy ks w x d) en n.0) in
    let r : ChainsAlike c.held d.held c.window cs ds
    = chains_alike c.held d.held c.window cs ds one.alike one.bytes f.1 (tail-eq_of_cons-eq e) m.1
    (subst (λ (v : Windows). TaskChain d.held v ds) (sym one.window_same) n.1) in
    record {
      replies_same = λ i. one.reply_same i ∷ r.replies_same i;
      tallies_same = λ i. (one.tallies_same ∙ ap (λ (x : TaskEntry). tallies_by x d.count d.counts d.refusals) (sym en)) i ++ r.tallies_same i;
      window_same = r.window_same ∙ ap (λ (v : Windows). task_last_window v ds) one.window_same;
      alike = r.alike;
    }

-- ---- what is held at first and at last

same_self : (s : State) → SameSeen s s
same_self s = record {
  general_same = refl;
  special_same = record { count_same = refl; seen_same = λ k f. refl };
  pc_same = refl;
  halt_same = refl;
  marks_same = refl;
  mask_same = refl;
}

shown_alike : (hs ks : List Held) → AllIntact hs → AllIntact ks → AllShown hs ks → TwoHosts hs ks
shown_alike hs ks i j h = record {
  intact = i;
  intact_too = j;
  forms_same = ext_get_or 0 (forms hs) (forms ks) (forms_length hs ∙ h.count_same ∙ sym (forms_length ks))
      (λ k l. form_held hs k ∙ shown_form (held_by hs k) (held_by ks k) (h.each_shown k (omega (arith, forms_length hs))) ∙ sym (form_held ks k));
  tasks_same = record { count_same = states_length hs ∙ h.count_same ∙ sym (states_length ks); seen_same = λ k. rw (task_held hs k, task_held ks k) (at k (dec_lt k (length hs))) };
}
  where
    at : (k : ℕ) → Dec (k < length hs) → SameSeen (held_state (held_by hs k)) (held_state (held_by ks k))
    at k (yes l) = shown_seen (held_by hs k) (held_by ks k) (h.each_shown k l)
    at k (no n) =
        rw (get_or_eq_default hs (struct fresh) {n = k} (omega arith), get_or_eq_default ks (struct fresh) {n = k} (omega (arith, h.count_same))) (same_self (held_state (struct fresh)))

alike_shown : (hs ks : List Held) → TwoHosts hs ks → AllShown hs ks
alike_shown hs ks h = record {
  count_same = counts_same hs ks h;
  each_shown = λ k l. seen_shown (held_by hs k) (held_by ks k) (h.intact k l) (h.intact_too k (omega (arith, counts_same hs ks h)))
      (sym (form_held hs k) ∙ ap (λ (fs : List ℕ). get_or fs k 0) h.forms_same ∙ form_held ks k)
      (rw (← (task_held hs k), ← (task_held ks k)) (h.tasks_same.seen_same k));
}

pub hidden_calls : HiddenCalls
hidden_calls hs ks w cs ds hf kf b f e m n shown =
    let r : ChainsAlike hs ks w cs ds = chains_alike hs ks w cs ds (shown_alike hs ks (all_intact hs hf) (all_intact ks kf) shown) b f e m n in
    record { replies_same = r.replies_same; tallies_same = r.tallies_same; window_same = r.window_same; held_shown = alike_shown (task_last_held hs cs) (task_last_held ks ds) r.alike }
