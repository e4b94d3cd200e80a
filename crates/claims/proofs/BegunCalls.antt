-- Two lists of calls of the same functions: the turns that the second tried follow those of the first; where these have the same answers, they are the same turns,
-- with the same replies and tallies.
use Rattle.model.proofs.Prelude.{suc, zero, ℕ, cond, head-eq_of_cons-eq, List, tail-eq_of_cons-eq, [], ◌++◌, ◌∷◌, ap, refl, subst, sym, ◌∙◌, ◌≡◌, arith, eqb}
use Rattle.model.proofs.Prelude.{get_or, length, replicate, Fits, runs, both, shapes_of, Windows, admissible, Sized, fetched, Item, mmix, on, by_test}
use Rattle.claims.proofs.Prelude.{State, renamed, TurnsBelow, Own, studies, task_of, Turn, turn, turns_shape}
use Rattle.claims.specs.OneCall.{Held, held_state, Entry, on_image, run_image, on_lent, on_parts, run_parts, decode, encode, looking, tried_items, asked_by, MeetsBy}
use Rattle.claims.specs.Calls.{AllFit}
use Rattle.claims.proofs.OneCall.{Intact, Counted, image_counted, parts_counted}
use Rattle.claims.specs.TaskCalls.{held_by, states_held, lent_held, lent_made, turns_lent, TaskEntry, alone, together, TaskMade, TaskMeetsBy, whole_of, turns_of, turns_by, FitsBy, tallies_by, task_replied_by, TaskChain, task_entries, task_replies, tallies, AllFitIn, all_turns}
use Rattle.claims.proofs.WholeTurns.{AsTurns}
use Rattle.claims.proofs.LentCalls.{lent_below}
use Rattle.claims.proofs.TaskChains.{call_made}
use Rattle.claims.proofs.TurnsRange.{TurnsFit, call_fit}
use Rattle.claims.proofs.Twins.{answers_both}
use Rattle.claims.proofs.Begun.{Follows, follows_same, follows_append, follows_by, follows_where, follows_all, Alike, alike_first, ran_follows}
use Rattle.claims.proofs.BegunTurns.{given_follows}
use Rattle.claims.proofs.CallTwins.{held_admit, Level, SameMade, Answered, wholes_same, alone_answers, alone_admits, replies_same, lent_level, lent_answers, call_twin}

-- ---- a function on what one task holds

counted_follows : (grant : ℕ) (s : State) (v : Windows) (t : State) (u : Windows) (r n q m : ℕ) → Sized s → Sized t → admissible s ≡ admissible t → shapes_of v ≡ shapes_of u
    → Counted s v grant r n → Counted t u grant q m → Follows (Alike mmix s v t u) (tried_items r n) (tried_items q m)
counted_follows grant s v t u r n q m y z a e c d = rw (c.reply_is, c.count_is, d.reply_is, d.count_is) (ran_follows grant s v t u y z a e)

entry_follows : (e : Entry) (g k i j : Held) (v u w x : Windows) (r n q m : ℕ) → Intact g → Intact k → admissible (held_state g) ≡ admissible (held_state k) → shapes_of v ≡ shapes_of u
    → MeetsBy g v e r n i w → MeetsBy k u e q m j x → Follows (Alike mmix (held_state g) v (held_state k) u) (asked_by e r n) (asked_by e q m)
unfolding asked_by
entry_follows (on_image b f) g k i j v u w x r n q m hg hk a s c d = follows_same _ _
entry_follows (run_image b grant) g k i j v u w x r n q m hg hk a s c d =
    counted_follows grant (held_state g) v (held_state k) u r n q m hg.sized hk.sized a s (image_counted g v b grant r n i w hg c) (image_counted k u b grant q m j x hk d)
entry_follows (on_lent op y z o) g k i j v u w x r n q m hg hk a s c d = follows_same _ _
entry_follows (on_parts f) g k i j v u w x r n q m hg hk a s c d = follows_same _ _
entry_follows (run_parts grant) g k i j v u w x r n q m hg hk a s c d =
    counted_follows grant (held_state g) v (held_state k) u r n q m hg.sized hk.sized a s (parts_counted g v grant r n i w c) (parts_counted k u grant q m j x d)
entry_follows decode g k i j v u w x r n q m hg hk a s c d = follows_same _ _
entry_follows (encode b) g k i j v u w x r n q m hg hk a s c d = follows_same _ _
entry_follows (looking l) g k i j v u w x r n q m hg hk a s c d = follows_same _ _

-- ---- mmix_tasks

lents_follow : (gs ls : List Held) (w v : Windows) (ns : List ℕ) (q grant r s : ℕ) → r ≡ s
    → Follows (Answered gs ls w v) (turns_lent gs w ns q grant r) (turns_lent ls v ns q grant s)
unfolding turns_lent
lents_follow gs ls w v ns q grant r s e =
    by_test (Follows (Answered gs ls w v)) (eqb r 0) (eqb s 0) (λ i. eqb (e i) 0) (λ z. given_follows w v (states_held gs) (states_held ls) ns q grant) (λ z. follows_same (Answered gs ls w v) [])

below_first : (n : ℕ) (is js : List Turn) → TurnsBelow n (is ++ js) → TurnsBelow n is
unfolding TurnsBelow
below_first n [] js f = tt
below_first n (turn k p i ∷ is) js f = (f.0, below_first n is js f.1)

unfoldable named : List ℕ → Turn → Turn
named js (turn k p i) = turn (get_or js k 0) p i

renamed_cons : (js : List ℕ) (t : Turn) (ts : List Turn) → renamed js (t ∷ ts) ≡ named js t ∷ renamed js ts
unfolding renamed named
renamed_cons js (turn k p i) ts = refl

-- ---- one call

call_follows : (hs ks : List Held) (w v : Windows) (e : TaskEntry) (c d : TaskMade) → Level hs ks w v → TaskMeetsBy hs w e c → TaskMeetsBy ks v e d
    → Follows (Answered hs ks w v) (turns_by hs w e c.reply c.count) (turns_by ks v e d.reply d.count)
unfolding TaskMeetsBy turns_by
call_follows hs ks w v (alone k e) c d lev mc md =
    let is : List Item = asked_by e c.reply c.count in
    let js : List Item = asked_by e d.reply d.count in
    subst (λ (p : Own). Follows (Answered hs ks w v) (turns_of k (whole_of w) is) (turns_of k p js)) (wholes_same w v lev.shapes_same)
    (follows_by (turns_of k (whole_of w)) (turn k (whole_of w)) (unfold turns_of in refl) (λ i l. unfold turns_of in refl)
    (Alike mmix (held_state (held_by hs k)) w (held_state (held_by ks k)) v) (Answered hs ks w v) is js
    (λ ps rs z. alone_answers hs ks w v k lev mc.there md.there ps)
    (entry_follows e (held_by hs k) (held_by ks k) (held_by c.held k) (held_by d.held k) w v c.window d.window c.reply c.count d.reply d.count
    (lev.intact k mc.there) (lev.intact_too k md.there) (alone_admits hs ks w v k lev) lev.shapes_same mc.contract md.contract))
call_follows hs ks w v (together js e ns q grant) c d lev mc md =
    let gs : List Held = lent_held hs js in
    let ls : List Held = lent_held ks js in
    let is : List Turn = turns_lent gs w ns q grant c.reply in
    follows_by (renamed js) (named js) (unfold renamed in refl) (renamed_cons js) (Answered gs ls w v) (Answered hs ks w v) is (turns_lent ls v ns q grant d.reply)
    (λ ps rs z. lent_answers hs ks w v js mc.once md.once ps (below_first (length js) ps rs (subst (TurnsBelow (length js)) z (lent_below hs w js e ns q grant c mc))))
    (lents_follow gs ls w v ns q grant c.reply d.reply
    (replies_same gs ls w v e ns q grant (lent_made js c) (lent_made js d) (lent_level hs ks w v js mc.once md.once lev) mc.those md.those))

-- ---- what fits C's types in one list fits in the other: it is no matter of replies and counts

all_fetched : (n : ℕ) → AllFit (replicate n fetched)
unfolding AllFit Fits
all_fetched zero = tt
all_fetched (suc n) = (tt, all_fetched n)

pub tried_fit : (r n : ℕ) → AllFit (tried_items r n)
unfolding tried_items
tried_fit r n = on {A = List Item} AllFit (eqb r 25) (λ e. all_fetched 0) (λ e. all_fetched (cond (eqb r 0) n (suc n)))

asked_fit : (e : Entry) (r n q m : ℕ) → AllFit (asked_by e r n) → AllFit (asked_by e q m)
unfolding asked_by
asked_fit (on_image b i) r n q m f = f
asked_fit (run_image b grant) r n q m f = tried_fit q m
asked_fit (on_lent op x y z) r n q m f = f
asked_fit (on_parts i) r n q m f = f
asked_fit (run_parts grant) r n q m f = tried_fit q m
asked_fit decode r n q m f = f
asked_fit (encode b) r n q m f = f
asked_fit (looking l) r n q m f = f

call_fits_too : (e : TaskEntry) (r n q m : ℕ) → FitsBy e r n → FitsBy e q m
unfolding FitsBy
call_fits_too (alone k e) r n q m f = asked_fit e r n q m f
call_fits_too (together js e ns q grant) r n s m f = f

pub fits_too : (cs ds : List TaskMade) → task_entries ds ≡ task_entries cs → AllFitIn cs → AllFitIn ds
unfolding task_entries AllFitIn
fits_too [] [] e f = tt
fits_too [] (d ∷ ds) e f = absurd (omega (arith, ap length e))
fits_too (c ∷ cs) [] e f = absurd (omega (arith, ap length e))
fits_too (c ∷ cs) (d ∷ ds) e f = (
  subst (λ (x : TaskEntry). FitsBy x d.reply d.count) (sym (head-eq_of_cons-eq e)) (call_fits_too c.entry c.reply c.count d.reply d.count f.0),
  fits_too cs ds (tail-eq_of_cons-eq e) f.1,
)

-- ---- after a call whose turns have the same answers

record Next (hs ks : List Held) (w v : Windows) (is : List Turn) (c d : TaskMade) : Type 0 where
  level : Level c.held d.held c.window d.window
  answers : (js : List Turn) → Answered hs ks w v (is ++ js) → Answered c.held d.held c.window d.window js

pub answered_first : (hs ks : List Held) (w v : Windows) (is js : List Turn) → Answered hs ks w v (is ++ js) → Answered hs ks w v is
answered_first hs ks w v = alike_first studies (states_held hs) w (states_held ks) v

-- the second call leaves what the first's turns leave from there
pub made_too : (hs ks : List Held) (w v : Windows) (e : TaskEntry) (c d : TaskMade) → Level hs ks w v → FitsBy e c.reply c.count → TaskMeetsBy hs w e c → TaskMeetsBy ks v e d
    → Answered hs ks w v (turns_by hs w e c.reply c.count) → AsTurns ks v (turns_by hs w e c.reply c.count) d.held d.window
made_too hs ks w v e c d lev f mc md ans =
    subst (λ (ts : List Turn). AsTurns ks v ts d.held d.window)
    (follows_all (Answered hs ks w v) (answered_first hs ks w v) (turns_by hs w e c.reply c.count) _ (call_follows hs ks w v e c d lev mc md) ans)
    (call_made ks v e d lev.intact_too lev.bytes_too (call_fits_too e c.reply c.count d.reply d.count f) md)

call_next : (hs ks : List Held) (w v : Windows) (e : TaskEntry) (c d : TaskMade) → Level hs ks w v → FitsBy e c.reply c.count → TaskMeetsBy hs w e c → TaskMeetsBy ks v e d
    → Answered hs ks w v (turns_by hs w e c.reply c.count) → Next hs ks w v (turns_by hs w e c.reply c.count) c d
call_next hs ks w v e c d lev f mc md ans =
    let is : List Turn = turns_by hs w e c.reply c.count in
    let a : AsTurns hs w is c.held c.window = call_made hs w e c lev.intact lev.bytes f mc in
    let b : AsTurns ks v is d.held d.window = made_too hs ks w v e c d lev f mc md ans in
    let fit : TurnsFit (length hs) is = call_fit hs w e c f mc in
    let fit_two : TurnsFit (length ks) is = subst (λ (x : ℕ). TurnsFit x is) lev.count_same fit in
    record {
      level = record {
        intact = a.whole;
        intact_too = b.whole;
        bytes = a.bytes;
        bytes_too = b.bytes;
        count_same = a.count ∙ lev.count_same ∙ sym b.count;
        shapes_same = ap shapes_of a.window_is ∙ turns_shape is (states_held hs) w ∙ lev.shapes_same ∙ sym (ap shapes_of b.window_is ∙ turns_shape is (states_held ks) v);
        admits = λ j. ap (λ (qs : List State). admissible (task_of qs j)) a.states_are ∙ held_admit hs w is lev.intact lev.bytes fit j ∙ lev.admits j
            ∙ sym (ap (λ (qs : List State). admissible (task_of qs j)) b.states_are ∙ held_admit ks v is lev.intact_too lev.bytes_too fit_two j);
      };
      answers = λ js h. (λ i. (runs both studies (a.states_are i) (a.window_is i) js).answers) ∙ (answers_both studies is js (states_held hs) (states_held ks) w v h).1
          ∙ sym (λ i. (runs both studies (b.states_are i) (b.window_is i) js).answers);
    }

-- ---- the lists

pub chain_follows : (hs ks : List Held) (w v : Windows) (cs ds : List TaskMade) → Level hs ks w v → AllFitIn cs → task_entries ds ≡ task_entries cs
    → TaskChain hs w cs → TaskChain ks v ds → Follows (Answered hs ks w v) (all_turns hs w cs) (all_turns ks v ds)
unfolding TaskChain AllFitIn task_entries all_turns
chain_follows hs ks w v [] [] lev f e m n = follows_same (Answered hs ks w v) []
chain_follows hs ks w v [] (d ∷ ds) lev f e m n = absurd (omega (arith, ap length e))
chain_follows hs ks w v (c ∷ cs) [] lev f e m n = absurd (omega (arith, ap length e))
chain_follows hs ks w v (c ∷ cs) (d ∷ ds) lev f e m n =
    let en : d.entry ≡ c.entry = head-eq_of_cons-eq e in
    let is : List Turn = turns_by hs w c.entry c.reply c.count in
    let n0 : TaskMeetsBy ks v c.entry d = subst (λ (x : TaskEntry). TaskMeetsBy ks v x d) en n.0 in
    follows_append (Answered hs ks w v) is (turns_by ks v d.entry d.reply d.count) (all_turns c.held c.window cs) (all_turns d.held d.window ds)
    (subst (λ (x : TaskEntry). Follows (Answered hs ks w v) is (turns_by ks v x d.reply d.count)) (sym en) (call_follows hs ks w v c.entry c d lev m.0 n0))
    (λ ans.
    let next : Next hs ks w v is c d = call_next hs ks w v c.entry c d lev f.0 m.0 n0 ans in
    follows_where (Answered c.held d.held c.window d.window) (λ js. Answered hs ks w v (is ++ js)) _ _ next.answers
    (chain_follows c.held d.held c.window d.window cs ds next.level f.1 (tail-eq_of_cons-eq e) m.1 n.1))

pub record SameChains (cs ds : List TaskMade) : Type 0 where
  pub replies_same : task_replies cs ≡ task_replies ds
  pub tallies_same : tallies cs ≡ tallies ds

pub chain_twins : (hs ks : List Held) (w v : Windows) (cs ds : List TaskMade) → Level hs ks w v → AllFitIn cs → task_entries ds ≡ task_entries cs
    → TaskChain hs w cs → TaskChain ks v ds → Answered hs ks w v (all_turns hs w cs) → SameChains cs ds
unfolding TaskChain AllFitIn task_entries task_replies tallies all_turns
chain_twins hs ks w v [] [] lev f e m n ans = record { replies_same = refl; tallies_same = refl }
chain_twins hs ks w v [] (d ∷ ds) lev f e m n ans = absurd (omega (arith, ap length e))
chain_twins hs ks w v (c ∷ cs) [] lev f e m n ans = absurd (omega (arith, ap length e))
chain_twins hs ks w v (c ∷ cs) (d ∷ ds) lev f e m n ans =
    let en : d.entry ≡ c.entry = head-eq_of_cons-eq e in
    let is : List Turn = turns_by hs w c.entry c.reply c.count in
    let n0 : TaskMeetsBy ks v c.entry d = subst (λ (x : TaskEntry). TaskMeetsBy ks v x d) en n.0 in
    let first : Answered hs ks w v is = answered_first hs ks w v is (all_turns c.held c.window cs) ans in
    let one : SameMade c.entry c d = call_twin hs ks w v c.entry c d lev first m.0 n0 in
    let next : Next hs ks w v is c d = call_next hs ks w v c.entry c d lev f.0 m.0 n0 first in
    let r : SameChains cs ds
    = chain_twins c.held d.held c.window d.window cs ds next.level f.1 (tail-eq_of_cons-eq e) m.1 n.1 (next.answers _ ans) in
    record {
      replies_same = λ i. (one.reply_same ∙ ap (λ (x : TaskEntry). task_replied_by x d.reply) (sym en)) i ++ r.replies_same i;
      tallies_same = λ i. (one.tallies_same ∙ ap (λ (x : TaskEntry). tallies_by x d.count d.counts d.refusals) (sym en)) i ++ r.tallies_same i;
    }
