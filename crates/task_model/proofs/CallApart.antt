-- A whole call that 33 lets through: each turn that it tries is of one of its tasks, on that task's part; so the turns after a call are apart from the caller's.
use Rattle.model.proofs.Prelude.{ℕ, ◌<◌, true, append_assoc, List, [], ◌++◌, ◌∷◌, refl, subst, sym, ◌∙◌, ◌≡◌, Ran, runs, both, Windows, Item}
use Rattle.task_model.proofs.Prelude.{State}
use Rattle.task_model.specs.Tasks.{Own, Turn, turn, studies}
use Rattle.task_model.specs.Call.{tasks_in, part_at, tasks_ruled}
use Rattle.task_model.specs.TaskDemand.{turn_on, PartsApart, OthersKept, OwnFrame, own_needs}
use Rattle.task_model.specs.Anywhere.{Cut, call_turn, pop_turn, turns_to_pop, turns_cut, CalledThere}
use Rattle.task_model.specs.CallApart.{turns_tried, CalledIn, CallsApart}
use Rattle.task_model.proofs.Tried.{tried_by}
use Rattle.task_model.proofs.Parts.{call_ruled, parts_meant}
use Rattle.task_model.proofs.OthersKept.{none_alters_another}
use Rattle.task_model.proofs.Anywhere.{anywhere_own, anywhere_own_twice}

-- ---- turns of tasks that have parts

-- each turn is of a task that ns gives a part, and on that part
unfoldable pub OnParts : List ℕ → List Turn → Type 0
OnParts ns [] = Unit {0}
OnParts ns (turn k p i ∷ ts) = (k < tasks_in ns) × (p ≡ part_at ns k) × OnParts ns ts

on_append : (ns : List ℕ) (is js : List Turn) → OnParts ns is → OnParts ns js → OnParts ns (is ++ js)
unfolding OnParts
on_append ns [] js f g = g
on_append ns (turn k p i ∷ is) js f g = (f.0, f.1, on_append ns is js f.2 g)

pub on_tried : (w : Windows) (ss : List State) (ns : List ℕ) (q grant : ℕ) → OnParts ns (turns_tried w ss ns q grant)
unfolding OnParts
on_tried w ss ns q grant = tried_by (OnParts ns) ns tt (λ is k l h. on_append ns is _ h (l, refl, tt)) w ss q grant

on_last : (ns : List ℕ) (is js : List Turn) → OnParts ns (is ++ js) → OnParts ns js
unfolding OnParts
on_last ns [] js f = f
on_last ns (turn k p i ∷ is) js f = on_last ns is js f.2

-- the turn after some others
on_next : (ns : List ℕ) (is : List Turn) (k : ℕ) (p : Own) (i : Item) (js : List Turn) → OnParts ns (is ++ (turn k p i ∷ js)) → (k < tasks_in ns) × (p ≡ part_at ns k)
on_next ns is k p i js f = go (on_last ns is (turn k p i ∷ js) f)
  where
    go : OnParts ns (turn k p i ∷ js) → (k < tasks_in ns) × (p ≡ part_at ns k)
    go g = unfold OnParts in (g.0, g.1)

-- ---- parts that are apart

module _ (p : Own) (c : ℕ) where
  pub apart_last : (is js : List Turn) → PartsApart p c (is ++ js) → PartsApart p c js
  unfolding PartsApart
  apart_last [] js f = f
  apart_last (turn k r i ∷ is) js f = apart_last is js f.1

  pub apart_first : (is js : List Turn) → PartsApart p c (is ++ js) → PartsApart p c is
  unfolding PartsApart
  apart_first [] js f = tt
  apart_first (turn k r i ∷ is) js f = (f.0, apart_first is js f.1)

-- of turns up to a POP and more, those after the call
pub list_apart_by : (p : Own) (c : ℕ) (k : Cut) (after : List Turn) → PartsApart p c (turns_to_pop k ++ after) → PartsApart p c k.list
list_apart_by p c k after f = go (apart_last p c k.before (call_turn k ∷ k.list) (apart_first p c (turns_to_pop k) after f))
  where
    go : PartsApart p c (call_turn k ∷ k.list) → PartsApart p c k.list
    go g = unfold PartsApart in g.1

-- all of the turns are those up to the POP and more
pub cut_at : (k : Cut) → turns_cut k ≡ turns_to_pop k ++ (pop_turn k ∷ k.rest)
cut_at k = sym (append_assoc k.before (call_turn k ∷ k.list) (pop_turn k ∷ k.rest))

pub called_there : (k : Cut) (ss : List State) (w : Windows) → PartsApart k.part k.task k.list → CalledIn k ss w → CalledThere k ss w OwnFrame own_needs
called_there k ss w apart c = record { names = c.names; done = c.done; parts = record { in_b = c.in_b; apart = apart }; off = c.off }

-- ---- a call

module _ (b : ℕ) (w : Windows) (ss : List State) (ns : List ℕ) (q grant : ℕ) (e : tasks_ruled b ns q ≡ true) where
  list_apart : (k : Cut) (after : List Turn) → turns_tried w ss ns q grant ≡ turns_to_pop k ++ after → PartsApart k.part k.task k.list
  list_apart k after t =
      let all : turns_tried w ss ns q grant ≡ k.before ++ (call_turn k ∷ (k.list ++ after)) = t ∙ append_assoc k.before (call_turn k ∷ k.list) after in
      let own : (k.task < tasks_in ns) × (k.part ≡ part_at ns k.task) = on_next ns k.before k.task k.part _ _ (subst (OnParts ns) all (on_tried w ss ns q grant)) in
      subst (λ (p : Own). PartsApart p k.task k.list) (sym own.1)
      (list_apart_by (part_at ns k.task) k.task k after (subst (PartsApart (part_at ns k.task) k.task) t (parts_meant.turns_apart b ns q e w ss grant k.task own.0)))

pub calls_apart : CallsApart
calls_apart b w ss ns q grant e = record {
  others_kept = λ before k p i rest t c l n.
      let own : (k < tasks_in ns) × (p ≡ part_at ns k) = on_next ns before k p i rest (subst (OnParts ns) t (on_tried w ss ns q grant)) in
      let r : Ran (List State) Windows = runs both studies ss w before in
      let o : OthersKept r.memory r.state k p (turn_on p r.memory r.state k i) = none_alters_another r.memory r.state k p i in
      record {
        state_kept = o.state_kept c n;
        part_kept = o.part_kept (part_at ns c)
            (rw own.1 (parts_meant.disjoint b ns q e k c own.0 l (λ z. n (sym z)))) ((call_ruled b ns q e).whole_octas c l);
      };
  list_apart = list_apart b w ss ns q grant e;
  comes_back = λ k t cl c pop.
      anywhere_own k ss w cl (called_there k ss w (list_apart b w ss ns q grant e k (pop_turn k ∷ k.rest) (t ∙ cut_at k)) c) pop;
  stays_private = λ k after t cl c bs ts v dl a.
      anywhere_own_twice k bs ss ts w v cl dl (called_there k ss w (list_apart b w ss ns q grant e k after t) c) a;
}
