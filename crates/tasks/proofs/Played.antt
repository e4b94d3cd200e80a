-- What a turn, a round and a call play, from what their parts play.
use Rattle.model.proofs.Prelude.{min, ℕ, ◌*◌, ◌+◌, ◌-◌, ◌<◌, ◌≤◌, Bool, false, not, true, List, ap, refl, subst, sym, ◌∙◌, ◌≡◌, arith, get_or, length, set}
use Rattle.model.proofs.Prelude.{le-ltb, lt-ltb, tab, Windows, Stopped, denied, granted}
use Rattle.tasks.proofs.Prelude.{part_at, tasks_in, tasks_most, any_runs, Desk, Given, is_over, refusal_by, rounds, turn_of, turns_from, Own}
use Rattle.tasks.specs.Images.{each_length}
use Rattle.tasks.specs.Desks.{image_turn, images_turn, tasks_turn, Turned, At, Shown, Ready, Played}
use Rattle.tasks.proofs.Judged.{and_false}
use Rattle.tasks.proofs.ImageParts.{each_same, lent_at, back_at, length_back, fit_same, room_for}
use Rattle.tasks.proofs.DeskTurns.{all_turned, turned_most, played_given}
use Rattle.tasks.proofs.Rounds.{turns_none, turns_next, rounds_none, rounds_next, rounds_end}

module _ (ns : List ℕ) (q : ℕ) where
  abbrev tasks : ℕ
  tasks = tasks_in ns

  -- ---- a turn that is given

  module _ (left : ℕ) (l : List ℕ) (w : Windows) (cs rs : List ℕ) (ready : Ready ns l left cs) (k : ℕ) (few : k < tasks) (some : left ≡ 0 → ⊥) (runs : get_or rs k 0 ≡ 0)
      (e : ℕ) (each : e ≡ each_length tasks l) (p : Own) (own : p ≡ part_at ns k) (g : ℕ) (grant : g ≡ min q left)
      (r i : ℕ) (m : List ℕ) (v : Windows) (long : length m ≡ k * e + e - k * e) (t : Turned (image_turn w (lent_at e l k) p g) r i m v) where
    pub given_most : i ≤ left
    given_most = omega (arith, turned_most w (lent_at e l k) p g r i m v t)

    pub turn_given : Played ns (turn_of (tasks_turn ns l) tasks q k) left l w cs rs (left - i) (back_at e l k m) v (set cs k (get_or cs k 0 + i)) (set rs k r)
    turn_given =
        let room = room_for tasks l e each ready.fit k few in
        let n : length m ≡ e = omega arith in
        let b : length (back_at e l k m) ≡ length l = length_back e l k room m n in
        let u : Turned (images_turn e ns k g l w) r i (back_at e l k m) v = all_turned e ns k g l w room p own r i m v n t in
        let a : Turned (tasks_turn ns l k (min q left) l w) r i (back_at e l k m) v
        = subst (λ (o : Stopped (List ℕ) Windows). Turned o r i (back_at e l k m) v) (λ j. images_turn (each j) ns k (grant j) l w) u in
        let f : k < tasks_most = omega (arith, ready.few) in
        played_given (tasks_turn ns l) tasks q k ns left l w cs rs ready f some runs r i (back_at e l k m) v a given_most b (fit_same tasks l (back_at e l k m) b ready.fit)

  -- ---- a round and a call, so far

  module _ (left : ℕ) (l : List ℕ) (w : Windows) (cs rs : List ℕ) where
    abbrev turn : ℕ → ℕ → List ℕ → Windows → Stopped (List ℕ) Windows
    turn = tasks_turn ns l

    turn_same : (m : List ℕ) → length m ≡ length l → tasks_turn ns m ≡ turn
    turn_same m h = ap (λ (e : ℕ). images_turn e ns) (each_same tasks m l h)

    pub turns_start : Ready ns l left cs → Played ns (turns_from turn tasks q 0 0) left l w cs rs left l w cs rs
    turns_start y = record {
      at = λ d h. subst (λ (x : Desk (List ℕ) Windows). At x left l w cs rs) (sym (turns_none turn tasks q d)) h;
      ready = y;
      long = refl;
    }

    pub rounds_start : Ready ns l left cs → Played ns (rounds turn tasks q 0) left l w cs rs left l w cs rs
    rounds_start y = record {
      at = λ d h. subst (λ (x : Desk (List ℕ) Windows). At x left l w cs rs) (sym (rounds_none turn tasks q d)) h;
      ready = y;
      long = refl;
    }

    module _ (now : ℕ) (m : List ℕ) (v : Windows) (ds ts : List ℕ) where
      pub turns_more : (k : ℕ) → Played ns (turns_from turn tasks q 0 k) left l w cs rs now m v ds ts
          → (after : ℕ) (m' : List ℕ) (v' : Windows) (ds' ts' : List ℕ) → Played ns (turn_of (tasks_turn ns m) tasks q k) now m v ds ts after m' v' ds' ts'
          → Played ns (turns_from turn tasks q 0 (k + 1)) left l w cs rs after m' v' ds' ts'
      turns_more k a after m' v' ds' ts' b = record {
        at = λ d h. subst (λ (x : Desk (List ℕ) Windows). At x after m' v' ds' ts')
            (ap (λ (f : ℕ → ℕ → List ℕ → Windows → Stopped (List ℕ) Windows). turn_of f tasks q k (turns_from turn tasks q 0 k d)) (turn_same m a.long)
            ∙ sym (turns_next turn tasks q k d)) (b.at _ (a.at d h));
        ready = b.ready;
        long = b.long ∙ a.long;
      }

      pub turns_all : (k : ℕ) → k ≡ tasks → Played ns (turns_from turn tasks q 0 k) left l w cs rs now m v ds ts → Played ns (turns_from turn tasks q 0 tasks) left l w cs rs now m v ds ts
      turns_all k e a = subst (λ (i : ℕ). Played ns (turns_from turn tasks q 0 i) left l w cs rs now m v ds ts) e a

      module _ (i : ℕ) (a : Played ns (rounds turn tasks q i) left l w cs rs now m v ds ts) where
        -- what is left, and whether one runs, of the desk after i rounds
        over_spent : now ≡ 0 → (d : Desk (List ℕ) Windows) → At d left l w cs rs → is_over turn tasks q (rounds turn tasks q i d) ≡ true
        over_spent z d h = rw (le-ltb 0 (rounds turn tasks q i d).left (omega (arith, (a.at d h).left_is)))

        over_none : (t : Bool) → ((gs : List Given) → ts ≡ tab 0 tasks_most (λ k. refusal_by k gs) → t ≡ any_runs tasks gs) → not t ≡ true
            → (d : Desk (List ℕ) Windows) → At d left l w cs rs → is_over turn tasks q (rounds turn tasks q i d) ≡ true
        over_none t f z d h = simp (denied t _ (f _ (a.at d h).refusals_are) z, and_false)

        over_not : (now ≡ 0 → ⊥) → (t : Bool) → ((gs : List Given) → ts ≡ tab 0 tasks_most (λ k. refusal_by k gs) → t ≡ any_runs tasks gs) → not t ≡ false
            → (d : Desk (List ℕ) Windows) → At d left l w cs rs → is_over turn tasks q (rounds turn tasks q i d) ≡ false
        over_not s t f z d h =
            rw (lt-ltb 0 (rounds turn tasks q i d).left (omega (arith, (a.at d h).left_is, s)), granted t _ (f _ (a.at d h).refusals_are) z)

        shown : (f : ℕ) (d : Desk (List ℕ) Windows) → At d left l w cs rs → rounds turn tasks q i d ≡ rounds turn tasks q f d → Shown (rounds turn tasks q f d) m v ds ts
        shown f d h e =
            subst (λ (x : Desk (List ℕ) Windows). Shown x m v ds ts) e
            (record { left_is = refl; images_are = (a.at d h).images_are; windows_are = (a.at d h).windows_are; counts_are = (a.at d h).counts_are; refusals_are = (a.at d h).refusals_are })

        -- the call ends there
        abbrev Ends : ℕ → Type 0
        Ends f = (d : Desk (List ℕ) Windows) → At d left l w cs rs → Shown (rounds turn tasks q f d) m v ds ts

        pub ends_spent : (f : ℕ) → i ≤ f → now ≡ 0 → Ends f
        ends_spent f b z d h = shown f d h (rounds_end turn tasks q i f d b (over_spent z d h))

        pub ends_none : (f : ℕ) → i ≤ f → (t : Bool) → ((gs : List Given) → ts ≡ tab 0 tasks_most (λ k. refusal_by k gs) → t ≡ any_runs tasks gs) → not t ≡ true → Ends f
        ends_none f b t g z d h = shown f d h (rounds_end turn tasks q i f d b (over_none t g z d h))

        pub ends_full : (f : ℕ) → i ≡ f → Ends f
        ends_full f e d h = shown f d h (ap (λ (j : ℕ). rounds turn tasks q j d) e)

        pub rounds_more : (now ≡ 0 → ⊥) → (t : Bool) → ((gs : List Given) → ts ≡ tab 0 tasks_most (λ k. refusal_by k gs) → t ≡ any_runs tasks gs) → not t ≡ false
            → (after : ℕ) (m' : List ℕ) (v' : Windows) (ds' ts' : List ℕ) → Played ns (turns_from (tasks_turn ns m) tasks q 0 tasks) now m v ds ts after m' v' ds' ts'
            → Played ns (rounds turn tasks q (i + 1)) left l w cs rs after m' v' ds' ts'
        rounds_more s t g z after m' v' ds' ts' b = record {
          at = λ d h. subst (λ (x : Desk (List ℕ) Windows). At x after m' v' ds' ts')
              (ap (λ (f : ℕ → ℕ → List ℕ → Windows → Stopped (List ℕ) Windows). turns_from f tasks q 0 tasks (rounds turn tasks q i d)) (turn_same m a.long)
              ∙ sym (rounds_next turn tasks q i d (over_not s t g z d h))) (b.at _ (a.at d h));
          ready = b.ready;
          long = b.long ∙ a.long;
        }
