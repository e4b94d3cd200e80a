-- One turn, as code has its desk: on an image, on all images, and none where nothing is left or the task has stopped.
use Rattle.model.proofs.Prelude.{min, ℕ, ◌*◌, ◌+◌, ◌-◌, ◌<◌, ◌^◌, ◌≤◌, true, ◌&&◌, List, ◌∷◌, inl, inr, ◌⊎◌, ap, refl, subst, sym, ◌∙◌, ◌≡◌, ℕ_discrete, arith}
use Rattle.model.proofs.Prelude.{eqb, ltb, get_or, length, length-set, get_or_eq_default, set, ext_get_or, get_or-set_other, get_or-set_same, eq-eqb, eqb-true}
use Rattle.model.proofs.Prelude.{le-ltb, lt-ltb, ne_eqb, tab, both, shapes_of, Windows, written, admissible, grant_most, Stopped, fetched, unruled_by, and_right}
use Rattle.model.proofs.Prelude.{on, lt_or_le, run_most, get_d_tab, length_tab}
use Rattle.tasks.proofs.Prelude.{State, part_at, part_ruled, tasks_in, tasks_most, count_by, Desk, gave, Given, refusal_by, running, turn_of, mmix_in, Own}
use Rattle.tasks.proofs.Prelude.{run_in, state_of, stored_in}
use Rattle.tasks.specs.Images.{images_fit, image_in}
use Rattle.tasks.specs.Desks.{image_turn, images_turn, Turned, At, Ready, Played}
use Rattle.instruction.specs.StepAnswer.{RunNumbered}
use Rattle.tasks.proofs.ImageParts.{lent_at, lent_is, back_at, back_is}

-- ---- on an image

pub turned : (l : List ℕ) (w : Windows) (p : Own) (g : ℕ) (s : State) → s ≡ state_of l → (r i : ℕ) (t : State) (v : Windows) → RunNumbered (run_in w s p g) r i t v
    → (m : List ℕ) → m ≡ stored_in l t → Turned (image_turn w l p g) r i m v
unfolding image_turn
turned l w p g s e r i t v h m k =
    let d : run_in w s p g ≡ run_in w (state_of l) p g = ap (λ (a : State). run_in w a p g) e in
    record {
      reply_is = h.reply_is ∙ ap (λ (o : Stopped State Windows). o.reply) d;
      count_is = h.count_is ∙ ap (λ (o : Stopped State Windows). o.done) d;
      image_is = k ∙ ap (stored_in l) (h.state_is ∙ ap (λ (o : Stopped State Windows). o.state) d);
      windows_are = h.window_is ∙ ap (λ (o : Stopped State Windows). o.memory) d;
    }

-- no more is done than is granted
pub run_in_most : (w : Windows) (s : State) (p : Own) (g : ℕ) → (run_in w s p g).done ≤ g
unfolding run_in
run_in_most w s p g =
    on Most (admissible s)
    (λ a. on Most (eqb (unruled_by (shapes_of w)) 0)
    (λ u. on Most (ltb grant_most g) (λ l. omega arith)
    (λ l. on Most (part_ruled (shapes_of w).b.size p) (λ r. run_most both (mmix_in p) fetched g s w) (λ r. omega arith)))
    (λ u. omega arith))
    (λ a. omega arith)
  where
    Most : Stopped State Windows → Type 0
    Most r = r.done ≤ g

-- ---- on all images

module _ (e : ℕ) (ns : List ℕ) (k g : ℕ) (l : List ℕ) (w : Windows) (h : k * e + e ≤ length l) where
  pub all_turned : (p : Own) → p ≡ part_at ns k → (r i : ℕ) (m : List ℕ) (v : Windows) → length m ≡ e → Turned (image_turn w (lent_at e l k) p g) r i m v
      → Turned (images_turn e ns k g l w) r i (back_at e l k m) v
  unfolding images_turn
  all_turned p q r i m v n t =
      let d : image_turn w (lent_at e l k) p g ≡ image_turn w (image_in e l k) (part_at ns k) g = λ j. image_turn w (lent_is e l k h j) (q j) g in
      record {
        reply_is = t.reply_is ∙ ap (λ (o : Stopped (List ℕ) Windows). o.reply) d;
        count_is = t.count_is ∙ ap (λ (o : Stopped (List ℕ) Windows). o.done) d;
        image_is = back_is e l k h m n ∙ ap (written l (k * e)) (t.image_is ∙ ap (λ (o : Stopped (List ℕ) Windows). o.state) d);
        windows_are = t.windows_are ∙ ap (λ (o : Stopped (List ℕ) Windows). o.memory) d;
      }

pub turned_most : (w : Windows) (l : List ℕ) (p : Own) (g r i : ℕ) (m : List ℕ) (v : Windows) → Turned (image_turn w l p g) r i m v → i ≤ g
unfolding image_turn
turned_most w l p g r i m v t = let h : (run_in w (state_of l) p g).done ≤ g = run_in_most w (state_of l) p g in omega (arith, t.count_is)

-- ---- counts and refusals

set_tab : (n k : ℕ) (f g : ℕ → ℕ) (v : ℕ) → v ≡ g k → ((j : ℕ) → (j ≡ k → ⊥) → f j ≡ g j) → set (tab 0 n f) k v ≡ tab 0 n g
set_tab n k f g v e h =
    ext_get_or 0 (set (tab 0 n f) k v) (tab 0 n g) (length-set (tab 0 n f) k v ∙ length_tab n 0 f ∙ sym (length_tab n 0 g))
    (λ j m. let b : j < n = omega (arith, length-set (tab 0 n f) k v, length_tab n 0 f) in at j b (ℕ_discrete j k))
  where
    at : (j : ℕ) → j < n → Dec (j ≡ k) → get_or (set (tab 0 n f) k v) j 0 ≡ get_or (tab 0 n g) j 0
    at j b (yes q) =
        ap (λ (i : ℕ). get_or (set (tab 0 n f) k v) i 0) q ∙ get_or-set_same (tab 0 n f) k v 0 (omega (arith, length_tab n 0 f)) ∙ e ∙ ap g (sym q) ∙ sym (get_d_tab n j g b)
    at j b (no q) = get_or-set_other (tab 0 n f) k j v 0 q ∙ get_d_tab n j f b ∙ h j q ∙ sym (get_d_tab n j g b)

module _ (k i r : ℕ) (gs : List Given) where
  abbrev later : List Given
  later = record { task = k; done = i; reply = r } ∷ gs

  count_own : count_by k gs + i ≡ count_by k later
  unfolding count_by
  count_own = rw (eq-eqb k k refl) (omega arith)

  count_other : (j : ℕ) → (j ≡ k → ⊥) → count_by j gs ≡ count_by j later
  unfolding count_by
  count_other j d = rw (ne_eqb k j (λ e. d (sym e))) (omega arith)

  refusal_own : r ≡ refusal_by k later
  unfolding refusal_by
  refusal_own = rw (eq-eqb k k refl)

  refusal_other : (j : ℕ) → (j ≡ k → ⊥) → refusal_by j gs ≡ refusal_by j later
  unfolding refusal_by
  refusal_other j d = rw (ne_eqb k j (λ e. d (sym e)))

  counts_later : (cs : List ℕ) → k < tasks_most → cs ≡ tab 0 tasks_most (λ j. count_by j gs) → set cs k (get_or cs k 0 + i) ≡ tab 0 tasks_most (λ j. count_by j later)
  counts_later cs l e =
      let c : get_or cs k 0 ≡ count_by k gs = ap (λ (x : List ℕ). get_or x k 0) e ∙ get_d_tab tasks_most k (λ j. count_by j gs) l in
      ap (λ (x : List ℕ). set x k (get_or cs k 0 + i)) e
      ∙ set_tab tasks_most k (λ j. count_by j gs) (λ j. count_by j later) (get_or cs k 0 + i) (ap (λ (x : ℕ). x + i) c ∙ count_own) count_other

  refusals_later : (rs : List ℕ) → rs ≡ tab 0 tasks_most (λ j. refusal_by j gs) → set rs k r ≡ tab 0 tasks_most (λ j. refusal_by j later)
  refusals_later rs e =
      ap (λ (x : List ℕ). set x k r) e ∙ set_tab tasks_most k (λ j. refusal_by j gs) (λ j. refusal_by j later) r refusal_own refusal_other

-- what code reads of a task's refusal
pub refusal_at_law : (k : ℕ) (rs : List ℕ) (gs : List Given) → k < tasks_most → rs ≡ tab 0 tasks_most (λ j. refusal_by j gs) → get_or rs k 0 ≡ refusal_by k gs
refusal_at_law k rs gs l e = ap (λ (x : List ℕ). get_or x k 0) e ∙ get_d_tab tasks_most k (λ j. refusal_by j gs) l

-- ---- a turn of the schedule

module _ (run : ℕ → ℕ → List ℕ → Windows → Stopped (List ℕ) Windows) (n q k : ℕ) where
  turn_spent : (d : Desk (List ℕ) Windows) → d.left ≡ 0 → turn_of run n q k d ≡ d
  unfolding turn_of
  turn_spent d e = rw (le-ltb 0 d.left (omega arith))

  turn_stopped : (d : Desk (List ℕ) Windows) → (refusal_by k d.given ≡ 0 → ⊥) → turn_of run n q k d ≡ d
  unfolding turn_of
  turn_stopped d e = on (λ t. t ≡ d) (ltb 0 d.left && running k d.given) (λ b. absurd (e (eqb-true _ _ (and_right (ltb 0 d.left) _ b)))) (λ b. refl)

  turn_runs : (d : Desk (List ℕ) Windows) → (d.left ≡ 0 → ⊥) → refusal_by k d.given ≡ 0
      → turn_of run n q k d ≡ gave run n q k d (run k (min q d.left) d.states d.memory)
  unfolding turn_of
  turn_runs d a e = rw (lt-ltb 0 d.left (omega (arith, a)), eq-eqb (refusal_by k d.given) 0 e)

  module _ (ns : List ℕ) (left : ℕ) (l : List ℕ) (w : Windows) (cs rs : List ℕ) (ready : Ready ns l left cs) where
    at_same : (d f : Desk (List ℕ) Windows) → f ≡ d → (left' : ℕ) (m : List ℕ) (v : Windows) (ds ts : List ℕ) → At d left' m v ds ts → At f left' m v ds ts
    at_same d f e left' m v ds ts h = subst (λ (x : Desk (List ℕ) Windows). At x left' m v ds ts) (sym e) h

    pub played_spent : left ≡ 0 → Played ns (turn_of run n q k) left l w cs rs 0 l w cs rs
    played_spent z = record {
      at = λ d h. at_same d _ (turn_spent d (sym h.left_is ∙ z)) _ _ _ _ _ (record {
        left_is = sym z ∙ h.left_is;
        images_are = h.images_are;
        windows_are = h.windows_are;
        counts_are = h.counts_are;
        refusals_are = h.refusals_are;
      });
      ready = record { few = ready.few; fit = ready.fit; small = λ j. let b : get_or cs j 0 + left ≤ 2 ^ 32 = ready.small j in omega arith };
      long = refl;
    }

    pub played_stopped : k < tasks_most → (get_or rs k 0 ≡ 0 → ⊥) → Played ns (turn_of run n q k) left l w cs rs left l w cs rs
    played_stopped b z = record {
      at = λ d h. at_same d _ (turn_stopped d (λ e. z (refusal_at_law k rs d.given b h.refusals_are ∙ e))) _ _ _ _ _ h;
      ready = ready;
      long = refl;
    }

    module _ (few : k < tasks_most) (some : left ≡ 0 → ⊥) (runs : get_or rs k 0 ≡ 0) (r i : ℕ) (m : List ℕ) (v : Windows) (t : Turned (run k (min q left) l w) r i m v)
        (most : i ≤ left) (long : length m ≡ length l) (fit : images_fit (tasks_in ns) m ≡ true) where
      -- the desk that code has
      abbrev desk : List Given → Desk (List ℕ) Windows
      desk gs = record { left = left; states = l; memory = w; given = gs }

      given_at : (gs : List Given) → At (desk gs) left l w cs rs → At (turn_of run n q k (desk gs)) (left - i) m v (set cs k (get_or cs k 0 + i)) (set rs k r)
      given_at gs h =
          at_same _ _ (turn_runs (desk gs) some (sym (refusal_at_law k rs gs few h.refusals_are) ∙ runs)) _ _ _ _ _ (record {
            left_is = ap (λ (x : ℕ). left - x) t.count_is;
            images_are = t.image_is;
            windows_are = t.windows_are;
            counts_are = counts_later k i r gs cs few h.counts_are
                ∙ ap (λ (g : Given). tab 0 tasks_most (λ j. count_by j (g ∷ gs))) same;
            refusals_are = refusals_later k i r gs rs h.refusals_are ∙ ap (λ (g : Given). tab 0 tasks_most (λ j. refusal_by j (g ∷ gs))) same;
          })
        where
          same : ◌≡◌ {A = Given} (record { task = k; done = i; reply = r }) (record { task = k; done = (run k (min q left) l w).done; reply = (run k (min q left) l w).reply })
          same = λ j. record { task = k; done = t.count_is j; reply = t.reply_is j }

      pub played_given : Played ns (turn_of run n q k) left l w cs rs (left - i) m v (set cs k (get_or cs k 0 + i)) (set rs k r)
      played_given = record {
        at = λ d h. subst (λ (x : Desk (List ℕ) Windows). At (turn_of run n q k x) (left - i) m v (set cs k (get_or cs k 0 + i)) (set rs k r))
            (λ j. record { left = h.left_is j; states = h.images_are j; memory = h.windows_are j; given = d.given })
            (given_at d.given (record { left_is = refl; images_are = refl; windows_are = refl; counts_are = h.counts_are; refusals_are = h.refusals_are }));
        ready = record { few = ready.few; fit = fit; small = λ j. small_after j (ℕ_discrete j k) (lt_or_le k (length cs)) };
        long = long;
      }
        where
          small_after : (j : ℕ) → Dec (j ≡ k) → (k < length cs) ⊎ (length cs ≤ k) → get_or (set cs k (get_or cs k 0 + i)) j 0 + (left - i) ≤ 2 ^ 32
          small_after j (yes e) (inl b) =
              let c : get_or cs k 0 + left ≤ 2 ^ 32 = ready.small k in
              rw (e, get_or-set_same cs k (get_or cs k 0 + i) 0 b) (omega arith)
          small_after j (yes e) (inr b) =
              let c : get_or cs j 0 + left ≤ 2 ^ 32 = ready.small j in
              rw (get_or_eq_default (set cs k (get_or cs k 0 + i)) 0 {n = j} (omega (arith, e, length-set cs k (get_or cs k 0 + i)))) (omega arith)
          small_after j (no e) b =
              let c : get_or cs j 0 + left ≤ 2 ^ 32 = ready.small j in
              rw (get_or-set_other cs k j (get_or cs k 0 + i) 0 e) (omega arith)
