-- What each number leaves of an image's bytes, and of a struct.
use Rattle.model.proofs.Prelude.{ℕ, ◌<◌, ◌≤◌, Bool, false, true, List, [], inl, inr, ◌⊎◌, ap, refl, subst, sym, ◌∙◌, ◌≡◌, arith, get_or, answer_of, field_of}
use Rattle.model.proofs.Prelude.{ExceptionLeaves, FieldLeaves, ReaderLeaves, StepLeaves, step_on, both, Windows, Said, say, tell, Early, Halting, Outcome}
use Rattle.model.proofs.Prelude.{perform, puts, worst, Part, read_context, Sized, exception, exception_of, item_plan, mmix, step, step_of, word_of, items_keep}
use Rattle.model.proofs.Prelude.{unhalting, replies_leave}
use Rattle.claims.proofs.Prelude.{State, image_as, is_image, state_of, if_other, keeps_length, round_trips, ContextAt, FieldTold, lent_at, Raised}
use Rattle.claims.proofs.Prelude.{RaisedState, Stepped, SteppedState}
use Rattle.claims.specs.CallsLeave.{StepCallLeaves, ExceptionCallLeaves, ContextCallLeaves, CallsLeave}
use Rattle.claims.specs.OneCall.{image, ImageCall}
use Rattle.claims.proofs.OneCall.{Left, image_left, image_as_law}
use Rattle.claims.proofs.ImageLeaves.{halt_same, halted_same, tripped_image, not_loaded, trapped_image}
use Rattle.claims.proofs.RunLeaves.{by_run, by_state_run}
use Rattle.claims.proofs.SetLeaves.{by_set, by_state_set}

-- ---- a step and an exception on an image

module _ (l : List ℕ) (n : is_image l ≡ true) (back : image_as l (state_of l) ≡ l) where
  abbrev s : State
  s = state_of l

  abbrev zs : Sized s
  zs = round_trips.state_sized l

  step_leaves : (w : Windows) (op x y z r : ℕ) (m : List ℕ) (v : Windows) → m ≡ image_as l (step_of w s op x y z).state → Left s w (step op x y z) r (image m) v → StepCallLeaves l w op x y z r m v
  unfolding step_on mmix item_plan both step_of
  step_leaves w op x y z r m v i g =
      let o : Outcome State Windows = step_of w s op x y z in
      let k : StepLeaves w s op x y z o = replies_leave.by_step w s op x y z zs in
      let zt : Sized o.state = items_keep.sized w s (step op x y z) zs in
      let e : r ≡ o.reply = g.reply_is in
      record {
        most = subst (λ (q : ℕ). (q ≤ 20) ⊎ ((q ≡ 22) ⊎ ((q ≡ 29) ⊎ (q ≡ 31)))) (sym e) k.most;
        early = λ p. let h = k.early (subst Early e p) in (i ∙ ap (image_as l) h.0 ∙ back, g.window_is ∙ h.1);
        lost = λ p. let h = k.lost (omega (arith, e)) in (i ∙ ap (image_as l) h.0 ∙ back, g.window_is ∙ h.1);
        halting = λ p. let h = k.halting (subst Halting e p) in (halted_same l n back m o.state i h.0, g.window_is ∙ h.1);
        nineteen = λ p. not_loaded l n back w op x y z o m v zt i g.window_is (k.nineteen (sym e ∙ p));
        twenty = λ p. let h = k.twenty (sym e ∙ p) in (trapped_image l n back (word_of op x y z) y z o.state m zt i h.0, g.window_is ∙ h.1);
        shared = λ p. k.shared (sym e ∙ p);
        done = λ p. halt_same l n back m o.state i zt (k.done (sym e ∙ p));
      }

  exception_leaves : (w : Windows) (f op x y z u v r : ℕ) (m : List ℕ) → m ≡ image_as l (exception_of s f op x y z u v).state
      → Left s w (exception f op x y z u v) r (image m) w → ExceptionCallLeaves l f op x y z u v r m
  unfolding step_on mmix item_plan both tell perform worst puts
  exception_leaves w f op x y z u v r m i g =
      let d : Said = exception_of s f op x y z u v in
      let k : ExceptionLeaves s f op x y z u v d = replies_leave.by_exception s f op x y z u v zs in
      let zt : Sized d.state = items_keep.sized w s (exception f op x y z u v) zs in
      let e : r ≡ d.reply = g.reply_is in
      record {
        among = subst (λ (q : ℕ). (q ≡ 0) ⊎ ((q ≡ 1) ⊎ (q ≡ 19))) (sym e) k.among;
        refused = λ p. i ∙ ap (image_as l) (k.inadmissible (sym e ∙ p)) ∙ back;
        nineteen = λ p. i ∙ tripped_image l n back f (word_of op x y z) u v d.state zt (k.not_loaded (sym e ∙ p));
        done = λ p. halt_same l n back m d.state i zt (k.done (sym e ∙ p));
      }

-- ---- the theorem

other_step : (l : List ℕ) (w : Windows) (op x y z r : ℕ) (m : List ℕ) (v : Windows) → is_image l ≡ false → Stepped l w op x y z r m v → StepCallLeaves l w op x y z r m v
other_step l w op x y z r m v h g =
    let e : r ≡ 1 = g.reply_is ∙ sym (if_other l h _ _) in
    record {
      most = inl (omega arith);
      early = λ p. (g.image_is ∙ sym (if_other l h _ _), g.window_is ∙ sym (if_other l h _ _));
      lost = λ p. absurd (omega arith);
      halting = λ p. absurd (unhalting r (inl (omega arith)) p);
      nineteen = λ p. absurd (omega arith);
      twenty = λ p. absurd (omega arith);
      shared = λ p. absurd (omega arith);
      done = λ p. absurd (omega arith);
    }

other_exception : (l : List ℕ) (f op x y z u v r : ℕ) (m : List ℕ) → is_image l ≡ false → Raised l f op x y z u v r m → ExceptionCallLeaves l f op x y z u v r m
other_exception l f op x y z u v r m h g =
    let e : r ≡ 1 = g.reply_is ∙ sym (if_other l h _ _) in
    record {
      among = inr (inl e);
      refused = λ p. g.image_is ∙ sym (if_other l h _ _);
      nineteen = λ p. absurd (omega arith);
      done = λ p. absurd (omega arith);
    }

by_step : (l : List ℕ) (w : Windows) (op x y z r : ℕ) (m : List ℕ) (v : Windows) → ((i : ℕ) → get_or l i 0 < 256)
    → Stepped l w op x y z r m v → StepCallLeaves l w op x y z r m v
unfolding ImageCall step_on mmix item_plan both step_of
by_step l w op x y z r m v b g = go (is_image l) refl
  where
    go : (t : Bool) → is_image l ≡ t → StepCallLeaves l w op x y z r m v
    go true e =
        step_leaves l e (keeps_length.as_state l e b) w op x y z r m v (image_as_law l w (step op x y z) r m v e g) (image_left l w (step op x y z) r m v e g)
    go false e = other_step l w op x y z r m v e g

by_exception : (l : List ℕ) (f op x y z u v r : ℕ) (m : List ℕ) → ((i : ℕ) → get_or l i 0 < 256)
    → Raised l f op x y z u v r m → ExceptionCallLeaves l f op x y z u v r m
unfolding ImageCall step_on mmix item_plan both tell perform worst puts
by_exception l f op x y z u v r m b g = go (is_image l) refl
  where
    no_window : Windows
    no_window = lent_at 0 0 [] []

    go : (t : Bool) → is_image l ≡ t → ExceptionCallLeaves l f op x y z u v r m
    go true e =
        exception_leaves l e (keeps_length.as_state l e b) no_window f op x y z u v r m (image_as_law l no_window (exception f op x y z u v) r m no_window e (g, refl))
        (image_left l no_window (exception f op x y z u v) r m no_window e (g, refl))
    go false e = other_exception l f op x y z u v r m e g

by_state_step : (w : Windows) (s : State) (op x y z r : ℕ) (t : State) (v : Windows) → Sized s → SteppedState w s op x y z r t v
    → StepLeaves w s op x y z (record { reply = r; state = t; memory = v })
by_state_step w s op x y z r t v h g =
    let k : StepLeaves w s op x y z (step_of w s op x y z) = replies_leave.by_step w s op x y z h in
    subst (StepLeaves w s op x y z) (sym (λ i. record { reply = g.reply_is i; state = g.state_is i; memory = g.window_is i })) k

by_state_exception : (s : State) (f op x y z u v r : ℕ) (t : State) → Sized s → RaisedState s f op x y z u v r t
    → ExceptionLeaves s f op x y z u v (say r t)
by_state_exception s f op x y z u v r t h g =
    let k : ExceptionLeaves s f op x y z u v (exception_of s f op x y z u v) = replies_leave.by_exception s f op x y z u v h in
    subst (ExceptionLeaves s f op x y z u v) (sym (λ i. record { reply = g.reply_is i; state = g.state_is i })) k

by_context : (w : Windows) (p r which start length : ℕ) → ContextAt w p r which start length → ContextCallLeaves w r which start length
by_context w p r which start length g =
    let k : ReaderLeaves w (read_context w p) = replies_leave.by_reader w p in
    record {
      among = subst (λ (q : ℕ). (q ≡ 0) ⊎ ((q ≡ 2) ⊎ ((q ≡ 6) ⊎ ((q ≡ 14) ⊎ ((q ≡ 15) ⊎ ((q ≡ 16) ⊎ ((q ≡ 22) ⊎ (q ≡ 23)))))))) (sym g.reply_is) k.among;
      shared = λ e. k.shared (sym g.reply_is ∙ e);
      refused = λ n.
          let e = k.refused (λ q. n (g.reply_is ∙ q)) in
          (g.which_is ∙ ap (λ (q : Part). q.which) e, g.start_is ∙ ap (λ (q : Part). q.start) e, g.length_is ∙ ap (λ (q : Part). q.size) e);
    }

by_field : (size from to r backward field : ℕ) → FieldTold (answer_of (field_of size from to)) r backward field
    → FieldLeaves (record { reply = r; backward = backward; field = field })
by_field size from to r backward field g =
    subst FieldLeaves (sym (λ i. record { reply = g.reply_is i; backward = g.backward_is i; field = g.field_is i })) (replies_leave.by_field size from to)

pub calls_leave : CallsLeave
calls_leave = record {
  by_step = by_step;
  by_run = by_run;
  by_exception = by_exception;
  by_set = by_set;
  by_state_step = by_state_step;
  by_state_run = by_state_run;
  by_state_exception = by_state_exception;
  by_state_set = by_state_set;
  by_context = by_context;
  by_field = by_field;
}
