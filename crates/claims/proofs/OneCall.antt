-- One call of a C function on what a host holds: it is no or one step or exception, or a run's fetched instructions, on the state that is held.
use Rattle.model.proofs.Prelude.{ℕ, true, List, [], ◌∷◌, ap, refl, subst, sym, ◌∙◌, ◌≡◌, length, runs, step_on, both, Windows, tell, perform, puts, worst, Sized}
use Rattle.model.proofs.Prelude.{Words, run_of, exception, fetched, Item, item_plan, mmix, step, step_of, items_keep}
use Rattle.claims.proofs.Prelude.{State, has_room, image_as, is_image, state_of, as_same, chosen, if_image, room_image, room_same, stored_is, keeps_length}
use Rattle.claims.proofs.Prelude.{round_trips, RanImage, RanState}
use Rattle.claims.specs.OneCall.{Held, image, struct, held_state, HeldIs, HeldFits, Entry, on_image, run_image, on_lent, on_parts, run_parts, decode, encode, looking, tried_items, tried_answers, asked_by, answered_by, MovedBy, ImageCall, StateCall, AsImage, AsStruct, MeetsBy}
use Rattle.claims.proofs.Tried.{RunListed, run_tried}

-- ---- what is held

-- all of it is in its state, and that is in range
pub record Intact (g : Held) : Type 0 where
  pub sized : Sized (held_state g)
  pub words : Words (held_state g)
  pub back : HeldIs g (held_state g)

pub intact : (g : Held) → HeldFits g → Intact g
unfolding HeldFits HeldIs held_state
intact (image l) h = record {
  sized = round_trips.state_sized l;
  words = round_trips.state_words l h.byte;
  back = (sym (keeps_length.as_state l h.long h.byte), keeps_length.room_again l _ h.long refl);
}
intact (struct s) h = record { sized = h.0; words = h.1; back = refl }

long_of : (l : List ℕ) → Intact (image l) → is_image l ≡ true
unfolding HeldIs held_state
long_of l h = room_image l _ h.back.1

-- an image with a state put into it
pub held_as : (l m : List ℕ) (s : State) → has_room l s.mask ≡ true → Sized s → m ≡ image_as l s → HeldIs (image m) s
unfolding HeldIs
held_as l m s e z d =
    let n : length m ≡ length l = ap length d ∙ keeps_length.as_length l s (room_image l s.mask e) z in
    (d ∙ as_same l m s n, sym (room_same l m s.mask n) ∙ e)

pub held_state_law : (g : Held) (s : State) → HeldIs g s → Sized s → Words s → held_state g ≡ s
unfolding HeldIs held_state
held_state_law (image l) s e z w = ap state_of e.0 ∙ keeps_length.state_as l s z w e.1
held_state_law (struct t) s e z w = e

pub intact_of : (g : Held) (s : State) → HeldIs g s → Sized s → Words s → Intact g
intact_of g s e z w =
    let t : s ≡ held_state g = sym (held_state_law g s e z w) in
    record { sized = subst Sized t z; words = subst Words t w; back = subst (HeldIs g) t e }

-- ---- one step or exception

-- what it leaves, as a step on the state
pub record Left (s : State) (w : Windows) (i : Item) (r : ℕ) (k : Held) (v : Windows) : Type 0 where
  pub reply_is : r ≡ (step_on both mmix s w i).reply
  pub held_is : HeldIs k (step_on both mmix s w i).state
  pub window_is : v ≡ (step_on both mmix s w i).memory

state_left : (s : State) (w : Windows) (i : Item) (r : ℕ) (t : State) (v : Windows) → StateCall s w i r t v → Left s w i r (struct t) v
unfolding StateCall HeldIs step_on mmix item_plan both step_of tell perform worst puts
state_left s w (step op x y z) r t v g = record { reply_is = g.reply_is; held_is = g.state_is; window_is = g.window_is }
state_left s w (exception f op x y z a b) r t v g = record { reply_is = g.0.reply_is; held_is = g.0.state_is; window_is = g.1 }
state_left s w fetched r t v g = absurd g

-- a call on an image is one on its state
image_state : (l : List ℕ) (w : Windows) (i : Item) (r : ℕ) (m : List ℕ) (v : Windows) → is_image l ≡ true → ImageCall l w i r m v
    → StateCall (state_of l) w i r (step_on both mmix (state_of l) w i).state v × (m ≡ image_as l (step_on both mmix (state_of l) w i).state)
unfolding ImageCall StateCall step_on mmix item_plan both step_of tell perform worst puts
image_state l w (step op x y z) r m v n g = (
  record { reply_is = g.reply_is ∙ sym (if_image l n _ _); state_is = refl; window_is = g.window_is ∙ sym (if_image l n _ _) },
  g.image_is ∙ sym (if_image l n _ _),
)
image_state l w (exception f op x y z a b) r m v n g = (
  (record { reply_is = g.0.reply_is ∙ sym (if_image l n _ _); state_is = refl }, g.1),
  g.0.image_is ∙ sym (if_image l n _ _),
)
image_state l w fetched r m v n g = absurd g

pub image_left : (l : List ℕ) (w : Windows) (i : Item) (r : ℕ) (m : List ℕ) (v : Windows) → is_image l ≡ true → ImageCall l w i r m v → Left (state_of l) w i r (image m) v
unfolding HeldIs
image_left l w i r m v n g =
    let e = image_state l w i r m v n g in
    let h = state_left (state_of l) w i r _ v e.0 in
    let t : State = (step_on both mmix (state_of l) w i).state in
    let z : Sized t = items_keep.sized w (state_of l) i (round_trips.state_sized l) in
    record {
      reply_is = h.reply_is;
      held_is = held_as l m t (keeps_length.room_again l t.mask n (items_keep.mask w (state_of l) i)) z e.1;
      window_is = h.window_is;
    }

-- what it leaves in the image
pub image_as_law : (l : List ℕ) (w : Windows) (i : Item) (r : ℕ) (m : List ℕ) (v : Windows) → is_image l ≡ true → ImageCall l w i r m v → m ≡ image_as l (step_on both mmix (state_of l) w i).state
image_as_law l w i r m v n g = (image_state l w i r m v n g).1

-- ---- a run

-- its reply and its count are those of the definition
pub record Counted (s : State) (w : Windows) (grant r n : ℕ) : Type 0 where
  pub reply_is : r ≡ (run_of w s grant).reply
  pub count_is : n ≡ (run_of w s grant).done

pub state_counted : (s : State) (w : Windows) (grant r n : ℕ) (t : State) (v : Windows) → RanState w s grant r n t v → Counted s w grant r n
state_counted s w grant r n t v g = record { reply_is = g.reply_is; count_is = g.count_is }

-- a run on an image is one on its state
pub image_ran : (l : List ℕ) (w : Windows) (grant r n : ℕ) (m : List ℕ) (v : Windows) → is_image l ≡ true → RanImage l w grant r n m v
    → RanState w (state_of l) grant r n (run_of w (state_of l) grant).state v × (m ≡ image_as l (run_of w (state_of l) grant).state)
image_ran l w grant r n m v e g = (
  record {
    reply_is = g.reply_is ∙ sym (if_image l e _ _);
    count_is = g.count_is ∙ sym (if_image l e _ _);
    state_is = refl;
    window_is = g.window_is ∙ sym (if_image l e _ _);
  },
  g.image_is ∙ sym (if_image l e _ _),
)

-- what every list of items keeps, a run does
runs_sized : (is : List Item) (s : State) (w : Windows) → Sized s → Sized (runs both mmix s w is).state
unfolding runs
runs_sized [] s w z = z
runs_sized (i ∷ is) s w z = runs_sized is (step_on both mmix s w i).state (step_on both mmix s w i).memory (items_keep.sized w s i z)

runs_mask : (is : List Item) (s : State) (w : Windows) → (runs both mmix s w is).state.mask ≡ s.mask
unfolding runs
runs_mask [] s w = refl
runs_mask (i ∷ is) s w = runs_mask is (step_on both mmix s w i).state (step_on both mmix s w i).memory ∙ items_keep.mask w s i

pub run_sized : (s : State) (w : Windows) (grant : ℕ) → Sized s → Sized (run_of w s grant).state
run_sized s w grant z = subst Sized (run_tried w s grant z).state_is (runs_sized _ s w z)

pub run_mask : (s : State) (w : Windows) (grant : ℕ) → Sized s → (run_of w s grant).state.mask ≡ s.mask
run_mask s w grant z = ap (λ (t : State). t.mask) (sym (run_tried w s grant z).state_is) ∙ runs_mask _ s w

-- an image after a run
ran_held : (l : List ℕ) (w : Windows) (grant : ℕ) (m : List ℕ) → is_image l ≡ true → m ≡ image_as l (run_of w (state_of l) grant).state → HeldIs (image m) (run_of w (state_of l) grant).state
ran_held l w grant m n e =
    let z : Sized (state_of l) = round_trips.state_sized l in
    held_as l m _ (keeps_length.room_again l _ n (run_mask (state_of l) w grant z)) (run_sized (state_of l) w grant z) e

-- ---- one call

-- what it leaves, as a list of items
pub record After (s : State) (w : Windows) (e : Entry) (r n : ℕ) (k : Held) (v : Windows) : Type 0 where
  pub answers_are : answered_by e r n ≡ (runs both mmix s w (asked_by e r n)).answers
  pub moved : MovedBy e r
  pub held_is : HeldIs k (runs both mmix s w (asked_by e r n)).state
  pub window_is : v ≡ (runs both mmix s w (asked_by e r n)).memory

-- a run's items, from its outcome
record AfterRun (s : State) (w : Windows) (r n : ℕ) (k : Held) (v : Windows) : Type 0 where
  answers_are : tried_answers r n ≡ (runs both mmix s w (tried_items r n)).answers
  held_is : HeldIs k (runs both mmix s w (tried_items r n)).state
  window_is : v ≡ (runs both mmix s w (tried_items r n)).memory

after_run : (s : State) (w : Windows) (grant r n : ℕ) (k : Held) (v : Windows) → Sized s → Counted s w grant r n → HeldIs k (run_of w s grant).state → v ≡ (run_of w s grant).memory
    → AfterRun s w r n k v
after_run s w grant r n k v z c h e =
    let l : RunListed w s (run_of w s grant) = run_tried w s grant z in
    rw (c.reply_is, c.count_is) (record {
      answers_are = sym l.answers_are;
      held_is = subst (HeldIs k) (sym l.state_is) h;
      window_is = e ∙ sym l.memory_is;
    })

pub after_call : (g : Held) (w : Windows) (e : Entry) (r n : ℕ) (k : Held) (v : Windows) → Intact g → MeetsBy g w e r n k v → After (held_state g) w e r n k v
unfolding MeetsBy AsImage AsStruct asked_by answered_by MovedBy held_state HeldIs StateCall runs
after_call (image l) w (on_image b i) r n (image m) v h c =
    let t = image_left l w i r m v (long_of l h) c.1 in
    record { answers_are = ap (λ (q : ℕ). q ∷ []) t.reply_is; moved = tt; held_is = t.held_is; window_is = t.window_is }
after_call (image l) w (on_image b i) r n (struct t) v h c = absurd c.1
after_call (struct s) w (on_image b i) r n k v h c = absurd c
after_call (image l) w (run_image b grant) r n (image m) v h c =
    let e = image_ran l w grant r n m v (long_of l h) c.1 in
    let t : AfterRun (state_of l) w r n (image m) v
    = after_run (state_of l) w grant r n (image m) v h.sized (state_counted _ w grant r n _ v e.0) (ran_held l w grant m (long_of l h) e.1) e.0.window_is in
    record { answers_are = t.answers_are; moved = tt; held_is = t.held_is; window_is = t.window_is }
after_call (image l) w (run_image b grant) r n (struct t) v h c = absurd c.1
after_call (struct s) w (run_image b grant) r n k v h c = absurd c
after_call (image l) w (on_lent op x y z) r n k v h c = absurd c
after_call (struct s) w (on_lent op x y z) r n (image m) v h c = absurd c
after_call (struct s) w (on_lent op x y z) r n (struct t) v h c =
    let t = state_left s w (step op x y z) r t v c in
    record { answers_are = ap (λ (q : ℕ). q ∷ []) t.reply_is; moved = tt; held_is = t.held_is; window_is = t.window_is }
after_call (image l) w (on_parts i) r n k v h c = absurd c
after_call (struct s) w (on_parts i) r n (image m) v h c = absurd c
after_call (struct s) w (on_parts i) r n (struct t) v h c =
    let t = state_left s w i r t v c in
    record { answers_are = ap (λ (q : ℕ). q ∷ []) t.reply_is; moved = tt; held_is = t.held_is; window_is = t.window_is }
after_call (image l) w (run_parts grant) r n k v h c = absurd c
after_call (struct s) w (run_parts grant) r n (image m) v h c = absurd c
after_call (struct s) w (run_parts grant) r n (struct t) v h c =
    let t : AfterRun s w r n (struct t) v = after_run s w grant r n (struct t) v h.sized (state_counted s w grant r n t v c) c.state_is c.window_is in
    record { answers_are = t.answers_are; moved = tt; held_is = t.held_is; window_is = t.window_is }
after_call (image l) w decode r n (image m) v h c = absurd c.0
after_call (image l) w decode r n (struct t) v h c = record {
  answers_are = refl;
  moved = c.0.contract.reply_is ∙ sym (if_image l (long_of l h) _ _);
  held_is = c.0.contract.state_is ∙ sym (if_image l (long_of l h) _ _);
  window_is = c.1;
}
after_call (struct s) w decode r n k v h c = absurd c.0
after_call (image l) w (encode b) r n k v h c = absurd c.0
after_call (struct s) w (encode b) r n (struct t) v h c = absurd c.0
after_call (struct s) w (encode b) r n (image m) v h c =
    record {
      answers_are = refl;
      moved = c.0.contract.reply_is ∙ sym (chosen _ _ _ c.0.room);
      held_is = held_as c.0.before m s c.0.room h.sized (c.0.contract.image_is ∙ stored_is c.0.before s c.0.room);
      window_is = c.1;
    }
after_call g w (looking l) r n k v h c =
    record { answers_are = refl; moved = tt; held_is = subst (λ (q : Held). HeldIs q (held_state g)) (sym c.1.0) h.back; window_is = c.1.1 }

-- a run's reply and count
pub image_counted : (g : Held) (w : Windows) (b grant r n : ℕ) (k : Held) (v : Windows) → Intact g → MeetsBy g w (run_image b grant) r n k v → Counted (held_state g) w grant r n
unfolding MeetsBy AsImage held_state
image_counted (image l) w b grant r n (image m) v h c = state_counted (state_of l) w grant r n _ v (image_ran l w grant r n m v (long_of l h) c.1).0
image_counted (image l) w b grant r n (struct t) v h c = absurd c.1
image_counted (struct s) w b grant r n k v h c = absurd c

pub parts_counted : (g : Held) (w : Windows) (grant r n : ℕ) (k : Held) (v : Windows) → MeetsBy g w (run_parts grant) r n k v → Counted (held_state g) w grant r n
unfolding MeetsBy AsStruct held_state
parts_counted (struct s) w grant r n (struct t) v c = state_counted s w grant r n t v c
parts_counted (struct s) w grant r n (image m) v c = absurd c
parts_counted (image l) w grant r n k v c = absurd c
