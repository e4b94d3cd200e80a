-- What the exported functions come to, from what their calls leave.
use Rattle.model.proofs.Prelude.{ℕ, ◌≤◌, false, true, List, ap, subst, sym, ◌∙◌, ◌≡◌, arith, answer_of, Windows, Said, number_of, Outcome, run_of, Stopped}
use Rattle.model.proofs.Prelude.{exception_of, step_of, Any, numbered, exception_meets}
use Rattle.mmix.proofs.Prelude.{State, Encoded, image_as, is_image, state_of, stored_in, if_image, if_other, keeps_length}
use Rattle.model.specs.declared.Reply.{Reply}
use Rattle.model.specs.declared.Reach.{Reach}
use Rattle.exceptions.specs.Told.{Told}
use Rattle.sets.specs.Sets.{Pair, SetOutcome, put_set_of, PutSet}
use Rattle.mmix.specs.Entries.{Stepped, SteppedState, RanImage, RanState, Raised, RaisedState, SetImage, FieldTold}

-- ---- on the parts of a state

-- an exception's reply, of any state, is 19 at most
exception_most : (s : State) (f op x y z u v : ℕ) → (exception_of s f op x y z u v).reply ≤ 19
exception_most s f op x y z u v =
    exception_meets s Any (λ r t. r ≤ 19) f op x y z u v (λ k b. tt) (omega arith)
    (λ a. record { adds = λ k w. omega arith; takes = record { trips = λ k w. omega arith; trips_not = omega arith } })

pub raised_state : (s : State) (f op x y z u v : ℕ) (q : Reply) (t : State) → Told (exception_of s f op x y z u v) q t
    → (r : ℕ) → r ≡ number_of q → RaisedState s f op x y z u v r t
raised_state s f op x y z u v q t g r e =
    let most : (exception_of s f op x y z u v).reply ≤ 19 = exception_most s f op x y z u v in
    record { reply_is = e ∙ ap number_of g.reply_is ∙ numbered.number_reply (exception_of s f op x y z u v).reply (omega arith); state_is = g.state_is }

pub set_told : (s : State) (ps : List Pair) (n i : ℕ) (t : State) → PutSet s ps n i t → (r j : ℕ) → (r ≡ n) × (j ≡ i) → PutSet s ps r j t
set_told s ps n i t g r j e = rw (e.0, e.1) g

-- ---- on an image of another length

module _ (l : List ℕ) (h : is_image l ≡ false) where
  pub stepped_else : (w : Windows) (op x y z : ℕ) → Stepped l w op x y z 1 l w
  stepped_else w op x y z = record { reply_is = if_other l h _ _; image_is = if_other l h _ _; window_is = if_other l h _ _ }

  pub ran_else : (w : Windows) (grant : ℕ) → RanImage l w grant 1 0 l w
  ran_else w grant = record { reply_is = if_other l h _ _; count_is = if_other l h _ _; image_is = if_other l h _ _; window_is = if_other l h _ _ }

  pub raised_else : (f op x y z u v : ℕ) → Raised l f op x y z u v 1 l
  raised_else f op x y z u v = record { reply_is = if_other l h _ _; image_is = if_other l h _ _ }

  pub set_else : (ps : List Pair) → SetImage l ps 1 0 l
  set_else ps = record { reply_is = if_other l h _ _; place_is = if_other l h _ _; image_is = if_other l h _ _ }

-- ---- on an image

module _ (l : List ℕ) (n : is_image l ≡ true) where
  -- a state with the image's mask has room in it
  again : (s t : State) → s ≡ state_of l → t.mask ≡ s.mask → (m : List ℕ) → m ≡ stored_in l t → m ≡ image_as l t
  again s t e q m k = k ∙ keeps_length.stored_again l t n (q ∙ ap (λ (u : State). u.mask) e)

  pub stepped : (w : Windows) (op x y z : ℕ) (s : State) → s ≡ state_of l
      → (r : ℕ) (t : State) (v : Windows) → SteppedState w s op x y z r t v
      → t.mask ≡ s.mask → (m : List ℕ) → m ≡ stored_in l t → Stepped l w op x y z r m v
  stepped w op x y z s e r t v g q m k =
      let d : step_of w s op x y z ≡ step_of w (state_of l) op x y z = ap (λ (a : State). step_of w a op x y z) e in
      record {
        reply_is = g.reply_is ∙ ap (λ (o : Outcome State Windows). o.reply) d ∙ if_image l n _ _;
        image_is = again s t e q m k ∙ ap (image_as l) g.state_is ∙ ap (λ (o : Outcome State Windows). image_as l o.state) d ∙ if_image l n _ _;
        window_is = g.window_is ∙ ap (λ (o : Outcome State Windows). o.memory) d ∙ if_image l n _ _;
      }

  pub ran : (w : Windows) (grant : ℕ) (s : State) → s ≡ state_of l
      → (r i : ℕ) (t : State) (v : Windows) → RanState w s grant r i t v
      → t.mask ≡ s.mask → (m : List ℕ) → m ≡ stored_in l t → RanImage l w grant r i m v
  ran w grant s e r i t v g q m k =
      let d : run_of w s grant ≡ run_of w (state_of l) grant = ap (λ (a : State). run_of w a grant) e in
      record {
        reply_is = g.reply_is ∙ ap (λ (o : Stopped State Windows). o.reply) d ∙ if_image l n _ _;
        count_is = g.count_is ∙ ap (λ (o : Stopped State Windows). o.done) d ∙ if_image l n _ _;
        image_is = again s t e q m k ∙ ap (image_as l) g.state_is ∙ ap (λ (o : Stopped State Windows). image_as l o.state) d ∙ if_image l n _ _;
        window_is = g.window_is ∙ ap (λ (o : Stopped State Windows). o.memory) d ∙ if_image l n _ _;
      }

  pub raised : (c op x y z a b : ℕ) (s : State) → s ≡ state_of l
      → (r : ℕ) (t : State) → RaisedState s c op x y z a b r t
      → t.mask ≡ s.mask → (m : List ℕ) → m ≡ stored_in l t → Raised l c op x y z a b r m
  raised c op x y z a b s e r t g q m k =
      let d : exception_of s c op x y z a b ≡ exception_of (state_of l) c op x y z a b = ap (λ (u : State). exception_of u c op x y z a b) e in
      record {
        reply_is = g.reply_is ∙ ap (λ (o : Said). o.reply) d ∙ if_image l n _ _;
        image_is = again s t e q m k ∙ ap (image_as l) g.state_is ∙ ap (λ (o : Said). image_as l o.state) d ∙ if_image l n _ _;
      }

  pub set_put : (ps : List Pair) (s : State) → s ≡ state_of l
      → (r i : ℕ) (t : State) → PutSet s ps r i t
      → t.mask ≡ s.mask → (m : List ℕ) → m ≡ stored_in l t → SetImage l ps r i m
  set_put ps s e r i t g q m k =
      let d : put_set_of s ps ≡ put_set_of (state_of l) ps = ap (λ (u : State). put_set_of u ps) e in
      record {
        reply_is = g.reply_is ∙ ap (λ (o : SetOutcome). o.reply) d ∙ if_image l n _ _;
        place_is = g.place_is ∙ ap (λ (o : SetOutcome). o.place) d ∙ if_image l n _ _;
        image_is = again s t e q m k ∙ ap (image_as l) g.state_is ∙ ap (λ (o : SetOutcome). image_as l o.state) d ∙ if_image l n _ _;
      }

-- an equal state's image is the same
pub encoded_same : (s t : State) → s ≡ t → (l : List ℕ) (r : ℕ) (m : List ℕ) → Encoded s l r m → Encoded t l r m
encoded_same s t e l r m g = subst (λ (u : State). Encoded u l r m) e g

-- ---- a field

module _ (q p : Reach) (e : q ≡ p) (r : ℕ) where
  -- what is told of a search is told of an equal one
  pub field_told : (b f : ℕ) → FieldTold (answer_of q) r b f → FieldTold (answer_of p) r b f
  field_told b f g = record {
    reply_is = g.reply_is ∙ ap (λ (o : Reach). (answer_of o).reply) e;
    backward_is = g.backward_is ∙ ap (λ (o : Reach). (answer_of o).backward) e;
    field_is = g.field_is ∙ ap (λ (o : Reach). (answer_of o).field) e;
  }

  -- the case p
  pub case_told : r ≡ (answer_of p).reply → FieldTold (answer_of q) r (answer_of p).backward (answer_of p).field
  case_told n = record {
    reply_is = n ∙ sym (ap (λ (o : Reach). (answer_of o).reply) e);
    backward_is = sym (ap (λ (o : Reach). (answer_of o).backward) e);
    field_is = sym (ap (λ (o : Reach). (answer_of o).field) e);
  }
