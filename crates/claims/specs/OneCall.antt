-- What a host holds, and one call of a C function on it: a host holds the machine as an image or as a struct, goes from one to the other by mmix_decode and
-- mmix_encode, and lends two windows. Which function was called, what it asked of the machine and was answered, and its contract; Calls has lists of such calls.
-- `Stepped`, `Raised`, `RanImage`, `SteppedState`, `RaisedState`, `RanState`, `Decoded`, `Encoded`, `Took` and `ContextAt` are the functions' contracts.
use Rattle.std.specs.Prelude.{ℕ, suc, ◌<◌, ◌≡◌, true, false, cond, List, [], ◌∷◌, ◌++◌, eqb, length, get_or, replicate}
use Rattle.model.specs.Memory.{Windows}
use Rattle.model.specs.Registers.{Sized, Words}
use Rattle.model.specs.Step.{Item, step, exception, fetched}
use Rattle.model.specs.Kept.{point_in}
use Rattle.model.specs.declared.State.{State}
use Rattle.image.specs.Image.{is_image, has_room, image_as, state_of, Decoded, Encoded}
use Rattle.points.specs.Store.{Took}
use Rattle.mmix.specs.Entries.{Stepped, Raised, RanImage, SteppedState, RaisedState, RanState, ContextAt}

-- ---- what a host holds

pub data Held : Type 0 where
  image : List ℕ → Held
  struct : State → Held

unfoldable pub held_state : Held → State
held_state (image l) = state_of l
held_state (struct s) = s

-- it is this state: an image of either length is, where it has room for the mask
unfoldable pub HeldIs : Held → State → Type 0
HeldIs (image l) s = (l ≡ image_as l s) × (has_room l s.mask ≡ true)
HeldIs (struct t) s = t ≡ s

-- 2,336 bytes, or an old image's 2,328
pub record ImageBytes (l : List ℕ) : Type 0 where
  pub long : is_image l ≡ true
  pub byte : (i : ℕ) → get_or l i 0 < 256

-- what C's types give
unfoldable pub HeldFits : Held → Type 0
HeldFits (image l) = ImageBytes l
HeldFits (struct s) = Sized s × Words s

-- ---- one call

-- a call that leaves what is held and the windows as they are: mmix_take, with the image's length, the name and the store's length; mmix_context, with the
-- address; mmix_encode into an image of so many bytes that has no room for the mask
pub data Look : Type 0 where
  take_point : ℕ → ℕ → ℕ → Look
  read_context' : ℕ → Look
  encode_refused : ℕ → Look

-- which function is called, and with what beside what is held: mmix_step or mmix_exceptions, with the image's length; mmix_run, with that and its
-- grant; mmix_step_lent; mmix_step_parts or mmix_exceptions_parts; mmix_run_parts, with its grant; mmix_decode; mmix_encode, with the length; one that looks
pub data Entry : Type 0 where
  on_image : ℕ → Item → Entry
  run_image : ℕ → ℕ → Entry
  on_lent : ℕ → ℕ → ℕ → ℕ → Entry
  on_parts : Item → Entry
  run_parts : ℕ → Entry
  decode : Entry
  encode : ℕ → Entry
  looking : Look → Entry

-- a call that was made: the function with its arguments, its reply and, of a run, its count, and what is held and the windows after it
pub record Made : Type 0 where
  pub entry : Entry
  pub reply : ℕ
  pub count : ℕ
  pub held : Held
  pub window : Windows

-- a run that replied r with the count n stands in the list as the fetched instructions that it tried: those done, and the one refused (refused
-- whole by 1, 2 or 22, so is a fetched instruction). 25 alone is the call's own: then nothing was tried
unfoldable pub tried_items : ℕ → ℕ → List Item
tried_items r n = cond (eqb r 25) [] (replicate (cond (eqb r 0) n (suc n)) fetched)

-- the answers to these: 0 to each that was done, then the refusal where there is one
unfoldable pub tried_answers : ℕ → ℕ → List ℕ
tried_answers r n = cond (eqb r 25) [] (replicate n 0 ++ cond (eqb r 0) [] (r ∷ []))

-- what function e asks for where it replies r, with the count n of a run: a step, an exception, fetched instructions; mmix_decode,
-- mmix_encode and one that looks ask for nothing
unfoldable pub asked_by : Entry → ℕ → ℕ → List Item
asked_by (on_image b i) r n = i ∷ []
asked_by (run_image b g) r n = tried_items r n
asked_by (on_lent op x y z) r n = step op x y z ∷ []
asked_by (on_parts i) r n = i ∷ []
asked_by (run_parts g) r n = tried_items r n
asked_by decode r n = []
asked_by (encode b) r n = []
asked_by (looking l) r n = []

abbrev pub asked : Made → List Item
asked c = asked_by c.entry c.reply c.count

-- the answers to what is asked for
unfoldable pub answered_by : Entry → ℕ → ℕ → List ℕ
answered_by (on_image b i) r n = r ∷ []
answered_by (run_image b g) r n = tried_answers r n
answered_by (on_lent op x y z) r n = r ∷ []
answered_by (on_parts i) r n = r ∷ []
answered_by (run_parts g) r n = tried_answers r n
answered_by decode r n = []
answered_by (encode b) r n = []
answered_by (looking l) r n = []

-- mmix_decode and mmix_encode reply 0
unfoldable pub MovedBy : Entry → ℕ → Type 0
MovedBy (on_image b i) r = Unit {0}
MovedBy (run_image b g) r = Unit {0}
MovedBy (on_lent op x y z) r = Unit {0}
MovedBy (on_parts i) r = Unit {0}
MovedBy (run_parts g) r = Unit {0}
MovedBy decode r = r ≡ 0
MovedBy (encode b) r = r ≡ 0
MovedBy (looking l) r = Unit {0}

-- the count, of a run
unfoldable pub counted_by : Entry → ℕ → List ℕ
counted_by (on_image b i) n = []
counted_by (run_image b g) n = n ∷ []
counted_by (on_lent op x y z) n = []
counted_by (on_parts i) n = []
counted_by (run_parts g) n = n ∷ []
counted_by decode n = []
counted_by (encode b) n = []
counted_by (looking l) n = []

-- the reply, as far as the windows' shapes and the state outside what a call pushed determine it: not that of mmix_context, which tells of any octabyte
unfoldable pub told_by : Look → ℕ → List ℕ
told_by (take_point b k n) r = r ∷ []
told_by (read_context' p) r = []
told_by (encode_refused b) r = r ∷ []

unfoldable pub replied_by : Entry → ℕ → List ℕ
replied_by (on_image b i) r = r ∷ []
replied_by (run_image b g) r = r ∷ []
replied_by (on_lent op x y z) r = r ∷ []
replied_by (on_parts i) r = r ∷ []
replied_by (run_parts g) r = r ∷ []
replied_by decode r = r ∷ []
replied_by (encode b) r = r ∷ []
replied_by (looking l) r = told_by l r

-- what a function's contract says of a call on an image, and of one on a struct; an exception is given no window, and no function fetches one
-- instruction but a run
unfoldable pub ImageCall : List ℕ → Windows → Item → ℕ → List ℕ → Windows → Type 0
ImageCall l w (step op x y z) r m v = Stepped l w op x y z r m v
ImageCall l w (exception f op x y z a b) r m v = Raised l f op x y z a b r m × (v ≡ w)
ImageCall l w fetched r m v = ⊥

unfoldable pub StateCall : State → Windows → Item → ℕ → State → Windows → Type 0
StateCall s w (step op x y z) r t v = SteppedState w s op x y z r t v
StateCall s w (exception f op x y z a b) r t v = RaisedState s f op x y z a b r t × (v ≡ w)
StateCall s w fetched r t v = ⊥

-- mmix_decode into a struct, whatever it held; mmix_encode into an image of b bytes that has room for the mask, whatever they were
pub record DecodedInto (l : List ℕ) (r : ℕ) (t : State) : Type 0 where
  pub before : State
  pub contract : Decoded l before r t

pub record EncodedInto (b : ℕ) (s : State) (r : ℕ) (m : List ℕ) : Type 0 where
  pub before : List ℕ
  pub long : length before ≡ b
  pub room : has_room before s.mask ≡ true
  pub contract : Encoded s before r m

-- mmix_take of the image l into a store of n bytes, whatever they were; mmix_context, whatever it tells; mmix_encode where there is no room
pub record TakenInto (l : List ℕ) (w : Windows) (name n r : ℕ) : Type 0 where
  pub before : List ℕ
  pub after : List ℕ
  pub long : length before ≡ n
  pub contract : Took before name (point_in l w.a.base w.b.base w.a.bytes w.b.bytes) r after

pub record ContextRead (w : Windows) (p r : ℕ) : Type 0 where
  pub which : ℕ
  pub start : ℕ
  pub size : ℕ
  pub contract : ContextAt w p r which start size

pub record NotEncoded (b : ℕ) (s : State) (r : ℕ) : Type 0 where
  pub before : List ℕ
  pub after : List ℕ
  pub long : length before ≡ b
  pub room : has_room before s.mask ≡ false
  pub contract : Encoded s before r after

-- what is held is an image of which P holds, or a struct
unfoldable pub AsImage : Held → (List ℕ → Type 0) → Type 0
AsImage (image l) P = P l
AsImage (struct s) P = ⊥

unfoldable pub AsStruct : Held → (State → Type 0) → Type 0
AsStruct (image l) P = ⊥
AsStruct (struct s) P = P s

unfoldable pub LookMet : Held → Windows → Look → ℕ → Type 0
LookMet g w (take_point b k n) r = AsImage g (λ l. (length l ≡ b) × TakenInto l w k n r)
LookMet g w (read_context' p) r = ContextRead w p r
LookMet g w (encode_refused b) r = AsStruct g (λ s. NotEncoded b s r)

-- the contract of a call that found g and w, replied r with the count n and left k and v
unfoldable pub MeetsBy : Held → Windows → Entry → ℕ → ℕ → Held → Windows → Type 0
MeetsBy g w (on_image b i) r n k v = AsImage g (λ l. (length l ≡ b) × AsImage k (λ m. ImageCall l w i r m v))
MeetsBy g w (run_image b grant) r n k v = AsImage g (λ l. (length l ≡ b) × AsImage k (λ m. RanImage l w grant r n m v))
MeetsBy g w (on_lent op x y z) r n k v = AsStruct g (λ s. AsStruct k (λ t. SteppedState w s op x y z r t v))
MeetsBy g w (on_parts i) r n k v = AsStruct g (λ s. AsStruct k (λ t. StateCall s w i r t v))
MeetsBy g w (run_parts grant) r n k v = AsStruct g (λ s. AsStruct k (λ t. RanState w s grant r n t v))
MeetsBy g w decode r n k v = AsImage g (λ l. AsStruct k (λ t. DecodedInto l r t)) × (v ≡ w)
MeetsBy g w (encode b) r n k v = AsStruct g (λ s. AsImage k (λ m. EncodedInto b s r m)) × (v ≡ w)
MeetsBy g w (looking l) r n k v = LookMet g w l r × ((k ≡ g) × (v ≡ w))

abbrev pub Meets : Held → Windows → Made → Type 0
Meets g w c = MeetsBy g w c.entry c.reply c.count c.held c.window
