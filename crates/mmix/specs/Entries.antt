-- What the exported functions answer, and every byte of image and windows afterwards. An image, 2,336 bytes or an old one's 2,328, keeps its length; one of
-- another length is 1, judged first, and then nothing changes.
use Rattle.std.specs.Prelude.{ℕ, ◌+◌, ◌*◌, ◌≡◌, cond, List}
use Rattle.model.specs.Registers.{fresh, fresh_at}
use Rattle.model.specs.Memory.{Windows}
use Rattle.model.specs.Parts.{lent}
use Rattle.model.specs.Step.{step_of, exception_of}
use Rattle.model.specs.Run.{run_of}
use Rattle.model.specs.Reader.{read_context}
use Rattle.model.specs.Field.{FieldAnswer}
use Rattle.model.specs.declared.State.{State}
use Rattle.image.specs.Image.{is_image, state_of, image_as, Encoded}
use Rattle.sets.specs.Sets.{Pair, put_set_of}

-- the two windows as C lends them: the base of each, and its bytes
abbrev pub lent_at : ℕ → ℕ → List ℕ → List ℕ → Windows
lent_at base_a' base_b' a b = lent (record { a = base_a'; b = base_b' }) a b

-- the library's version, 6.1: the major number times 65536, and the minor one
abbrev pub version : ℕ
version = 6 * 65536 + 1

abbrev pub Initialized : List ℕ → ℕ → List ℕ → Type 0
Initialized l r m = Encoded fresh l r m

-- the same with the stack elsewhere, at any number
abbrev pub InitializedAt : ℕ → List ℕ → ℕ → List ℕ → Type 0
InitializedAt a l r m = Encoded (fresh_at a) l r m

pub record Stepped (l : List ℕ) (w : Windows) (op x y z r : ℕ) (m : List ℕ) (v : Windows) : Type 0 where
  pub reply_is : r ≡ cond (is_image l) (step_of w (state_of l) op x y z).reply 1
  pub image_is : m ≡ cond (is_image l) (image_as l (step_of w (state_of l) op x y z).state) l
  pub window_is : v ≡ cond (is_image l) (step_of w (state_of l) op x y z).memory w

-- a run: the reply, and n instructions were done; 0 where the call is refused whole, an image of another length too
pub record RanImage (l : List ℕ) (w : Windows) (grant r n : ℕ) (m : List ℕ) (v : Windows) : Type 0 where
  pub reply_is : r ≡ cond (is_image l) (run_of w (state_of l) grant).reply 1
  pub count_is : n ≡ cond (is_image l) (run_of w (state_of l) grant).done 0
  pub image_is : m ≡ cond (is_image l) (image_as l (run_of w (state_of l) grant).state) l
  pub window_is : v ≡ cond (is_image l) (run_of w (state_of l) grant).memory w

pub record Raised (l : List ℕ) (f op x y z u v r : ℕ) (m : List ℕ) : Type 0 where
  pub reply_is : r ≡ cond (is_image l) (exception_of (state_of l) f op x y z u v).reply 1
  pub image_is : m ≡ cond (is_image l) (image_as l (exception_of (state_of l) f op x y z u v).state) l

-- a set of pairs; the place is 0 unless a pair fails, with an image of another length too. On a state in parts: `PutSet` of crate sets
pub record SetImage (l : List ℕ) (ps : List Pair) (r place : ℕ) (m : List ℕ) : Type 0 where
  pub reply_is : r ≡ cond (is_image l) (put_set_of (state_of l) ps).reply 1
  pub place_is : place ≡ cond (is_image l) (put_set_of (state_of l) ps).place 0
  pub image_is : m ≡ cond (is_image l) (image_as l (put_set_of (state_of l) ps).state) l

-- a state lent whole or in parts
pub record SteppedState (w : Windows) (s : State) (op x y z r : ℕ) (t : State) (v : Windows) : Type 0 where
  pub reply_is : r ≡ (step_of w s op x y z).reply
  pub state_is : t ≡ (step_of w s op x y z).state
  pub window_is : v ≡ (step_of w s op x y z).memory

pub record RanState (w : Windows) (s : State) (grant r n : ℕ) (t : State) (v : Windows) : Type 0 where
  pub reply_is : r ≡ (run_of w s grant).reply
  pub count_is : n ≡ (run_of w s grant).done
  pub state_is : t ≡ (run_of w s grant).state
  pub window_is : v ≡ (run_of w s grant).memory

pub record RaisedState (s : State) (f op x y z u v r : ℕ) (t : State) : Type 0 where
  pub reply_is : r ≡ (exception_of s f op x y z u v).reply
  pub state_is : t ≡ (exception_of s f op x y z u v).state

pub record ContextAt (w : Windows) (p r which start length : ℕ) : Type 0 where
  pub reply_is : r ≡ (read_context w p).reply
  pub which_is : which ≡ (read_context w p).state.which
  pub start_is : start ≡ (read_context w p).state.start
  pub length_is : length ≡ (read_context w p).state.size

pub record FieldTold (a : FieldAnswer) (r backward field : ℕ) : Type 0 where
  pub reply_is : r ≡ a.reply
  pub backward_is : backward ≡ a.backward
  pub field_is : field ≡ a.field
