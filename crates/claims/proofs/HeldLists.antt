-- What a host holds of several tasks, and the list of its states; states put into it.
use Rattle.model.proofs.Prelude.{suc, zero, ℕ, ◌<◌, List, [], ◌∷◌, ap, refl, ◌≡◌, ℕ_discrete, arith, length, length-set, set, get_or-set_other, get_or-set_same}
use Rattle.model.proofs.Prelude.{fresh, Sized, Words}
use Rattle.claims.proofs.Prelude.{State, task_of, image_as, room_image, keeps_length}
use Rattle.claims.specs.OneCall.{Held, image, struct, held_state, HeldIs, HeldFits}
use Rattle.claims.proofs.OneCall.{Intact, intact, intact_of, held_as, held_state_law}
use Rattle.claims.specs.TaskCalls.{held_by, states_held}

-- ---- the states that are held

pub task_held : (hs : List Held) (k : ℕ) → task_of (states_held hs) k ≡ held_state (held_by hs k)
unfolding states_held held_state
task_held [] k = refl
task_held (h ∷ hs) zero = refl
task_held (h ∷ hs) (suc k) = task_held hs k

pub states_length : (hs : List Held) → length (states_held hs) ≡ length hs
unfolding states_held
states_length [] = refl
states_length (h ∷ hs) = ap suc (states_length hs)

pub states_set : (hs : List Held) (k : ℕ) (g : Held) → states_held (set hs k g) ≡ set (states_held hs) k (held_state g)
unfolding states_held
states_set [] k g = refl
states_set (h ∷ hs) zero g = refl
states_set (h ∷ hs) (suc k) g = ap (λ (l : List State). held_state h ∷ l) (states_set hs k g)

-- ---- all of it intact

abbrev pub AllIntact : List Held → Type 0
AllIntact hs = (k : ℕ) → k < length hs → Intact (held_by hs k)

pub all_intact : (hs : List Held) → ((k : ℕ) → k < length hs → HeldFits (held_by hs k)) → AllIntact hs
all_intact hs h k l = intact (held_by hs k) (h k l)

pub set_intact : (hs : List Held) (k : ℕ) (g : Held) → k < length hs → AllIntact hs → Intact g → AllIntact (set hs k g)
set_intact hs k g l h i j m = go (ℕ_discrete j k)
  where
    go : Dec (j ≡ k) → Intact (held_by (set hs k g) j)
    go (yes e) = rw (e, get_or-set_same hs k g (struct fresh) l) i
    go (no n) = rw (get_or-set_other hs k j g (struct fresh) n) (h j (omega (arith, length-set hs k g)))

-- ---- states put into what is held: each keeps its kind and its length

unfoldable pub into : Held → State → Held
into (image l) s = image (image_as l s)
into (struct t) s = struct s

unfoldable pub held_with : List Held → List State → List Held
held_with [] ss = []
held_with (h ∷ hs) [] = h ∷ hs
held_with (h ∷ hs) (s ∷ ss) = into h s ∷ held_with hs ss

-- a state that what is held has room for
pub record Fitting (g : Held) (s : State) : Type 0 where
  pub sized : Sized s
  pub words : Words s
  pub mask_same : s.mask ≡ (held_state g).mask

into_is : (g : Held) (s : State) → Intact g → Fitting g s → HeldIs (into g s) s
unfolding into HeldIs held_state
into_is (image l) s h f = held_as l (image_as l s) s (keeps_length.room_again l s.mask (room_image l _ h.back.1) f.mask_same) f.sized refl
into_is (struct t) s h f = refl

pub into_state : (g : Held) (s : State) → Intact g → Fitting g s → held_state (into g s) ≡ s
into_state g s h f = held_state_law (into g s) s (into_is g s h f) f.sized f.words

pub into_intact : (g : Held) (s : State) → Intact g → Fitting g s → Intact (into g s)
into_intact g s h f = intact_of (into g s) s (into_is g s h f) f.sized f.words

abbrev pub AllFitting : List Held → List State → Type 0
AllFitting hs ss = (k : ℕ) → k < length hs → Fitting (held_by hs k) (task_of ss k)

pub with_length : (hs : List Held) (ss : List State) → length (held_with hs ss) ≡ length hs
unfolding held_with
with_length [] ss = refl
with_length (h ∷ hs) [] = refl
with_length (h ∷ hs) (s ∷ ss) = ap suc (with_length hs ss)

pub with_states : (hs : List Held) (ss : List State) → length ss ≡ length hs → AllIntact hs → AllFitting hs ss → states_held (held_with hs ss) ≡ ss
unfolding held_with states_held
with_states [] [] e h f = refl
with_states [] (s ∷ ss) e h f = absurd (omega arith)
with_states (h ∷ hs) [] e i f = absurd (omega arith)
with_states (h ∷ hs) (s ∷ ss) e i f =
    let r : states_held (held_with hs ss) ≡ ss = with_states hs ss (omega arith) (λ k l. i (suc k) (omega arith)) (λ k l. f (suc k) (omega arith)) in
    λ j. into_state h s (i 0 (omega arith)) (f 0 (omega arith)) j ∷ r j

pub with_intact : (hs : List Held) (ss : List State) → length ss ≡ length hs → AllIntact hs → AllFitting hs ss → AllIntact (held_with hs ss)
unfolding held_with
with_intact [] ss e h f k l = absurd (omega arith)
with_intact (h ∷ hs) [] e i f k l = absurd (omega arith)
with_intact (h ∷ hs) (s ∷ ss) e i f zero l = into_intact h s (i 0 (omega arith)) (f 0 (omega arith))
with_intact (h ∷ hs) (s ∷ ss) e i f (suc k) l = with_intact hs ss (omega arith) (λ k l. i (suc k) (omega arith)) (λ k l. f (suc k) (omega arith)) k (omega arith)
