-- What is held after a call, a struct or an image of which length: that depends on the function alone, and its state says the rest.
use Rattle.model.proofs.Prelude.{suc, ℕ, Bool, cond, false, true, List, [], ◌∷◌, ap, refl, sym, ◌∙◌, ◌≡◌, arith, length, step_on, both, Windows, tell, perform}
use Rattle.model.proofs.Prelude.{puts, worst, Sized, exception, fetched, Item, item_plan, mmix, step, step_of, items_keep}
use Rattle.claims.proofs.Prelude.{State, image_as, is_image, state_of, as_same, if_other, of_image, room_image, stored_is, keeps_length, round_trips}
use Rattle.claims.proofs.Prelude.{RanImage}
use Rattle.claims.specs.OneCall.{Held, image, struct, held_state, HeldIs, Entry, on_image, run_image, on_lent, on_parts, run_parts, decode, encode, looking, asked_by, ImageCall, EncodedInto, AsImage, AsStruct, MeetsBy}
use Rattle.claims.proofs.OneCall.{run_sized}

-- 0 for a struct, else one more than the image's length
unfoldable pub form : Held → ℕ
form (image l) = suc (length l)
form (struct s) = 0

-- after a call that found form f
unfoldable pub form_after : ℕ → Entry → ℕ
form_after f (on_image b i) = suc b
form_after f (run_image b grant) = suc b
form_after f (on_lent op x y z) = 0
form_after f (on_parts i) = 0
form_after f (run_parts grant) = 0
form_after f decode = 0
form_after f (encode b) = suc b
form_after f (looking l) = f

on_struct_form : (k : Held) (P : State → Type 0) → AsStruct k P → form k ≡ 0
unfolding AsStruct form
on_struct_form (image l) P h = absurd h
on_struct_form (struct s) P h = refl

-- an image of any length keeps it
same_length : (l m : List ℕ) (t : State) → Sized t → m ≡ cond (is_image l) (image_as l t) l → length m ≡ length l
same_length l m t z e = go (is_image l) refl
  where
    go : (b : Bool) → is_image l ≡ b → length m ≡ length l
    go true n = ap length (of_image l n _ _ _ e) ∙ keeps_length.as_length l t n z
    go false n = ap length (e ∙ sym (if_other l n _ _))

item_length : (l : List ℕ) (w : Windows) (i : Item) (r : ℕ) (m : List ℕ) (v : Windows) → ImageCall l w i r m v → length m ≡ length l
unfolding ImageCall step_on mmix item_plan both step_of tell perform worst puts
item_length l w (step op x y z) r m v g = same_length l m _ (items_keep.sized w (state_of l) (step op x y z) (round_trips.state_sized l)) g.image_is
item_length l w (exception f op x y z a b) r m v g = same_length l m _ (items_keep.sized w (state_of l) (exception f op x y z a b) (round_trips.state_sized l)) g.0.image_is
item_length l w fetched r m v g = absurd g

run_length : (l : List ℕ) (w : Windows) (grant r n : ℕ) (m : List ℕ) (v : Windows) → RanImage l w grant r n m v → length m ≡ length l
run_length l w grant r n m v g = same_length l m _ (run_sized (state_of l) w grant (round_trips.state_sized l)) g.image_is

encoded_length : (b : ℕ) (s : State) (r : ℕ) (m : List ℕ) → Sized s → EncodedInto b s r m → length m ≡ b
encoded_length b s r m z g =
    let e : m ≡ image_as g.before s = g.contract.image_is ∙ stored_is g.before s g.room in
    ap length e ∙ keeps_length.as_length g.before s (room_image g.before s.mask g.room) z ∙ g.long

pub form_after_law : (g : Held) (w : Windows) (e : Entry) (r n : ℕ) (k : Held) (v : Windows) → Sized (held_state g) → MeetsBy g w e r n k v → form k ≡ form_after (form g) e
unfolding MeetsBy AsImage AsStruct held_state form form_after
form_after_law (image l) w (on_image b i) r n (image m) v z c = ap suc (item_length l w i r m v c.1 ∙ c.0)
form_after_law (image l) w (on_image b i) r n (struct t) v z c = absurd c.1
form_after_law (struct s) w (on_image b i) r n k v z c = absurd c
form_after_law (image l) w (run_image b grant) r n (image m) v z c = ap suc (run_length l w grant r n m v c.1 ∙ c.0)
form_after_law (image l) w (run_image b grant) r n (struct t) v z c = absurd c.1
form_after_law (struct s) w (run_image b grant) r n k v z c = absurd c
form_after_law (image l) w (on_lent op x y o) r n k v z c = absurd c
form_after_law (struct s) w (on_lent op x y o) r n k v z c = on_struct_form k _ c
form_after_law (image l) w (on_parts i) r n k v z c = absurd c
form_after_law (struct s) w (on_parts i) r n k v z c = on_struct_form k _ c
form_after_law (image l) w (run_parts grant) r n k v z c = absurd c
form_after_law (struct s) w (run_parts grant) r n k v z c = on_struct_form k _ c
form_after_law (image l) w decode r n k v z c = on_struct_form k _ c.0
form_after_law (struct s) w decode r n k v z c = absurd c.0
form_after_law (image l) w (encode b) r n k v z c = absurd c.0
form_after_law (struct s) w (encode b) r n (image m) v z c = ap suc (encoded_length b s r m z c.0)
form_after_law (struct s) w (encode b) r n (struct t) v z c = absurd c.0
form_after_law g w (looking l) r n k v z c = ap form c.1.0

-- after a call that asks for an item, what was found does not count
pub form_asked : (e : Entry) (f g r n : ℕ) (i : Item) → asked_by e r n ≡ i ∷ [] → form_after f e ≡ form_after g e
unfolding form_after asked_by
form_asked (on_image b j) f g r n i a = refl
form_asked (run_image b grant) f g r n i a = refl
form_asked (on_lent op x y z) f g r n i a = refl
form_asked (on_parts j) f g r n i a = refl
form_asked (run_parts grant) f g r n i a = refl
form_asked decode f g r n i a = refl
form_asked (encode b) f g r n i a = refl
form_asked (looking l) f g r n i a = absurd (omega (arith, ap length a))

pub same_held : (g k : Held) (s : State) → HeldIs g s → HeldIs k s → form g ≡ form k → g ≡ k
unfolding HeldIs form
same_held (image l) (image m) s e f h = ap image (e.0 ∙ as_same l m s (omega arith) ∙ sym f.0)
same_held (image l) (struct t) s e f h = absurd (omega arith)
same_held (struct s) (image m) u e f h = absurd (omega arith)
same_held (struct s) (struct t) u e f h = ap struct (e ∙ sym f)
