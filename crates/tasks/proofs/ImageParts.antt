-- Images of one length, one after another: where each lies, whether they fit, and the states in them.
use Rattle.model.proofs.Prelude.{suc, zero, ℕ, ◌*◌, ◌+◌, ◌-◌, ◌<◌, ◌≤◌, Bool, cond, false, not, true, ◌&&◌, ◌||◌, List, [], ◌++◌, inl, inr, ◌⊎◌, ⊎_elim, ap}
use Rattle.model.proofs.Prelude.{refl, sym, ◌∙◌, ◌≡◌, mul-le-mul, mul-le-mul_right, arith, eqb, drop, length, take, eq-eqb, eqb-true, ne_eqb, image_length}
use Rattle.model.proofs.Prelude.{old_image_length, written, admissible, and_left, denied, granted, on, length_written, length_part, part_lent, written_lent}
use Rattle.tasks.proofs.Prelude.{all_admissible, each_below, task_of, at_below, is_image, state_of, is_new', is_old'}
use Rattle.tasks.specs.Images.{images_fit, each_length, image_in, states_from, states_in}
use Rattle.tasks.proofs.Judged.{below_more, below_fails, below_all}

-- ---- where they lie

-- image k, of those of e bytes each, ends before image n begins
pub ends_before : (k n e : ℕ) → k < n → k * e + e ≤ n * e
ends_before k n e l =
    let m : suc k * e ≤ n * e = mul-le-mul_right e l in
    let s : suc k * e ≡ k * e + e = omega arith in
    omega arith

pub each_is : (n : ℕ) (l : List ℕ) → (each_length n l ≡ image_length) ⊎ (each_length n l ≡ old_image_length)
unfolding each_length
each_is n l = on (λ e. (e ≡ image_length) ⊎ (e ≡ old_image_length)) (eqb (length l) (n * image_length)) (λ b. inl refl) (λ b. inr refl)

each_most : (n : ℕ) (l : List ℕ) (e : ℕ) → e ≡ each_length n l → e ≤ image_length
each_most n l e q = ⊎_elim (λ h. omega (arith, h)) (λ h. omega (arith, h)) (each_is n l)

-- eight images have few bytes
pub few_bytes : (n : ℕ) (l : List ℕ) (e : ℕ) → e ≡ each_length n l → n ≤ 8 → n * e ≤ 8 * image_length
few_bytes n l e q a = mul-le-mul a (each_most n l e q)

pub ends_few : (n : ℕ) (l : List ℕ) (e : ℕ) → e ≡ each_length n l → n ≤ 8 → (k : ℕ) → k < n → k * e + e ≤ 8 * image_length
ends_few n l e q a k b =
    let m : n * e ≤ 8 * image_length = few_bytes n l e q a in
    let r : k * e + e ≤ n * e = ends_before k n e b in
    omega arith

-- the length alone says how long each is
pub each_same : (n : ℕ) (l m : List ℕ) → length l ≡ length m → each_length n l ≡ each_length n m
unfolding each_length
each_same n l m e = rw e

pub each_new : (n : ℕ) (l : List ℕ) → length l ≡ n * image_length → image_length ≡ each_length n l
unfolding each_length
each_new n l e = rw (eq-eqb (length l) (n * image_length) e)

pub each_old : (n : ℕ) (l : List ℕ) → (length l ≡ n * image_length → ⊥) → old_image_length ≡ each_length n l
unfolding each_length
each_old n l d = rw (ne_eqb (length l) (n * image_length) d)

pub image_in_law : (n : ℕ) (l m : List ℕ) (k : ℕ) → is_image (image_in (each_length n l) m k) ≡ true
image_in_law n l m k =
    let e : length (image_in (each_length n l) m k) ≡ each_length n l = length_part m (k * each_length n l) (each_length n l) in
    ⊎_elim (λ a. is_new' (image_in (each_length n l) m k) (e ∙ a)) (λ a. is_old' (image_in (each_length n l) m k) (e ∙ a)) (each_is n l)

-- ---- as they are lent

-- image k as a slice, and the images after that slice became m
abbrev pub lent_at : ℕ → List ℕ → ℕ → List ℕ
lent_at e l k = take (k * e + e - k * e) (drop (k * e) l)

abbrev pub back_at : ℕ → List ℕ → ℕ → List ℕ → List ℕ
back_at e l k m = take (k * e) l ++ (m ++ drop (k * e + e - k * e) (drop (k * e) l))

module _ (e : ℕ) (l : List ℕ) (k : ℕ) (h : k * e + e ≤ length l) where
  pub lent_is : lent_at e l k ≡ image_in e l k
  lent_is =
      let q : k * e + e - k * e ≡ e = omega arith in
      ap (λ (i : ℕ). take i (drop (k * e) l)) q ∙ part_lent l (k * e) e h

  pub back_is : (m : List ℕ) → length m ≡ e → back_at e l k m ≡ written l (k * e) m
  back_is m q = written_lent l m (k * e) (k * e + e - k * e) (omega arith) (omega arith)

  pub length_back : (m : List ℕ) → length m ≡ e → length (back_at e l k m) ≡ length l
  length_back m q = ap length (back_is m q) ∙ length_written l (k * e) m

-- ---- whether they fit

module _ (n : ℕ) (l : List ℕ) where
  pub fit_not : (length l ≡ n * each_length n l → ⊥) → images_fit n l ≡ false
  unfolding images_fit each_length
  fit_not d = go (eqb (length l) (n * image_length)) refl (eqb (length l) (n * old_image_length)) refl d
    where
      go : (a : Bool) → eqb (length l) (n * image_length) ≡ a → (b : Bool) → eqb (length l) (n * old_image_length) ≡ b
          → (length l ≡ n * cond a image_length old_image_length → ⊥) → (a || b) ≡ false
      go true e b f d = absurd (d (eqb-true _ _ e))
      go false e true f d = absurd (d (eqb-true _ _ f))
      go false e false f d = refl

  pub fit_so : length l ≡ n * each_length n l → images_fit n l ≡ true
  unfolding images_fit each_length
  fit_so = go (eqb (length l) (n * image_length)) refl
    where
      go : (a : Bool) → eqb (length l) (n * image_length) ≡ a → length l ≡ n * cond a image_length old_image_length → (a || eqb (length l) (n * old_image_length)) ≡ true
      go true e d = refl
      go false e d = eq-eqb _ _ d

  pub fit_long : images_fit n l ≡ true → length l ≡ n * each_length n l
  unfolding images_fit each_length
  fit_long = go (eqb (length l) (n * image_length)) refl
    where
      go : (a : Bool) → eqb (length l) (n * image_length) ≡ a → (a || eqb (length l) (n * old_image_length)) ≡ true → length l ≡ n * cond a image_length old_image_length
      go true e d = eqb-true _ _ e
      go false e d = eqb-true _ _ d

pub fit_same : (n : ℕ) (l m : List ℕ) → length m ≡ length l → images_fit n l ≡ true → images_fit n m ≡ true
unfolding images_fit
fit_same n l m e h = rw e h

-- image k lies in them
module _ (n : ℕ) (l : List ℕ) (e : ℕ) (s : e ≡ each_length n l) (h : images_fit n l ≡ true) (k : ℕ) (m : k < n) where
  pub room_for : k * e + e ≤ length l
  room_for =
      let r : k * e + e ≤ n * e = ends_before k n e m in
      let t : length l ≡ n * e = fit_long n l h ∙ ap (λ (i : ℕ). n * i) (sym s) in
      omega arith

  pub image_lent : is_image (lent_at e l k) ≡ true
  image_lent = rw (lent_is e l k room_for, s) (image_in_law n l l k)

-- ---- the states in them

module _ (e : ℕ) (l : List ℕ) where
  pub length_states : (k m : ℕ) → length (states_from e l k m) ≡ m
  unfolding states_from
  length_states k zero = refl
  length_states k (suc m) = ap suc (length_states (suc k) m)

  state_from : (k m j : ℕ) → j < m → task_of (states_from e l k m) j ≡ state_of (image_in e l (k + j))
  unfolding states_from
  state_from k zero j h = absurd (omega arith)
  state_from k (suc m) zero h = ap (λ (i : ℕ). state_of (image_in e l i)) (omega arith)
  state_from k (suc m) (suc j) h = state_from (suc k) m j (omega arith) ∙ ap (λ (i : ℕ). state_of (image_in e l i)) (omega arith)

  pub state_at_law : (m j : ℕ) → j < m → task_of (states_from e l 0 m) j ≡ state_of (image_in e l j)
  state_at_law m j h = state_from 0 m j h ∙ ap (λ (i : ℕ). state_of (image_in e l i)) (omega arith)

-- ---- 1

-- the states of the first k images are admissible
abbrev pub admitted_so : ℕ → List ℕ → ℕ → Bool
admitted_so e l k = each_below k (λ j. admissible (state_of (image_in e l j)))

below_same : (n : ℕ) (P Q : ℕ → Bool) → ((k : ℕ) → k < n → P k ≡ Q k) → each_below n P ≡ each_below n Q
unfolding each_below
below_same zero P Q h = refl
below_same (suc n) P Q h = rw (h n (omega arith), below_same n P Q (λ k m. h k (omega arith)))

module _ (n : ℕ) (l : List ℕ) (e : ℕ) (s : e ≡ each_length n l) where
  pub all_short : 1 ≤ n → (length l ≡ n * e → ⊥) → false ≡ all_admissible n (states_in n l)
  unfolding all_admissible states_in
  all_short a d = rw (fit_not n l (λ f. d (f ∙ ap (λ (i : ℕ). n * i) (sym s))), ne_eqb 0 n (λ z. omega arith))

  module _ (h : length l ≡ n * e) where
    pub all_is : admitted_so e l n ≡ all_admissible n (states_in n l)
    unfolding all_admissible states_in
    all_is =
        rw (fit_so n l (h ∙ ap (λ (i : ℕ). n * i) s), ← s, eq-eqb (length (states_from e l 0 n)) n (length_states e l 0 n))
        (below_same n (λ j. admissible (state_of (image_in e l j))) (λ j. admissible (task_of (states_from e l 0 n) j)) (λ k m. ap admissible (sym (state_at_law e l n k m))))

    -- image k, as it is lent
    module _ (k : ℕ) (m : k < n) where
      abbrev lent : List ℕ
      lent = lent_at e l k

      tested : (is_image lent && admissible (state_of lent)) ≡ admissible (state_of (image_in e l k))
      tested = rw (lent_is e l k (omega (arith, ends_before k n e m)), s, image_in_law n l l k)

      module _ (t : Bool) (g : t ≡ (is_image lent && admissible (state_of lent))) where
        pub admitted_fails : not t ≡ true → false ≡ all_admissible n (states_in n l)
        admitted_fails d = sym (below_fails n (λ j. admissible (state_of (image_in e l j))) k m (denied t _ (g ∙ tested) d)) ∙ all_is

        pub admitted_more : not t ≡ false → admitted_so e l k ≡ true → admitted_so e l (k + 1) ≡ true
        admitted_more d c = below_more k (λ j. admissible (state_of (image_in e l j))) c (granted t _ (g ∙ tested) d)

    pub admitted_all : (k : ℕ) → k ≡ n → admitted_so e l k ≡ true → true ≡ all_admissible n (states_in n l)
    admitted_all k q c = below_all n k (λ j. admissible (state_of (image_in e l j))) q c ∙ all_is

-- what is known where 1 does not refuse the call
module _ (n : ℕ) (l : List ℕ) where
  pub fit_from : 1 ≤ n → all_admissible n (states_in n l) ≡ true → images_fit n l ≡ true
  unfolding all_admissible states_in
  fit_from a = go (images_fit n l)
    where
      go : (b : Bool) → (eqb (length (cond b (states_from (each_length n l) l 0 n) [])) n
          && each_below n (λ k. admissible (task_of (cond b (states_from (each_length n l) l 0 n) []) k))) ≡ true → b ≡ true
      go true e = refl
      go false e = absurd (let z : 0 ≡ n = eqb-true 0 n (and_left (eqb 0 n) _ e) in omega arith)

  pub states_fit : images_fit n l ≡ true → states_in n l ≡ states_from (each_length n l) l 0 n
  unfolding states_in
  states_fit h = rw h

  pub admitted_at : images_fit n l ≡ true → all_admissible n (states_in n l) ≡ true → (k : ℕ) → k < n → admissible (state_of (image_in (each_length n l) l k)) ≡ true
  admitted_at h e = at_below n (λ j. admissible (state_of (image_in (each_length n l) l j))) (all_is n l (each_length n l) refl (fit_long n l h) ∙ e)
