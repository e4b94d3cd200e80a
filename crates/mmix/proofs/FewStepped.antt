-- A step on an image of which few general registers are decoded, and an exception: each is that of the image's state.
use Rattle.model.proofs.Prelude.{ℕ, ◌<◌, Bool, false, not, true, ◌&&◌, ◌||◌, List, ap, refl, subst, sym, ◌∙◌, ◌≡◌, ℕ_discrete, arith, get_or, length, length-set}
use Rattle.model.proofs.Prelude.{set, get_or-set_other, get_or-set_same, joined, of_stack, puts_bound, SameTouched, touches_few, Windows, Said, made, map_outcome}
use Rattle.model.proofs.Prelude.{Outcome, is_marginal, claims, step_of}
use Rattle.mmix.proofs.Prelude.{State, is_image, state_of, stored_in, round_trips}
use Rattle.model.proofs.Few.{few_touched}
use Rattle.image.specs.Few.{few_of, touched_of, left_of}
use Rattle.mmix.specs.Entries.{Stepped, SteppedState, Raised, RaisedState}
use Rattle.mmix.proofs.Entries.{stepped, raised}

-- ---- the choice, by its three tests

pub few_by : (s : State) (op x : ℕ) (a b c : Bool) → of_stack op ≡ a → puts_bound op x ≡ b → (is_marginal s x && claims op) ≡ c → not (a || (b || c)) ≡ touches_few s op x
unfolding touches_few
few_by s op x a b c p q r = sym (λ i. not (p i || (q i || r i)))

-- ---- the registers that are decoded

module _ (gs zs : List ℕ) (k : ℕ) (n : length zs ≡ 256) (h : k < 256) where
  hit : get_or (set zs k (get_or gs k 0)) k 0 ≡ get_or gs k 0
  hit = get_or-set_same zs k (get_or gs k 0) 0 (omega arith)

  kept : (i : ℕ) → get_or zs i 0 ≡ get_or gs i 0 → get_or (set zs k (get_or gs k 0)) i 0 ≡ get_or gs i 0
  kept i e = go (ℕ_discrete i k)
    where
      go : Dec (i ≡ k) → get_or (set zs k (get_or gs k 0)) i 0 ≡ get_or gs i 0
      go (yes q) = rw q hit
      go (no q) = get_or-set_other zs k i (get_or gs k 0) 0 q ∙ e

  long : length (set zs k (get_or gs k 0)) ≡ 256
  long = length-set zs k (get_or gs k 0) ∙ n

-- a state with these registers of s, and what is no general register of s, agrees with s
few_same : (s : State) (zs : List ℕ) (x y z : ℕ) → length s.general ≡ 256 → length zs ≡ 256 → x < 256 → y < 256 → z < 256
    → SameTouched x y z s (made (few_of s.general x y z zs) s.special s.pc s.halt s.marks s.mask)
few_same s zs x y z c n hx hy hz =
    let gs : List ℕ = s.general in
    let zx : List ℕ = set zs x (get_or gs x 0) in
    let zy : List ℕ = set zx y (get_or gs y 0) in
    let zz : List ℕ = set zy z (get_or gs z 0) in
    let nx : length zx ≡ 256 = long gs zs x n hx in
    let ny : length zy ≡ 256 = long gs zx y nx hy in
    let nz : length zz ≡ 256 = long gs zy z ny hz in
    let l : ◌<◌ 255 256 = omega arith in
    record {
      count_same = c ∙ sym (long gs zz 255 nz l);
      x_same = sym (kept gs zz 255 nz l x (kept gs zy z ny hz x (kept gs zx y nx hy x (hit gs zs x n hx))));
      y_same = sym (kept gs zz 255 nz l y (kept gs zy z ny hz y (hit gs zx y nx hy)));
      z_same = sym (kept gs zz 255 nz l z (hit gs zy z ny hz));
      last_same = sym (hit gs zz 255 nz l);
      special_same = refl;
      pc_same = refl;
      halt_same = refl;
      marks_same = refl;
      mask_same = refl;
    }

-- ---- on an image

module _ (l : List ℕ) (is : is_image l ≡ true) (zs : List ℕ) (n : length zs ≡ 256)
    (ks : List ℕ) (pc halt marks mask : ℕ) (e : made (state_of l).general ks pc halt marks mask ≡ state_of l) where
  decoded_same : (x y z : ℕ) → x < 256 → y < 256 → z < 256
      → SameTouched x y z (state_of l) (made (few_of (state_of l).general x y z zs) ks pc halt marks mask)
  decoded_same x y z hx hy hz =
      subst (λ (s : State). SameTouched x y z (state_of l) (made (few_of (state_of l).general x y z zs) s.special s.pc s.halt s.marks s.mask)) (sym e)
      (few_same (state_of l) zs x y z (round_trips.state_sized l).generals n hx hy hz)

  pub touched_stepped : (w : Windows) (op x y z : ℕ) → op < 256 → x < 256 → y < 256 → z < 256
      → (few : Bool) → few ≡ touches_few (made (state_of l).general ks pc halt marks mask) op x
      → (gs : List ℕ) → gs ≡ touched_of few (state_of l).general x y z zs
      → (r : ℕ) (gs' ks' : List ℕ) (pc' halt' : ℕ) (v : Windows) → SteppedState w (made gs ks pc halt marks mask) op x y z r (made gs' ks' pc' halt' marks mask) v
      → (m : List ℕ) → m ≡ stored_in l (left_of few (state_of l) x (made gs' ks' pc' halt' marks mask)) → Stepped l w op x y z r m v
  unfolding map_outcome
  touched_stepped w op x y z ho hx hy hz true f gs q r gs' ks' pc' halt' v g m k =
      let t : State = made gs ks pc halt marks mask in
      let same : SameTouched x y z (state_of l) t
      = subst (λ (hs : List ℕ). SameTouched x y z (state_of l) (made hs ks pc halt marks mask)) (sym q) (decoded_same x y z hx hy hz) in
      let back : map_outcome (joined (state_of l) x) (step_of w t op x y z) ≡ step_of w (state_of l) op x y z
      = sym (few_touched.by_step w (state_of l) t op x y z ho (ap (λ (s : State). touches_few s op x) (sym e) ∙ sym f) same) in
      stepped l is w op x y z (state_of l) refl r (joined (state_of l) x (made gs' ks' pc' halt' marks mask)) v
      (record {
        reply_is = g.reply_is ∙ ap (λ (o : Outcome State Windows). o.reply) back;
        state_is = ap (joined (state_of l) x) g.state_is ∙ ap (λ (o : Outcome State Windows). o.state) back;
        window_is = g.window_is ∙ ap (λ (o : Outcome State Windows). o.memory) back;
      })
      (ap (λ (s : State). s.mask) e) m k
  touched_stepped w op x y z ho hx hy hz false f gs q r gs' ks' pc' halt' v g m k =
      stepped l is w op x y z _ (ap (λ (hs : List ℕ). made hs ks pc halt marks mask) q ∙ e) r _ v g refl m k

  pub touched_raised : (f op x y z u v : ℕ) (gs : List ℕ) → gs ≡ few_of (state_of l).general 255 255 255 zs
      → (r : ℕ) (gs' ks' : List ℕ) (pc' halt' : ℕ) → RaisedState (made gs ks pc halt marks mask) f op x y z u v r (made gs' ks' pc' halt' marks mask)
      → (m : List ℕ) → m ≡ stored_in l (joined (state_of l) 255 (made gs' ks' pc' halt' marks mask)) → Raised l f op x y z u v r m
  touched_raised f op x y z u v gs q r gs' ks' pc' halt' g m k =
      let t : State = made gs ks pc halt marks mask in
      let h : ◌<◌ 255 256 = omega arith in
      let same : SameTouched 255 255 255 (state_of l) t
      = subst (λ (hs : List ℕ). SameTouched 255 255 255 (state_of l) (made hs ks pc halt marks mask)) (sym q) (decoded_same 255 255 255 h h h) in
      let back = sym (few_touched.by_exception (state_of l) t f op x y z u v same) in
      raised l is f op x y z u v (state_of l) refl r (joined (state_of l) 255 (made gs' ks' pc' halt' marks mask))
      (record {
        reply_is = g.reply_is ∙ ap (λ (o : Said). o.reply) back;
        state_is = ap (joined (state_of l) 255) g.state_is ∙ ap (λ (o : Said). o.state) back;
      })
      (ap (λ (s : State). s.mask) e) m k
