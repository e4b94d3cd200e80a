-- A run of octabytes that is stored, kept and read below: the one fact behind POP after PUSH and UNSAVE after SAVE.
use Rattle.model.proofs.Logic.{suc, zero, ℕ, ◌%◌, ◌*◌, ◌+◌, ◌/◌, ◌<◌, ◌^◌, ◌≤◌, List, [], ◌∷◌, ◌≢◌, ap, refl, sym, ◌∙◌, ◌≡◌, dec_le, zero-add, arith}
use Rattle.model.proofs.Logic.{eqb, get_or, length, eq-eqb, eqb-true}
use Rattle.model.specs.Fill.{tab}
use Rattle.model.specs.Octa.{octa, value_of, bytes_of}
use Rattle.model.specs.Memory.{Store}
use Rattle.model.specs.Plan.{Plan, read, Outcome, perform, clear, named, ups, All, worst, look, looks, puts}
use Rattle.model.specs.Demand.{Within}
use Rattle.model.proofs.Bools.{on}
use Rattle.model.proofs.Octa.{value_bytes}
use Rattle.model.proofs.Plan.{worst_head, worst_tail, Kept, Sound, puts_kept}
use Rattle.model.proofs.Memory.{Lawful}

tab_from : (n i j : ℕ) (f : ℕ → ℕ) → j < n → get_or (tab i n f) j 0 ≡ f (i + j)
unfolding tab
tab_from zero i j f h = absurd (omega arith)
tab_from (suc n) i zero f h = ap f (omega arith)
tab_from (suc n) i (suc j) f h = tab_from n (suc i) j f (omega arith) ∙ ap f (omega arith)

pub get_d_tab : (n j : ℕ) (f : ℕ → ℕ) → j < n → get_or (tab 0 n f) j 0 ≡ f j
get_d_tab n j f h = tab_from n 0 j f h ∙ ap f (zero-add j)

pub length_tab : (n i : ℕ) (f : ℕ → ℕ) → length (tab i n f) ≡ n
unfolding tab
length_tab zero i f = refl
length_tab (suc n) i f = ap suc (length_tab n (suc i) f)

pub octa_next : (a j k : ℕ) → j < k → k ≤ j + 1000 → octa (a + 8 * j) ≢ octa (a + 8 * k)
unfolding octa
octa_next a j k p q e =
    let f : (a + 8 * j) / 8 ≡ a / 8 + j = up a j in
    let g : (a + 8 * k) / 8 ≡ a / 8 + k = up a k in
    wraps (a / 8) j k p q (rw (f, g) at e) (dec_le ((a / 8 + k) / 2 ^ 61) ((a / 8 + j) / 2 ^ 61))
  where
    up : (b i : ℕ) → (b + 8 * i) / 8 ≡ b / 8 + i
    up b i = omega arith

    wraps : (b i l : ℕ) → i < l → l ≤ i + 1000 → 8 * ((b + i) % 2 ^ 61) ≡ 8 * ((b + l) % 2 ^ 61)
        → Dec ((b + l) / 2 ^ 61 ≤ (b + i) / 2 ^ 61) → ⊥
    wraps b i l u v x (yes c) = omega arith
    wraps b i l u v x (no c) = omega arith

-- addresses are taken modulo 2^64
pub octa_mod : (a b : ℕ) → a % 2 ^ 64 ≡ b % 2 ^ 64 → octa a ≡ octa b
octa_mod a b e = by a ∙ ap octa e ∙ sym (by b)
  where
    by : (c : ℕ) → octa c ≡ octa (c % 2 ^ 64)
    by c = unfold octa in omega arith

ups_off : (n : ℕ) (a b k : ℕ) → b ≡ a + 8 * k → 1 ≤ k → k + n ≤ 1000 → All (λ c. octa c ≡ octa a → ⊥) (ups b n)
unfolding All ups
ups_off zero a b k e p q = tt
ups_off (suc n) a b k e p q = (off, ups_off n a (b + 8) (suc k) (omega arith) (omega arith) (omega arith))
  where
    off : octa b ≡ octa a → ⊥
    off g =
        let z : a + 8 * 0 ≡ a = omega arith in
        octa_next a 0 k (omega arith) (omega arith) (rw z (rw e at (sym g)))

pub worst_of : (j : ℕ → ℕ) (n a i : ℕ) → worst j a n ≡ 0 → i < n → j (a + 8 * i) ≡ 0
worst_of j zero a i e l = absurd (omega arith)
worst_of j (suc n) a zero e l = let z : a + 8 * 0 ≡ a = omega arith in rw z (worst_head j a n e)
worst_of j (suc n) a (suc i) e l =
    let z : a + 8 * suc i ≡ a + 8 + 8 * i = omega arith in
    rw z (worst_of j n (a + 8) i (worst_tail j a n e) (omega arith))

pub of_worst : (j : ℕ → ℕ) (n a : ℕ) → ((i : ℕ) → i < n → j (a + 8 * i) ≡ 0) → worst j a n ≡ 0
unfolding worst
of_worst j zero a h = refl
of_worst j (suc n) a h =
    let z : a + 8 * 0 ≡ a = omega arith in
    let e : j a ≡ 0 = rw z at (h 0 (omega arith)) in
    let r : worst j (a + 8) n ≡ 0 = of_worst j n (a + 8) (λ i l. next i l) in
    omega arith
  where
    next : (i : ℕ) → i < n → j (a + 8 + 8 * i) ≡ 0
    next i l = let z : a + 8 * suc i ≡ a + 8 + 8 * i = omega arith in rw z at (h (suc i) (omega arith))

module _ {M Sh : Type 0} (st : Store M Sh) (law : Lawful st) where
  pub get_d_looks : (n : ℕ) (m : M) (a i : ℕ) → i < n → get_or (looks st m a n) i 0 ≡ look st m (a + 8 * i)
  unfolding looks
  get_d_looks zero m a i l = absurd (omega arith)
  get_d_looks (suc n) m a zero l = ap (look st m) (omega arith)
  get_d_looks (suc n) m a (suc i) l = get_d_looks n m (a + 8) i (omega arith) ∙ ap (look st m) (omega arith)

  pub look_mod : (m : M) (a b : ℕ) → a % 2 ^ 64 ≡ b % 2 ^ 64 → look st m a ≡ look st m b
  unfolding look
  look_mod m a b e = rw (law.raw_octa m a b (octa_mod a b e))

  raw_puts : (j : ℕ → ℕ) (vs : List ℕ) (m : M) (a i : ℕ) → Sound st j (st.shape m) → worst j a (length vs) ≡ 0 → length vs ≤ 999 → i < length vs
      → st.raw (puts st m a vs) (a + 8 * i) ≡ bytes_of (get_or vs i 0)
  unfolding puts
  raw_puts j [] m a i snd h q l = absurd (omega arith)
  raw_puts j (v ∷ vs) m a zero snd h q l =
      let z : a + 8 * 0 ≡ a = omega arith in
      rw z ((puts_kept st law (λ o. o ≡ octa a) vs (st.put m a v) (a + 8) (ups_off (length vs) a (a + 8) 1 (omega arith) (omega arith) (omega arith))).octa_kept a refl
      ∙ law.put_same m a a v (snd a (worst_head j a (length vs) h)) refl)
  raw_puts j (v ∷ vs) m a (suc i) snd h q l =
      let e : a + 8 * suc i ≡ a + 8 + 8 * i = omega arith in
      rw e (raw_puts j vs (st.put m a v) (a + 8) i (λ b c. rw (law.put_shape m a v) (snd b c)) (worst_tail j a (length vs) h) (omega arith) (omega arith))

  -- THE fact: n octabytes f 0 .. f (n - 1) stored from a, then kept, are what is read there, at any address that names the place
  pub stands : (j : ℕ → ℕ) (n : ℕ) (f : ℕ → ℕ) (m w : M) (a : ℕ) → Sound st j (st.shape m) → worst j a n ≡ 0 → n ≤ 999
      → ((i : ℕ) → i < n → f i < 2 ^ 64) → Kept st (Within a n) (puts st m a (tab 0 n f)) w
      → (i b : ℕ) → i < n → b % 2 ^ 64 ≡ (a + 8 * i) % 2 ^ 64 → look st w b ≡ f i
  stands j n f m w a snd h small words k i b l e =
      look_mod w b (a + 8 * i) e ∙ here
    where
      len : length (tab 0 n f) ≡ n
      len = length_tab n 0 f

      here : look st w (a + 8 * i) ≡ f i
      here = unfold look in (ap (value_of 0) (k.octa_kept (a + 8 * i) (record { place = i; place_below = l; named_by = refl })
          ∙ raw_puts j (tab 0 n f) m a i snd (rw len h) (omega (arith, len)) (omega (arith, len)) ∙ ap bytes_of (get_d_tab n i f l)) ∙ value_bytes (f i) (words i l))

  pub perform_read : {S : Type 0} (j : ℕ → ℕ) (s : S) (q a n : ℕ) (k : List ℕ → Plan S) (m : M) → worst j a n ≡ 0 → perform st j s (read q a n k) m ≡ perform st j s (k (looks st m a n)) m
  unfolding perform
  perform_read j s q a n k m h = rw (eq-eqb _ _ h)

  -- a read that is not refused
  pub read_done : {S : Type 0} (j : ℕ → ℕ) (s : S) (q a n : ℕ) (k : List ℕ → Plan S) (m : M) → q ≢ 0 → (perform st j s (read q a n k) m).reply ≡ 0 → worst j a n ≡ 0
  unfolding perform named
  read_done {S} j s q a n k m z =
      on {A = Outcome S M} (λ o. o.reply ≡ 0 → worst j a n ≡ 0) (clear j a n) (λ e h. eqb-true _ _ e)
      (λ e. on (λ (r : ℕ). r ≡ 0 → worst j a n ≡ 0) (eqb (worst j a n) 6) (λ f h. absurd (z h)) (λ f h. h))
