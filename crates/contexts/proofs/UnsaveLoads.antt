-- Laws of UNSAVE: octabytes as code reads them, the general registers loaded part by part, the twelve special registers loaded one
-- after another, and the registers after it. Where the context is comes from ContextPlaces, what is answered from SaveUnsaveAnswers.
use Rattle.model.proofs.Prelude.{suc, zero, ℕ, ◌%◌, ◌*◌, ◌+◌, ◌-◌, ◌<◌, ◌^◌, ◌≤◌, cond, false, true, ◌&&◌, List, inl, inr, ◌⊎◌, ⊎_elim, ap, refl, sym, ◌∙◌, ◌≡◌}
use Rattle.model.proofs.Prelude.{add-one, arith, eqb, leb, get_or, length, length-set, set, ext_get_or, get_or-set_other, get_or-set_same, eqb-false, eqb-true, le-leb}
use Rattle.model.proofs.Prelude.{le-ltb, leb-false, leb-true, lt-leb, lt-ltb, saved_special, unsaved, unsaved_general, unsaved_special, unsaved_unspilled, over}
use Rattle.model.proofs.Prelude.{both, shapes_of, Windows, made, looks, worst, r_a, r_g, r_l, r_o, r_p, r_r, r_s, r_z, spilled, with_special, refusing, and_left}
use Rattle.model.proofs.Prelude.{and_right, on, length_over, lt_or_le, over_above, over_below, over_in, both_lawful, get_d_looks, get_d_tab, length_tab, further}
use Rattle.model.proofs.Prelude.{saved_special_high, saved_special_low}
use Rattle.contexts.proofs.Prelude.{State, read_octa, read_mod, run_read}
use Rattle.contexts.specs.ContextWork.{octas_from, loaded}

-- ---- octabytes as code reads them

pub octa_at_law : (w : Windows) (a n i : ℕ) → i < n → get_or (octas_from w a n) i 0 ≡ read_octa w ((a + 8 * i) % 2 ^ 64)
unfolding octas_from
octa_at_law w a n i h = get_d_tab n i (λ j. read_octa w ((a + 8 * j) % 2 ^ 64)) h

length_octas : (w : Windows) (a n : ℕ) → length (octas_from w a n) ≡ n
unfolding octas_from
length_octas w a n = length_tab n 0 (λ j. read_octa w ((a + 8 * j) % 2 ^ 64))

length_looks : (n : ℕ) (w : Windows) (a : ℕ) → length (looks both w a n) ≡ n
unfolding looks
length_looks zero w a = refl
length_looks (suc n) w a = ap suc (length_looks n w (a + 8))

-- of a run inside they are its octabytes
pub octas_are : (w : Windows) (a b n : ℕ) → worst (refusing (shapes_of w)) a n ≡ 0 → b ≡ a % 2 ^ 64 → octas_from w b n ≡ looks both w a n
octas_are w a b n p e =
    ext_get_or 0 (octas_from w b n) (looks both w a n) (length_octas w b n ∙ sym (length_looks n w a))
    (λ i h. let l : i < n = omega (arith, length_octas w b n) in
    let m : (b + 8 * i) % 2 ^ 64 % 2 ^ 64 ≡ (a + 8 * i) % 2 ^ 64 = omega arith in
    octa_at_law w b n i l ∙ read_mod w ((b + 8 * i) % 2 ^ 64) (a + 8 * i) m ∙ run_read w a n p i (a + 8 * i) l refl ∙ sym (get_d_looks both both_lawful n w a i l))

-- ---- the general registers, part by part: the locals, those between cleared, the globals

module _ (w : Windows) (first g l globals : ℕ) (r r₁ r₂ r₃ : List ℕ) (gh : g ≤ 255) (lg : l ≤ g) (e : globals ≡ (first + 8 * (l + 1)) % 2 ^ 64)
    (e₁ : r₁ ≡ over (λ (k : ℕ). read_octa w (first + 8 * (k - 0))) 0 l r) (e₂ : r₂ ≡ over (λ (k : ℕ). 0) l g r₁)
    (e₃ : r₃ ≡ over (λ (k : ℕ). read_octa w (globals + 8 * (k - g))) g 256 r₂) where
  abbrev by_context : ℕ → ℕ
  by_context = unsaved_general g l (octas_from w first (l + 270 - g))

  abbrev locals : ℕ → ℕ
  locals k = read_octa w (first + 8 * (k - 0))

  abbrev above : ℕ → ℕ
  above k = read_octa w (globals + 8 * (k - g))

  from_local : (k : ℕ) → k < l → locals k ≡ by_context k
  unfolding unsaved_general
  from_local k h =
      let z : (first + 8 * (k - 0)) % 2 ^ 64 ≡ (first + 8 * k) % 2 ^ 64 % 2 ^ 64 = omega arith in
      read_mod w (first + 8 * (k - 0)) ((first + 8 * k) % 2 ^ 64) z ∙ sym (octa_at_law w first (l + 270 - g) k (omega arith)) ∙ rw (lt-ltb k l h)

  from_none : (k : ℕ) → l ≤ k → k < g → 0 ≡ by_context k
  unfolding unsaved_general
  from_none k h m = rw (le-ltb k l h, lt-ltb k g m)

  from_global : (k : ℕ) → g ≤ k → k < 256 → above k ≡ by_context k
  unfolding unsaved_general
  from_global k h m =
      let z : (globals + 8 * (k - g)) % 2 ^ 64 ≡ (first + 8 * (l + 1 + (k - g))) % 2 ^ 64 % 2 ^ 64 = omega arith in
      read_mod w (globals + 8 * (k - g)) ((first + 8 * (l + 1 + (k - g))) % 2 ^ 64) z
      ∙ sym (octa_at_law w first (l + 270 - g) (l + 1 + (k - g)) (omega arith)) ∙ rw (le-ltb k l (omega arith), le-ltb k g h)

  abbrev parts : List ℕ
  parts = over above g 256 (over (λ (k : ℕ). 0) l g (over locals 0 l r))

  parts_are : parts ≡ over by_context 0 256 r
  parts_are =
      ext_get_or 0 parts (over by_context 0 256 r) (n₃ ∙ sym (length_over by_context 0 256 r))
      (λ k m. let n : k < length r = omega (arith, n₃) in
      ⊎_elim
      (λ in_b. ⊎_elim
      (λ lo. over_below above g 256 _ k lo (omega (arith, n₂))
      ∙ ⊎_elim
      (λ loc. over_below (λ (k : ℕ). 0) l g _ k loc (omega (arith, n₁)) ∙ over_in locals 0 l r k (omega arith) loc n ∙ from_local k loc)
      (λ mid. over_in (λ (k : ℕ). 0) l g _ k mid lo (omega (arith, n₁)) ∙ from_none k mid lo)
      (lt_or_le k l))
      (λ hi. over_in above g 256 _ k hi in_b (omega (arith, n₂)) ∙ from_global k hi in_b)
      (lt_or_le k g)
      ∙ sym (over_in by_context 0 256 r k (omega arith) in_b n))
      (λ out. over_above above g 256 _ k out (omega (arith, n₂)) ∙ over_above (λ (k : ℕ). 0) l g _ k (omega arith) (omega (arith, n₁))
      ∙ over_above locals 0 l r k (omega arith) n ∙ sym (over_above by_context 0 256 r k out n))
      (lt_or_le k 256))
    where
      n₁ : length (over locals 0 l r) ≡ length r
      n₁ = length_over locals 0 l r

      n₂ : length (over (λ (k : ℕ). 0) l g (over locals 0 l r)) ≡ length r
      n₂ = length_over (λ (k : ℕ). 0) l g (over locals 0 l r) ∙ n₁

      n₃ : length parts ≡ length r
      n₃ = length_over above g 256 (over (λ (k : ℕ). 0) l g (over locals 0 l r)) ∙ n₂

  pub loaded_general : r₃ ≡ over by_context 0 256 r
  loaded_general = e₃ ∙ rw (e₂, e₁) parts_are

-- ---- the twelve

pub saved_special_up : (k : ℕ) → r_r < k → saved_special k ≡ k + 16
unfolding saved_special
saved_special_up k h = rw (lt-leb k r_r h)

pub saved_special_less : (i j : ℕ) → i < j → saved_special i < saved_special j
saved_special_less i j h =
    ⊎_elim (λ low. ⊎_elim (λ high. omega (arith, saved_special_low i (omega arith), saved_special_up j high))
    (λ also. omega (arith, saved_special_low i (omega arith), saved_special_low j also)) (lt_or_le r_r j))
    (λ high. omega (arith, saved_special_up i (omega arith), saved_special_up j (omega arith)))
    (lt_or_le i 7)

pub saved_special_most : (i : ℕ) → i < 12 → saved_special i < 32
saved_special_most i h =
    ⊎_elim (λ low. omega (arith, saved_special_low i (omega arith))) (λ high. omega (arith, saved_special_up i (omega arith))) (lt_or_le i 7)

module _ (f : ℕ → ℕ) (l : List ℕ) where
  length_loaded : (n : ℕ) → length (loaded f n l) ≡ length l
  unfolding loaded
  length_loaded zero = refl
  length_loaded (suc n) = length-set (loaded f n l) (saved_special n) (f n) ∙ length_loaded n

  loaded_hit : (n j : ℕ) → length l ≡ 32 → n ≤ 12 → j < n → get_or (loaded f n l) (saved_special j) 0 ≡ f j
  unfolding loaded
  loaded_hit zero j e h k = absurd (omega arith)
  loaded_hit (suc n) j e h k = go (lt_or_le j n) (loaded_hit n j e (omega arith))
    where
      go : (j < n) ⊎ (n ≤ j) → (j < n → get_or (loaded f n l) (saved_special j) 0 ≡ f j) → get_or (set (loaded f n l) (saved_special n) (f n)) (saved_special j) 0 ≡ f j
      go (inl less) rest =
          get_or-set_other (loaded f n l) (saved_special n) (saved_special j) (f n) 0 (λ q. omega (arith, saved_special_less j n less, q)) ∙ rest less
      go (inr more) rest =
          let here : n ≡ j = omega arith in
          rw here (get_or-set_same (loaded f j l) (saved_special j) (f j) 0 (omega (arith, length_loaded j, saved_special_most j (omega arith))))

  loaded_miss : (n k : ℕ) → ((j : ℕ) → j < n → saved_special j ≡ k → ⊥) → get_or (loaded f n l) k 0 ≡ get_or l k 0
  unfolding loaded
  loaded_miss zero k h = refl
  loaded_miss (suc n) k h = get_or-set_other (loaded f n l) (saved_special n) k (f n) 0 (λ q. h n (omega arith) (sym q)) ∙ loaded_miss n k (λ j m. h j (omega arith))

-- a turn of the loop that loads them
pub loaded_more : (f : ℕ → ℕ) (i k v : ℕ) (l m : List ℕ) → m ≡ loaded f i l → k ≡ saved_special i → v ≡ f i → set m k v ≡ loaded f (i + 1) l
unfolding loaded
loaded_more f i k v l m e q r = rw (add-one i) (cc)

module _ (f v : ℕ → ℕ) (l : List ℕ) (k : ℕ) (n : length l ≡ 32) (h : (j : ℕ) → j < 12 → f j ≡ v j) where
  at_low : k ≤ r_r → get_or (loaded f 12 l) k 0 ≡ v k
  at_low b =
      ap (λ (i : ℕ). get_or (loaded f 12 l) i 0) (sym (saved_special_low k b)) ∙ loaded_hit f l 12 k n (omega arith) (omega arith) ∙ h k (omega arith)

  at_high : r_p ≤ k → k ≤ r_z → get_or (loaded f 12 l) k 0 ≡ v (k - 16)
  at_high b d =
      ap (λ (i : ℕ). get_or (loaded f 12 l) i 0) (sym (saved_special_high k b)) ∙ loaded_hit f l 12 (k - 16) n (omega arith) (omega arith)
      ∙ h (k - 16) (omega arith)

  at_none : r_r < k → (leb r_p k && leb k r_z) ≡ false → (j : ℕ) → j < 12 → saved_special j ≡ k → ⊥
  at_none b d j m q =
      ⊎_elim (λ low. let e : saved_special j ≡ j = saved_special_low j (omega arith) in omega arith)
      (λ up. let e : saved_special j ≡ j + 16 = saved_special_up j (omega arith) in
      let lo : r_p ≤ k = omega arith in
      let hi : k ≤ r_z = omega arith in
      let t : true ≡ false = rw (le-leb r_p k lo, le-leb k r_z hi) at d in
      let z : ◌≡◌ {A = ℕ} 0 1 = cc in
      omega arith)
      (lt_or_le j 7)

  -- special k after the twelve are loaded
  loaded_at : get_or (loaded f 12 l) k 0 ≡ cond (leb k r_r) (v k) (cond (leb r_p k && leb k r_z) (v (k - 16)) (get_or l k 0))
  loaded_at =
      on (λ (x : ℕ). get_or (loaded f 12 l) k 0 ≡ x) (leb k r_r) (λ e. at_low (leb-true k r_r e))
      (λ e. on (λ (x : ℕ). get_or (loaded f 12 l) k 0 ≡ x) (leb r_p k && leb k r_z)
      (λ d. at_high (leb-true r_p k (and_left (leb r_p k) _ d)) (leb-true k r_z (and_right (leb r_p k) _ d)))
      (λ d. loaded_miss f l 12 k (at_none (leb-false k r_r e) d)))

-- ---- the registers after it

set_at : (l : List ℕ) (i v k : ℕ) → i < length l → get_or (set l i v) k 0 ≡ cond (eqb k i) v (get_or l k 0)
set_at l i v k h =
    on (λ (x : ℕ). get_or (set l i v) k 0 ≡ x) (eqb k i) (λ e. ap (λ (n : ℕ). get_or (set l i v) n 0) (eqb-true k i e) ∙ get_or-set_same l i v 0 h)
    (λ e. get_or-set_other l i k v 0 (eqb-false k i e))

module _ (s : State) (w : Windows) (first g a l specials : ℕ) (n : length s.special ≡ 32) (gh : g ≤ 255) (lg : l ≤ g)
    (e : specials ≡ (first + 8 * (l + 257 - g)) % 2 ^ 64) where
  abbrev reads : ℕ → ℕ
  reads i = read_octa w ((specials + 8 * i) % 2 ^ 64)

  abbrev rule : ℕ → ℕ
  rule = unsaved_special s first g a l (octas_from w first (l + 270 - g))

  abbrev loads : List ℕ
  loads = loaded reads 12 s.special

  reads_are : (j : ℕ) → j < 12 → reads j ≡ get_or (octas_from w first (l + 270 - g)) (l + 257 - g + j) 0
  reads_are j h =
      let m : specials % 2 ^ 64 ≡ (first + 8 * (l + 257 - g)) % 2 ^ 64 = omega arith in
      ap (read_octa w) (further first specials (l + 257 - g) j m) ∙ sym (octa_at_law w first (l + 270 - g) (l + 257 - g + j) (omega arith))

  by_rule : set (set (set (set loads r_o first) r_a a) r_l l) r_g g ≡ over rule 0 32 s.special
  by_rule =
      ext_get_or 0 (set (set (set (set loads r_o first) r_a a) r_l l) r_g g) (over rule 0 32 s.special) lengths
      (λ k h. let m : k < 32 = omega (arith, lengths, length_over rule 0 32 s.special) in
      at k ∙ sym (over_in rule 0 32 s.special k (omega arith) m (omega arith)))
    where
      n0 : length loads ≡ 32
      n0 = length_loaded reads s.special 12 ∙ n

      n1 : length (set loads r_o first) ≡ 32
      n1 = length-set loads r_o first ∙ n0

      n2 : length (set (set loads r_o first) r_a a) ≡ 32
      n2 = length-set (set loads r_o first) r_a a ∙ n1

      n3 : length (set (set (set loads r_o first) r_a a) r_l l) ≡ 32
      n3 = length-set (set (set loads r_o first) r_a a) r_l l ∙ n2

      lengths : length (set (set (set (set loads r_o first) r_a a) r_l l) r_g g) ≡ length (over rule 0 32 s.special)
      lengths = length-set (set (set (set loads r_o first) r_a a) r_l l) r_g g ∙ n3 ∙ sym (length_over rule 0 32 s.special ∙ n)

      at : (k : ℕ) → get_or (set (set (set (set loads r_o first) r_a a) r_l l) r_g g) k 0 ≡ rule k
      at k = unfold unsaved_special in
          (set_at (set (set (set loads r_o first) r_a a) r_l l) r_g g k (omega (arith, n3))
          ∙ ap (cond (eqb k r_g) g) (set_at (set (set loads r_o first) r_a a) r_l l k (omega (arith, n2))
          ∙ ap (cond (eqb k r_l) l) (set_at (set loads r_o first) r_a a k (omega (arith, n1))
          ∙ ap (cond (eqb k r_a) a) (set_at loads r_o first k (omega (arith, n0))
          ∙ ap (cond (eqb k r_o) first) (loaded_at reads (λ j. get_or (octas_from w first (l + 270 - g)) (l + 257 - g + j) 0) s.special k n reads_are)))))

  by_spill : get_or (over rule 0 32 s.special) r_o 0 ≡ first
  by_spill = over_in rule 0 32 s.special r_o (omega arith) (omega arith) (omega arith) ∙ unfold unsaved_special in refl

pub arrived : (general special general' special' : List ℕ) (w : Windows) (first g a l specials : ℕ) → length special ≡ 32 → g ≤ 255 → l ≤ g
    → specials ≡ (first + 8 * (l + 257 - g)) % 2 ^ 64 → general' ≡ over (unsaved_general g l (octas_from w first (l + 270 - g))) 0 256 general
    → special' ≡ loaded (λ (i : ℕ). read_octa w ((specials + 8 * i) % 2 ^ 64)) 12 special → (pc halt marks mask : ℕ)
    → made general' (set (set (set (set (set special' r_o first) r_a a) r_l l) r_g g) r_s first) pc halt marks mask
    ≡ unsaved (made general special pc halt marks mask) first g a l (octas_from w first (l + 270 - g))
unfolding unsaved spilled with_special unsaved_unspilled
arrived general special general' special' w first g a l specials n gh lg e eg es pc halt marks mask =
    let all = by_rule (made general special pc halt marks mask) w first g a l specials n gh lg e in
    let spill = by_spill (made general special pc halt marks mask) w first g a l specials n gh lg e in
    rw (eg, es, all, spill)
