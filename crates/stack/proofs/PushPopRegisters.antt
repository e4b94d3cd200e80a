-- What code does to registers and windows for PUSH and POP is what the definitions do, from the facts that its calls leave: what judging
-- gives, PUSH, POP. What is answered is in PushPopAnswers.
use Rattle.model.proofs.Prelude.{min, ℕ, ◌%◌, ◌*◌, ◌+◌, ◌-◌, ◌<◌, ◌^◌, ◌≤◌, false, true, List, ⊎_elim, ap, refl, sym, ◌∙◌, ◌≡◌, eq-or-lt_of_le, arith, eqb, leb}
use Rattle.model.proofs.Prelude.{get_or, length, length-set, set, ext_get_or, get_or-set_other, get_or-set_same, eq-eqb, le-leb, le-ltb, leb-true, lt-leb, lt-ltb}
use Rattle.model.proofs.Prelude.{ltb-true, ne_eqb, over, tab, count_of, framed, last_output, misplaced, popped, pushed, pushed_rule, restored, slid, slide}
use Rattle.model.proofs.Prelude.{unslide, both, holder, shapes_of, Windows, made, looks, puts, worst, cleared, reg, r_g, r_j, r_l, r_o, r_s, sp, spilled, stack_start}
use Rattle.model.proofs.Prelude.{with_parts, with_special, refusing, spec_other, and_left, and_right, granted, length_over, lt_or_le, over_above, over_after}
use Rattle.model.proofs.Prelude.{over_below, over_in, both_lawful, get_d_looks}
use Rattle.model.specs.PopOrder.{lowered, between}
use Rattle.model.specs.declared.State.{State}
use Rattle.model.proofs.PopOrder.{first_general, then_clears}
use Rattle.machine.specs.Octas.{written_range_by, read_octa, written_octa, written_range}
use Rattle.machine.proofs.BothOctas.{puts_none, puts_tab, puts_run, run_read}
use Rattle.machine.proofs.RunTest.{held_inside, held_outside}
use Rattle.machine.proofs.RunRefused.{run_one}
use Rattle.stack.specs.GivenBack.{placed}
use Rattle.stack.specs.PushPop.{Held, Placed, bottom_of, between_by}

-- ---- what judging gives

pub held_by : (s : State) → placed s ≡ true → r_o < length s.special → Held s.special
unfolding placed
held_by s a n =
    record {
      long = n;
      g_high = leb-true _ _ (and_left (leb (sp s r_g) 255) _ a);
      l_g = leb-true _ _ (and_right (leb (sp s r_g) 255) _ a);
    }

pub held_placed : (s : State) → Held s.special → placed s ≡ true
unfolding placed
held_placed s h = rw (le-leb (sp s r_g) 255 h.g_high, le-leb (sp s r_l) (sp s r_g) h.l_g)

pub placed_by : (s : State) → stack_start < sp s r_o → misplaced s ≡ false → Placed s.special
unfolding misplaced
placed_by s a m = record { above = a; beneath = ltb-true _ _ (and_right (eqb (sp s r_o % 8) 0) _ (granted _ _ refl m)) }

-- ---- PUSH

-- registers slid down by d, the rest of the local ones cleared
pub slid_clear : (s : State) (d n : ℕ) → n ≡ sp s r_l - d → n ≤ sp s r_g
    → over (λ (k : ℕ). 0) n (sp s r_g) (over (λ (k : ℕ). get_or s.general (d + k) 0) 0 n s.general) ≡ over (slid s d) 0 (sp s r_g) s.general
unfolding slid
slid_clear s d n e top =
    ext_get_or 0 (over zero' n b (over f 0 n g)) (over (slid s d) 0 b g) (length_over zero' n b (over f 0 n g) ∙ length_over f 0 n g ∙ sym (length_over (slid s d) 0 b g))
    (λ k m. let p : k < length g = omega (arith, length_over zero' n b (over f 0 n g), length_over f 0 n g) in
    let q : k < length (over f 0 n g) = omega (arith, length_over f 0 n g) in
    ⊎_elim
    (λ lo. over_below zero' n b (over f 0 n g) k lo q ∙ over_in f 0 n g k (omega arith) lo p ∙ sym (over_in (slid s d) 0 b g k (omega arith) (omega arith) p ∙ rw (lt-ltb k (sp s r_l - d) (omega arith))))
    (λ hi. ⊎_elim
    (λ lt. over_in zero' n b (over f 0 n g) k hi lt q ∙ sym (over_in (slid s d) 0 b g k (omega arith) lt p ∙ rw (le-ltb k (sp s r_l - d) (omega arith))))
    (λ out. over_above zero' n b (over f 0 n g) k out q ∙ over_above f 0 n g k hi p ∙ sym (over_above (slid s d) 0 b g k out p))
    (lt_or_le k b))
    (lt_or_le k n))
  where
    b : ℕ
    b = sp s r_g

    g : List ℕ
    g = s.general

    zero' : ℕ → ℕ
    zero' k = 0

    f : ℕ → ℕ
    f k = get_or g (d + k) 0

-- the octabytes of the frame
pub framed_local : (s : State) (h i : ℕ) → i < h → framed s h i ≡ reg s i
unfolding framed
framed_local s h i l = rw (lt-ltb i h l)

pub framed_hole : (s : State) (h : ℕ) → framed s h h ≡ h
unfolding framed
framed_hole s h = rw (le-ltb h h (omega arith))

-- its locals, which are a range of the registers
pub locals_stored : (w u : Windows) (s : State) (a h : ℕ) → h ≤ 255 → worst (refusing (shapes_of w)) a (h + 1) ≡ 0
    → u ≡ written_range w a 0 h s.general → u ≡ puts both w a (tab 0 h (framed s h))
unfolding written_range_by
locals_stored w u s a h l pass e =
    let n : min h 256 - 0 ≡ h = omega arith in
    let z : (i : ℕ) → 0 + i ≡ i = λ i. omega arith in
    e ∙ rw n (puts_run w a 0 (h + 1) (framed s h) pass w (sym (puts_none w a (framed s h))) a (omega arith) _ h (omega arith)
    (λ i b. ap (reg s) (z i) ∙ sym (framed_local s h i b) ∙ ap (framed s h) (sym (z i))) ∙ ap (λ (k : ℕ). puts both w a (tab 0 k (framed s h))) (z h))

-- one octabyte more of a list that is stored
pub store_next : (w : Windows) (a n i at : ℕ) → worst (refusing (shapes_of w)) a n ≡ 0 → i < n → at ≡ (a + 8 * i) % 2 ^ 64
    → (f : ℕ → ℕ) (v : ℕ) (u z : Windows) → z ≡ written_octa u at v → u ≡ puts both w a (tab 0 i f) → v ≡ f i → z ≡ puts both w a (tab 0 (i + 1) f)
store_next w a n i at pass l e f v u z ez eu ev = ez ∙ rw eu (puts_tab w a n pass i at l e f v ev)

-- what code has done is what PUSH does
pub entered : (g g₁ g₂ l : List ℕ) (pc h n ro rj d b : ℕ) → Held l → n ≡ get_or l r_l 0 - (h + 1) → ro ≡ (get_or l r_o 0 + 8 * (h + 1)) % 2 ^ 64 → rj ≡ (pc + 4) % 2 ^ 64
    → g₁ ≡ over (λ (k : ℕ). get_or g (d + k) 0) 0 n g → d ≡ h + 1 → g₂ ≡ over (λ (k : ℕ). 0) b (get_or l r_g 0) g₁ → b ≡ n
    → (halt marks mask : ℕ) → made g₂ (set (set (set (set l r_l n) r_o ro) r_j rj) r_s ro) pc halt marks mask ≡ pushed (made g l pc halt marks mask) h
unfolding pushed pushed_rule slide spilled with_special
entered g g₁ g₂ l pc h n ro rj d b held en eo ej e₁ ed e₂ eb halt marks mask =
    let top : n ≤ get_or l r_g 0 = omega (arith, held.l_g) in
    let gs : g₂ ≡ over (slid (made g l pc halt marks mask) (h + 1)) 0 (get_or l r_g 0) g = e₂ ∙ rw (eb, e₁, ed) (slid_clear (made g l pc halt marks mask) (h + 1) n en top) in
    let at : get_or (set (set (set l r_l n) r_o ro) r_j rj) r_o 0 ≡ ro = simp spec_other (get_or-set_same (set l r_l n) r_o ro 0 (simp length-set held.long)) in
    let top_is : set (set (set (set l r_l n) r_o ro) r_j rj) r_s ro ≡ set (set (set (set l r_l n) r_o ro) r_j rj) r_s (get_or (set (set (set l r_l n) r_o ro) r_j rj) r_o 0) = ap (set (set (set (set l r_l n) r_o ro) r_j rj) r_s) (sym at) in
    rw (gs, top_is, en, eo, ej)

-- ---- POP

-- rO as code judges it
pub misplaced_negative : (s : State) (ro : ℕ) → sp s r_o ≡ ro → ro % 8 ≡ 0 → leb (2 ^ 63) ro ≡ misplaced s
unfolding misplaced
misplaced_negative s ro e a =
    rw (e, eq-eqb _ _ a) (⊎_elim (λ lo. rw (lt-leb (2 ^ 63) ro lo, lt-ltb ro 0x8000000000000000 lo)) (λ hi. rw (le-leb (2 ^ 63) ro hi, le-ltb ro 0x8000000000000000 hi)) (lt_or_le ro 0x8000000000000000))

pub misplaced_odd : (s : State) (ro : ℕ) → sp s r_o ≡ ro → (ro % 8 ≡ 0 → ⊥) → true ≡ misplaced s
unfolding misplaced
misplaced_odd s ro e a = rw (e, ne_eqb _ _ a)

-- the caller's registers below the new rL, part by part: the outputs moved above the hole, the last one in it, the locals
module _ (w : Windows) (bottom h low x : ℕ) (s : State) (el : low ≡ lowered s x h) (pass : worst (refusing (shapes_of w)) bottom (min h low) ≡ 0) where
  abbrev g : List ℕ
  g = s.general

  abbrev ls : List ℕ
  ls = looks both w bottom (min h (sp s r_g))

  abbrev by_rule : ℕ → ℕ
  by_rule = restored s x h ls

  abbrev reads : ℕ → ℕ
  reads k = read_octa w (bottom + 8 * (k - 0))

  abbrev moves : ℕ → ℕ
  moves k = get_or g (k - (h + 1)) 0

  abbrev moved : List ℕ
  moved = over moves (h + 1) low g

  length_moved : length moved ≡ length g
  length_moved = length_over moves (h + 1) low g

  reads_local : (k : ℕ) → k < h → k < low → reads k ≡ by_rule k
  unfolding restored
  reads_local k a b =
      let e : k - 0 ≡ k = omega arith in
      let m : min h low ≡ min h (sp s r_g) = omega arith in
      let n : k < min h low = omega arith in
      rw (e, lt-ltb k h a) (run_read w bottom (min h low) pass k (bottom + 8 * k) n refl
      ∙ sym (ap (λ (j : ℕ). get_or (looks both w bottom j) k 0) (sym m) ∙ get_d_looks both both_lawful (min h low) w bottom k n))

  moved_in : (k : ℕ) → k < length g → h < k → k < low → get_or moved k 0 ≡ by_rule k
  unfolding restored
  moved_in k n a b =
      let e : k - (h + 1) ≡ k - h - 1 = omega arith in
      over_in moves (h + 1) low g k (omega arith) b n ∙ rw (e, le-ltb k h (omega arith), ne_eqb k h (omega arith), lt-ltb k (h + count_of s x) (omega arith))

  moved_out : (k : ℕ) → low ≤ k → get_or moved k 0 ≡ get_or g k 0
  moved_out k b = over_after moves (h + 1) low g k b

  -- a hole below the new rL
  hole_below_law : h < low → (last : ℕ) → last ≡ last_output s x → over reads 0 h (set moved h last) ≡ over by_rule 0 low g
  hole_below_law b last e =
      ext_get_or 0 (over reads 0 h (set moved h last)) (over by_rule 0 low g) (lengths ∙ sym (length_over by_rule 0 low g))
      (λ k m. let n : k < length g = omega (arith, lengths) in
      let q : k < length (set moved h last) = omega (arith, length-set moved h last, length_moved) in
      ⊎_elim
      (λ lo. over_in reads 0 h (set moved h last) k (omega arith) lo q ∙ reads_local k lo (omega arith) ∙ sym (over_in by_rule 0 low g k (omega arith) (omega arith) n))
      (λ ge. over_above reads 0 h (set moved h last) k ge q
      ∙ ⊎_elim
      (λ here. ap (λ (j : ℕ). get_or (set moved h last) j 0) (sym here) ∙ get_or-set_same moved h last 0 (omega (arith, length_moved)) ∙ e
      ∙ sym (over_in by_rule 0 low g k (omega arith) (omega arith) n ∙ at_hole k here))
      (λ gt. get_or-set_other moved h k last 0 (λ z. let e : k ≡ h = z in omega arith)
      ∙ ⊎_elim (λ in_b. moved_in k n gt in_b ∙ sym (over_in by_rule 0 low g k (omega arith) in_b n))
      (λ out. moved_out k out ∙ sym (over_above by_rule 0 low g k out n))
      (lt_or_le k low))
      (eq-or-lt_of_le ge))
      (lt_or_le k h))
    where
      lengths : length (over reads 0 h (set moved h last)) ≡ length g
      lengths = length_over reads 0 h (set moved h last) ∙ length-set moved h last ∙ length_moved

      at_hole : (k : ℕ) → h ≡ k → by_rule k ≡ last_output s x
      at_hole k here = unfold restored in rw (le-ltb k h (omega arith), eq-eqb k h (sym here))

  -- a hole from there up: the locals are all that is below
  hole_above : low ≤ h → over reads 0 low moved ≡ over by_rule 0 low g
  hole_above b =
      ext_get_or 0 (over reads 0 low moved) (over by_rule 0 low g) (lengths ∙ sym (length_over by_rule 0 low g))
      (λ k m. let n : k < length g = omega (arith, lengths) in
      let q : k < length moved = omega (arith, length_moved) in
      ⊎_elim
      (λ lo. over_in reads 0 low moved k (omega arith) lo q ∙ reads_local k (omega arith) lo ∙ sym (over_in by_rule 0 low g k (omega arith) lo n))
      (λ out. over_above reads 0 low moved k out q ∙ moved_out k out ∙ sym (over_above by_rule 0 low g k out n))
      (lt_or_le k low))
    where
      lengths : length (over reads 0 low moved) ≡ length g
      lengths = length_over reads 0 low moved ∙ length_moved

  module _ (g₁ g₂ : List ℕ) (d : ℕ) (ed : d ≡ h + 1) (e₁ : g₁ ≡ over (λ (k : ℕ). get_or g (k - d) 0) d low g) where
    moved_is : g₁ ≡ moved
    moved_is = e₁ ∙ rw ed

    written : g₂ ≡ over by_rule 0 low g → with_parts s g₂ s.special ≡ between_by w bottom s x h
    unfolding between
    written e = rw (e ∙ ap (λ (j : ℕ). over by_rule 0 j g) el ∙ sym (first_general s x h ls))

    pub written_hole : (last : ℕ) → last ≡ last_output s x → h < low → g₂ ≡ over reads 0 h (set g₁ h last) → with_parts s g₂ s.special ≡ between_by w bottom s x h
    written_hole last v l e = written (e ∙ rw moved_is (hole_below_law l last v))

    pub written_all : low ≤ h → g₂ ≡ over reads 0 low g₁ → with_parts s g₂ s.special ≡ between_by w bottom s x h
    written_all l e = written (e ∙ rw moved_is (hole_above l))

-- a frame's place below rO, as code has it
pub below : (ro d : ℕ) → stack_start < ro → ro < 0x8000000000000000 → d ≤ 2048 → (ro + (2 ^ 64 - d)) % 2 ^ 64 ≡ ro - d
below ro d a b l = omega arith

-- what code asks of the windows below rO
module _ (w : Windows) (l : List ℕ) (placed : Placed l) where
  module _ (b : ℕ) (e : b ≡ (get_or l r_o 0 + (2 ^ 64 - 8)) % 2 ^ 64) where
    at_hole : b ≡ get_or l r_o 0 - 8
    at_hole = e ∙ below (get_or l r_o 0) 8 placed.above placed.beneath (omega arith)

    -- by which window holds it, 2 for neither
    pub hole_held : (n : ℕ) → n ≡ holder (shapes_of w) b → (n ≡ 2 → ⊥) → worst (refusing (shapes_of w)) (get_or l r_o 0 - 8) 1 ≡ 0
    hole_held n q f = run_one (shapes_of w) _ ∙ held_inside (shapes_of w) (get_or l r_o 0 - 8) (λ two. f (q ∙ ap (holder (shapes_of w)) at_hole ∙ two))

    pub hole_lost : (n : ℕ) → n ≡ holder (shapes_of w) b → n ≡ 2 → worst (refusing (shapes_of w)) (get_or l r_o 0 - 8) 1 ≡ 0 → ⊥
    hole_lost n q two z =
        let six : refusing (shapes_of w) (get_or l r_o 0 - 8) ≡ 6 = held_outside (shapes_of w) (get_or l r_o 0 - 8) (sym (ap (holder (shapes_of w)) at_hole) ∙ sym q ∙ two) in
        omega (arith, run_one (shapes_of w) (get_or l r_o 0 - 8))

    pub hole_is : (v : ℕ) → v ≡ read_octa w b → v % 256 ≡ read_octa w (get_or l r_o 0 - 8) % 256
    hole_is v q = ap (λ (n : ℕ). n % 256) (q ∙ ap (read_octa w) at_hole)

  pub frame_run : (h b k n : ℕ) → h ≤ 255 → b ≡ (get_or l r_o 0 + (2 ^ 64 - 8 * (h + 1))) % 2 ^ 64 → k ≡ min h (get_or l r_g 0) → n ≡ worst (refusing (shapes_of w)) b k
      → n ≡ worst (refusing (shapes_of w)) (bottom_of l h) (min h (get_or l r_g 0))
  frame_run h b k n small e f q =
      let z : b ≡ bottom_of l h = e ∙ below (get_or l r_o 0) (8 * (h + 1)) placed.above placed.beneath (omega arith) in
      q ∙ rw (z, f)

-- what code has done is what POP does
module _ (w : Windows) (l : List ℕ) (x h bottom count low : ℕ) (held : Held l) (placed : Placed l) (small : h ≤ 255)
    (eb : bottom ≡ (get_or l r_o 0 + (2 ^ 64 - 8 * (h + 1))) % 2 ^ 64) (ec : (s : State) → sp s r_l ≡ get_or l r_l 0 → count ≡ count_of s x)
    (ew : low ≡ min (h + count) (get_or l r_g 0)) where
  at_bottom : bottom ≡ bottom_of l h
  at_bottom = eb ∙ below (get_or l r_o 0) (8 * (h + 1)) placed.above placed.beneath (omega arith)

  pub low_is : (g : List ℕ) (pc halt marks mask : ℕ) → low ≡ lowered (made g l pc halt marks mask) x h
  low_is g pc halt marks mask = ew ∙ ap (λ (n : ℕ). min (h + n) (get_or l r_g 0)) (ec (made g l pc halt marks mask) refl)

  -- the frame is there
  pub frame_read_law : worst (refusing (shapes_of w)) (bottom_of l h) (min h (get_or l r_g 0)) ≡ 0 → worst (refusing (shapes_of w)) bottom (min h low) ≡ 0
  frame_read_law pass = let m : min h low ≡ min h (get_or l r_g 0) = omega arith in rw (at_bottom, m) pass

  module _ (g g₁ g₂ : List ℕ) (pc halt marks mask : ℕ) (e₁ : made g₁ l pc halt marks mask ≡ between_by w bottom (made g l pc halt marks mask) x h) (e₂ : g₂ ≡ over (λ (k : ℕ). 0) low (get_or l r_g 0) g₁) where
    abbrev s : State
    s = made g l pc halt marks mask

    abbrev locals : List ℕ
    locals = looks both w (bottom_of l h) (min h (get_or l r_g 0))

    pub left : made g₂ (set (set (set l r_l low) r_o bottom) r_s bottom) pc halt marks mask ≡ popped s x h locals
    unfolding popped unslide spilled with_special cleared
    left =
        let first : g₁ ≡ (between s x h locals).general = ap (λ (t : State). t.general) e₁ ∙ ap (λ (a : ℕ). (between_by w a s x h).general) at_bottom in
        let gs : g₂ ≡ (popped s x h locals).general = e₂ ∙ rw (first, low_is g pc halt marks mask) (then_clears s x h locals) in
        let at : get_or (set (set l r_l low) r_o bottom) r_o 0 ≡ bottom = get_or-set_same (set l r_l low) r_o bottom 0 (simp length-set held.long) in
        let top : set (set (set l r_l low) r_o bottom) r_s bottom ≡ set (set (set l r_l low) r_o bottom) r_s (get_or (set (set l r_l low) r_o bottom) r_o 0) = ap (set (set (set l r_l low) r_o bottom) r_s) (sym at) in
        rw (gs, top, low_is g pc halt marks mask, at_bottom)
