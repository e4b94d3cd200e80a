-- PUSH and POP as plans, over any Store and judge: two calls that differ below the hole, and the POP that brings a frame below.
use Rattle.model.proofs.Logic.{min, suc, zero, ℕ, ◌%◌, ◌*◌, ◌+◌, ◌-◌, ◌<◌, ◌^◌, ◌≤◌, Bool, cond, false, true, List, [], ap, refl, subst, sym, ◌∙◌, ◌≡◌}
use Rattle.model.proofs.Logic.{dec_lt, ℕ_discrete, arith, ltb, get_or, length, length-set, eq-eqb, le-ltb, lt-leb, lt-ltb, ltb-true}
use Rattle.model.specs.Fill.{over, tab}
use Rattle.model.specs.Octa.{octa}
use Rattle.model.specs.Registers.{r_j, r_o, r_g, r_l, stack_start, sp, reg, following, Sized, goes, with_special, spilled}
use Rattle.model.specs.Memory.{Store}
use Rattle.model.specs.Plan.{Plan, answer, perform, worst, look, looks, puts, Agree}
use Rattle.model.specs.Frames.{framed, slid, slide, pushed_rule, pushed, push_frame, restored, unslide, popped, pop_to, pop_rule, no_frame, misplaced, pop_frame}
use Rattle.model.specs.Demand.{Within, Alike}
use Rattle.model.proofs.Plan.{worst_head, worst_tail, Kept, Same, Sound, put_agree}
use Rattle.model.proofs.Memory.{Lawful}
use Rattle.model.proofs.Runs.{length_tab, worst_of, of_worst, get_d_looks, stands, perform_read}
use Rattle.model.specs.declared.State.{State}
use Rattle.model.proofs.Fill.{over_cong, over_in}
use Rattle.model.proofs.AdmissibleKept.{spec_other, spec_same}
use Rattle.model.proofs.Bools.{on_both}

slide_alike : (s t : State) (h n : ℕ) → Sized s → Sized t → h ≤ n → h ≤ sp s r_g → Alike h s t → slide s n ≡ slide t n
unfolding slide
slide_alike s t h n ns nt l b a =
    λ i. record { general = generals i; special = specials i; pc = a.pc_same i; halt = a.halt_same i; marks = a.marks_same i; mask = a.mask_same i }
  where
    gs : sp s r_g ≡ sp t r_g
    gs = ap (λ (l : List ℕ). get_or l r_g 0) a.special_same

    ls : sp s r_l ≡ sp t r_l
    ls = ap (λ (l : List ℕ). get_or l r_l 0) a.special_same

    slides : (i : ℕ) → slid s n i ≡ slid t n i
    slides i = unfold slid in (rw (← ls) (on_both (λ (u v : ℕ). u ≡ v) (ltb i (sp s r_l - n)) (λ e. let q : reg s (n + i) ≡ reg t (n + i) = a.rest_same (n + i) (omega arith) in cc) (λ e. refl)))

    generals : over (slid s n) 0 (sp s r_g) s.general ≡ over (slid t n) 0 (sp t r_g) t.general
    generals = rw (← gs) (over_cong (slid s n) (slid t n) (sp s r_g) s.general t.general (ns.generals ∙ sym nt.generals) slides (λ i l. a.rest_same i (omega arith)))

    specials : (slide s n).special ≡ (slide t n).special
    specials = unfold slide in (rw (← a.special_same))

moved_alike : (s t : State) (h n : ℕ) → Sized s → Sized t → h ≤ sp s r_g → Alike h s t → h ≤ n
    → spilled (with_special (slide s n) r_j (following s)) ≡ spilled (with_special (slide t n) r_j (following t))
moved_alike s t h n ns nt b a l = rw (slide_alike s t h n ns nt l b a, a.pc_same)

-- what is pushed is gone from the state: two that differ below the hole become one
pub pushed_alike : (s t : State) (h : ℕ) → Sized s → Sized t → h ≤ sp s r_g → Alike h s t → pushed s h ≡ pushed t h
unfolding pushed pushed_rule
pushed_alike s t h ns nt b a = moved_alike s t h _ ns nt b a (omega arith)

-- the state after a call of u
abbrev pub called : State → ℕ → ℕ → State
called s h u = goes (pushed s h) u

pub called_alike : (s t : State) (h u : ℕ) → Sized s → Sized t → h ≤ sp s r_g → Alike h s t → called s h u ≡ called t h u
called_alike s t h u ns nt b a = ap (λ (p : State). goes p u) (pushed_alike s t h ns nt b a)

popped_at_law : (s : State) (x h : ℕ) (ls : List ℕ) (i : ℕ) → Sized s → i < sp s r_g → sp s r_g ≤ 255 → reg (popped s x h ls) i ≡ restored s x h ls i
unfolding popped spilled with_special unslide
popped_at_law s x h ls i n l g = let k : length s.general ≡ 256 = n.generals in
    over_in (restored s x h ls) 0 (sp s r_g) s.general i (omega arith) l (omega arith)

caller_local : (s : State) (x h : ℕ) (ls : List ℕ) (i : ℕ) → i < h → restored s x h ls i ≡ get_or ls i 0
unfolding restored
caller_local s x h ls i l = rw (lt-ltb i h l)

popped_local : (s : State) (x h : ℕ) (ls : List ℕ) (i : ℕ) → Sized s → i < h → i < sp s r_g → sp s r_g ≤ 255 → reg (popped s x h ls) i ≡ get_or ls i 0
popped_local s x h ls i n l b g = popped_at_law s x h ls i n b g ∙ caller_local s x h ls i l

module _ {M Sh : Type 0} (st : Store M Sh) (law : Lawful st) where
  -- stores that differ only inside F
  put_differ : (F : ℕ → Type 0) (v w : M) (a x y : ℕ) → st.inside (st.shape v) a ≡ true → ((x ≡ y → ⊥) → F (octa a)) → Agree st F v w → Agree st F (st.put v a x) (st.put w a y)
  put_differ F v w a x y h f g = go (ℕ_discrete x y)
    where
      go : Dec (x ≡ y) → Agree st F (st.put v a x) (st.put w a y)
      go (yes e) = rw (← e) (put_agree st law F v w a x g h)
      go (no n) = record {
        shape_same = law.put_shape v a x ∙ g.shape_same ∙ sym (law.put_shape w a y);
        rest_same = λ b o. law.put_other v a b x (λ e. o (subst F e (f n))) ∙ g.rest_same b o ∙ sym (law.put_other w a b y (λ e. o (subst F e (f n))));
      }

  puts_differ : (F : ℕ → Type 0) (j : ℕ → ℕ) (f g : ℕ → ℕ) (n i : ℕ) (v w : M) (a : ℕ) → Sound st j (st.shape v) → worst j a n ≡ 0
      → ((k : ℕ) → k < n → (f (i + k) ≡ g (i + k) → ⊥) → F (octa (a + 8 * k))) → Agree st F v w → Agree st F (puts st v a (tab i n f)) (puts st w a (tab i n g))
  unfolding tab puts
  puts_differ F j f g zero i v w a snd h inside q = q
  puts_differ F j f g (suc n) i v w a snd h inside q =
      puts_differ F j f g n (suc i) (st.put v a (f i)) (st.put w a (g i)) (a + 8) (λ b c. rw (law.put_shape v a (f i)) (snd b c)) (worst_tail j a n h) next
      (put_differ F v w a (f i) (g i) (snd a (worst_head j a n h)) here q)
    where
      here : (f i ≡ g i → ⊥) → F (octa a)
      here d = let e : a + 8 * 0 ≡ a = omega arith in let z : i + 0 ≡ i = omega arith in rw e at (inside 0 (omega arith) (rw z d))

      next : (k : ℕ) → k < n → (f (suc i + k) ≡ g (suc i + k) → ⊥) → F (octa (a + 8 + 8 * k))
      next k l d = let e : a + 8 * suc k ≡ a + 8 + 8 * k = omega arith in let z : i + suc k ≡ suc i + k = omega arith in rw e at (inside (suc k) (omega arith) (rw z d))

  -- the call from s, by an instruction that began at b
  pub push_from : (j : ℕ → ℕ) (b s : State) (h u : ℕ) (m : M) → worst j (sp s r_o) (h + 1) ≡ 0
      → perform st j b (push_frame s h u) m ≡ record { reply = 0; state = called s h u; memory = puts st m (sp s r_o) (tab 0 (h + 1) (framed s h)) }
  unfolding push_frame perform
  push_from j b s h u m ok = rw (length_tab (h + 1) 0 (framed s h), eq-eqb _ _ ok)

  pub push_is : (j : ℕ → ℕ) (s : State) (h u : ℕ) (m : M) → worst j (sp s r_o) (h + 1) ≡ 0
      → perform st j s (push_frame s h u) m ≡ record { reply = 0; state = called s h u; memory = puts st m (sp s r_o) (tab 0 (h + 1) (framed s h)) }
  push_is j s = push_from j s s

  -- (1) the call: two runs that differ in the locals below the hole
  pub push_same : (j : ℕ → ℕ) (s t : State) (h u : ℕ) (m : M) → Sized s → Sized t → h ≤ sp s r_g → Alike h s t → Sound st j (st.shape m) → worst j (sp s r_o) (h + 1) ≡ 0
      → Same st (Within (sp s r_o) h) (perform st j s (push_frame s h u) m) (perform st j t (push_frame t h u) m)
  push_same j s t h u m ns nt l a snd ok =
      let os : sp s r_o ≡ sp t r_o = ap (λ (k : List ℕ). get_or k 10 0) a.special_same in
      let wt : Agree st (Within (sp s r_o) h) (puts st m (sp s r_o) (tab 0 (h + 1) (framed s h))) (puts st m (sp s r_o) (tab 0 (h + 1) (framed t h)))
      = puts_differ (Within (sp s r_o) h) j (framed s h) (framed t h) (h + 1) 0 m m (sp s r_o) snd ok inside (record { shape_same = refl; rest_same = λ b o. refl }) in
      rw (push_is j s h u m ok, push_is j t h u m (rw (← os) ok)) (record {
        reply_same = refl;
        state_same = called_alike s t h u ns nt l a;
        memory_same = rw (← os) wt;
      })
    where
      equal : (k : ℕ) (b : Bool) → ltb k h ≡ b → h ≤ k → cond b (reg s k) h ≡ cond b (reg t k) h
      equal k true e p = absurd (let q : k < h = ltb-true _ _ e in omega arith)
      equal k false e p = refl

      inside : (k : ℕ) → k < h + 1 → (framed s h (0 + k) ≡ framed t h (0 + k) → ⊥) → Within (sp s r_o) h (octa (sp s r_o + 8 * k))
      inside k p d = go (dec_lt k h)
        where
          go : Dec (k < h) → Within (sp s r_o) h (octa (sp s r_o + 8 * k))
          go (yes c) = record { place = k; place_below = c; named_by = refl }
          go (no c) = absurd (d (let z : 0 + k ≡ k = omega arith in rw z (unfold framed in (equal k (ltb k h) refl (omega arith)))))

  -- (2) the POP: the frame was stored and kept, rO is below, rG reaches
  module _ (j : ℕ → ℕ) (s e : State) (h : ℕ) (m w : M) (small : h ≤ 255) (sound : Sound st j (st.shape m)) (fits : worst j (sp s r_o) (h + 1) ≡ 0)
      (words : (i : ℕ) → reg s i < 2 ^ 64) (kept : Kept st (Within (sp s r_o) (h + 1)) (puts st m (sp s r_o) (tab 0 (h + 1) (framed s h))) w)
      (at : sp e r_o ≡ sp s r_o + 8 * (h + 1)) (aligned : sp e r_o % 8 ≡ 0) (above : stack_start < sp e r_o) (beneath : sp e r_o < 0x8000000000000000) (g : h ≤ sp e r_g) (ge : sp e r_g ≤ 255) (ne : Sized e) where
    framed_word : (i : ℕ) → i < h + 1 → framed s h i < 2 ^ 64
    unfolding framed
    framed_word i l = go (ltb i h)
      where
        go : (b : Bool) → cond b (reg s i) h < 2 ^ 64
        go true = words i
        go false = omega arith

    octabyte : (i : ℕ) → i < h + 1 → look st w (sp s r_o + 8 * i) ≡ framed s h i
    octabyte i l = stands st law j (h + 1) (framed s h) m w (sp s r_o) sound fits (omega arith) framed_word kept i (sp s r_o + 8 * i) l refl

    pop_open : (x t : ℕ) → pop_frame e x t ≡ pop_rule e x t
    unfolding pop_frame no_frame misplaced
    pop_open x t = rw (lt-leb (sp e r_o) stack_start above, eq-eqb (sp e r_o % 8) 0 aligned, lt-ltb (sp e r_o) 0x8000000000000000 beneath)

    count : get_or (looks st w (sp e r_o - 8) 1) 0 0 % 256 ≡ h
    count =
        let p : sp e r_o - 8 + 8 * 0 ≡ sp s r_o + 8 * h = omega arith in
        let c : get_or (looks st w (sp e r_o - 8) 1) 0 0 ≡ h = get_d_looks st law 1 w (sp e r_o - 8) 0 (omega arith) ∙ ap (look st w) p ∙ octabyte h (omega arith) ∙ (unfold framed in rw (le-ltb h h (omega arith))) in
        rw c (omega arith)

    passes : (a n : ℕ) → ((i : ℕ) → i < n → (k : ℕ) × (k < h + 1) × (a + 8 * i ≡ sp s r_o + 8 * k)) → worst j a n ≡ 0
    passes a n f = of_worst j n a (λ i l. let r : (k : ℕ) × (k < h + 1) × (a + 8 * i ≡ sp s r_o + 8 * k) = f i l in rw r.2 (worst_of j (h + 1) (sp s r_o) r.0 fits r.1))

    pub pop_is : (x t : ℕ) → perform st j e (pop_frame e x t) w ≡ record { reply = 0; state = goes (popped e x h (looks st w (sp e r_o - 8 * (h + 1)) (min h (sp e r_g)))) t; memory = w }
    unfolding pop_to pop_rule
    pop_is x t =
        ap (λ (p : Plan State). perform st j e p w) (pop_open x t)
        ∙ perform_read st law j e 6 (sp e r_o - 8) 1 (λ vs. pop_to e x t (get_or vs 0 0 % 256)) w (passes (sp e r_o - 8) 1 (λ i l. (h, omega arith, omega arith)))
        ∙ ap (λ (c : ℕ). perform st j e (pop_to e x t c) w) count
        ∙ perform_read st law j e 6 (sp e r_o - 8 * (h + 1)) (min h (sp e r_g)) (λ ls. answer 0 (goes (popped e x h ls) t) 0 []) w (passes (sp e r_o - 8 * (h + 1)) (min h (sp e r_g)) (λ i l. (i, omega arith, omega arith)))
        ∙ said (goes (popped e x h (looks st w (sp e r_o - 8 * (h + 1)) (min h (sp e r_g)))) t)
      where
        said : (z : State) → perform st j e (answer 0 z 0 []) w ≡ record { reply = 0; state = z; memory = w }
        said z = unfold perform worst puts in refl

    pub pop_reg : (x t i : ℕ) → i < h → reg (perform st j e (pop_frame e x t) w).state i ≡ reg s i
    pop_reg x t i l = rw (pop_is x t) (local (looks st w (sp e r_o - 8 * (h + 1)) (min h (sp e r_g))) ∙ got)
      where
        local : (ls : List ℕ) → reg (goes (popped e x h ls) t) i ≡ get_or ls i 0
        local ls = unfold goes in (popped_local e x h ls i ne l (omega arith) ge)

        got : get_or (looks st w (sp e r_o - 8 * (h + 1)) (min h (sp e r_g))) i 0 ≡ reg s i
        got = let p : sp e r_o - 8 * (h + 1) + 8 * i ≡ sp s r_o + 8 * i = omega arith in
            get_d_looks st law (min h (sp e r_g)) w (sp e r_o - 8 * (h + 1)) i (omega arith) ∙ ap (look st w) p ∙ octabyte i (omega arith) ∙ (unfold framed in rw (lt-ltb i h l))

pub push_r_o : (s : State) (h t : ℕ) → length s.special ≡ 32 → sp (called s h t) r_o ≡ (sp s r_o + 8 * (h + 1)) % 2 ^ 64
unfolding pushed pushed_rule slide spilled with_special goes
push_r_o s h t n = simp (spec_other, spec_same, length-set, n)
