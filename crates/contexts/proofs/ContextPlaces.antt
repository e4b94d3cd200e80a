-- Where a context is: an octabyte at an address modulo 2^64, the layout, the stages 6, 14, 15, 6, 16, 6 as code goes through them, what a
-- layout tells, and the ways out of `locate`. What UNSAVE and the reader make of its answer is in LocateAnswers.
use Rattle.model.proofs.Prelude.{ℕ, ◌%◌, ◌*◌, ◌+◌, ◌-◌, ◌/◌, ◌<◌, ◌^◌, ◌≤◌, Bool, false, true, List, [], ap, refl, subst, sym, ◌∙◌, ◌≡◌, arith, eqb, leb, get_or}
use Rattle.model.proofs.Prelude.{le-leb, leb-false, leb-true, lt-leb, ne_eqb, context_at, context_count, context_rest, both, inside, Shapes, shapes_of, Windows}
use Rattle.model.proofs.Prelude.{number_of, reply_of, answer, look, named, perform, Plan, read, worst, refusing, on, Inside, inside_judged, judged_inside}
use Rattle.model.proofs.Prelude.{perform_on, said, both_lawful, of_worst, perform_read, worst_of, Context, context_found, looked, refusing_mod, worst_six}
use Rattle.contexts.proofs.Prelude.{below, Reply, Missing, SavedCount, SavedStatus, SavedThreshold, read_octa, read_in, read_mod}
use Rattle.machine.proofs.RunRefused.{run_one}
use Rattle.contexts.specs.SaveUnsave.{layout_at, count_reply, layout_number, layout_answer, LayoutIs, spot, located_of, located_number, located_answer, LocatedIs}
use Rattle.contexts.specs.SaveUnsave.{FromLayout, Layout}
use Rattle.contexts.specs.declared.layout.LayoutError.{LayoutError}
use Rattle.contexts.specs.declared.layout.ContextError.{ContextError}
use Rattle.contexts.specs.declared.layout.LayoutError.TheVariants.{Excess, Outside}
use Rattle.std.specs.Prelude.{Ok, Err}
use Rattle.contexts.specs.declared.layout.SavedContext.{SavedContext}
use Rattle.contexts.specs.declared.layout.ContextError.TheVariants.{Bad, Lost}
use Rattle.contexts.specs.declared.layout.SaveContextLayout.{SaveContextLayout}

-- ---- the octabyte at an address that is taken modulo 2^64

missed_inside : (w : Shapes) (a : ℕ) → (refusing w a ≡ 0 → ⊥) → inside w a ≡ false
missed_inside w a h = go (inside w a) refl
  where
    go : (t : Bool) → inside w a ≡ t → t ≡ false
    go true e = absurd (h (inside_judged w a e))
    go false e = refl

module _ (w : Windows) (a m : ℕ) (e : m ≡ a % 2 ^ 64) where
  alike : m % 2 ^ 64 ≡ a % 2 ^ 64
  alike = omega arith

  one_in : worst (refusing (shapes_of w)) m 1 ≡ 0 → refusing (shapes_of w) a ≡ 0
  one_in h = sym (refusing_mod (shapes_of w) m a alike) ∙ sym (run_one (shapes_of w) m) ∙ h

  one_out : (worst (refusing (shapes_of w)) m 1 ≡ 0 → ⊥) → inside (shapes_of w) a ≡ false
  one_out h = missed_inside (shapes_of w) a (λ z. h (run_one (shapes_of w) m ∙ refusing_mod (shapes_of w) m a alike ∙ z))

  one_read : (v : ℕ) → worst (refusing (shapes_of w)) m 1 ≡ 0 → v ≡ read_octa w m → look both w a ≡ v
  one_read v h d = sym (d ∙ read_mod w m a alike ∙ read_in w a (one_in h))

  -- a run of them
  run_alike : (n : ℕ) → worst (refusing (shapes_of w)) m n ≡ 0 → worst (refusing (shapes_of w)) a n ≡ 0
  run_alike n h = of_worst (refusing (shapes_of w)) n a (λ i l. sym (refusing_mod (shapes_of w) (m + 8 * i) (a + 8 * i) (omega arith)) ∙ worst_of (refusing (shapes_of w)) n m i h l)

  pub run_back : (n : ℕ) → worst (refusing (shapes_of w)) a n ≡ 0 → worst (refusing (shapes_of w)) m n ≡ 0
  run_back n h = of_worst (refusing (shapes_of w)) n m (λ i l. refusing_mod (shapes_of w) (m + 8 * i) (a + 8 * i) (omega arith) ∙ worst_of (refusing (shapes_of w)) n a i h l)

-- ---- the layout

module _ (w : Windows) (p g marker : ℕ) (e : marker ≡ below p (269 - g) % 2 ^ 64) where
  answered : (n l : ℕ) (r : Layout) → count_reply w p g ≡ n → look both w (below p (269 - g)) ≡ l → r ≡ layout_answer p g l n → layout_number r ≡ n → LayoutIs w p g r
  answered n l r c d a b = record { answer_is = rw (c, d) a; number_is = b ∙ sym c }

  pub layout_outside : (worst (refusing (shapes_of w)) marker 1 ≡ 0 → ⊥) → (q : Reply) → q ≡ Missing → LayoutIs w p g (Err (Outside q))
  unfolding count_reply layout_answer layout_number reply_of number_of
  layout_outside h q d = rw d (answered 6 _ (Err (Outside Missing)) (rw (one_out w (below p (269 - g)) marker e h)) refl refl refl)

  module _ (count : ℕ) (h : worst (refusing (shapes_of w)) marker 1 ≡ 0) (d : count ≡ read_octa w marker) where
    count_there : inside (shapes_of w) (below p (269 - g)) ≡ true
    count_there = judged_inside (shapes_of w) (below p (269 - g)) (one_in w (below p (269 - g)) marker e h)

    count_read : look both w (below p (269 - g)) ≡ count
    count_read = one_read w (below p (269 - g)) marker e count h d

    pub layout_excess : g < count → LayoutIs w p g (Err (Excess count))
    unfolding count_reply layout_answer layout_number
    layout_excess l = answered 16 count (Err (Excess count)) (rw (count_there, count_read, lt-leb count g l)) count_read refl refl

    pub layout_found : (lb : ℕ) → count ≤ g → lb ≡ below p (count + 269 - g) % 2 ^ 64
        → LayoutIs w p g (Ok (record { local_count = count; locals_base = lb }))
    unfolding count_reply layout_answer layout_number layout_at
    layout_found lb l el = answered 0 count _ (rw (count_there, count_read, le-leb count g l)) count_read (rw el) refl

-- ---- the stages, for any kind of state

module _ {S : Type 0} (w : Windows) (s bad : S) (found : ℕ → ℕ → ℕ → ℕ → List ℕ → S) (p : ℕ) where
  abbrev Ends : ℕ → S → Plan S → Type 0
  Ends n t q = perform_on w s q ≡ record { reply = n; state = t; memory = w }

  read_out : (a n : ℕ) (k : List ℕ → Plan S) → (Inside w a n → ⊥) → Ends 6 s (read 6 a n k)
  unfolding perform named
  read_out a n k h =
      let f : eqb (worst (refusing (shapes_of w)) a n) 0 ≡ false = ne_eqb _ _ h in
      rw (f, worst_six (shapes_of w) n a f)

  at_out : (Inside w p 1 → ⊥) → Ends 6 s (context_at bad found p)
  unfolding context_at
  at_out h = read_out p 1 (λ v. context_count bad found p (get_or v 0 0 / 2 ^ 56) (get_or v 0 0 % 2 ^ 56)) h

  at_open : (v : ℕ) → Inside w p 1 → look both w p ≡ v → perform_on w s (context_at bad found p) ≡ perform_on w s (context_count bad found p (v / 2 ^ 56) (v % 2 ^ 56))
  unfolding context_at
  at_open v h e =
      perform_read both both_lawful (refusing (shapes_of w)) s 6 p 1 (λ v. context_count bad found p (get_or v 0 0 / 2 ^ 56) (get_or v 0 0 % 2 ^ 56)) w h
      ∙ rw (looked w p, e)

  count_low : (g a : ℕ) → g < 32 → Ends 14 bad (context_count bad found p g a)
  unfolding context_count
  count_low g a h = rw (lt-leb 32 g h) (said w s bad 14)

  module _ (g a : ℕ) (lo : 32 ≤ g) (hi : g ≤ 255) where
    count_status : 0x3FFFF < a → Ends 15 bad (context_count bad found p g a)
    unfolding context_count
    count_status h = rw (le-leb 32 g lo, le-leb g 255 hi, lt-leb a 0x3FFFF h) (said w s bad 15)

    module _ (am : a ≤ 0x3FFFF) where
      count_out : (Inside w (below p (269 - g)) 1 → ⊥) → Ends 6 s (context_count bad found p g a)
      unfolding context_count
      count_out h =
          rw (le-leb 32 g lo, le-leb g 255 hi, le-leb a 0x3FFFF am)
          (read_out (below p (269 - g)) 1 (λ v. context_rest bad found p g a (get_or v 0 0)) h)

      count_open : (l : ℕ) → Inside w (below p (269 - g)) 1 → look both w (below p (269 - g)) ≡ l
          → perform_on w s (context_count bad found p g a) ≡ perform_on w s (context_rest bad found p g a l)
      unfolding context_count
      count_open l h e =
          rw (le-leb 32 g lo, le-leb g 255 hi, le-leb a 0x3FFFF am)
          (perform_read both both_lawful (refusing (shapes_of w)) s 6 (below p (269 - g)) 1 (λ v. context_rest bad found p g a (get_or v 0 0)) w h
          ∙ rw (looked w (below p (269 - g)), e))

  rest_many : (g a l : ℕ) → g < l → Ends 16 bad (context_rest bad found p g a l)
  unfolding context_rest
  rest_many g a l h = rw (lt-leb l g h) (said w s bad 16)

  rest_out : (g a l : ℕ) → l ≤ g → (Inside w (below p (l + 269 - g)) (l + 270 - g) → ⊥) → Ends 6 s (context_rest bad found p g a l)
  unfolding context_rest
  rest_out g a l h f =
      rw (le-leb l g h) (read_out (below p (l + 269 - g)) (l + 270 - g) (λ vs. answer 0 (found (below p (l + 269 - g) % 2 ^ 64) g a l vs) 0 []) f)

-- ---- what a layout tells

module _ (w : Windows) (p g : ℕ) (k : Layout) (e : LayoutIs w p g k) where
  abbrev at_count : ℕ
  at_count = below p (269 - g)

  -- a fact that follows from the case of each of the three numbers
  by_number : (P : Layout → Type 0)
      → (inside (shapes_of w) at_count ≡ true → look both w at_count ≤ g → P (Ok (layout_at p g (look both w at_count))))
      → (inside (shapes_of w) at_count ≡ true → g < look both w at_count → P (Err (Excess (look both w at_count))))
      → (inside (shapes_of w) at_count ≡ false → P (Err (Outside Missing)))
      → P k
  unfolding count_reply layout_answer reply_of
  by_number P a b c =
      subst P (sym e.answer_is)
      (on (λ (n : ℕ). P (layout_answer p g (look both w at_count) n)) (inside (shapes_of w) at_count)
      (λ h. on (λ (n : ℕ). P (layout_answer p g (look both w at_count) n)) (leb (look both w at_count) g) (λ f. a h (leb-true _ _ f)) (λ f. b h (leb-false _ _ f)))
      c)

  told_outside : (r : Reply) → k ≡ Err (Outside r) → (inside (shapes_of w) at_count ≡ false) × (r ≡ Missing)
  told_outside r =
      by_number (λ (y : Layout). y ≡ Err (Outside r) → (inside (shapes_of w) at_count ≡ false) × (r ≡ Missing))
      (λ h f q. let z : ◌≡◌ {A = ℕ} 0 1 = cc in absurd (omega arith)) (λ h f q. let z : ◌≡◌ {A = ℕ} 0 1 = cc in absurd (omega arith)) (λ h q. (h, cc))

  told_excess : (n : ℕ) → k ≡ Err (Excess n) → (inside (shapes_of w) at_count ≡ true) × (g < look both w at_count)
  told_excess n =
      by_number (λ (y : Layout). y ≡ Err (Excess n) → (inside (shapes_of w) at_count ≡ true) × (g < look both w at_count))
      (λ h f q. let z : ◌≡◌ {A = ℕ} 0 1 = cc in absurd (omega arith)) (λ h f q. (h, f)) (λ h q. let z : ◌≡◌ {A = ℕ} 0 1 = cc in absurd (omega arith))

  told_found : (l : SaveContextLayout) → k ≡ Ok l
      → (inside (shapes_of w) at_count ≡ true) × (look both w at_count ≤ g) × (l ≡ layout_at p g (look both w at_count))
  told_found l =
      by_number (λ (y : Layout). y ≡ Ok l → (inside (shapes_of w) at_count ≡ true) × (look both w at_count ≤ g) × (l ≡ layout_at p g (look both w at_count)))
      (λ h f q. (h, f, cc)) (λ h f q. let z : ◌≡◌ {A = ℕ} 0 1 = cc in absurd (omega arith)) (λ h q. let z : ◌≡◌ {A = ℕ} 0 1 = cc in absurd (omega arith))

  pub told_count : (l : SaveContextLayout) → k ≡ Ok l → l.local_count ≤ g
  unfolding layout_at
  told_count l d =
      let t = told_found l d in
      let c : l.local_count ≡ look both w at_count = ap (λ (x : SaveContextLayout). x.local_count) t.2 in
      let m : look both w at_count ≤ g = t.1 in
      omega arith

-- ---- the ways out of `locate`

has_inside : (w : Windows) (a : ℕ) → inside (shapes_of w) a ≡ true → Inside w a 1
has_inside w a h = run_one (shapes_of w) a ∙ inside_judged (shapes_of w) a h

not_inside : (w : Windows) (a : ℕ) → inside (shapes_of w) a ≡ false → Inside w a 1 → ⊥
not_inside w a h i =
    let t : inside (shapes_of w) a ≡ true = judged_inside (shapes_of w) a (sym (run_one (shapes_of w) a) ∙ i) in
    let z : ◌≡◌ {A = ℕ} 0 1 = cc in
    omega arith

module _ (w : Windows) (p : ℕ) where
  lost_is : located_of w p ≡ record { reply = 6; state = spot 0 0 0 0; memory = w } → (q : Reply) → q ≡ Missing → LocatedIs w p (Err (Lost q))
  unfolding located_answer located_number reply_of number_of
  lost_is e q d = rw d (record { answer_is = rw e refl; number_is = rw e refl })

  bad_is : (n : ℕ) (q : Reply) → located_of w p ≡ record { reply = n; state = spot 0 0 0 0; memory = w } → Err (Bad q) ≡ located_answer n (spot 0 0 0 0) → number_of q ≡ n → LocatedIs w p (Err (Bad q))
  unfolding located_number
  bad_is n q e d f = record { answer_is = rw e d; number_is = rw e f }

  found_is : (o g a l : ℕ) → located_of w p ≡ record { reply = 0; state = spot o g a l; memory = w } → LocatedIs w p (Ok (record { first = o; rg = g; ra = a; count = l }))
  unfolding spot located_answer located_number
  found_is o g a l e = record { answer_is = rw e refl; number_is = rw e refl }

  abbrev nothing : SavedContext
  nothing = spot 0 0 0 0

  abbrev here : ℕ → ℕ → ℕ → ℕ → List ℕ → SavedContext
  here o g a l vs = spot o g a l

  pub way_lost : (Inside w p 1 → ⊥) → (q : Reply) → q ≡ Missing → LocatedIs w p (Err (Lost q))
  unfolding located_of
  way_lost h = lost_is (at_out w nothing nothing here p h)

  module _ (v : ℕ) (h : Inside w p 1) (e : v ≡ read_octa w p) where
    abbrev g_of : ℕ
    g_of = v / 2 ^ 56

    abbrev a_of : ℕ
    a_of = v % 2 ^ 56

    packed_is : look both w p ≡ v
    packed_is = sym (e ∙ read_in w p (sym (run_one (shapes_of w) p) ∙ h))

    opened : located_of w p ≡ perform_on w nothing (context_count nothing here p g_of a_of)
    unfolding located_of
    opened = at_open w nothing nothing here p v h packed_is

    pub way_threshold : g_of < 32 → LocatedIs w p (Err (Bad SavedThreshold))
    unfolding located_answer reply_of number_of
    way_threshold l = bad_is 14 SavedThreshold (opened ∙ count_low w nothing nothing here p g_of a_of l) refl refl

    module _ (lo : 32 ≤ g_of) (hi : g_of ≤ 255) where
      pub way_status : 0x3FFFF < a_of → LocatedIs w p (Err (Bad SavedStatus))
      unfolding located_answer reply_of number_of
      way_status l = bad_is 15 SavedStatus (opened ∙ count_status w nothing nothing here p g_of a_of lo hi l) refl refl

      module _ (am : a_of ≤ 0x3FFFF) (k : Layout) (ek : LayoutIs w p g_of k) where
        pub way_outside : (r : Reply) → k ≡ Err (Outside r) → LocatedIs w p (Err (Lost r))
        way_outside r q =
            let t = told_outside w p g_of k ek r q in
            lost_is (opened ∙ count_out w nothing nothing here p g_of a_of lo hi am (not_inside w (below p (269 - g_of)) t.0)) r t.1

        rested : (l : ℕ) → inside (shapes_of w) (below p (269 - g_of)) ≡ true → look both w (below p (269 - g_of)) ≡ l
            → located_of w p ≡ perform_on w nothing (context_rest nothing here p g_of a_of l)
        rested l t q = opened ∙ count_open w nothing nothing here p g_of a_of lo hi am l (has_inside w (below p (269 - g_of)) t) q

        pub way_excess : (n : ℕ) → k ≡ Err (Excess n) → LocatedIs w p (Err (Bad SavedCount))
        unfolding located_answer reply_of number_of
        way_excess n q =
            let t = told_excess w p g_of k ek n q in
            bad_is 16 SavedCount (rested _ t.0 refl ∙ rest_many w nothing nothing here p g_of a_of _ t.1) refl refl

        -- either, as `?` makes it
        pub way_from : (d : LayoutError) (r : ContextError) → k ≡ Err d → FromLayout d r → LocatedIs w p (Err r)
        way_from (Excess n) r q f = rw f (way_excess n q)
        way_from (Outside x) r q f = rw f (way_outside x q)

        module _ (l : SaveContextLayout) (q : k ≡ Ok l) where
          count_is : l.local_count ≡ look both w (below p (269 - g_of))
          unfolding layout_at
          count_is = ap (λ (x : SaveContextLayout). x.local_count) (told_found w p g_of k ek l q).2

          first_is : l.locals_base ≡ below p (l.local_count + 269 - g_of) % 2 ^ 64
          unfolding layout_at
          first_is =
              ap (λ (x : SaveContextLayout). x.locals_base) (told_found w p g_of k ek l q).2 ∙ ap (λ (n : ℕ). below p (n + 269 - g_of) % 2 ^ 64) (sym count_is)

          pub way_short : (Inside w l.locals_base (l.local_count + 270 - g_of) → ⊥) → (r : Reply) → r ≡ Missing → LocatedIs w p (Err (Lost r))
          way_short f =
              lost_is (rested l.local_count (told_found w p g_of k ek l q).0 (sym count_is)
              ∙ rest_out w nothing nothing here p g_of a_of l.local_count (told_count w p g_of k ek l q)
              (λ i. f (run_back w (below p (l.local_count + 269 - g_of)) l.locals_base first_is (l.local_count + 270 - g_of) i)))

          pub way_found : Inside w l.locals_base (l.local_count + 270 - g_of)
              → LocatedIs w p (Ok (record { first = l.locals_base; rg = g_of; ra = a_of; count = l.local_count }))
          unfolding located_of
          way_found i =
              found_is l.locals_base g_of a_of l.local_count
              (context_found (refusing (shapes_of w)) w nothing nothing here p g_of a_of l.local_count context ∙ rw first_is)
            where
              context : Context (refusing (shapes_of w)) w p g_of a_of l.local_count
              context = record {
                packed = h;
                threshold_is = ap (λ (x : ℕ). x / 2 ^ 56) packed_is;
                status_is = ap (λ (x : ℕ). x % 2 ^ 56) packed_is;
                g_low = lo;
                g_high = hi;
                a_high = am;
                count = has_inside w (below p (269 - g_of)) (told_found w p g_of k ek l q).0;
                count_is = sym count_is;
                l_g = told_count w p g_of k ek l q;
                rest = run_alike w (below p (l.local_count + 269 - g_of)) l.locals_base first_is (l.local_count + 270 - g_of) i;
              }
