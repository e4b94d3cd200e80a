-- The context reader: it judges as UNSAVE does, but for 23, and what it hands back is the context's own bytes, first local to packed octabyte.
use Rattle.model.proofs.Logic.{suc, zero, ℕ, ◌%◌, ◌*◌, ◌+◌, ◌-◌, ◌/◌, ◌<◌, ◌^◌, ◌≤◌, cond, false, true, ◌&&◌, List, [], ◌≢◌, ap, refl, subst, sym, ◌∙◌}
use Rattle.model.proofs.Logic.{◌≡◌, ℕ_discrete, arith, eqb, leb, get_or, length, leb-true, ne_eqb}
use Rattle.model.specs.Octa.{octa}
use Rattle.model.specs.Memory.{Window, shape_of, offset, has, Windows, shapes_of, holder, inside, both, ruled}
use Rattle.model.specs.Plan.{Plan, answer, read, Outcome, perform, worst, clear, look, looks}
use Rattle.model.specs.Registers.{reg, admissible, halted}
use Rattle.model.specs.Contexts.{below, context_rest, context_count, context_at}
use Rattle.model.specs.Step.{unruled_by, refusing, step_of}
use Rattle.model.specs.Reader.{Part, empty_part, window_of, nowhere, octabytes, span_of, held_by, across, part_at, handed, checked, read_context}
use Rattle.model.specs.Roundtrip.{threshold_at, count_at, octas_at, first_at, across_at, FromFirstToPacked}
use Rattle.model.specs.declared.State.{State}
use Rattle.model.proofs.Bools.{and_left, and_right, on, on_both}
use Rattle.model.proofs.Runs.{octa_mod, worst_of, perform_read}
use Rattle.model.proofs.SaveUnsave.{looked, Context, context_found, unsaved_next, unsave_open}
use Rattle.model.proofs.Entry.{perform_on, Inside, said_reply, judged_inside, unruled_none}
use Rattle.model.proofs.Memory.{both_lawful, holder_octa}
use Rattle.model.proofs.Held.{holder_has, holder_most, held_at, whole_held, held_mod, across_mod}
use Rattle.model.proofs.Apart.{Ruled, ruled_a, ruled_b}
use Rattle.model.proofs.StepByArm.{step_unruled}
use Rattle.model.proofs.ItemInvariant.{Any}
use Rattle.model.proofs.ArmAnswers.{context_meets}
use Rattle.model.proofs.StepAnswers.{perform_meets}
use Rattle.model.proofs.Runs as runs

-- ---- the reader judges as UNSAVE does

-- one context plan for two kinds of state: the replies are equal
module _ {S T : Type 0} (w : Windows) (s bad : S) (found : ℕ → ℕ → ℕ → ℕ → List ℕ → S) (t worse : T) (held : ℕ → ℕ → ℕ → ℕ → List ℕ → T) where
  abbrev Alike : Plan S → Plan T → Type 0
  Alike p q = (perform_on w s p).reply ≡ (perform_on w t q).reply

  read_alike : (a n : ℕ) (f : List ℕ → Plan S) (g : List ℕ → Plan T) → Alike (f (looks both w a n)) (g (looks both w a n)) → Alike (read 6 a n f) (read 6 a n g)
  unfolding perform
  read_alike a n f g h = on_both {A = Outcome S Windows} {B = Outcome T Windows} (λ o p. o.reply ≡ p.reply) (clear (refusing (shapes_of w)) a n) (λ e. h) (λ e. refl)

  said_alike : (r : ℕ) (x : S) (y : T) → Alike (answer r x 0 []) (answer r y 0 [])
  unfolding perform worst
  said_alike r x y = refl

  rest_alike : (p g a l : ℕ) → Alike (context_rest bad found p g a l) (context_rest worse held p g a l)
  unfolding context_rest
  rest_alike p g a l = on_both Alike (leb l g) (λ e. read_alike (below p (l + 269 - g)) (l + 270 - g) _ _ (said_alike 0 _ _)) (λ e. said_alike 16 bad worse)

  count_alike : (p g a : ℕ) → Alike (context_count bad found p g a) (context_count worse held p g a)
  unfolding context_count
  count_alike p g a =
      on_both Alike (leb 32 g && leb g 255)
      (λ e. on_both Alike (leb a 0x3FFFF)
      (λ f. read_alike (below p (269 - g)) 1 (λ v. context_rest bad found p g a (get_or v 0 0)) (λ v. context_rest worse held p g a (get_or v 0 0)) (rest_alike p g a _))
      (λ f. said_alike 15 bad worse))
      (λ e. said_alike 14 bad worse)

  context_alike : (p : ℕ) → Alike (context_at bad found p) (context_at worse held p)
  unfolding context_at
  context_alike p =
      read_alike p 1 (λ v. context_count bad found p (get_or v 0 0 / 2 ^ 56) (get_or v 0 0 % 2 ^ 56)) (λ v. context_count worse held p (get_or v 0 0 / 2 ^ 56) (get_or v 0 0 % 2 ^ 56))
      (count_alike p _ _)

-- ---- a context that is found

-- a context plan that is done has found a context
module _ {S : Type 0} (w : Windows) (s bad : S) (found : ℕ → ℕ → ℕ → ℕ → List ℕ → S) where
  abbrev Done : Plan S → Type 0
  Done p = (perform_on w s p).reply ≡ 0

  read_done : (a n : ℕ) (k : List ℕ → Plan S) → Done (read 6 a n k) → Inside w a n × Done (k (looks both w a n))
  read_done a n k h =
      let i : Inside w a n = runs.read_done both both_lawful (refusing (shapes_of w)) s 6 a n k w (λ q. omega arith) h in
      (i, ap (λ (o : Outcome S Windows). o.reply) (sym (perform_read both both_lawful (refusing (shapes_of w)) s 6 a n k w i)) ∙ h)

  rest_done : (p g a l : ℕ) → Done (context_rest bad found p g a l) → (l ≤ g) × Inside w (below p (l + 269 - g)) (l + 270 - g)
  unfolding context_rest
  rest_done p g a l =
      on (λ (q : Plan S). Done q → (l ≤ g) × Inside w (below p (l + 269 - g)) (l + 270 - g)) (leb l g)
      (λ e h. (leb-true _ _ e, (read_done (below p (l + 269 - g)) (l + 270 - g) _ h).0)) (λ e h. absurd (omega (arith, said_reply w s bad 16, h)))

  count_done : (p g a : ℕ) → Inside w p 1 → look both w p / 2 ^ 56 ≡ g → look both w p % 2 ^ 56 ≡ a
      → Done (context_count bad found p g a) → Context (refusing (shapes_of w)) w p g a (look both w (below p (269 - g)))
  unfolding context_count
  count_done p g a c d f =
      on (λ (q : Plan S). Done q → Context (refusing (shapes_of w)) w p g a (look both w (below p (269 - g)))) (leb 32 g && leb g 255)
      (λ e. on (λ (q : Plan S). Done q → Context (refusing (shapes_of w)) w p g a (look both w (below p (269 - g)))) (leb a 0x3FFFF)
      (λ k h. found_by e k (read_done (below p (269 - g)) 1 (λ v. context_rest bad found p g a (get_or v 0 0)) h))
      (λ k h. absurd (omega (arith, said_reply w s bad 15, h))))
      (λ e h. absurd (omega (arith, said_reply w s bad 14, h)))
    where
      found_by : (leb 32 g && leb g 255) ≡ true → leb a 0x3FFFF ≡ true
          → Inside w (below p (269 - g)) 1 × Done (context_rest bad found p g a (get_or (looks both w (below p (269 - g)) 1) 0 0))
          → Context (refusing (shapes_of w)) w p g a (look both w (below p (269 - g)))
      found_by e k h =
          let r : (look both w (below p (269 - g)) ≤ g) × Inside w (below p (look both w (below p (269 - g)) + 269 - g)) (look both w (below p (269 - g)) + 270 - g)
          = rest_done p g a _ (rw (looked w (below p (269 - g))) at h.1) in
          record {
            packed = c;
            threshold_is = d;
            status_is = f;
            g_low = leb-true _ _ (and_left (leb 32 g) _ e);
            g_high = leb-true _ _ (and_right (leb 32 g) _ e);
            a_high = leb-true _ _ k;
            count = h.0;
            count_is = refl;
            l_g = r.0;
            rest = r.1;
          }

  context_done : (p : ℕ) → Done (context_at bad found p) → Context (refusing (shapes_of w)) w p (threshold_at w p) (look both w p % 2 ^ 56) (count_at w p)
  unfolding context_at
  context_done p h =
      let r : Inside w p 1 × Done (context_count bad found p (get_or (looks both w p 1) 0 0 / 2 ^ 56) (get_or (looks both w p 1) 0 0 % 2 ^ 56))
      = read_done p 1 (λ v. context_count bad found p (get_or v 0 0 / 2 ^ 56) (get_or v 0 0 % 2 ^ 56)) h in
      count_done p (threshold_at w p) (look both w p % 2 ^ 56) r.0 refl refl (rw (looked w p) at r.1)

-- the next octabyte is eight bytes on, unless that wraps; and so for a run of them
pub offset_next : (base a : ℕ) → offset base a + 8 < 2 ^ 64 → offset base (a + 8) ≡ offset base a + 8
unfolding offset octa
offset_next base a h = omega arith

offset_run : (base a n : ℕ) → ((i : ℕ) → i < n → offset base (a + 8 * i) + 8 < 2 ^ 60) → offset base (a + 8 * n) ≡ offset base a + 8 * n
offset_run base a zero h = let z : a + 8 * 0 ≡ a = omega arith in rw z (omega arith)
offset_run base a (suc n) h =
    let z : a + 8 * suc n ≡ a + 8 * n + 8 = omega arith in
    let r : offset base (a + 8 * n) ≡ offset base a + 8 * n = offset_run base a n (λ i l. h i (omega arith)) in
    rw z (offset_next base (a + 8 * n) (omega (arith, h n (omega arith))) ∙ omega arith)

offset_mod : (base a b : ℕ) → a % 2 ^ 64 ≡ b % 2 ^ 64 → offset base a ≡ offset base b
unfolding offset
offset_mod base a b e = rw (octa_mod a b e)

-- ---- the reader and UNSAVE

pub reader_open : (w : Windows) (p : ℕ) → unruled_by (shapes_of w) ≡ 0 → read_context w p ≡ handed w (checked w p).reply (checked w p).state
unfolding read_context
reader_open w p r = rw r

pub reader_unruled : (w : Windows) (p : ℕ) → unruled_by (shapes_of w) ≢ 0 → read_context w p ≡ record { reply = unruled_by (shapes_of w); state = empty_part; memory = w }
unfolding read_context
reader_unruled w p n = rw (ne_eqb (unruled_by (shapes_of w)) 0 n)

-- what the checks found, where they pass
record Stands (w : Windows) (p : ℕ) : Type 0 where
  context : Context (refusing (shapes_of w)) w p (threshold_at w p) (look both w p % 2 ^ 56) (count_at w p)
  first : ℕ
  first_is : first % 2 ^ 64 ≡ first_at w p % 2 ^ 64
  checked_is : checked w p ≡ record { reply = 0; state = octabytes first (octas_at w p); memory = w }

stands : (w : Windows) (p : ℕ) → (checked w p).reply ≡ 0 → Stands w p
unfolding span_of
stands w p h =
    let c : Context (refusing (shapes_of w)) w p (threshold_at w p) (look both w p % 2 ^ 56) (count_at w p) = context_done w nowhere nowhere span_of p h in
    let m : octas_at w p ≡ count_at w p + 269 - threshold_at w p + 1 = omega (arith, c.g_high) in
    let k : octas_at w p - 1 ≡ count_at w p + 269 - threshold_at w p = omega arith in
    record {
      context = c;
      first = below p (count_at w p + 269 - threshold_at w p) % 2 ^ 64;
      first_is = rw k (omega arith);
      checked_is = context_found (refusing (shapes_of w)) w nowhere nowhere span_of p _ _ _ c;
    }

-- a reader that is refused by the checks gives their number
refused_is : (w : Windows) (p : ℕ) → (checked w p).reply ≢ 0 → (checked w p).state ≡ nowhere
refused_is w p =
    perform_meets w nowhere Any (λ r t vs. r ≢ 0 → t ≡ nowhere) (λ o. o.reply ≢ 0 → o.state ≡ nowhere) (λ n. refl) (λ r t a vs h. h) (λ a n. tt) (context_at nowhere span_of p)
    (context_meets nowhere span_of p Any (λ r t vs. r ≢ 0 → t ≡ nowhere) (λ n a b m. refl) (λ o g a l vs b c d e f i m. absurd (m refl)))

found_reply : (w : Windows) (a n : ℕ) → (handed w 0 (octabytes a n)).reply ≡ cond (across (shapes_of w) a n) 23 0
unfolding handed
found_reply w a n = on_both {A = Outcome Part Windows} (λ o r. o.reply ≡ r) (across (shapes_of w) a n) (λ e. refl) (λ e. refl)

refused_reply : (w : Windows) (r : ℕ) → (handed w r nowhere).reply ≡ r
unfolding handed
refused_reply w r = refl

stands_reply : (w : Windows) (p : ℕ) → Stands w p → (handed w (checked w p).reply (checked w p).state).reply ≡ cond (across_at w p) 23 0
stands_reply w p t =
    rw t.checked_is (found_reply w t.first (octas_at w p) ∙ rw (across_mod (shapes_of w) (octas_at w p) t.first (first_at w p) t.first_is))

pub reader_reply : (w : Windows) (s : State) (x y z : ℕ) → admissible s ≡ true
    → (read_context w (reg s z)).reply
    ≡ cond (eqb (step_of w s 0xFB x y z).reply 0) (cond (across_at w (reg s z)) 23 0) (step_of w s 0xFB x y z).reply
reader_reply w s x y z a = go (ℕ_discrete (unruled_by (shapes_of w)) 0)
  where
    p : ℕ
    p = reg s z

    -- the checks' reply is UNSAVE's; where they pass, the context is where they found it
    judged : (r : ℕ) → (checked w p).reply ≡ r → (handed w (checked w p).reply (checked w p).state).reply ≡ cond (eqb r 0) (cond (across_at w p) 23 0) r
    judged r e = passed (ℕ_discrete r 0)
      where
        passed : Dec (r ≡ 0) → (handed w (checked w p).reply (checked w p).state).reply ≡ cond (eqb r 0) (cond (across_at w p) 23 0) r
        passed (no f) = rw (refused_is w p (λ z. f (sym e ∙ z)), ne_eqb r 0 f) (refused_reply w (checked w p).reply ∙ e)
        passed (yes f) =
            subst (λ (k : ℕ). (handed w (checked w p).reply (checked w p).state).reply ≡ cond (eqb k 0) (cond (across_at w p) 23 0) k) (sym f) (stands_reply w p (stands w p (e ∙ f)))

    go : Dec (unruled_by (shapes_of w) ≡ 0)
        → (read_context w p).reply ≡ cond (eqb (step_of w s 0xFB x y z).reply 0) (cond (across_at w p) 23 0) (step_of w s 0xFB x y z).reply
    go (yes r) = rw (reader_open w p r) (judged (step_of w s 0xFB x y z).reply
        (context_alike w nowhere nowhere span_of s (halted s) (unsaved_next s) p ∙ ap (λ (o : Outcome State Windows). o.reply) (sym (unsave_open w s x y z a r))))
    go (no n) = rw (reader_unruled w p n, step_unruled w s 0xFB x y z a n, ne_eqb (unruled_by (shapes_of w)) 0 n)

-- ---- the part that the reader hands back

pub window_ruled : (w : Windows) (k : ℕ) → ruled (shapes_of w) ≡ true → Ruled (shape_of (window_of w k))
unfolding shapes_of
window_ruled w k r = on (λ (v : Window). Ruled (shape_of v)) (eqb k 1) (λ e. ruled_b (shapes_of w) r) (λ e. ruled_a (shapes_of w) r)

-- an octabyte of a window that obeys the rules
offset_most : (v : Window) (a : ℕ) → has (shape_of v) a ≡ true → offset v.base a + 8 ≤ length v.bytes
unfolding shape_of has
offset_most v a h = leb-true _ _ h

offset_small : (v : Window) (a : ℕ) → Ruled (shape_of v) → has (shape_of v) a ≡ true → offset v.base a + 8 < 2 ^ 60
unfolding shape_of
offset_small v a r h = let m : length v.bytes < 2 ^ 60 = r.size_most in omega (arith, offset_most v a h)

-- from the first local d octabytes on: the packed one
offset_packed : (v : Window) (p d : ℕ) → d ≤ 999 → Ruled (shape_of v) → ((i : ℕ) → i < d + 1 → has (shape_of v) (below p d + 8 * i) ≡ true)
    → offset v.base p ≡ offset v.base (below p d) + 8 * d
offset_packed v p d n r h =
    sym (offset_mod v.base (below p d + 8 * d) p (omega arith)) ∙ offset_run v.base (below p d) d (λ i l. offset_small v (below p d + 8 * i) r (h i (omega arith)))

-- a part that is handed back
handed_done : (w : Windows) (a n : ℕ) → (handed w 0 (octabytes a n)).reply ≡ 0 → (across (shapes_of w) a n ≡ false) × ((handed w 0 (octabytes a n)).state ≡ part_at w a n)
unfolding handed
handed_done w a n =
    on {A = Outcome Part Windows} (λ q. q.reply ≡ 0 → (across (shapes_of w) a n ≡ false) × (q.state ≡ part_at w a n)) (across (shapes_of w) a n)
    (λ f h. absurd (omega arith)) (λ f h. (f, refl))

part_is : (w : Windows) (p : ℕ) → ruled (shapes_of w) ≡ true → (t : Stands w p) → across (shapes_of w) t.first (octas_at w p) ≡ false
    → FromFirstToPacked w p (part_at w t.first (octas_at w p))
unfolding part_at
part_is w p r t f = record {
  one_of_two = least;
  held = held;
  starts = first;
  ends = rw (first, last) (omega arith);
  within = rw first (omega (arith, last, top));
  octas = refl;
}
  where
    k : ℕ
    k = holder (shapes_of w) t.first

    d : ℕ
    d = octas_at w p - 1

    v : Window
    v = window_of w k

    octas_are : octas_at w p ≡ d + 1
    octas_are = omega (arith, t.context.g_high)

    inside_first : inside (shapes_of w) (first_at w p) ≡ true
    inside_first =
        let m : count_at w p + 269 - threshold_at w p ≡ d = omega (arith, t.context.g_high) in
        let h : refusing (shapes_of w) (below p (count_at w p + 269 - threshold_at w p) + 8 * 0) ≡ 0
        = worst_of (refusing (shapes_of w)) (count_at w p + 270 - threshold_at w p) (below p (count_at w p + 269 - threshold_at w p)) 0 t.context.rest (omega arith) in
        let z : below p (count_at w p + 269 - threshold_at w p) + 8 * 0 ≡ first_at w p = rw m (omega arith) in
        judged_inside (shapes_of w) (first_at w p) (rw z at h)

    least : k ≤ 1
    least = rw (holder_octa (shapes_of w) t.first (first_at w p) (octa_mod t.first (first_at w p) t.first_is)) (holder_most (shapes_of w) (first_at w p) inside_first)

    held : held_by (shapes_of w) k (first_at w p) (octas_at w p) ≡ true
    held = sym (held_mod (shapes_of w) k (octas_at w p) t.first (first_at w p) t.first_is) ∙ whole_held (shapes_of w) t.first (octas_at w p) f

    within : (i : ℕ) → i < d + 1 → has (shape_of v) (below p d + 8 * i) ≡ true
    within i l = holder_has w k (below p d + 8 * i) least (held_at (shapes_of w) k (octas_at w p) (first_at w p) i held (omega (arith, octas_are)))

    first : offset v.base t.first ≡ offset v.base (first_at w p)
    first = offset_mod v.base t.first (first_at w p) t.first_is

    last : offset v.base p ≡ offset v.base (below p d) + 8 * d
    last = offset_packed v p d (omega (arith, t.context.l_g, t.context.g_high)) (window_ruled w k r) within

    top : offset v.base p + 8 ≤ length v.bytes
    top = rw (← offset_mod v.base (below p d + 8 * d) p (omega arith)) (offset_most v (below p d + 8 * d) (within d (omega arith)))

pub reader_part : (w : Windows) (p : ℕ) → (read_context w p).reply ≡ 0 → FromFirstToPacked w p (read_context w p).state
reader_part w p h = go (ℕ_discrete (unruled_by (shapes_of w)) 0)
  where
    go : Dec (unruled_by (shapes_of w) ≡ 0) → FromFirstToPacked w p (read_context w p).state
    go (no n) = absurd (n (ap (λ (o : Outcome Part Windows). o.reply) (sym (reader_unruled w p n)) ∙ h))
    go (yes u) =
        let d : (handed w (checked w p).reply (checked w p).state).reply ≡ 0 = ap (λ (o : Outcome Part Windows). o.reply) (sym (reader_open w p u)) ∙ h in
        let t : Stands w p = stands w p (passed (checked w p).reply (ℕ_discrete (checked w p).reply 0) refl d) in
        let g : (across (shapes_of w) t.first (octas_at w p) ≡ false) × ((handed w 0 (octabytes t.first (octas_at w p))).state ≡ part_at w t.first (octas_at w p))
        = handed_done w t.first (octas_at w p) (rw t.checked_is at d) in
        rw (reader_open w p u, t.checked_is, g.1) (part_is w p (unruled_none (shapes_of w) u).0 t g.0)
      where
        passed : (r : ℕ) → Dec (r ≡ 0) → (checked w p).reply ≡ r → (handed w (checked w p).reply (checked w p).state).reply ≡ 0 → (checked w p).reply ≡ 0
        passed r (yes e) f d = f ∙ e
        passed r (no n) f d = sym (refused_reply w (checked w p).reply) ∙ (rw (refused_is w p (λ z. n (sym f ∙ z))) at d)
