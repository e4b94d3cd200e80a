-- Knuth's rules beside the definitions of the steps: reading; GET; POP; PUSH; UNSAVE. RuleStep has the arms and the whole step.
use Rattle.model.proofs.Logic.{max, min, ℕ, ◌%◌, ◌*◌, ◌+◌, ◌-◌, ◌/◌, ◌<◌, ◌^◌, ◌≤◌, Bool, cond, false, true, ◌&&◌, List, [], ⊎_elim, ap, refl, sym, ◌∙◌}
use Rattle.model.proofs.Logic.{◌≡◌, arith, eqb, leb, ltb, get_or, length, get_or_eq_default, set, get_or-set_other, set-set, eq-eqb, eqb-true, le-leb}
use Rattle.model.proofs.Logic.{leb-false, leb-true, lt-leb, lt-ltb, ltb-true, not-false}
use Rattle.model.specs.Fill.{over, tab}
use Rattle.model.specs.Octa.{octa}
use Rattle.model.specs.Registers.{with_parts, r_o, r_g, r_l, stack_start, sp, reg, goes, next, halted, with_special, spilled, cleared, claim_local, is_marginal, MarginalZero}
use Rattle.model.specs.Memory.{Windows, Shapes, shapes_of, inside, both}
use Rattle.model.specs.Plan.{Plan, answer, read, Outcome, worst, clear, look, looks, perform, map_plan}
use Rattle.model.specs.Opcodes.{pop, stack}
use Rattle.model.specs.Frames.{hole, framed, framed_rule, pushed, push_frame, unslide, popped, pop_to, pop_rule, count_of, no_frame, misplaced}
use Rattle.model.specs.Contexts.{below, unsaved_general, unsaved_special, unsaved_unspilled, unsaved, context_rest, context_count, context_at, unsave_context}
use Rattle.model.specs.System.{got, got_rule}
use Rattle.model.specs.Step.{refusing}
use Rattle.model.specs.Rules.{read_rule, goes_on, push_rule, below_top, popped_rule, pop_hole_rule, pop_any_rule, unsaved_general_rule, unsaved_special_rule, unsaved_rule, unsave_rest_rule, unsave_count_rule, unsave_rule}
use Rattle.model.specs.StepRule.{spilled_by}
use Rattle.model.specs.Departures.{ReadsZero, count_taken, context_taken}
use Rattle.model.specs.declared.State.{State}
use Rattle.model.proofs.Bools.{and_left, and_right, on, on_both}
use Rattle.model.proofs.Fill.{length_over, over_in, over_below, lt_or_le}

differ : true ≡ false → ⊥
differ e = let o : ◌≡◌ {A = ℕ} 0 1 = cc in omega arith

-- ---- reading

pub read_zero : (s : State) (k : ℕ) → MarginalZero s → ReadsZero s k
unfolding read_rule
read_zero s k z =
    on (λ (v : ℕ). reg s k ≡ v) (is_marginal s k)
    (λ e. z.zero_at k (leb-true _ _ (and_left _ _ e)) (ltb-true _ _ (and_right (leb (sp s r_l) k) _ e)))
    (λ e. refl)

-- a range that is cleared, whether or not the list is so long
cleared_in : (a b : ℕ) (l : List ℕ) (i : ℕ) → a ≤ i → i < b → get_or (over (λ k. 0) a b l) i 0 ≡ 0
cleared_in a b l i h m =
    ⊎_elim (λ n. over_in (λ k. 0) a b l i h m n) (λ n. get_or_eq_default (over (λ k. 0) a b l) 0 (rw (length_over (λ k. 0) a b l) n)) (lt_or_le i (length l))

cleared_below : (a b : ℕ) (l : List ℕ) (i : ℕ) → i < a → get_or (over (λ k. 0) a b l) i 0 ≡ get_or l i 0
cleared_below a b l i h =
    ⊎_elim (λ n. over_below (λ k. 0) a b l i h n)
    (λ n. get_or_eq_default (over (λ k. 0) a b l) 0 (rw (length_over (λ k. 0) a b l) n) ∙ sym (get_or_eq_default l 0 n)) (lt_or_le i (length l))

-- what is local, or marginal, reads so
read_local : (s : State) (i : ℕ) → i < sp s r_l → read_rule s i ≡ reg s i
unfolding read_rule
read_local s i h = rw (lt-leb (sp s r_l) i h)

read_none : (s : State) (i : ℕ) → sp s r_l ≤ i → i < sp s r_g → read_rule s i ≡ 0
unfolding read_rule
read_none s i h m = rw (le-leb (sp s r_l) i h, lt-ltb i (sp s r_g) m)

-- the frame of a call, as the rule reads it: a marginal X is claimed, and else only locals are pushed
claimed_held : (s : State) (x i : ℕ) → x < sp s r_g → i < x → get_or (over (λ k. 0) (sp s r_l) (x + 1) s.general) i 0 ≡ read_rule s i
claimed_held s x i g l =
    ⊎_elim (λ m. cleared_below (sp s r_l) (x + 1) s.general i m ∙ sym (read_local s i m))
    (λ m. cleared_in (sp s r_l) (x + 1) s.general i m (omega arith) ∙ sym (read_none s i m (omega arith))) (lt_or_le i (sp s r_l))

hole_is : (s : State) (x : ℕ) → x < sp s r_g → hole s x ≡ x
unfolding hole
hole_is s x g = rw (lt-leb (sp s r_g) x g)

hole_below_law : (s : State) (x i : ℕ) → is_marginal s x ≡ false → i < hole s x → i < sp s r_l
unfolding hole
hole_below_law s x i e = on (λ (h : ℕ). i < h → i < sp s r_l) (leb (sp s r_g) x) (λ p l. l) (λ p l. not_yet p l)
  where
    not_yet : leb (sp s r_g) x ≡ false → i < x → i < sp s r_l
    not_yet p l =
        ⊎_elim (λ (m : x < sp s r_l). omega arith)
        (λ (m : sp s r_l ≤ x). absurd (differ (rw (le-leb (sp s r_l) x m, lt-ltb x (sp s r_g) (leb-false (sp s r_g) x p)) at e))) (lt_or_le x (sp s r_l))

local_held : (s : State) (x i : ℕ) → i < hole s x → reg (claim_local s x) i ≡ read_rule s i
unfolding claim_local with_special cleared
local_held s x i l =
    on (λ (t : State). reg t i ≡ read_rule s i) (is_marginal s x)
    (λ e. let g : x < sp s r_g = ltb-true _ _ (and_right (leb (sp s r_l) x) _ e) in claimed_held s x i g (rw (hole_is s x g) at l))
    (λ e. sym (read_local s i (hole_below_law s x i e l)))

pub frame_reads : (s : State) (x i : ℕ) → framed_rule s x i ≡ cond (ltb i (hole s x)) (read_rule s i) (hole s x)
unfolding framed_rule framed
frame_reads s x i = on_both (λ (a b : ℕ). a ≡ b) (ltb i (hole s x)) (λ e. local_held s x i (ltb-true _ _ e)) (λ e. refl)

pub frame_same : (s : State) (x : ℕ) → ((i : ℕ) → i < hole s x → ReadsZero s i) → (i : ℕ) → framed_rule s x i ≡ framed s (hole s x) i
unfolding framed
frame_same s x h i = frame_reads s x i ∙ on_both (λ (a b : ℕ). a ≡ b) (ltb i (hole s x)) (λ e. sym (h i (ltb-true _ _ e))) (λ e. refl)

-- ---- GET

-- claiming a local moves no special but rL
claim_special : (s : State) (x z : ℕ) → (eqb z r_l && is_marginal s x) ≡ false → sp s z ≡ sp (claim_local s x) z
unfolding claim_local with_special cleared
claim_special s x z h =
    on (λ (t : State). sp s z ≡ sp t z) (is_marginal s x)
    (λ e. sym (get_or-set_other s.special r_l z (x + 1) 0 (λ q. differ (rw (e, eq-eqb z r_l q) at h))))
    (λ e. refl)

pub got_same : (s : State) (x z : ℕ) → (eqb z r_l && is_marginal s x) ≡ false → got s x z ≡ got_rule s x z
unfolding got got_rule
got_same s x z h = rw (claim_special s x z h)

-- ---- POP

top_below : (s : State) (k : ℕ) → 8 * k ≤ sp s r_o → sp s r_o < 2 ^ 64 → below_top s k ≡ sp s r_o - 8 * k
unfolding below_top
top_below s k a b = omega arith

popped_same : (s : State) (x h : ℕ) (ls : List ℕ) → 8 * (h + 1) ≤ sp s r_o → sp s r_o < 2 ^ 64 → popped_rule s x h ls ≡ unslide s x h ls
unfolding popped_rule with_special unslide
popped_same s x h ls a b = λ i. with_parts s (unslide s x h ls).general (same i)
  where
    same : set (set (set s.special r_l (min (h + count_of s x) (sp s r_g))) r_o (sp s r_o - 8 * (h + 1))) r_o (below_top s (h + 1))
        ≡ set (set s.special r_l (min (h + count_of s x) (sp s r_g))) r_o (sp s r_o - 8 * (h + 1))
    same = rw (top_below s (h + 1) a b) (set-set (set s.special r_l (min (h + count_of s x) (sp s r_g))) r_o (sp s r_o - 8 * (h + 1)) (sp s r_o - 8 * (h + 1)))

-- rO of a POP that has a frame at a place for one
pop_top : (s : State) → no_frame s ≡ false → misplaced s ≡ false → (stack_start < sp s r_o) × (sp s r_o < 2 ^ 63)
unfolding no_frame misplaced
pop_top s a b = (leb-false _ _ a, ltb-true _ _ (and_right (eqb (sp s r_o % 8) 0) _ (not-false _ b)))

hole_room : (s : State) (v : ℕ) → stack_start < sp s r_o → 8 * (v % 256 + 1) ≤ sp s r_o
hole_room s v a = omega arith

pub pop_plans : (s : State) (x t : ℕ) → no_frame s ≡ false → misplaced s ≡ false
    → map_plan (spilled_by (stack pop)) (map_plan goes_on (pop_any_rule s x t)) ≡ map_plan goes_on (pop_rule s x t)
unfolding pop_any_rule pop_hole_rule pop_rule pop_to popped map_plan spilled_by spilled with_special goes
pop_plans s x t a b = λ i. read 6 (top_below s 1 (omega (arith, above)) w64 i) 1
    (λ v. read 6 (top_below s (get_or v 0 0 % 256 + 1) (hole_room s (get_or v 0 0) above) w64 i) (min (get_or v 0 0 % 256) (sp s r_g))
    (λ ls. answer 0 (goes_on (goes (spilled (popped_same s x (get_or v 0 0 % 256) ls (hole_room s (get_or v 0 0) above) w64 i)) t)) 0 []))
  where
    above : stack_start < sp s r_o
    above = (pop_top s a b).0

    w64 : sp s r_o < 2 ^ 64
    w64 = let h : sp s r_o < 2 ^ 63 = (pop_top s a b).1 in omega arith

-- ---- PUSH

pub push_plans : (s : State) (x t : ℕ) → ((i : ℕ) → i < hole s x → ReadsZero s i)
    → map_plan (spilled_by (stack pop)) (map_plan goes_on (push_rule s x t)) ≡ map_plan goes_on (push_frame s (hole s x) t)
unfolding push_rule push_frame pushed map_plan spilled_by spilled with_special goes
push_plans s x t h = λ i. answer 0 (goes_on (goes (pushed s (hole s x)) t)) (sp s r_o) (tab 0 (hole s x + 1) (λ k. frame_same s x h k i))

-- ---- UNSAVE

pub has_clear : (v : Shapes) (a : ℕ) → clear (refusing v) a 1 ≡ inside v a
unfolding refusing worst
has_clear v a = go (inside v a)
  where
    go : (b : Bool) → eqb (max (cond b 0 6) 0) 0 ≡ b
    go true = refl
    go false = refl

special_rl : (s : State) (o g a l : ℕ) (vs : List ℕ) → l ≡ unsaved_special s o g a l vs r_l
unfolding unsaved_special
special_rl s o g a l vs = refl

unsaved_same : (s : State) (o g a l : ℕ) (vs : List ℕ) → l ≤ g → unsaved_rule s o g a l vs ≡ unsaved s o g a l vs
unfolding unsaved_rule unsaved unsaved_unspilled unsaved_general_rule unsaved_general unsaved_special_rule
unsaved_same s o g a l vs h = λ i. spilled (with_parts s
    (over (λ k. general_at k i) 0 256 s.general)
    (over (λ k. special_at k i) 0 32 s.special))
  where
    least : min l g ≡ l
    least = omega arith

    general_at : (k : ℕ) → unsaved_general_rule g l vs k ≡ unsaved_general g l vs k
    general_at k = rw least

    at_rl : (k : ℕ) → k ≡ r_l → l ≡ unsaved_special s o g a l vs k
    at_rl k e = rw e (special_rl s o g a l vs)

    special_at : (k : ℕ) → unsaved_special_rule s o g a l vs k ≡ unsaved_special s o g a l vs k
    special_at k = rw least (on (λ (v : ℕ). v ≡ unsaved_special s o g a l vs k) (eqb k r_l) (λ e. at_rl k (eqb-true k r_l e)) (λ e. refl))

-- two plans that read the same run and agree on what is there
read_same : (j : ℕ → ℕ) (s : State) (q a n : ℕ) (k l : List ℕ → Plan State) (w : Windows)
    → (clear j a n ≡ true → perform both j s (k (looks both w a n)) w ≡ perform both j s (l (looks both w a n)) w)
    → perform both j s (read q a n k) w ≡ perform both j s (read q a n l) w
unfolding perform
read_same j s q a n k l w h = on_both (λ (x y : Outcome State Windows). x ≡ y) (clear j a n) h (λ e. refl)

rest_plans : (s : State) (p g a l : ℕ) → leb l g ≡ true → context_rest (halted s) (λ o g a l vs. next (unsaved s o g a l vs)) p g a l ≡ unsave_rest_rule s p g a l
unfolding context_rest unsave_rest_rule
rest_plans s p g a l e = rw e (λ i. read 6 (below p (l + 269 - g)) (l + 270 - g)
    (λ vs. answer 0 (next (sym (unsaved_same s (below p (l + 269 - g) % 2 ^ 64) g a l vs (leb-true _ _ e)) i)) 0 []))

byte_count : (g l : ℕ) → leb l g ≡ true → leb g 255 ≡ true → l % 256 ≡ l
byte_count g l e c = let a : l ≤ g = leb-true _ _ e in let b : g ≤ 255 = leb-true _ _ c in omega arith

module _ (w : Windows) (s : State) where
  count_same : (p g a : ℕ) → leb 32 g ≡ true → leb g 255 ≡ true → leb a 0x3FFFF ≡ true → count_taken w p g ≡ true
      → perform both (refusing (shapes_of w)) s (context_count (halted s) (λ o g a l vs. next (unsaved s o g a l vs)) p g a) w
      ≡ perform both (refusing (shapes_of w)) s (unsave_count_rule s p g a) w
  unfolding context_count unsave_count_rule looks count_taken
  count_same p g a b c d e = rw (b, c, d) (read_same (refusing (shapes_of w)) s 6 (below p (269 - g)) 1
      (λ v. context_rest (halted s) (λ o g a l vs. next (unsaved s o g a l vs)) p g a (get_or v 0 0)) (λ v. unsave_rest_rule s p g a (get_or v 0 0 % 256)) w
      (λ t. let m : leb (look both w (below p (269 - g))) g ≡ true = rw (sym (has_clear (shapes_of w) (below p (269 - g))) ∙ t) at e in
      ap (λ (q : Plan State). perform both (refusing (shapes_of w)) s q w) (rest_plans s p g a (look both w (below p (269 - g))) m
      ∙ ap (λ (l : ℕ). unsave_rest_rule s p g a l) (sym (byte_count g (look both w (below p (269 - g))) m c)))))

  pub unsave_same : (p : ℕ) → octa p ≡ p → context_taken w p ≡ true
      → perform both (refusing (shapes_of w)) s (unsave_context s p) w ≡ perform both (refusing (shapes_of w)) s (unsave_rule s p) w
  unfolding unsave_context context_at unsave_rule looks context_taken
  unsave_same p o e = rw o (read_same (refusing (shapes_of w)) s 6 p 1
      (λ v. context_count (halted s) (λ o g a l vs. next (unsaved s o g a l vs)) p (get_or v 0 0 / 2 ^ 56) (get_or v 0 0 % 2 ^ 56))
      (λ v. unsave_count_rule s p (get_or v 0 0 / 2 ^ 56) (get_or v 0 0 % 2 ^ 18)) w
      (λ t. taken (rw (sym (has_clear (shapes_of w) p) ∙ t) at e)))
    where
      v : ℕ
      v = look both w p

      mask : v % 2 ^ 56 ≤ 0x3FFFF → v % 2 ^ 56 ≡ v % 2 ^ 18
      mask h = omega arith

      taken : (leb 32 (v / 2 ^ 56) && (leb (v / 2 ^ 56) 255 && (leb (v % 2 ^ 56) 0x3FFFF && count_taken w p (v / 2 ^ 56)))) ≡ true
          → perform both (refusing (shapes_of w)) s (context_count (halted s) (λ o g a l vs. next (unsaved s o g a l vs)) p (v / 2 ^ 56) (v % 2 ^ 56)) w
          ≡ perform both (refusing (shapes_of w)) s (unsave_count_rule s p (v / 2 ^ 56) (v % 2 ^ 18)) w
      taken h =
          let h1 : (leb (v / 2 ^ 56) 255 && (leb (v % 2 ^ 56) 0x3FFFF && count_taken w p (v / 2 ^ 56))) ≡ true = and_right (leb 32 (v / 2 ^ 56)) _ h in
          let h2 : (leb (v % 2 ^ 56) 0x3FFFF && count_taken w p (v / 2 ^ 56)) ≡ true = and_right (leb (v / 2 ^ 56) 255) _ h1 in
          let m : leb (v % 2 ^ 56) 0x3FFFF ≡ true = and_left _ _ h2 in
          count_same p (v / 2 ^ 56) (v % 2 ^ 56) (and_left _ _ h) (and_left _ _ h1) m (and_right (leb (v % 2 ^ 56) 0x3FFFF) _ h2)
          ∙ ap (λ (a : ℕ). perform both (refusing (shapes_of w)) s (unsave_count_rule s p (v / 2 ^ 56) a) w) (mask (leb-true _ _ m))
