-- Outside the departures the rules of plans are the plans. Rules has the laws of each rule.
use Rattle.model.proofs.Logic.{suc, zero, ℕ, ◌+◌, ◌<◌, ◌≤◌, Bool, false, true, [], ◌∷◌, inl, inr, ◌≢◌, ap, refl, subst, sym, ◌∙◌, ◌≡◌, arith}
use Rattle.model.proofs.Logic.{count_leading_zeros, eqb, leb, get_or, eqb-false, eqb-true, le-ltb, leb-true, lt-leb}
use Rattle.model.specs.Fill.{tab}
use Rattle.model.specs.Octa.{octa}
use Rattle.model.specs.Registers.{r_o, r_g, sp, reg, hides, next}
use Rattle.model.specs.Memory.{Windows, shapes_of, both}
use Rattle.model.specs.Plan.{Plan, answer, read, Outcome, All, perform, map_plan, map_outcome}
use Rattle.model.specs.Opcodes.{Width, Sign, Operand, register, immediate, Arm, unsave, stack}
use Rattle.model.specs.NoMemory.{Said, say}
use Rattle.model.specs.Control.{sum_of, operand_of, is_negative}
use Rattle.model.specs.Frames.{hole, pop_rule, no_frame, misplaced, pop_frame}
use Rattle.model.specs.Contexts.{extent, saved, saved_state, save_context}
use Rattle.model.specs.System.{put_refusal, put_state, unless_hidden, put_special, got, get_special, sync_of}
use Rattle.model.specs.Trips.{is_loaded, enabled}
use Rattle.model.specs.LoadStore.{merged, fits, load_from, flag_v, store_says, store_to}
use Rattle.model.specs.ArithmeticStep.{operands_of, results_in, with_results, arithmetic_says}
use Rattle.model.specs.Step.{refusal_of, refusing, plan_of, from_three}
use Rattle.model.specs.Rules.{operand_rule, sum_rule, After, goes_on, unsave_rest_rule, unsave_count_rule, unsave_rule, load_rule, store_state, store_rule, arithmetic_rule}
use Rattle.model.specs.Row.{operand_read, sum_read}
use Rattle.model.specs.StackRows.{frame_read}
use Rattle.model.specs.StepRule.{rule_of, spilled_by}
use Rattle.model.specs.Departures.{ReadsZero, context_taken}
use Rattle.model.specs.declared.State.{State}
use Rattle.model.specs.declared.Operation.{Operation}
use Rattle.model.proofs.Bools.{on_both}
use Rattle.model.proofs.Plan.{perform_map}
use Rattle.model.proofs.RaisedRule.{raised_same, outside_one}
use Rattle.model.proofs.ArithmeticWords.{flags_one}
use Rattle.model.proofs.Rules.{unsave_same}

-- ---- each arm

unfoldable pub ArmSame : Windows → State → Arm → ℕ → ℕ → ℕ → ℕ → Type 0
ArmSame w s a op x y z =
    perform both (refusing (shapes_of w)) (goes_on s) (map_plan (spilled_by a) (rule_of s a op x y z)) w
    ≡ map_outcome goes_on (perform both (refusing (shapes_of w)) s (from_three s a op x y z) w)

pub by_plans : (w : Windows) (s : State) (a : Arm) (op x y z : ℕ) → map_plan (spilled_by a) (rule_of s a op x y z) ≡ map_plan goes_on (from_three s a op x y z) → ArmSame w s a op x y z
unfolding ArmSame
by_plans w s a op x y z e =
    ap (λ (p : Plan After). perform both (refusing (shapes_of w)) (goes_on s) p w) e ∙ perform_map both goes_on (refusing (shapes_of w)) s (from_three s a op x y z) w

-- ---- registers that read by the rule as they are held

pub operand_read_law : (s : State) (o : Operand) (z : ℕ) → All (ReadsZero s) (operand_read o z) → operand_of s o z ≡ operand_rule s o z
unfolding All
operand_read_law s register z h = h.0
operand_read_law s immediate z h = refl

pub sum_read_law : (s : State) (o : Operand) (y z : ℕ) → All (ReadsZero s) (sum_read o y z) → sum_rule s o y z ≡ sum_of s o y z
unfolding All
sum_read_law s o y z h = rw (h.0, operand_read_law s o z h.1)

-- of a frame
all_below : (F : ℕ → Type 0) (n k : ℕ) → All F (tab k n (λ i. i)) → (i : ℕ) → k ≤ i → i < k + n → F i
unfolding All tab
all_below F zero k h i a b = absurd (omega arith)
all_below F (suc n) k h i a b = go (eqb k i) refl (λ c. all_below F n (suc k) h.1 i c (omega arith))
  where
    go : (t : Bool) → eqb k i ≡ t → (suc k ≤ i → F i) → F i
    go true e f = subst F (eqb-true k i e) h.0
    go false e f = let d : k ≢ i = eqb-false k i e in f (omega arith)

pub frame_read_law : (s : State) (x : ℕ) → All (ReadsZero s) (frame_read s x) → (i : ℕ) → i < hole s x → ReadsZero s i
frame_read_law s x h i l = all_below (ReadsZero s) (hole s x) 0 h i (omega arith) (omega arith)

-- ---- plans

pub pop_framed : (s : State) (x t : ℕ) → no_frame s ≡ false → misplaced s ≡ false → pop_frame s x t ≡ pop_rule s x t
unfolding pop_frame
pop_framed s x t a b = rw (a, b)

pub unhidden : (s : State) (k : ℕ) (d : Said) → hides s.mask k ≡ false → unless_hidden s k d ≡ d
unfolding unless_hidden
unhidden s k d e = rw e

pub put_done_law : (s : State) (x v : ℕ) → hides s.mask x ≡ false → put_refusal s x v ≡ 0 → put_special s x v ≡ say 0 (next (put_state s x v))
unfolding put_special
put_done_law s x v f e = unhidden s x _ f ∙ rw e

pub get_done : (s : State) (x z : ℕ) → hides s.mask z ≡ false → get_special s x z ≡ say 0 (next (got s x z))
unfolding get_special
get_done s x z e = unhidden s z _ e

pub save_done : (s : State) (x : ℕ) → leb (sp s r_g) x ≡ true → save_context s x ≡ answer 0 (next (saved_state s x)) (sp s r_o) (tab 0 (extent s) (saved s))
unfolding save_context
save_done s x e = rw (le-ltb x (sp s r_g) (leb-true _ _ e))

pub sync_done : (s : State) (n : ℕ) → leb n 3 ≡ true → sync_of s n ≡ say 0 (next s)
unfolding sync_of
sync_done s n e = let h : n ≤ 3 = leb-true _ _ e in rw (le-ltb 7 n (omega arith), lt-leb 4 n (omega arith))

pub unsave_arm : (w : Windows) (s : State) (op x y z : ℕ) → x ≡ 0 → y ≡ 0 → ReadsZero s z → octa (reg s z) ≡ reg s z → context_taken w (reg s z) ≡ true
    → ArmSame w s (stack unsave) op x y z
unfolding ArmSame rule_of plan_of refusal_of from_three map_plan spilled_by unsave_rule unsave_count_rule unsave_rest_rule
unsave_arm w s op x y z a b r o e =
    rw (a, b, ← r) (perform_map both goes_on (refusing (shapes_of w)) s (unsave_rule s (reg s z)) w ∙ ap (λ (q : Outcome State Windows). map_outcome goes_on q) (sym (unsave_same w s (reg s z) o e)))

pub load_plans : (s : State) (d : Width) (g : Sign) (x a : ℕ) → is_negative a ≡ false → map_plan (λ t. t) (load_rule s d g x a) ≡ map_plan goes_on (load_from s d g x a)
unfolding load_rule load_from map_plan
load_plans s d g x a e = rw e

pub store_plans : (s : State) (d : Width) (g : Sign) (x a word : ℕ) → is_negative a ≡ false
    → (fits d g (reg s x) ≡ false → eqb (enabled s flag_v) 0 ≡ false → is_loaded s (count_leading_zeros 8 (enabled s flag_v) + 1) ≡ true)
    → map_plan (λ t. t) (store_rule s d g (reg s x) a word) ≡ map_plan goes_on (store_to s d g x a word)
unfolding store_rule store_to map_plan
store_plans s d g x a word e h = rw e (ap (λ (q : Said). read 6 a 1 (λ v. answer q.reply (goes_on q.state) a (merged d a (get_or v 0 0) (reg s x) ∷ []))) (sym says))
  where
    says : store_says s d g x a word ≡ say 0 (store_state s d g (reg s x) a word)
    says = unfold store_says store_state in (on_both (λ (q : Said) (t : State). q ≡ say 0 t) (fits d g (reg s x)) (λ f. refl) (λ f. raised_same s flag_v word a (reg s x) (outside_one s flag_v (inr (inl refl)) (h f))))

pub arithmetic_says_law : (s : State) (f : Operation) (x u v word : ℕ)
    → (eqb (enabled (with_results s x (results_in s f u v)) (results_in s f u v).flags) 0 ≡ false
    → is_loaded (with_results s x (results_in s f u v)) (count_leading_zeros 8 (enabled (with_results s x (results_in s f u v)) (results_in s f u v).flags) + 1) ≡ true)
    → arithmetic_says s f x u v word ≡ say 0 (arithmetic_rule s f x u v word)
unfolding arithmetic_says arithmetic_rule
arithmetic_says_law s f x u v word h =
    on_both (λ (q : Said) (t : State). q ≡ say 0 t) (eqb (results_in s f u v).flags 0) (λ e. refl)
    (λ e. raised_same (with_results s x (results_in s f u v)) (results_in s f u v).flags word u v (outside_one (with_results s x (results_in s f u v)) (results_in s f u v).flags (flags_one f (operands_of s u v)) h))
