-- A step that touches few general registers: what is said, the arms, the theorem. FewStates has the state builders.
use Rattle.model.proofs.Logic.{ℕ, ◌%◌, ◌+◌, ◌/◌, ◌<◌, ◌^◌, Bool, false, not, true, true≢false, ◌&&◌, ◌||◌, [], ◌∷◌, refl, subst, sym, ◌≡◌, bit_and}
use Rattle.model.proofs.Logic.{eqb, leb, ltb, get_or}
use Rattle.model.specs.Memory.{Windows, Shapes, shapes_of, both}
use Rattle.model.specs.Plan.{map_outcome}
use Rattle.model.specs.Registers.{r_d, r_h, r_r, r_b, r_bb, r_g, r_l, r_a, r_w, r_x, r_y, r_z, r_ww, r_xx, r_yy, r_zz, sp, reg, hides, admissible, is_marginal}
use Rattle.model.specs.Opcodes.{op_put, op_puti, among, Width, Sign, Operand, register, immediate, Arm, branch, jump, get_address, go, put, get, sync, swym, trip, trap, load, store, control, stack, system, memory, arithmetic, none, arm_of}
use Rattle.model.specs.NoMemory.{Said, say, refuse, tell}
use Rattle.model.specs.Control.{target_of, branch_fields, jump_fields, yz_of, xyz_of, sum_of, operand_of, holds}
use Rattle.model.specs.System.{put_refusal, put_state, unless_hidden, put_special, got, get_special, sync_of}
use Rattle.model.specs.Trips.{word_of, tripped, is_loaded, trip_rule, trip_to, trap_of, enabled, vector_of, with_added, raised}
use Rattle.model.specs.LoadStore.{merged, fits, load_from, flag_v, store_says, store_to}
use Rattle.model.specs.ArithmeticStep.{results_in, with_results, arithmetic_says}
use Rattle.model.specs.Step.{refusal_of, refusing, unruled_by, guarded, from_three, plan_of, step_plan, claims, step_of, exception_of}
use Rattle.model.specs.Few.{of_stack, puts_bound, touches_few, SameTouched, joined, FewTouched}
use Rattle.model.specs.declared.State.{State}
use Rattle.model.specs.declared.Operation.{Operation}
use Rattle.model.specs.declared.Results.{Results}
use Rattle.model.proofs.Bools.{on_both, or_left, or_right, each, at_each}
use Rattle.model.proofs.Related.{Related, RelatedOutcome, perform_related}
use Rattle.model.proofs.SeenArms.{by_test, put_refusal_same}
use Rattle.model.proofs.FewStates.{Touched, start, joined_is, sp_same, following_same, admissible_same, goes_left, next_left, halted_left, with_left, write_left, interrupted_left, added_left, results_left}

-- ---- which arms

-- by two tests: m, $x is marginal; p, x is rL or rG
few : Bool → Bool → Arm → Bool
few m p (control (branch c d)) = true
few m p (control (jump d)) = true
few m p (control (get_address d)) = not m
few m p (control (go o)) = not m
few m p (stack c) = false
few m p (system (put o)) = not p
few m p (system get) = not m
few m p (system sync) = true
few m p (system swym) = true
few m p (system trip) = true
few m p (system trap) = true
few m p (memory (load d g o)) = not m
few m p (memory (store d g o)) = true
few m p (arithmetic f u v) = not m
few m p none = true

-- an opcode that touches few registers has such an arm: each is tried
meant : Bool → Bool → ℕ → Bool
meant m p op = (of_stack op || ((among op_put op_puti op && p) || (m && claims op))) || few m p (arm_of op)

all_meant : (m p : Bool) → each 256 (meant m p) ≡ true
unfolding each meant claims few arm_of
all_meant true true = refl
all_meant true false = refl
all_meant false true = refl
all_meant false false = refl

arm_few : (s : State) (op x : ℕ) → op < 256 → touches_few s op x ≡ true → few (is_marginal s x) (eqb x r_l || eqb x r_g) (arm_of op) ≡ true
unfolding touches_few
arm_few s op x h e =
    go (of_stack op || (puts_bound op x || (is_marginal s x && claims op))) _ e (unfold meant in (at_each 256 (meant (is_marginal s x) (eqb x r_l || eqb x r_g)) (all_meant (is_marginal s x) (eqb x r_l || eqb x r_g)) op h))
  where
    go : (b c : Bool) → not b ≡ true → (b || c) ≡ true → c ≡ true
    go true c e k = absurd (true≢false (sym e))
    go false c e k = k

not-true : (b : Bool) → not b ≡ true → b ≡ false
not-true true e = sym e
not-true false e = refl

module _ (x : ℕ) (o : State) where
  abbrev R : State → State → Type 0
  R s t = Touched x o s t

  -- ---- what is said

  record Says (d e : Said) : Type 0 where
    reply_same : d.reply ≡ e.reply
    states : R d.state e.state

  tells : (d e : Said) → Says d e → Related R (tell d) (tell e)
  unfolding tell Related
  tells d e h = (h.reply_same, h.states, refl, refl)

  said : (r : ℕ) (s t : State) → R s t → Says (say r s) (say r t)
  said r s t h = record { reply_same = refl; states = h }

  refused : (r : ℕ) (s t : State) → R s t → Says (refuse r s) (refuse r t)
  refused r s t h = record { reply_same = refl; states = halted_left x o s t h }

  trip_left : (s t : State) (k word u v : ℕ) → R s t → Says (trip_to s k word u v) (trip_to t k word u v)
  unfolding trip_to trip_rule
  trip_left s t k word u v h =
      let a : R (tripped s word u v) (tripped t word u v) = interrupted_left x o s t r_b r_w r_x r_y r_z word u v h in
      by_test Says (is_loaded s k) (is_loaded t k) (λ i. eqb (h.marks_same i / 2 ^ k % 2) 1) (λ e. said 0 _ _ (goes_left x o _ _ _ _ refl a)) (λ e. refused 19 _ _ a)

  raised_left : (s t : State) (f word u v : ℕ) → R s t → Says (raised s f word u v) (raised t f word u v)
  unfolding raised
  raised_left s t f word u v h =
      let a : sp s r_a ≡ sp t r_a = sp_same x o s t r_a h in
      let e : enabled s f ≡ enabled t f = (λ i. bit_and (f % 256) (a i / 256 % 256)) in
      by_test Says (eqb (enabled s f) 0) (eqb (enabled t f) 0) (λ i. eqb (e i) 0) (λ q. said 0 _ _ (next_left x o _ _ (added_left x o s t f h)))
      (λ q. subst (λ (k : ℕ). Says (trip_to (with_added s f) (vector_of (enabled s f)) word u v) (trip_to (with_added t f) (vector_of k) word u v)) e (trip_left _ _ _ word u v (added_left x o s t f h)))

  unless_left : (s t : State) (k : ℕ) (d e : Said) → R s t → Says d e → Says (unless_hidden s k d) (unless_hidden t k e)
  unfolding unless_hidden
  unless_left s t k d e h f = by_test Says (hides s.mask k) (hides t.mask k) (λ i. hides (h.mask_same i) k) (λ g. refused 31 s t h) (λ g. f)

  -- PUT of neither rL nor rG
  state_left : (s t : State) (k v : ℕ) → (eqb k r_l || eqb k r_g) ≡ false → R s t → R (put_state s k v) (put_state t k v)
  unfolding put_state
  state_left s t k v e h = rw (or_left (eqb k r_l) (eqb k r_g) e, or_right (eqb k r_l) (eqb k r_g) e) (with_left x o s t k v v refl h)

  put_left : (s t : State) (k u v : ℕ) → (eqb k r_l || eqb k r_g) ≡ false → u ≡ v → R s t → Says (put_special s k u) (put_special t k v)
  unfolding put_special
  put_left s t k u v n e h =
      rw (e, put_refusal_same s t k v (sp_same x o s t r_l h)) (unless_left s t k _ _ h
      (on_both Says (eqb (put_refusal t k v) 0) (λ f. said 0 _ _ (next_left x o _ _ (state_left s t k v n h))) (λ f. refused _ s t h)))

  get_left : (s t : State) (z : ℕ) → is_marginal s x ≡ false → R s t → Says (get_special s x z) (get_special t x z)
  unfolding get_special got
  get_left s t z m h = unless_left s t z _ _ h (said 0 _ _ (next_left x o _ _ (write_left x o s t _ _ m (sp_same x o s t z h) h)))

  sync_left : (s t : State) (n : ℕ) → R s t → Says (sync_of s n) (sync_of t n)
  unfolding sync_of
  sync_left s t n h = on_both Says (ltb 7 n) (λ e. refused 18 s t h) (λ e. on_both Says (leb 4 n) (λ f. refused 17 s t h) (λ f. said 0 _ _ (next_left x o s t h)))

  load_left : (s t : State) (d : Width) (g : Sign) (a b : ℕ) → is_marginal s x ≡ false → a ≡ b → R s t → Related R (load_from s d g x a) (load_from t d g x b)
  unfolding load_from Related
  load_left s t d g a b m e h = rw e (refl, refl, refl, λ v. (refl, next_left x o _ _ (write_left x o s t _ _ m refl h), refl, refl))

  says_left : (s t : State) (d : Width) (g : Sign) (a word : ℕ) → R s t → Says (store_says s d g x a word) (store_says t d g x a word)
  unfolding store_says
  says_left s t d g a word h = rw h.x_same (on_both Says (fits d g (reg t x)) (λ e. said 0 _ _ (next_left x o s t h)) (λ e. raised_left s t flag_v word a (reg t x) h))

  store_left : (s t : State) (d : Width) (g : Sign) (a b word : ℕ) → a ≡ b → R s t → Related R (store_to s d g x a word) (store_to t d g x b word)
  unfolding store_to Related
  store_left s t d g a b word e h =
      let n : Says (store_says s d g x b word) (store_says t d g x b word) = says_left s t d g b word h in
      rw e (refl, refl, refl, λ v. (n.reply_same, n.states, refl, λ i. merged d b (get_or v 0 0) (h.x_same i) ∷ []))

  results_same : (s t : State) (f : Operation) (u v : ℕ) → R s t → results_in s f u v ≡ results_in t f u v
  results_same s t f u v h = rw (sp_same x o s t r_d h, sp_same x o s t r_h h, sp_same x o s t r_r h)

  arithmetic_left : (s t : State) (f : Operation) (u v u' v' word : ℕ) → is_marginal s x ≡ false → u ≡ u' → v ≡ v' → R s t
      → Says (arithmetic_says s f x u v word) (arithmetic_says t f x u' v' word)
  unfolding arithmetic_says
  arithmetic_left s t f u v u' v' word m d e h =
      let r : Results = results_in t f u' v' in
      let w : R (with_results s x r) (with_results t x r) = results_left x o s t r m h in
      rw (d, e, results_same s t f u' v' h) (on_both Says (eqb r.flags 0) (λ q. said 0 _ _ (next_left x o _ _ w)) (λ q. raised_left _ _ r.flags word u' v' w))

  trip_at : (s t : State) (word u v u' v' : ℕ) → u ≡ u' → v ≡ v' → R s t → Says (trip_to s 0 word u v) (trip_to t 0 word u' v')
  trip_at s t word u v u' v' e f h = rw (e, f) (trip_left s t 0 word u' v' h)

  trap_at : (s t : State) (word u v u' v' : ℕ) → u ≡ u' → v ≡ v' → R s t → Says (trap_of s word u v) (trap_of t word u' v')
  unfolding trap_of
  trap_at s t word u v u' v' e f h = rw (e, f) (refused 20 _ _ (interrupted_left x o s t r_bb r_ww r_xx r_yy r_zz word u' v' h))

  -- ---- the arms: $y and $z are read first

  module _ (y z : ℕ) where
    operand_same : (s t : State) (p : Operand) (k : ℕ) → reg s k ≡ reg t k → operand_of s p k ≡ operand_of t p k
    operand_same s t register k e = e
    operand_same s t immediate k e = refl

    sum_same : (s t : State) (p : Operand) → reg s y ≡ reg t y → reg s z ≡ reg t z → sum_of s p y z ≡ sum_of t p y z
    sum_same s t p e f = λ i. (e i + operand_same s t p z f i) % 2 ^ 64

    arm_left : (s t : State) (a : Arm) (op : ℕ) → few (is_marginal s x) (eqb x r_l || eqb x r_g) a ≡ true → reg s y ≡ reg t y → reg s z ≡ reg t z → R s t
        → Related R (plan_of s a op x y z) (plan_of t a op x y z)
    unfolding plan_of few
    arm_left s t (control (branch c w)) op m d e h =
        tells _ _ (said 0 _ _ (by_test R (holds c (reg s x)) (holds c (reg t x)) (λ i. holds c (h.x_same i))
        (λ f. goes_left x o s t _ _ (λ i. target_of (h.pc_same i) w branch_fields (yz_of y z)) h) (λ f. next_left x o s t h)))
    arm_left s t (control (jump w)) op m d e h = tells _ _ (said 0 _ _ (goes_left x o s t _ _ (λ i. target_of (h.pc_same i) w jump_fields (xyz_of x y z)) h))
    arm_left s t (control (get_address w)) op m d e h =
        tells _ _ (said 0 _ _ (next_left x o _ _ (write_left x o s t _ _ (not-true _ m) (λ i. target_of (h.pc_same i) w branch_fields (yz_of y z)) h)))
    arm_left s t (control (go p)) op m d e h =
        tells _ _ (said 0 _ _ (goes_left x o _ _ _ _ (sum_same s t p d e) (write_left x o s t _ _ (not-true _ m) (following_same x o s t h) h)))
    arm_left s t (stack c) op m d e h = absurd (true≢false (sym m))
    arm_left s t (system (put p)) op m d e h = tells _ _ (put_left s t x _ _ (not-true _ m) (operand_same s t p z e) h)
    arm_left s t (system get) op m d e h = tells _ _ (get_left s t z (not-true _ m) h)
    arm_left s t (system sync) op m d e h = tells _ _ (sync_left s t (xyz_of x y z) h)
    arm_left s t (system swym) op m d e h = tells _ _ (said 0 _ _ (next_left x o s t h))
    arm_left s t (system trip) op m d e h = tells _ _ (trip_at s t _ _ _ _ _ d e h)
    arm_left s t (system trap) op m d e h = tells _ _ (trap_at s t _ _ _ _ _ d e h)
    arm_left s t (memory (load w g p)) op m d e h = load_left s t w g _ _ (not-true _ m) (sum_same s t p d e) h
    arm_left s t (memory (store w g p)) op m d e h = store_left s t w g _ _ (word_of op x y z) (sum_same s t p d e) h
    arm_left s t (arithmetic f p q) op m d e h =
        tells _ _ (arithmetic_left s t f _ _ _ _ (word_of op x y z) (not-true _ m) (operand_same s t p y d) (operand_same s t q z e) h)
    arm_left s t none op m d e h = tells _ _ (said 3 s t h)

    three_left : (s t : State) (a : Arm) (op : ℕ) → few (is_marginal s x) (eqb x r_l || eqb x r_g) a ≡ true → reg s y ≡ reg t y → reg s z ≡ reg t z → R s t → Related R (from_three s a op x y z) (from_three t a op x y z)
    unfolding from_three
    three_left s t a op m d e h = on_both (Related R) (eqb (refusal_of a x y z) 0) (λ f. arm_left s t a op m d e h) (λ f. tells _ _ (said _ s t h))

    step_left : (s t : State) (w : Shapes) (op : ℕ) → few (is_marginal s x) (eqb x r_l || eqb x r_g) (arm_of op) ≡ true → reg s y ≡ reg t y → reg s z ≡ reg t z → R s t
        → Related R (step_plan s w op x y z) (step_plan t w op x y z)
    unfolding step_plan guarded
    step_left s t w op m d e h =
        by_test (Related R) (admissible s) (admissible t) (admissible_same x o s t h)
        (λ a. on_both (Related R) (eqb (unruled_by w) 0) (λ b. three_left s t (arm_of op) op m d e h) (λ b. unfold Related in (refl, h, refl, refl))) (λ a. unfold Related in (refl, h, refl, refl))

-- ---- the theorem

outcomes : (w : Windows) (s t : State) (op x y z : ℕ) → op < 256 → touches_few s op x ≡ true → SameTouched x y z s t
    → RelatedOutcome both (Touched x s) (step_of w s op x y z) (step_of w t op x y z)
unfolding step_of
outcomes w s t op x y z l m h =
    perform_related both (Touched x s) (refusing (shapes_of w)) s t _ _ w (start x y z s t h)
    (step_left x s y z s t (shapes_of w) op (arm_few s op x l m) h.y_same h.z_same (start x y z s t h))

joined_step : (w : Windows) (s t : State) (op x y z : ℕ) → op < 256 → touches_few s op x ≡ true → SameTouched x y z s t → step_of w s op x y z ≡ map_outcome (joined s x) (step_of w t op x y z)
unfolding map_outcome
joined_step w s t op x y z l m h =
    let r : RelatedOutcome both (Touched x s) (step_of w s op x y z) (step_of w t op x y z) = outcomes w s t op x y z l m h in
    λ i. record { reply = r.reply_same i; state = joined_is x s _ _ r.states i; memory = r.memory_same i }

joined_exception : (s t : State) (f op x y z u v : ℕ) → SameTouched 255 255 255 s t
    → exception_of s f op x y z u v ≡ say (exception_of t f op x y z u v).reply (joined s 255 (exception_of t f op x y z u v).state)
joined_exception s t f op x y z u v h =
    let b : Touched 255 s s t = start 255 255 255 s t h in
    let r : Says 255 s (exception_of s f op x y z u v) (exception_of t f op x y z u v)
    = unfold exception_of in (by_test (Says 255 s) (admissible s) (admissible t) (admissible_same 255 s s t b) (λ e. raised_left 255 s s t f _ u v b) (λ e. said 255 s 1 s t b)) in
    λ i. say (r.reply_same i) (joined_is 255 s _ _ r.states i)

pub few_touched : FewTouched
few_touched = record { by_step = joined_step; by_exception = joined_exception }
