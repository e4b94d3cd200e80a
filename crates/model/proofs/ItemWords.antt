-- Every step, exception and fetched instruction leaves registers that are octabytes and windows of bytes. The builders: WordsKept.
use Rattle.model.proofs.Logic.{ℕ, ◌<◌, ◌^◌, Bool, false, true, refl, ◌≡◌, arith, eqb}
use Rattle.model.specs.Registers.{r_b, r_d, r_h, r_bb, r_a, r_r, r_w, r_x, r_y, r_z, r_ww, r_xx, r_yy, r_zz, reg, Words, claim_local}
use Rattle.model.specs.Memory.{Windows, shapes_of, both}
use Rattle.model.specs.Plan.{Plan, look}
use Rattle.model.specs.Opcodes.{Operand, register, immediate, Arm, arm_of}
use Rattle.model.specs.Control.{operand_of, sum_of}
use Rattle.model.specs.NoMemory.{tell}
use Rattle.model.specs.Frames.{hole}
use Rattle.model.specs.Trips.{word_of, with_added}
use Rattle.model.specs.LoadStore.{flag_v}
use Rattle.model.specs.ArithmeticStep.{operands_of, results_in, with_results}
use Rattle.model.specs.Lists.{step_on}
use Rattle.model.specs.Step.{refusal_of, plan_of, from_three, step_plan, exception_of, claims, tetra_at, keeps_claim, settled_by, tetra_plan, instruction_plan, fetched_of, Item, step, exception, fetched, item_plan, mmix}
use Rattle.model.specs.Invariants.{InstructionFits, Fits, Bytes}
use Rattle.model.specs.declared.State.{State}
use Rattle.model.specs.declared.Operation.{Operation}
use Rattle.model.specs.declared.Results.{Results}
use Rattle.model.proofs.ArithmeticWords.{ResultWords, results_words}
use Rattle.model.proofs.Bools.{on}
use Rattle.model.proofs.ArmLaws.{plan_meets}
use Rattle.model.proofs.ArmAnswers.{Answers, Meets, MeetsTrip, MeetsRaise, MeetsInterrupt}
use Rattle.model.proofs.StepAnswers.{step_meets, exception_meets, perform_meets}
use Rattle.model.proofs.Entry.{perform_on, said}
use Rattle.model.proofs.Fetched.{tetra_fits, instruction_claims, instruction_free, fetched_there, fetched_by}
use Rattle.model.proofs.WordsKept.{Below, Word, goes_words, halted_words, special_words, claim_words, set_words, locals_words, globals_words, pushed_words, popped_words, saved_words, unsaved_words, interrupted_words, added_words, looks_words, perform_bytes}

-- ---- every step, every exception and every fetched instruction

pub item_bytes : (w : Windows) (s : State) (i : Item) → Bytes w → Bytes (step_on both mmix s w i).memory
unfolding step_on mmix
item_bytes w s i h = perform_bytes _ s (item_plan s (both.shape w) i) w h

word_small : (op x y z : ℕ) → InstructionFits op x y z → Word (word_of op x y z)
word_small op x y z f =
    let a : op < 256 = f.op_byte in let b : x < 256 = f.x_byte in let c : y < 256 = f.y_byte in let d : z < 256 = f.z_byte in omega arith

results_kept_words : (s : State) (x : ℕ) (r : Results) → ResultWords r → Words s → Words (with_results s x r)
unfolding with_results
results_kept_words s x r b h = special_words _ r_r r.rr b.r_word (special_words _ r_h r.rh b.h_word (set_words s x r.x b.x_word h))

computed_words : (s : State) (f : Operation) (x u v : ℕ) → Word u → Word v → Words s → Words (with_results s x (results_in s f u v))
computed_words s f x u v a b h = results_kept_words s x _ (results_words (operands_of s u v)
    (record { y_word = a; z_word = b; d_word = h.special_word r_d; h_word = h.special_word r_h; r_word = h.special_word r_r }) f) h

meets_words : (s : State) → Words s → Meets s Word (Below (2 ^ 64)) (λ r t vs. Words t)
meets_words s h = record {
  word = λ n b. b;
  general_is = h.general_word;
  special_is = h.special_word;
  refuses = h;
  halts = λ n a. halted_words s h;
  moves = λ a w. goes_words s a w h;
  writes = λ x v a w u. goes_words _ a u (set_words s x v w h);
  locals = λ v a w u. goes_words _ a u (locals_words s v h);
  globals = λ v a b c d w. goes_words _ a w (globals_words s v c h);
  status = λ v a b w. goes_words _ a w (special_words s r_a v (omega arith) h);
  other = λ k v a b c d w u. goes_words _ a u (special_words s k v w h);
  pushes = λ x t w. goes_words _ t w (pushed_words s (hole s x) h);
  pops = λ x t i ls w r. goes_words _ t w (popped_words s x i ls r h);
  saves = λ x t b w. goes_words _ t w (saved_words s x h);
  unsaves = λ o g a l vs t u w b c d e r. goes_words _ t u (unsaved_words s o g a l vs w c d e r h);
  stores = λ v a w. goes_words s a w h;
  computes = λ f x u v a wu wv w. goes_words _ a w (computed_words s f x u v wu wv h);
}

meets_trip : (s : State) (n u v : ℕ) → Word n → Word u → Word v → Words s → MeetsTrip s Word (λ r t. Words t) n u v
meets_trip s n u v p q r h = record {
  trips = λ a w. goes_words _ a w (interrupted_words s r_b r_w r_x r_y r_z n u v p q r h);
  trips_not = halted_words _ (interrupted_words s r_b r_w r_x r_y r_z n u v p q r h);
}

meets_raise : (s : State) (f n u v : ℕ) → Word n → Word u → Word v → Words s → MeetsRaise s Word (λ r t. Words t) f n u v
meets_raise s f n u v p q r h = record { adds = λ a c. goes_words _ a c (added_words s f h); takes = meets_trip (with_added s f) n u v p q r (added_words s f h) }

meets_interrupt : (s : State) (m : Arm) (op x y z : ℕ) → InstructionFits op x y z → Words s → MeetsInterrupt s Word (λ r t vs. Words t) m op x y z
meets_interrupt s m op x y z f h =
    let n : Word (word_of op x y z) = word_small op x y z f in
    record {
      trips = λ e. meets_trip s (word_of op x y z) (reg s y) (reg s z) n (h.general_word y) (h.general_word z) h;
      traps = λ e. halted_words _ (interrupted_words s r_bb r_ww r_xx r_yy r_zz (word_of op x y z) (reg s y) (reg s z) n (h.general_word y) (h.general_word z) h);
      stores = λ d o e v. meets_raise s flag_v (word_of op x y z) (sum_of s o y z) (reg s x) n (omega arith) (h.general_word x) h;
      computes = λ k p q e.
          let a : Word (operand_of s p y) = operand_word p y f.y_byte in
          let b : Word (operand_of s q z) = operand_word q z f.z_byte in
          meets_raise (with_results s x _) _ (word_of op x y z) (operand_of s p y) (operand_of s q z) n a b (computed_words s k x (operand_of s p y) (operand_of s q z) a b h);
    }
  where
    operand_word : (o : Operand) (k : ℕ) → k < 256 → Word (operand_of s o k)
    operand_word register k b = h.general_word k
    operand_word immediate k b = omega arith

three_words : (w : Windows) (s : State) (op x y z : ℕ) → InstructionFits op x y z → Bytes w → Words s → Words (perform_on w s (from_three s (arm_of op) op x y z)).state
unfolding from_three
three_words w s op x y z f b h =
    on (λ (p : Plan State). Words (perform_on w s p).state) (eqb (refusal_of (arm_of op) x y z) 0)
    (λ e. let y_word : Word y = let c : y < 256 = f.y_byte in omega arith in
    let z_word : Word z = let c : z < 256 = f.z_byte in omega arith in
    perform_meets w s (Below (2 ^ 64)) (λ r t vs. Words t) (λ o. Words o.state) h (λ r t a vs k. k) (λ a n. looks_words n w a b) (plan_of s (arm_of op) op x y z)
    (plan_meets s Word (Below (2 ^ 64)) (λ r t vs. Words t) (meets_words s h) (arm_of op) op x y z y_word z_word (meets_interrupt s (arm_of op) op x y z f h)))
    (λ e. unfold tell in (rw (said w s s (refusal_of (arm_of op) x y z)) h))

instruction_words : (w : Windows) (s : State) (op x y z : ℕ) → InstructionFits op x y z → Bytes w → Words s → Words (perform_on w s (instruction_plan s op x y z)).state
instruction_words w s op x y z f b h = go (claims op) refl
  where
    back : (r : ℕ) (t : State) → Words t → Words (settled_by s r t)
    back r t k = unfold settled_by in
        (on Words (keeps_claim r) (λ e. k)
        (λ e. record { general_word = h.general_word; special_word = h.special_word; pc_word = k.pc_word; halt_word = k.halt_word; marks_word = k.marks_word; mask_word = k.mask_word }))

    go : (c : Bool) → claims op ≡ c → Words (perform_on w s (instruction_plan s op x y z)).state
    go true e = rw (instruction_claims w s op x y z e) (back _ _ (three_words w (claim_local s x) op x y z f b (claim_words s x h)))
    go false e = rw (instruction_free w s op x y z e) (three_words w s op x y z f b h)

tetra_words : (w : Windows) (s : State) (v : ℕ) → Bytes w → Words s → Words (perform_on w s (tetra_plan s (tetra_at s v))).state
unfolding tetra_plan
tetra_words w s v b h = instruction_words w s _ _ _ _ (tetra_fits s v) b h

fetched_words : (w : Windows) (s : State) → Bytes w → Words s → Words (fetched_of w s).state
fetched_words w s b h =
    fetched_by (λ o. Words o.state) w s (λ a. h) (λ a n. h) (λ a r i. h)
    (λ a r i. rw (fetched_there w s a r i) (tetra_words w s (look both w s.pc) b h))

pub item_words : (w : Windows) (s : State) (i : Item) → Fits i → Bytes w → Words s → Words (step_on both mmix s w i).state
unfolding step_on mmix item_plan Fits both
item_words w s (step op x y z) f b h =
    perform_meets w s (Below (2 ^ 64)) (λ r t vs. Words t) (λ o. Words o.state) h (λ r t a vs k. k) (λ a n. looks_words n w a b) (step_plan s (shapes_of w) op x y z)
    (step_meets s (shapes_of w) (Below (2 ^ 64)) (λ r t vs. Words t) (λ n c. h) op x y z
    (λ e. let y_word : Word y = let c : y < 256 = f.y_byte in omega arith in
    let z_word : Word z = let c : z < 256 = f.z_byte in omega arith in
    plan_meets s Word (Below (2 ^ 64)) (λ r t vs. Words t) (meets_words s h) (arm_of op) op x y z y_word z_word (meets_interrupt s (arm_of op) op x y z f h)))
item_words w s (exception g op x y z u v) f b h =
    perform_meets w s (Below (2 ^ 64)) (λ r t vs. Words t) (λ o. Words o.state) h (λ r t a vs k. k) (λ a n. looks_words n w a b) (tell (exception_of s g op x y z u v))
    (unfold tell Answers in (exception_meets s Word (λ r t. Words t) g op x y z u v (λ n c. c) h
    (λ e. meets_raise s g (word_of op x y z) u v (word_small op x y z f.0) f.1 f.2 h)))
item_words w s fetched f b h = unfold fetched_of in (fetched_words w s b h)
