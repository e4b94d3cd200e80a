-- What a step's answer leaves, reply by reply: the trip and trap registers, the halt code, what was written. The theorem: RepliesLeft.
use Rattle.model.proofs.Logic.{ℕ, ◌+◌, ◌<◌, ◌≤◌, true, List, [], inl, inr, ◌⊎◌, ⊎_elim, refl, ◌∙◌, ◌≡◌, arith, length, length-set, set, get_or-set_other}
use Rattle.model.proofs.Logic.{get_or-set_same}
use Rattle.model.specs.Registers.{r_b, r_h, r_j, r_r, r_l, r_bb, r_a, r_w, r_x, r_y, r_z, r_ww, r_xx, r_yy, r_zz, sp, reg, following, Sized, admissible, goes, halted, with_special, cleared, claim_local, stored, set_register, put_locals, put_globals, is_marginal, spilled}
use Rattle.model.specs.Memory.{Windows, shapes_of, both}
use Rattle.model.specs.Plan.{Outcome, puts}
use Rattle.model.specs.Opcodes.{Width, signed, Operand, Arm, trip, store, arithmetic, arm_of, memory, system}
use Rattle.model.specs.Frames.{slide, pushed_rule, pushed, unslide, popped}
use Rattle.model.specs.Contexts.{saved_unspilled, saved_state, unsaved_unspilled, unsaved}
use Rattle.model.specs.Control.{operand_of}
use Rattle.model.specs.Trips.{interrupted, tripped, trapped, word_of, with_added}
use Rattle.model.specs.ArithmeticStep.{results_in, with_results}
use Rattle.model.specs.Leaves.{Interrupted, Tripped, Trapped, StoreLeaves, Sharing, StepLeaves}
use Rattle.model.specs.Numbers.{Early, Lost, Halting}
use Rattle.model.specs.declared.State.{State}
use Rattle.model.specs.declared.Operation.{Operation}
use Rattle.model.specs.declared.Results.{Results}
use Rattle.model.specs.Fill.{over}
use Rattle.model.proofs.Bools.{on}
use Rattle.model.proofs.Fill.{length_over}
use Rattle.model.proofs.ItemInvariant.{Any}
use Rattle.model.proofs.ArmAnswers.{Meets, MeetsInterrupt}
use Rattle.model.proofs.Numbers.{unhalting}

-- ---- the trip and trap registers

interrupts : (s : State) (b w x y z word u v : ℕ) → Sized s → b < w → w < x → x < y → y < z → z < 32
    → Interrupted s (halted (interrupted s b w x y z word u v)) b w x y z word u v
unfolding halted interrupted
interrupts s b w x y z word u v n bw wx xy yz zl =
    let m : length s.special ≡ 32 = n.specials in
    let g : length s.general ≡ 256 = n.generals in
    let l1 : List ℕ = set s.special b (reg s 255) in
    let l2 : List ℕ = set l1 w (following s) in
    let l3 : List ℕ = set l2 x word in
    let l4 : List ℕ = set l3 y u in
    let n1 : length l1 ≡ 32 = length-set s.special b (reg s 255) ∙ m in
    let n2 : length l2 ≡ 32 = length-set l1 w (following s) ∙ n1 in
    let n3 : length l3 ≡ 32 = length-set l2 x word ∙ n2 in
    let n4 : length l4 ≡ 32 = length-set l3 y u ∙ n3 in
    record {
      bootstrap = get_or-set_other l4 z b v 0 (λ e. omega arith) ∙ get_or-set_other l3 y b u 0 (λ e. omega arith) ∙ get_or-set_other l2 x b word 0 (λ e. omega arith)
          ∙ get_or-set_other l1 w b (following s) 0 (λ e. omega arith) ∙ get_or-set_same s.special b (reg s 255) 0 (omega arith);
      return = get_or-set_same s.general 255 (sp s r_j) 0 (omega arith);
      after = get_or-set_other l4 z w v 0 (λ e. omega arith) ∙ get_or-set_other l3 y w u 0 (λ e. omega arith) ∙ get_or-set_other l2 x w word 0 (λ e. omega arith)
          ∙ get_or-set_same l1 w (following s) 0 (omega arith);
      instruction = get_or-set_other l4 z x v 0 (λ e. omega arith) ∙ get_or-set_other l3 y x u 0 (λ e. omega arith) ∙ get_or-set_same l2 x word 0 (omega arith);
      first = get_or-set_other l4 z y v 0 (λ e. omega arith) ∙ get_or-set_same l3 y u 0 (omega arith);
      second = get_or-set_same l4 z v 0 (omega arith);
      other_special = λ k kb kw kx ky kz. get_or-set_other l4 z k v 0 kz ∙ get_or-set_other l3 y k u 0 ky ∙ get_or-set_other l2 x k word 0 kx
          ∙ get_or-set_other l1 w k (following s) 0 kw ∙ get_or-set_other s.special b k (reg s 255) 0 kb;
      other_general = λ i ne. get_or-set_other s.general 255 i (sp s r_j) 0 ne;
      pc_unmoved = refl;
      halt_one = refl;
      marks_same = refl;
      mask_same = refl;
    }

pub trips : (s : State) (word u v : ℕ) → Sized s → Tripped s (halted (tripped s word u v)) word u v
trips s word u v n = interrupts s r_b r_w r_x r_y r_z word u v n (omega arith) (omega arith) (omega arith) (omega arith) (omega arith)

traps : (s : State) (word u v : ℕ) → Sized s → Trapped s (halted (trapped s word u v)) word u v
traps s word u v n = interrupts s r_bb r_ww r_xx r_yy r_zz word u v n (omega arith) (omega arith) (omega arith) (omega arith) (omega arith)

-- ---- a step: the same of an answer

-- a signed store
pub record IsStore (m : Arm) : Type 0 where
  pub width : Width
  pub last : Operand
  pub is_it : m ≡ memory (store width signed last)

-- an operation that has raised its flag
pub record Computed (s : State) (op x y z : ℕ) (t : State) (vs : List ℕ) : Type 0 where
  operation : Operation
  first : Operand
  last : Operand
  is_it : arm_of op ≡ arithmetic operation first last
  pub registers : Tripped
      (with_added (with_results s x (results_in s operation (operand_of s first y) (operand_of s last z))) (results_in s operation (operand_of s first y) (operand_of s last z)).flags)
      t (word_of op x y z) (operand_of s first y) (operand_of s last z)
  none : vs ≡ []

-- TRIP, a store, an operation
abbrev pub Nineteen : State → ℕ → ℕ → ℕ → ℕ → State → List ℕ → Type 0
Nineteen s op x y z t vs =
    ((arm_of op ≡ system trip) × Tripped s t (word_of op x y z) (reg s y) (reg s z) × (vs ≡ [])) ⊎ (IsStore (arm_of op) ⊎ Computed s op x y z t vs)

pub record Answered (s : State) (op x y z : ℕ) (r : ℕ) (t : State) (vs : List ℕ) : Type 0 where
  pub most : (r ≤ 20) ⊎ ((r ≡ 22) ⊎ ((r ≡ 29) ⊎ (r ≡ 31)))
  pub early : Early r → (t ≡ s) × (vs ≡ [])
  pub lost : Lost r → (t ≡ s) × (vs ≡ [])
  pub halting : Halting r → (t ≡ halted s) × (vs ≡ [])
  pub nineteen : r ≡ 19 → Nineteen s op x y z t vs
  pub twenty : r ≡ 20 → Trapped s t (word_of op x y z) (reg s y) (reg s z) × (vs ≡ [])
  done : r ≡ 0 → t.halt ≡ s.halt

-- 0 and 6 to 20 are not given early
pub late : (n : ℕ) → (n ≡ 0) ⊎ ((6 ≤ n) × (n ≤ 20)) → Early n → ⊥
late n (inl e) (inl l) = omega arith
late n (inl e) (inr f) = omega arith
late n (inr k) (inl l) = omega arith
late n (inr k) (inr f) = omega arith

halting_late : (n : ℕ) → Halting n → Early n → ⊥
halting_late n (inl h) p = late n (inr (omega arith, omega arith)) p
halting_late n (inr (inl h)) (inl l) = let e : n ≡ 29 = h in omega arith
halting_late n (inr (inl h)) (inr f) = let e : n ≡ 29 = h in let g : n ≡ 22 = f in omega arith
halting_late n (inr (inr h)) (inl l) = let e : n ≡ 31 = h in omega arith
halting_late n (inr (inr h)) (inr f) = let e : n ≡ 31 = h in let g : n ≡ 22 = f in omega arith

module _ (s : State) (op x y z : ℕ) where
  as_done : (t : State) (vs : List ℕ) → t.halt ≡ s.halt → Answered s op x y z 0 t vs
  as_done t vs e = record {
    most = inl (omega arith);
    early = λ p. absurd (late 0 (inl refl) p);
    lost = λ p. absurd (omega arith);
    halting = λ p. absurd (unhalting 0 (inl (omega arith)) p);
    nineteen = λ p. absurd (omega arith);
    twenty = λ p. absurd (omega arith);
    done = λ p. e;
  }

  pub as_refused : (n : ℕ) → Early n → Answered s op x y z n s []
  as_refused n a = record {
    most = ⊎_elim (λ l. inl (omega arith)) (λ e. inr (inl e)) a;
    early = λ p. (refl, refl);
    lost = λ p. (refl, refl);
    halting = λ p. absurd (halting_late n p a);
    nineteen = λ p. absurd (late n (inr (omega arith, omega arith)) a);
    twenty = λ p. absurd (late n (inr (omega arith, omega arith)) a);
    done = λ p. absurd (late n (inl p) a);
  }

  as_halted : (n : ℕ) → Halting n → Answered s op x y z n (halted s) []
  as_halted n a = record {
    most = ⊎_elim (λ l. inl (omega arith)) (λ e. inr (inr e)) a;
    early = λ p. absurd (halting_late n a p);
    lost = λ p. absurd (unhalting n (inl (omega arith)) a);
    halting = λ p. (refl, refl);
    nineteen = λ p. absurd (unhalting n (inr (omega arith, omega arith)) a);
    twenty = λ p. absurd (unhalting n (inr (omega arith, omega arith)) a);
    done = λ p. absurd (unhalting n (inl (omega arith)) a);
  }

  -- 19
  as_nineteen : (t : State) (vs : List ℕ) → Nineteen s op x y z t vs → Answered s op x y z 19 t vs
  as_nineteen t vs h = record {
    most = inl (omega arith);
    early = λ p. absurd (late 19 (inr (omega arith, omega arith)) p);
    lost = λ p. absurd (omega arith);
    halting = λ p. absurd (unhalting 19 (inr (omega arith, omega arith)) p);
    nineteen = λ p. h;
    twenty = λ p. absurd (omega arith);
    done = λ p. absurd (omega arith);
  }

  as_trapped : (t : State) → Trapped s t (word_of op x y z) (reg s y) (reg s z) → Answered s op x y z 20 t []
  as_trapped t h = record {
    most = inl (omega arith);
    early = λ p. absurd (late 20 (inr (omega arith, omega arith)) p);
    lost = λ p. absurd (omega arith);
    halting = λ p. absurd (unhalting 20 (inr (omega arith, omega arith)) p);
    nineteen = λ p. absurd (omega arith);
    twenty = λ p. (h, refl);
    done = λ p. absurd (omega arith);
  }

-- a write of $X leaves the halt code
set_halt : (s : State) (x v : ℕ) → (set_register s x v).halt ≡ s.halt
unfolding set_register stored claim_local with_special cleared
set_halt s x v = on (λ (t : State). t.halt ≡ s.halt) (is_marginal s x) (λ e. refl) (λ e. refl)

pub added_sized : (s : State) (f : ℕ) → Sized s → Sized (with_added s f)
unfolding with_added with_special
added_sized s f n = record { generals = n.generals; specials = length-set s.special r_a _ ∙ n.specials }

results_halt : (s : State) (x : ℕ) (r : Results) → (with_results s x r).halt ≡ s.halt
unfolding with_results with_special
results_halt s x r = set_halt s x r.x

pub results_sized : (s : State) (x : ℕ) (r : Results) → Sized s → Sized (with_results s x r)
unfolding with_results with_special set_register stored claim_local cleared
results_sized s x r n =
    on (λ (t : State). Sized (with_special (with_special (stored t x r.x) r_h r.rh) r_r r.rr)) (is_marginal s x)
    (λ e. record { generals = length-set (over (λ k. 0) (sp s r_l) (x + 1) s.general) x r.x ∙ length_over (λ k. 0) (sp s r_l) (x + 1) s.general ∙ n.generals; specials = simp length-set n.specials })
    (λ e. record { generals = length-set s.general x r.x ∙ n.generals; specials = simp length-set n.specials })

pub answered : (s : State) (op x y z : ℕ) → Meets s Any Any (Answered s op x y z)
unfolding goes pushed pushed_rule slide popped unslide saved_state saved_unspilled stored unsaved unsaved_unspilled spilled with_special put_locals put_globals cleared
answered s op x y z = record {
  word = λ n b. tt;
  general_is = λ i. tt;
  special_is = λ k. tt;
  refuses = as_refused s op x y z 3 (inl (omega arith, omega arith));
  halts = as_halted s op x y z;
  moves = λ a w. as_done s op x y z _ [] refl;
  writes = λ k v a w u. as_done s op x y z _ [] (set_halt s k v);
  locals = λ v a w u. as_done s op x y z _ [] refl;
  globals = λ v a b c d w. as_done s op x y z _ [] refl;
  status = λ v a b w. as_done s op x y z _ [] refl;
  other = λ k v a b c d w u. as_done s op x y z _ [] refl;
  pushes = λ k t w. as_done s op x y z _ _ refl;
  pops = λ k t h ls w r. as_done s op x y z _ [] refl;
  saves = λ k t b w. as_done s op x y z _ _ refl;
  unsaves = λ o g a l vs t u w b c d e r. as_done s op x y z _ [] refl;
  stores = λ v a w. as_done s op x y z _ _ refl;
  computes = λ f k u v a wu wv w. as_done s op x y z _ [] (results_halt s k (results_in s f u v));
}

pub answered_interrupt : (s : State) (op x y z : ℕ) → Sized s → MeetsInterrupt s Any (Answered s op x y z) (arm_of op) op x y z
unfolding goes interrupted with_added with_special
answered_interrupt s op x y z n = record {
  trips = λ e. record {
    trips = λ a w. as_done s op x y z _ [] refl;
    trips_not = as_nineteen s op x y z _ [] (inl (e, trips s (word_of op x y z) (reg s y) (reg s z) n, refl));
  };
  traps = λ e. as_trapped s op x y z _ (traps s (word_of op x y z) (reg s y) (reg s z) n);
  stores = λ d o e v. record {
    adds = λ a w. as_done s op x y z _ _ refl;
    takes = record { trips = λ a w. as_done s op x y z _ _ refl; trips_not = as_nineteen s op x y z _ _ (inr (inl (record { width = d; last = o; is_it = e }))) };
  };
  computes = λ f p q e.
      let r : Results = results_in s f (operand_of s p y) (operand_of s q z) in
      let t : State = with_results s x r in
      record {
        adds = λ a w. as_done s op x y z _ [] (results_halt s x r);
        takes = record {
          trips = λ a w. as_done s op x y z _ [] (results_halt s x r);
          trips_not = as_nineteen s op x y z _ [] (inr (inr (record {
            operation = f;
            first = p;
            last = q;
            is_it = e;
            registers = trips (with_added t r.flags) (word_of op x y z) (operand_of s p y) (operand_of s q z) (added_sized t r.flags (results_sized s x r n));
            none = refl;
          })));
        };
      };
}

stored_none : (w : Windows) (a : ℕ) (vs : List ℕ) → vs ≡ [] → puts both w a vs ≡ w
stored_none w a vs e = rw e (unfold puts in refl)

-- 19 of a store, and 22, are left to be shown
unfoldable pub Leaves : (w : Windows) (s : State) (op x y z : ℕ) (o : Outcome State Windows) → Type 0
Leaves w s op x y z o =
    (IsStore (arm_of op) → o.reply ≡ 19 → StoreLeaves w s op x y z o) → (o.reply ≡ 22 → (admissible s ≡ true) × Sharing (shapes_of w)) → StepLeaves w s op x y z o

pub leaves_of : (w : Windows) (s : State) (op x y z : ℕ) (r : ℕ) (t : State) (a : ℕ) (vs : List ℕ) → Answered s op x y z r t vs
    → Leaves w s op x y z (record { reply = r; state = t; memory = puts both w a vs })
unfolding Leaves
leaves_of w s op x y z r t a vs h st sh = record {
  most = h.most;
  early = λ p. ((h.early p).0, stored_none w a vs (h.early p).1);
  lost = λ p. ((h.lost p).0, stored_none w a vs (h.lost p).1);
  halting = λ p. ((h.halting p).0, stored_none w a vs (h.halting p).1);
  nineteen = λ p. ⊎_elim (λ k. inl (record { arm_is = k.0; registers = k.1; window = stored_none w a vs k.2 })) (⊎_elim (λ k. inr (inl (st k p)))
      (λ k. inr (inr (record { operation = k.operation; first = k.first; last = k.last; arm_is = k.is_it; registers = k.registers; window = stored_none w a vs k.none })))) (h.nineteen p);
  twenty = λ p. ((h.twenty p).0, stored_none w a vs (h.twenty p).1);
  shared = sh;
  done = h.done;
}
