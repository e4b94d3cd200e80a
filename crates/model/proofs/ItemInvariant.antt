-- A property of states that every state builder keeps is kept by every step, every exception and every fetched instruction.
use Rattle.model.proofs.Logic.{ℕ, ◌≤◌, false, true, List, refl, ◌≡◌, eqb, get_or}
use Rattle.model.specs.Registers.{with_parts, r_h, r_r, r_g, r_l, r_a, sp, admissible, goes, halted, with_special, claim_local, set_register, put_locals, put_globals}
use Rattle.model.specs.Memory.{Windows, Shapes, both}
use Rattle.model.specs.Plan.{Plan, answer, read}
use Rattle.model.specs.Opcodes.{Arm, arm_of}
use Rattle.model.specs.NoMemory.{tell}
use Rattle.model.specs.Frames.{hole, pushed, popped}
use Rattle.model.specs.Contexts.{saved_state, unsaved}
use Rattle.model.specs.Trips.{tripped, trapped, with_added}
use Rattle.model.specs.LoadStore.{flag_v}
use Rattle.model.specs.Control.{operand_of}
use Rattle.model.specs.ArithmeticStep.{results_in, with_results}
use Rattle.model.specs.Lists.{step_on}
use Rattle.model.specs.Step.{refusal_of, unruled_by, plan_of, guarded, from_three, step_plan, claims, opcode_in, x_in, y_in, z_in, tetra_at, keeps_claim, settled_by, taken_back, instruction_plan, tetra_plan, fetched_plan, Item, step, exception, fetched, item_plan, mmix}
use Rattle.model.specs.declared.State.{State}
use Rattle.model.specs.declared.Results.{Results}
use Rattle.model.proofs.Bools.{on}
use Rattle.model.proofs.Memory.{both_lawful}
use Rattle.model.proofs.Plan.{Always, Always_map, perform_always}
use Rattle.model.proofs.ArmLaws.{plan_meets}
use Rattle.model.proofs.ArmAnswers.{Answers, Meets, MeetsTrip, MeetsRaise, MeetsInterrupt}
use Rattle.model.proofs.StepAnswers.{step_meets, exception_meets}

pub record Keeps (P : State → Type 0) : Type 0 where
  pub at_pc : (s : State) (a : ℕ) → P s → P (goes s a)
  pub at_halt' : (s : State) → P s → P (halted s)
  pub claim : (s : State) (x : ℕ) → P s → P (claim_local s x)
  pub back : (s t : State) → P s → P t → P (with_parts t s.general s.special)
  pub write : (s : State) (x v : ℕ) → P s → P (set_register s x v)
  pub locals : (s : State) (v : ℕ) → P s → P (put_locals s v)
  pub globals : (s : State) (v : ℕ) → 32 ≤ v → v ≤ 255 → sp s r_l ≤ v → P s → P (put_globals s v)
  pub status : (s : State) (v : ℕ) → v ≤ 0x3FFFF → P s → P (with_special s r_a v)
  pub other : (s : State) (k v : ℕ) → eqb r_g k ≡ false → eqb r_l k ≡ false → eqb r_a k ≡ false → P s → P (with_special s k v)
  pub pushes : (s : State) (h : ℕ) → P s → P (pushed s h)
  pub pops : (s : State) (x h : ℕ) (ls : List ℕ) → P s → P (popped s x h ls)
  pub saves : (s : State) (x : ℕ) → sp s r_g ≤ x → P s → P (saved_state s x)
  pub unsaves : (s : State) (o g a l : ℕ) (vs : List ℕ) → 32 ≤ g → g ≤ 255 → a ≤ 0x3FFFF → l ≤ g → P s → P (unsaved s o g a l vs)
  pub trips : (s : State) (word u v : ℕ) → P s → P (tripped s word u v)
  pub traps : (s : State) (word u v : ℕ) → P s → P (trapped s word u v)
  pub adds : (s : State) (f : ℕ) → P s → P (with_added s f)

abbrev pub Any : {A : Type 0} → A → Type 0
Any a = Unit {0}

answers_always : (P : State → Type 0) (p : Plan State) → Answers Any (λ r t vs. P t) p → Always P p
unfolding Answers Always
answers_always P (answer r t a vs) h = h
answers_always P (read q a n k) h = λ vs. answers_always P (k vs) (h.1 vs tt)

answers_map : (P Q : State → Type 0) → ((t : State) → Q t → P t) → (p : Plan State) → Answers Any (λ r t vs. Q t) p → Answers Any (λ r t vs. P t) p
unfolding Answers
answers_map P Q f (answer r t a vs) h = f t h
answers_map P Q f (read q a n k) h = (h.0, λ vs u. answers_map P Q f (k vs) (h.1 vs u))

module _ (P : State → Type 0) (k : Keeps P) where
  results_kept : (s : State) (x : ℕ) (r : Results) → P s → P (with_results s x r)
  unfolding with_results
  results_kept s x r h = k.other _ r_r r.rr refl refl refl (k.other _ r_h r.rh refl refl refl (k.write s x r.x h))

  meets : (s : State) → P s → Meets s Any Any (λ r t vs. P t)
  meets s h = record {
    word = λ n b. tt;
    general_is = λ i. tt;
    special_is = λ i. tt;
    refuses = h;
    halts = λ n a. k.at_halt' s h;
    moves = λ a w. k.at_pc s a h;
    writes = λ x v a w u. k.at_pc _ a (k.write s x v h);
    locals = λ v a w u. k.at_pc _ a (k.locals s v h);
    globals = λ v a b c d w. k.at_pc _ a (k.globals s v b c d h);
    status = λ v a b w. k.at_pc _ a (k.status s v b h);
    other = λ i v a b c d w u. k.at_pc _ a (k.other s i v b c d h);
    pushes = λ x t w. k.at_pc _ t (k.pushes s (hole s x) h);
    pops = λ x t i ls w r. k.at_pc _ t (k.pops s x i ls h);
    saves = λ x t b w. k.at_pc _ t (k.saves s x b h);
    unsaves = λ o g a l vs t u w b c d e r. k.at_pc _ t (k.unsaves s o g a l vs b c d e h);
    stores = λ v a w. k.at_pc s a h;
    computes = λ f x u v a wu wv w. k.at_pc _ a (results_kept s x (results_in s f u v) h);
  }

  meets_trip : (s : State) (n u v : ℕ) → P s → MeetsTrip s Any (λ r t. P t) n u v
  meets_trip s n u v h = record { trips = λ a w. k.at_pc _ a (k.trips s n u v h); trips_not = k.at_halt' _ (k.trips s n u v h) }

  meets_raise : (s : State) (f n u v : ℕ) → P s → MeetsRaise s Any (λ r t. P t) f n u v
  meets_raise s f n u v h = record { adds = λ a w. k.at_pc _ a (k.adds s f h); takes = meets_trip (with_added s f) n u v (k.adds s f h) }

  meets_interrupt : (s : State) (m : Arm) (op x y z : ℕ) → P s → MeetsInterrupt s Any (λ r t vs. P t) m op x y z
  meets_interrupt s m op x y z h = record {
    trips = λ e. meets_trip s _ _ _ h;
    traps = λ e. k.at_halt' _ (k.traps s _ _ _ h);
    stores = λ d o e v. meets_raise s flag_v _ _ _ h;
    computes = λ f p q e. meets_raise (with_results s x (results_in s f (operand_of s p y) (operand_of s q z))) _ _ _ _ (results_kept s x (results_in s f (operand_of s p y) (operand_of s q z)) h);
  }

  three_kept : (s : State) (op x y z : ℕ) → P s → Always P (from_three s (arm_of op) op x y z)
  unfolding from_three
  three_kept s op x y z h =
      on (Always P) (eqb (refusal_of (arm_of op) x y z) 0)
      (λ e. answers_always P (plan_of s (arm_of op) op x y z)
      (plan_meets s Any Any (λ r t vs. P t) (meets s h) (arm_of op) op x y z tt tt (meets_interrupt s (arm_of op) op x y z h)))
      (λ e. unfold tell Always in h)

  back_kept : (s : State) → P s → (p : Plan State) → Always P p → Always P (taken_back s p)
  unfolding Always taken_back settled_by
  back_kept s h (answer r t a vs) q = on P (keeps_claim r) (λ e. q) (λ e. k.back s t h q)
  back_kept s h (read q a n f) g = λ vs. back_kept s h (f vs) (g vs)

  instruction_kept : (s : State) (op x y z : ℕ) → P s → Always P (instruction_plan s op x y z)
  unfolding instruction_plan
  instruction_kept s op x y z h =
      on (Always P) (claims op) (λ e. back_kept s h _ (three_kept (claim_local s x) op x y z (k.claim s x h))) (λ e. three_kept s op x y z h)

  tetra_kept : (s : State) (t : ℕ) → P s → Always P (tetra_plan s t)
  unfolding tetra_plan
  tetra_kept s t h = instruction_kept s (opcode_in t) (x_in t) (y_in t) (z_in t) h

raise_map : (P Q : State → Type 0) → ((t : State) → Q t → P t) → (s : State) (f n u v : ℕ) → MeetsRaise s Any (λ r t. Q t) f n u v → MeetsRaise s Any (λ r t. P t) f n u v
raise_map P Q g s f n u v m = record { adds = λ a w. g _ (m.adds a w); takes = record { trips = λ a w. g _ (m.takes.trips a w); trips_not = g _ m.takes.trips_not } }

-- what Q gives, where Q is kept and an admissible state has it, every state keeps: one that is not admissible is refused by 1
pub item_keeps : (P Q : State → Type 0) → Keeps Q → ((t : State) → Q t → P t)
    → (s : State) (w : Shapes) (i : Item) → (admissible s ≡ true → Q s) → P s → Always P (item_plan s w i)
unfolding item_plan tell Always fetched_plan guarded
item_keeps P Q k f s w (step op x y z) q h =
    answers_always P (step_plan s w op x y z) (step_meets s w Any (λ r t vs. P t) (λ n a. h) op x y z (λ e. answers_map P Q f (plan_of s (arm_of op) op x y z)
    (plan_meets s Any Any (λ r t vs. Q t) (meets Q k s (q e)) (arm_of op) op x y z tt tt (meets_interrupt Q k s (arm_of op) op x y z (q e)))))
item_keeps P Q k f s w (exception g op x y z u v) q h =
    exception_meets s Any (λ r t. P t) g op x y z u v (λ n b. tt) h (λ e. raise_map P Q f s g _ u v (meets_raise Q k s g _ u v (q e)))
item_keeps P Q k f s w fetched q h =
    on (Always P) (admissible s)
    (λ e. on (Always P) (eqb (unruled_by w) 0) (λ r vs. Always_map Q P f (tetra_plan s (tetra_at s (get_or vs 0 0))) (tetra_kept Q k s (tetra_at s (get_or vs 0 0)) (q e))) (λ r. h))
    (λ e. h)

pub item_always : (P : State → Type 0) (w : Windows) (s : State) (i : Item) → P s → Always P (item_plan s (both.shape w) i) → P (step_on both mmix s w i).state
unfolding step_on mmix
item_always P w s i h a = perform_always both both_lawful P _ s (item_plan s (both.shape w) i) w h a
