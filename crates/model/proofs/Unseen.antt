-- What is hidden is not seen: of two states that differ only in hidden registers each item makes the same accesses, gives the same reply and leaves such states;
-- so do lists and runs. Related has the two runs over any plans, SeenArms the arms.
use Rattle.model.proofs.Logic.{ℕ, List, refl, subst, ◌≡◌, eqb, ltb, get_or}
use Rattle.model.specs.Memory.{Windows, Shapes, shapes_of, both}
use Rattle.model.specs.Plan.{Plan, answer, read}
use Rattle.model.specs.Registers.{admissible}
use Rattle.model.specs.Opcodes.{tetra, Arm, arm_of}
use Rattle.model.specs.LoadStore.{operand_in}
use Rattle.model.specs.Lists.{runs}
use Rattle.model.specs.Step.{refusal_of, unruled_by, guarded, from_three, step_plan, claims, opcode_in, x_in, y_in, z_in, tetra_at, keeps_claim, settled_by, taken_back, instruction_plan, tetra_plan, fetched_plan, Item, step, exception, fetched, item_plan, mmix}
use Rattle.model.specs.Run.{grant_most, refused_whole, run_for, run_of}
use Rattle.model.specs.Unseen.{SameSeen, SameRan, SameStopped, HiddenUnseen}
use Rattle.model.specs.declared.State.{State}
use Rattle.model.proofs.Bools.{on_both}
use Rattle.model.proofs.Related.{Related, RelatedRan, RelatedStopped, runs_related, run_related}
use Rattle.model.proofs.SeenStates.{Seen, seen_of, of_seen, admissible_same, parts_seen, claim_seen}
use Rattle.model.proofs.SeenArms.{by_test, tells, exception_seen}
use Rattle.model.proofs.ArmLaws.{arm_seen}

module _ (m : ℕ) where
  abbrev R : State → State → Type 0
  R s t = Seen m s t

  -- ---- the items

  three_seen : (s t : State) (a : Arm) (op x y z : ℕ) → R s t → Related R (from_three s a op x y z) (from_three t a op x y z)
  unfolding from_three
  three_seen s t a op x y z h =
      on_both (Related R) (eqb (refusal_of a x y z) 0) (λ e. arm_seen m s t a op x y z h) (λ e. tells m _ _ (record { reply_same = refl; states = h }))

  -- the registers that a refusal gives back are those from before
  back_seen : (s t : State) (p q : Plan State) → R s t → Related R p q → Related R (taken_back s p) (taken_back t q)
  unfolding taken_back settled_by Related
  back_seen s t (answer r u a vs) (answer r' v a' vs') h x =
      (x.0, rw (← x.0) (on_both R (keeps_claim r) (λ e. x.1) (λ e. parts_seen m u v _ _ _ _ h.general_same h.special_same x.1)), x.2, x.3)
  back_seen s t (answer r u a vs) (read q b n k) h x = absurd x
  back_seen s t (read q b n k) (answer r u a vs) h x = absurd x
  back_seen s t (read q a n k) (read q' a' n' k') h x = (x.0, x.1, x.2, λ vs. back_seen s t (k vs) (k' vs) h (x.3 vs))

  instruction_seen : (s t : State) (op x y z : ℕ) → R s t → Related R (instruction_plan s op x y z) (instruction_plan t op x y z)
  unfolding instruction_plan
  instruction_seen s t op x y z h =
      on_both (Related R) (claims op) (λ e. back_seen s t _ _ h (three_seen _ _ (arm_of op) op x y z (claim_seen m s t x h))) (λ e. three_seen s t (arm_of op) op x y z h)

  tetra_seen : (s t : State) (u v : ℕ) → u ≡ v → R s t → Related R (tetra_plan s u) (tetra_plan t v)
  unfolding tetra_plan
  tetra_seen s t u v e h = subst (λ (n : ℕ). Related R (tetra_plan s u) (tetra_plan t n)) e (instruction_seen s t (opcode_in u) (x_in u) (y_in u) (z_in u) h)

  tetra_same : (s t : State) (v : ℕ) → R s t → tetra_at s v ≡ tetra_at t v
  unfolding tetra_at
  tetra_same s t v h = λ i. operand_in tetra (h.pc_same i) v

  guarded_seen : (s t : State) (w : Shapes) (p q : Plan State) → R s t → Related R p q → Related R (guarded s s w p) (guarded t t w q)
  unfolding guarded
  guarded_seen s t w p q h x =
      by_test (Related R) (admissible s) (admissible t) (admissible_same m s t h)
      (λ e. on_both (Related R) (eqb (unruled_by w) 0) (λ f. x) (λ f. unfold Related in (refl, h, refl, refl))) (λ e. unfold Related in (refl, h, refl, refl))

  pub item_seen : (s t : State) (w : Shapes) (i : Item) → R s t → Related R (item_plan s w i) (item_plan t w i)
  unfolding item_plan step_plan fetched_plan
  item_seen s t w (step op x y z) h = guarded_seen s t w _ _ h (three_seen s t (arm_of op) op x y z h)
  item_seen s t w (exception f op x y z u v) h = tells m _ _ (exception_seen m s t f op x y z u v h)
  item_seen s t w fetched h = guarded_seen s t w _ _ h (unfold Related in (refl, h.pc_same, refl, λ v. tetra_seen s t _ _ (tetra_same s t (get_or v 0 0) h) h))

-- ---- the theorem

judges : (s t : State) (w : Shapes) (i : Item) → mmix.judge s w i ≡ mmix.judge t w i
unfolding mmix
judges s t w i = refl

plans : (m : ℕ) (s t : State) (w : Shapes) (i : Item) → Seen m s t → Related (Seen m) (mmix.plan s w i) (mmix.plan t w i)
unfolding mmix
plans m s t w i h = item_seen m s t w i h

list_same : (w : Windows) (s t : State) (is : List Item) → SameSeen s t → SameRan (runs both mmix s w is) (runs both mmix t w is)
list_same w s t is h =
    let r : RelatedRan both (Seen s.mask) (runs both mmix s w is) (runs both mmix t w is)
    = runs_related both (Seen s.mask) mmix judges (plans s.mask) is s t w (seen_of s t h) in
    record { answers_same = r.answers_same; seen_same = of_seen s.mask _ _ r.states; memory_same = r.memory_same }

run_same : (w : Windows) (s t : State) (grant : ℕ) → SameSeen s t → SameStopped (run_of w s grant) (run_of w t grant)
unfolding run_of
run_same w s t grant h =
    by_test SameStopped (admissible s) (admissible t) (admissible_same s.mask s t (seen_of s t h))
    (λ a. on_both SameStopped (eqb (unruled_by (shapes_of w)) 0)
    (λ b. on_both SameStopped (ltb grant_most grant) (λ c. whole 25) (λ c. ran)) (λ b. whole _)) (λ a. whole 1)
  where
    whole : (n : ℕ) → SameStopped (refused_whole n w s) (refused_whole n w t)
    whole n = record { done_same = refl; reply_same = refl; seen_same = h; memory_same = refl }

    ran : SameStopped (run_for both mmix fetched grant s w) (run_for both mmix fetched grant t w)
    ran =
        let r : RelatedStopped both (Seen s.mask) (run_for both mmix fetched grant s w) (run_for both mmix fetched grant t w)
        = run_related both (Seen s.mask) mmix judges (plans s.mask) grant fetched s t w (seen_of s t h) in
        record { done_same = r.done_same; reply_same = r.reply_same; seen_same = of_seen s.mask _ _ r.states; memory_same = r.memory_same }

pub hidden_unseen : HiddenUnseen
hidden_unseen = record { by_list = list_same; by_run = run_same }
