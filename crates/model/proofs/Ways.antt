-- An instruction, by step or fetched, by any judge: once 1, 2, 22 and the fetch have passed it is its plan.
use Rattle.model.proofs.Logic.{ℕ, ◌%◌, ◌*◌, ◌+◌, ◌^◌, true, List, ap, refl, sym, ◌∙◌, ◌≡◌, arith, get_or}
use Rattle.model.specs.Registers.{r_j, sp, admissible}
use Rattle.model.specs.Memory.{Windows, shapes_of, both}
use Rattle.model.specs.Plan.{Plan, read, perform, worst, looks}
use Rattle.model.specs.Lists.{step_on}
use Rattle.model.specs.Opcodes.{op_pop, arm_of}
use Rattle.model.specs.Control.{yz_of}
use Rattle.model.specs.Frames.{pop_frame}
use Rattle.model.specs.Step.{refusal_of, unruled_by, plan_of, from_three, step_plan, claims, x_in, y_in, z_in, tetra_at, instruction_plan, tetra_plan, fetched_plan, tetra_of, step_of, fetched_of, item_plan, mmix}
use Rattle.model.specs.Ways.{Way, by_step, by_fetch, item_by, NamesBy, LentBy, x_by, y_by, z_by, MetBy, done_by}
use Rattle.model.specs.declared.State.{State}
use Rattle.model.proofs.Memory.{both_lawful}
use Rattle.model.proofs.Runs.{perform_read, read_done}
use Rattle.model.proofs.Entry.{guarded_is, guarded_done}

pub done_is : (i : Way) (op : ℕ) (w : Windows) (s : State) → step_on both mmix s w (item_by i op) ≡ done_by i op w s
unfolding step_on mmix both item_plan step_of fetched_of
done_is (by_step x y z) op w s = refl
done_is by_fetch op w s = refl

abbrev pub plan_by : Way → State → ℕ → ℕ → ℕ → ℕ → Plan State
plan_by (by_step x' y' z') s op x y z = from_three s (arm_of op) op x y z
plan_by by_fetch s op x y z = instruction_plan s op x y z

pub one_judged : (j : ℕ → ℕ) (a : ℕ) → j a ≡ 0 → worst j a 1 ≡ 0
unfolding worst
one_judged j a e = omega arith

pub judged_one : (j : ℕ → ℕ) (a : ℕ) → worst j a 1 ≡ 0 → j a ≡ 0
unfolding worst
judged_one j a e = omega arith

module _ (op : ℕ) (j : ℕ → ℕ) (w : Windows) (s : State) where
  abbrev pub Opens : Way → Type 0
  Opens i = perform both j s (item_plan s (shapes_of w) (item_by i op)) w ≡ perform both j s (plan_by i s op (x_by i w s) (y_by i w s) (z_by i w s)) w

  pub item_opens : (i : Way) → admissible s ≡ true → unruled_by (shapes_of w) ≡ 0 → NamesBy i op w s → LentBy i j s → Opens i
  unfolding item_plan step_plan fetched_plan tetra_plan looks
  item_opens (by_step x y z) a r e l = ap (λ (p : Plan State). perform both j s p w) (guarded_is s s (shapes_of w) (from_three s (arm_of op) op x y z) a r)
  item_opens by_fetch a r e l =
      ap (λ (p : Plan State). perform both j s p w) (guarded_is s s (shapes_of w) (read 24 s.pc 1 (λ v. tetra_plan s (tetra_at s (get_or v 0 0)))) a r)
      ∙ perform_read both both_lawful j s 24 s.pc 1 (λ v. tetra_plan s (tetra_at s (get_or v 0 0))) w (one_judged j s.pc l)
      ∙ ap (λ (o : ℕ). perform both j s (instruction_plan s o (x_in (tetra_of w s)) (y_in (tetra_of w s)) (z_in (tetra_of w s))) w) e

  -- one that is done
  pub record Opened (i : Way) : Type 0 where
    pub admitted : admissible s ≡ true
    pub fine : unruled_by (shapes_of w) ≡ 0
    pub opens : Opens i

  pub item_opened : (i : Way) → NamesBy i op w s → (perform both j s (item_plan s (shapes_of w) (item_by i op)) w).reply ≡ 0 → Opened i
  unfolding item_plan step_plan fetched_plan
  item_opened (by_step x y z) e d =
      let m : (admissible s ≡ true) × (unruled_by (shapes_of w) ≡ 0) = guarded_done j w s s (from_three s (arm_of op) op x y z) d in
      record { admitted = m.0; fine = m.1; opens = item_opens (by_step x y z) m.0 m.1 e tt }
  item_opened by_fetch e d =
      let k : List ℕ → Plan State = λ v. tetra_plan s (tetra_at s (get_or v 0 0)) in
      let m : (admissible s ≡ true) × (unruled_by (shapes_of w) ≡ 0) = guarded_done j w s s (read 24 s.pc 1 k) d in
      let there : worst j s.pc 1 ≡ 0
      = read_done both both_lawful j s 24 s.pc 1 k w (λ q. omega arith)
      (ap (λ (q : Plan State). (perform both j s q w).reply) (sym (guarded_is s s (shapes_of w) (read 24 s.pc 1 k) m.0 m.1)) ∙ d) in
      record { admitted = m.0; fine = m.1; opens = item_opens by_fetch m.0 m.1 e (judged_one j s.pc there) }

-- ---- POP: it claims nothing

abbrev pub target_by : Way → Windows → State → ℕ
target_by u w s = (sp s r_j + 4 * yz_of (y_by u w s) (z_by u w s)) % 2 ^ 64

pop_plan : (u : Way) (s : State) (x y z : ℕ) → plan_by u s op_pop x y z ≡ pop_frame s x ((sp s r_j + 4 * yz_of y z) % 2 ^ 64)
unfolding from_three instruction_plan plan_of arm_of refusal_of claims
pop_plan (by_step a b c) s x y z = refl
pop_plan by_fetch s x y z = refl

pub pop_item : (j : ℕ → ℕ) (w : Windows) (s : State) (u : Way) → admissible s ≡ true → unruled_by (shapes_of w) ≡ 0 → MetBy op_pop j w s u
    → perform both j s (item_plan s (shapes_of w) (item_by u op_pop)) w ≡ perform both j s (pop_frame s (x_by u w s) (target_by u w s)) w
pop_item j w s u a r m =
    item_opens op_pop j w s u a r m.names m.lent
    ∙ ap (λ (p : Plan State). perform both j s p w) (pop_plan u s (x_by u w s) (y_by u w s) (z_by u w s))
