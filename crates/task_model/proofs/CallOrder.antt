-- The order in which a call of several tasks is refused whole, and what is known of one that is not.
use Rattle.model.proofs.Prelude.{ℕ, ◌<◌, ◌≤◌, Bool, cond, false, true, List, ◌≢◌, refl, ◌≡◌, arith, eqb, ltb, eqb-false, eqb-true, le-ltb, lt-ltb, ltb-false}
use Rattle.model.proofs.Prelude.{ne_eqb, shapes_of, Windows, grant_most, unruled_by, on, unruled_shared, unruled_two}
use Rattle.task_model.proofs.Prelude.{State}
use Rattle.task_model.specs.Call.{tasks_in, tasks_ruled, all_admissible, call_refusal, call_of, Tasked, worked, whole_refused, tasks_of}
use Rattle.task_model.specs.TasksMeant.{TasksInOrder}

module _ (w : Windows) (ss : List State) (ns : List ℕ) (q grant : ℕ) where
  -- ---- refused whole

  whole : (r : ℕ) → r ≢ 0 → call_refusal (shapes_of w) ss ns q grant ≡ r → tasks_of w ss ns q grant ≡ whole_refused r w ss
  unfolding tasks_of
  whole r n e = rw (e, ne_eqb r 0 n)

  unruled : (r : ℕ) → r ≢ 0 → unruled_by (shapes_of w) ≡ r → tasks_of w ss ns q grant ≡ whole_refused r w ss
  unruled r n e = whole r n (unfold call_refusal in rw (e, ne_eqb r 0 n))

  twenty_five : unruled_by (shapes_of w) ≡ 0 → grant_most < grant → tasks_of w ss ns q grant ≡ whole_refused 25 w ss
  twenty_five u l = whole 25 (λ e. omega arith) (unfold call_refusal in rw (u, lt-ltb grant_most grant l))

  thirty_three : unruled_by (shapes_of w) ≡ 0 → grant ≤ grant_most → tasks_ruled (shapes_of w).b.size ns q ≡ false → tasks_of w ss ns q grant ≡ whole_refused 33 w ss
  thirty_three u l t = whole 33 (λ e. omega arith) (unfold call_refusal in rw (u, le-ltb grant_most grant l, t))

  one_last : unruled_by (shapes_of w) ≡ 0 → grant ≤ grant_most → tasks_ruled (shapes_of w).b.size ns q ≡ true → all_admissible (tasks_in ns) ss ≡ false
      → tasks_of w ss ns q grant ≡ whole_refused 1 w ss
  one_last u l t a = whole 1 (λ e. omega arith) (unfold call_refusal in rw (u, le-ltb grant_most grant l, t, a))

  -- ---- not refused whole

  pub record TasksPass : Type 0 where
    pub windows_ruled : unruled_by (shapes_of w) ≡ 0
    pub granted : grant ≤ grant_most
    pub tasks_ruled' : tasks_ruled (shapes_of w).b.size ns q ≡ true
    pub admitted : all_admissible (tasks_in ns) ss ≡ true

  pub tasks_pass : call_refusal (shapes_of w) ss ns q grant ≡ 0 → TasksPass
  unfolding call_refusal
  tasks_pass = go (eqb (unruled_by (shapes_of w)) 0) (ltb grant_most grant) (tasks_ruled (shapes_of w).b.size ns q) (all_admissible (tasks_in ns) ss) refl refl refl refl
    where
      go : (a b c d : Bool) → eqb (unruled_by (shapes_of w)) 0 ≡ a → ltb grant_most grant ≡ b → tasks_ruled (shapes_of w).b.size ns q ≡ c
          → all_admissible (tasks_in ns) ss ≡ d → cond a (cond b 25 (cond c (cond d 0 1) 33)) (unruled_by (shapes_of w)) ≡ 0 → TasksPass
      go true true c d e f g h z = absurd (omega arith)
      go true false true true e f g h z = record { windows_ruled = eqb-true _ _ e; granted = ltb-false _ _ f; tasks_ruled' = g; admitted = h }
      go true false true false e f g h z = absurd (omega arith)
      go true false false d e f g h z = absurd (omega arith)
      go false b c d e f g h z = absurd (eqb-false _ _ e z)

  -- what holds of a call that is refused whole and of one that is not
  pub tasks_by : (Q : Tasked → Type 0) → ((r : ℕ) → r ≢ 0 → Q (whole_refused r w ss)) → (TasksPass → Q (worked (call_of w ss ns q grant))) → Q (tasks_of w ss ns q grant)
  unfolding tasks_of
  tasks_by Q refused passed = on Q (eqb (call_refusal (shapes_of w) ss ns q grant) 0) (λ e. passed (tasks_pass (eqb-true _ _ e))) (λ e. refused _ (eqb-false _ _ e))

pub tasks_in_order : TasksInOrder
tasks_in_order = record {
  two_first = λ w ss ns q grant r. unruled w ss ns q grant 2 (λ e. omega arith) (unruled_two (shapes_of w) r);
  twenty_two = λ w ss ns q grant r s. unruled w ss ns q grant 22 (λ e. omega arith) (unruled_shared (shapes_of w) r s);
  twenty_five = twenty_five;
  thirty_three = thirty_three;
  one_last = one_last;
}
