-- Theorem 1: which replies there are, and what each leaves. A step's answers: Leaves.
use Rattle.model.proofs.Logic.{ℕ, true, inl, inr, ◌≢◌, ◌⊎◌, refl, sym, ◌∙◌, ◌≡◌, arith, eqb}
use Rattle.model.specs.Registers.{reg, Sized, admissible, goes, halted, with_special}
use Rattle.model.specs.Memory.{Windows, shapes_of, put_octa, both}
use Rattle.model.specs.Plan.{Plan, Outcome, perform, worst, clear, named, look, looks, puts}
use Rattle.model.specs.Opcodes.{Width, Sign, signed, arm_of}
use Rattle.model.specs.NoMemory.{Said, tell}
use Rattle.model.specs.Control.{sum_of}
use Rattle.model.specs.Trips.{interrupted, tripped, word_of, with_added}
use Rattle.model.specs.LoadStore.{merged, fits, flag_v, store_says, store_to}
use Rattle.model.specs.Step.{unruled_by, judged, refusing, plan_of, guarded, from_three, step_plan, step_of, exception_of}
use Rattle.model.specs.Leaves.{Tripped, StoreLeaves, Sharing, StepLeaves, ExceptionLeaves, FieldLeaves, RepliesLeave}
use Rattle.model.specs.Numbers.{Lost, number_of}
use Rattle.model.specs.Field.{answer_of, field_of}
use Rattle.model.specs.declared.State.{State}
use Rattle.model.specs.declared.Reach.{Reach}
use Rattle.model.specs.declared.Reach.TheVariants.{Forward, Backward, Neither}
use Rattle.model.proofs.Bools.{on}
use Rattle.model.proofs.ItemInvariant.{Any}
use Rattle.model.proofs.ArmLaws.{plan_meets}
use Rattle.model.proofs.ArmAnswers.{Answers, raised_meets}
use Rattle.model.proofs.StepAnswers.{judged_early, step_judged, step_meets, exception_meets, worst_six, perform_meets}
use Rattle.model.proofs.ArmReplies.{three_replies}
use Rattle.model.proofs.Numbers.{unhalting}
use Rattle.model.proofs.Entry.{perform_on, said_reply, shared_only}
use Rattle.model.proofs.LoadStore.{store_made}
use Rattle.model.proofs.ReaderLeaves.{reader_leaves}
use Rattle.model.proofs.FetchedLeaves.{fetched_leaves, run_leaves}
use Rattle.model.proofs.Leaves.{trips, IsStore, Answered, late, as_refused, added_sized, answered, answered_interrupt, Leaves, leaves_of}

-- ---- 19 of a store

module _ (w : Windows) (s : State) (d : Width) (g : Sign) (x a n : ℕ) where
  abbrev left : State
  left = halted (tripped (with_added s flag_v) n a (reg s x))

  says_nineteen : (store_says s d g x a n).reply ≡ 19 → (store_says s d g x a n).state ≡ left
  unfolding store_says
  says_nineteen =
      on {A = Said} (λ q. q.reply ≡ 19 → q.state ≡ left) (fits d g (reg s x)) (λ e p. absurd (omega arith))
      (λ e. raised_meets s Any (λ r t. r ≡ 19 → t ≡ left) (λ k b. tt) flag_v n a (reg s x)
      (record { adds = λ b k p. absurd (omega arith); takes = record { trips = λ b k p. absurd (omega arith); trips_not = λ p. refl } }))

  Made : Outcome State Windows → Type 0
  Made o = o.reply ≡ 19 → (o.state ≡ left) × (o.memory ≡ put_octa w a (merged d a (look both w a) (reg s x)))

  six : (r : ℕ) → Lost r → Made (record { reply = r; state = s; memory = w })
  unfolding Made
  six r e p = absurd (omega arith)

  store_nineteen : Made (perform both (refusing (shapes_of w)) s (store_to s d g x a n) w)
  unfolding Made perform store_to looks puts named both
  store_nineteen =
      on Made (clear (refusing (shapes_of w)) a 1)
      (λ e. on Made (clear (refusing (shapes_of w)) a 1) (λ f p. (says_nineteen p, refl)) (λ f. six _ (worst_six (shapes_of w) 1 a f)))
      (λ e. rw (worst_six (shapes_of w) 1 a e) (six 6 refl))

store_leaves : (w : Windows) (s : State) (op x y z : ℕ) → Sized s → (k : IsStore (arm_of op)) → (step_of w s op x y z).reply ≡ 19 → StoreLeaves w s op x y z (step_of w s op x y z)
store_leaves w s op x y z n k p =
    let h : ((step_of w s op x y z).state ≡ left w s d signed x a (word_of op x y z)) × ((step_of w s op x y z).memory ≡ put_octa w a (merged d a (look both w a) (reg s x))) = unfold Made in made p in
    record {
      width = d;
      last = k.last;
      arm_is = k.is_it;
      registers = rw h.0 (trips (with_added s flag_v) (word_of op x y z) a (reg s x) (added_sized s flag_v n));
      window = h.1;
    }
  where
    d : Width
    d = k.width

    a : ℕ
    a = sum_of s k.last y z

    made : Made w s d signed x a (word_of op x y z) (step_of w s op x y z)
    made = unfold step_of in (rw (step_judged s (shapes_of w) op x y z)
        (on (λ (q : Plan State). Made w s d signed x a (word_of op x y z) (perform both (refusing (shapes_of w)) s q w)) (eqb (judged s (shapes_of w) (arm_of op) x y z) 0)
        (λ e. rw k.is_it (unfold plan_of in store_nineteen w s d signed x a (word_of op x y z)))
        (λ e. unfold Made tell perform worst in (λ q. absurd (late _ (inr (omega arith, omega arith)) (judged_early s (shapes_of w) (arm_of op) x y z e))))))

-- ---- 22

three_unshared : (s : State) (op x y z : ℕ) → Answers Any (λ r t vs. r ≢ 22) (from_three s (arm_of op) op x y z)
three_unshared s op x y z = three_replies (λ r. r ≢ 22) (λ e. omega arith) (λ n a b e. omega arith) (λ n a e. unhalting n (inr (omega arith, omega arith)) a) (λ e. omega arith) s (arm_of op) op x y z (λ m e. omega arith)

step_shared : (w : Windows) (s : State) (op x y z : ℕ) → (step_of w s op x y z).reply ≡ 22 → (admissible s ≡ true) × Sharing (shapes_of w)
unfolding step_of step_plan guarded
step_shared w s op x y z =
    on (λ (p : Plan State). (perform_on w s p).reply ≡ 22 → (admissible s ≡ true) × Sharing (shapes_of w)) (admissible s)
    (λ a. on (λ (p : Plan State). (perform_on w s p).reply ≡ 22 → (admissible s ≡ true) × Sharing (shapes_of w)) (eqb (unruled_by (shapes_of w)) 0)
    (λ e h. absurd (perform_meets w s Any (λ r t vs. r ≢ 22) (λ o. o.reply ≢ 22) (λ q. omega arith) (λ r t b vs k. k) (λ b n. tt) (from_three s (arm_of op) op x y z) (three_unshared s op x y z) h))
    (λ e h. (a, shared_only (shapes_of w) (sym (said_reply w s s (unruled_by (shapes_of w))) ∙ h))))
    (λ a h. absurd (omega (arith, said_reply w s s 1, h)))

step_leaves : (w : Windows) (s : State) (op x y z : ℕ) → Sized s → StepLeaves w s op x y z (step_of w s op x y z)
step_leaves w s op x y z n = unfold Leaves in (leaves (store_leaves w s op x y z n) (step_shared w s op x y z))
  where
    leaves : Leaves w s op x y z (step_of w s op x y z)
    leaves = unfold step_of in (
        perform_meets w s Any (Answered s op x y z) (Leaves w s op x y z)
        (unfold Leaves in (λ st sh. record {
          most = inl (omega arith);
          early = λ p. (refl, refl);
          lost = λ p. (refl, refl);
          halting = λ p. absurd (unhalting 6 (inl (omega arith)) p);
          nineteen = λ p. absurd (omega arith);
          twenty = λ p. absurd (omega arith);
          shared = sh;
          done = λ p. absurd (omega arith);
        }))
        (leaves_of w s op x y z) (λ a k. tt) (step_plan s (shapes_of w) op x y z)
        (step_meets s (shapes_of w) Any (Answered s op x y z) (as_refused s op x y z) op x y z
        (λ e. plan_meets s Any Any (Answered s op x y z) (answered s op x y z) (arm_of op) op x y z tt tt (answered_interrupt s op x y z n))))

-- ---- an exception

record Raised (s : State) (f n u v : ℕ) (r : ℕ) (t : State) : Type 0 where
  among : (r ≡ 0) ⊎ ((r ≡ 1) ⊎ (r ≡ 19))
  inadmissible : r ≡ 1 → t ≡ s
  not_loaded : r ≡ 19 → Tripped (with_added s f) t n u v
  done : r ≡ 0 → t.halt ≡ s.halt

exception_leaves : (s : State) (f op x y z u v : ℕ) → Sized s → ExceptionLeaves s f op x y z u v (exception_of s f op x y z u v)
exception_leaves s f op x y z u v n =
    let h : Raised s f (word_of op x y z) u v (exception_of s f op x y z u v).reply (exception_of s f op x y z u v).state = met in
    record { among = h.among; inadmissible = h.inadmissible; not_loaded = h.not_loaded; done = h.done }
  where
    as_zero : (t : State) → t.halt ≡ s.halt → Raised s f (word_of op x y z) u v 0 t
    as_zero t e = record { among = inl refl; inadmissible = λ p. absurd (omega arith); not_loaded = λ p. absurd (omega arith); done = λ p. e }

    met : Raised s f (word_of op x y z) u v (exception_of s f op x y z u v).reply (exception_of s f op x y z u v).state
    met = unfold goes with_added with_special in (
        exception_meets s Any (Raised s f (word_of op x y z) u v) f op x y z u v (λ k b. tt)
        (record { among = inr (inl refl); inadmissible = λ p. refl; not_loaded = λ p. absurd (omega arith); done = λ p. absurd (omega arith) })
        (λ e. record {
          adds = λ a w. as_zero _ refl;
          takes = record {
            trips = λ a w. as_zero _ (unfold interrupted goes with_added with_special in refl);
            trips_not = record {
              among = inr (inr refl);
              inadmissible = λ p. absurd (omega arith);
              not_loaded = λ p. trips (with_added s f) (word_of op x y z) u v (added_sized s f n);
              done = λ p. absurd (omega arith);
            };
          };
        }))

-- ---- the search for a field

field_leaves : (r : Reach) → FieldLeaves (answer_of r)
unfolding answer_of number_of
field_leaves (Forward f) = record { among = inl refl; refused = λ e. absurd (omega arith); done = λ e. omega arith }
field_leaves (Backward f) = record { among = inl refl; refused = λ e. absurd (omega arith); done = λ e. omega arith }
field_leaves Neither = record { among = inr refl; refused = λ e. (refl, refl); done = λ e. omega arith }

pub replies_leave : RepliesLeave
replies_leave = record {
  by_step = step_leaves;
  by_fetched = fetched_leaves step_leaves;
  by_run = run_leaves (fetched_leaves step_leaves);
  by_exception = exception_leaves;
  by_reader = reader_leaves;
  by_field = λ size from to. field_leaves (field_of size from to);
  by_store = store_made;
}
