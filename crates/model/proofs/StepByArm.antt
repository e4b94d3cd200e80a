-- What a step comes to once 1 and 2 have passed, arm by arm, in the form in which code has it: an arm that touches no memory says it;
-- the four others work on registers and window alone, and the layer above then sends PC on.
use Rattle.model.proofs.Logic.{ℕ, ◌+◌, ◌-◌, ◌≤◌, Bool, cond, false, true, List, [], ◌≢◌, ap, refl, ◌∙◌, ◌≡◌, arith, eqb, ltb, length, ne_eqb}
use Rattle.model.specs.Fill.{tab}
use Rattle.model.specs.Registers.{r_o, r_g, sp, admissible, following, goes, next, halted, with_special, stored, spilled}
use Rattle.model.specs.Memory.{Windows, shapes_of, both}
use Rattle.model.specs.Plan.{Plan, answer, read, Outcome, perform, worst, clear, named, looks}
use Rattle.model.specs.Opcodes.{arm_of}
use Rattle.model.specs.NoMemory.{Said, say, tell}
use Rattle.model.specs.Frames.{framed, pushed, push_frame, popped, pop_to, pop_rule, no_frame, misplaced, pop_frame}
use Rattle.model.specs.Contexts.{saved_unspilled, saved_state, save_context, unsaved_unspilled, unsaved, unsave_context}
use Rattle.model.specs.Step.{refusal_of, unruled_by, refusing, plan_of, from_three, step_plan, step_of}
use Rattle.model.specs.Numbers.{Lost}
use Rattle.model.specs.Order.{Passes}
use Rattle.model.specs.declared.State.{State}
use Rattle.model.proofs.Bools.{on, on_both}
use Rattle.model.proofs.Entry.{guarded_one, guarded_unruled, guarded_open, perform_on, said, step_open, none_unruled}
use Rattle.model.proofs.ArmAnswers.{Answers, context_meets}
use Rattle.model.proofs.StepAnswers.{worst_six, perform_meets}
use Rattle.model.proofs.ItemInvariant.{Any}

-- a plan that only says something
pub told : (w : Windows) (s : State) (d : Said) → perform_on w s (tell d) ≡ record { reply = d.reply; state = d.state; memory = w }
unfolding tell
told w s d = said w s d.state d.reply

pub passing : (w : Windows) (s : State) → Passes w s → unruled_by (shapes_of w) ≡ 0
passing w s h = none_unruled (shapes_of w) h.windowed h.apart

module _ (w : Windows) (s : State) (a : admissible s ≡ true) (r : unruled_by (shapes_of w) ≡ 0) where
  pub step_told : (op x y z : ℕ) (d : Said) → refusal_of (arm_of op) x y z ≡ 0 → plan_of s (arm_of op) op x y z ≡ tell d
      → step_of w s op x y z ≡ record { reply = d.reply; state = d.state; memory = w }
  step_told op x y z d e p = step_open w s op x y z a r e ∙ ap (λ (q : Plan State). perform_on w s q) p ∙ told w s d

  -- 3, 4, 5
  pub step_refused : (op x y z n : ℕ) → refusal_of (arm_of op) x y z ≡ n → 1 ≤ n → step_of w s op x y z ≡ record { reply = n; state = s; memory = w }
  unfolding step_of step_plan from_three
  step_refused op x y z n e l = guarded_open w s s (from_three s (arm_of op) op x y z) a r ∙ rw (e, ne_eqb n 0 (λ q. let z : n ≡ 0 = q in omega arith)) (told w s (say n s))

-- 1, then 2 and 22
pub step_inadmissible : (w : Windows) (s : State) (op x y z : ℕ) → admissible s ≡ false → step_of w s op x y z ≡ record { reply = 1; state = s; memory = w }
unfolding step_of step_plan
step_inadmissible w s op x y z a = guarded_one w s s (from_three s (arm_of op) op x y z) a

pub step_unruled : (w : Windows) (s : State) (op x y z : ℕ) → admissible s ≡ true → unruled_by (shapes_of w) ≢ 0
    → step_of w s op x y z ≡ record { reply = unruled_by (shapes_of w); state = s; memory = w }
unfolding step_of step_plan
step_unruled w s op x y z a n = guarded_unruled w s s (from_three s (arm_of op) op x y z) a n

-- ---- PC sent on to t where the step is done

unfoldable pub sent : Outcome State Windows → ℕ → Outcome State Windows
sent o t = record { reply = o.reply; state = cond (eqb o.reply 0) (goes o.state t) o.state; memory = o.memory }

-- an answer whose PC is t, and the same with another PC
answer_sent : (w : Windows) (s p : State) (t u a : ℕ) (vs : List ℕ) → perform_on w s (answer 0 (goes p t) a vs) ≡ sent (perform_on w s (answer 0 (goes p u) a vs)) t
unfolding perform sent goes
answer_sent w s p t u a vs =
    on_both (λ (o q : Outcome State Windows). o ≡ sent q t) (clear (refusing (shapes_of w)) a (length vs)) (λ e. refl)
    (λ e. refused (worst (refusing (shapes_of w)) a (length vs)) (worst_six (shapes_of w) (length vs) a e))
  where
    refused : (n : ℕ) → Lost n → record { reply = n; state = s; memory = w } ≡ sent (record { reply = n; state = s; memory = w }) t
    refused n e = rw e

read_sent : (w : Windows) (s : State) (t a n : ℕ) (f g : List ℕ → Plan State) → perform_on w s (f (looks both w a n)) ≡ sent (perform_on w s (g (looks both w a n))) t
    → perform_on w s (read 6 a n f) ≡ sent (perform_on w s (read 6 a n g)) t
unfolding perform sent
read_sent w s t a n f g h =
    on_both (λ (o q : Outcome State Windows). o ≡ sent q t) (clear (refusing (shapes_of w)) a n) (λ e. h)
    (λ e. refused (named 6 (worst (refusing (shapes_of w)) a n)) (ap (named 6) (worst_six (shapes_of w) n a e) ∙ (unfold named in refl)))
  where
    refused : (n : ℕ) → Lost n → record { reply = n; state = s; memory = w } ≡ sent (record { reply = n; state = s; memory = w }) t
    refused n e = rw e

pub push_sent : (w : Windows) (s : State) (h t u : ℕ) → perform_on w s (push_frame s h t) ≡ sent (perform_on w s (push_frame s h u)) t
unfolding push_frame
push_sent w s h t u = answer_sent w s (pushed s h) t u (sp s r_o) (tab 0 (h + 1) (framed s h))

pub pop_sent : (w : Windows) (s : State) (x t u : ℕ) → perform_on w s (pop_frame s x t) ≡ sent (perform_on w s (pop_frame s x u)) t
unfolding pop_frame pop_rule pop_to tell
pop_sent w s x t u =
    on_both (λ (p q : Plan State). perform_on w s p ≡ sent (perform_on w s q) t) (no_frame s) (λ e. rw (said w s (halted s) 29) (unfold sent in refl))
    (λ e. on_both (λ (p q : Plan State). perform_on w s p ≡ sent (perform_on w s q) t) (misplaced s)
    (λ e. rw (said w s (halted s) 12) (unfold sent in refl))
    (λ e. read_sent w s t (sp s r_o - 8) 1 _ _ (read_sent w s t _ _ _ _ (answer_sent w s (popped s x _ _) t u 0 []))))

-- ---- SAVE and UNSAVE go on to @ + 4

-- the outcome with PC as it was in s
unfoldable pub back_to : State → Outcome State Windows → Outcome State Windows
back_to s o = record { reply = o.reply; state = goes o.state s.pc; memory = o.memory }

-- PC is @ + 4 where it is done, else as it was
Onward : State → ℕ → State → List ℕ → Type 0
Onward s r t vs = t.pc ≡ cond (eqb r 0) (following s) s.pc

onward_sent : (s : State) (o : Outcome State Windows) → Onward s o.reply o.state [] → o ≡ sent (back_to s o) (following s)
unfolding Onward
onward_sent s o e = go (eqb o.reply 0) refl
  where
    at : (a : ℕ) → o.state.pc ≡ a → o.state ≡ goes o.state a
    at a q = unfold goes in (λ i. record { general = o.state.general; special = o.state.special; pc = q i; halt = o.state.halt; marks = o.state.marks; mask = o.state.mask })

    state : (b : Bool) → o.state.pc ≡ cond b (following s) s.pc → o.state ≡ cond b (goes (goes o.state s.pc) (following s)) (goes o.state s.pc)
    state true q = at (following s) q ∙ (unfold goes in refl)
    state false q = at s.pc q

    go : (b : Bool) → eqb o.reply 0 ≡ b → o ≡ sent (back_to s o) (following s)
    go b f = unfold sent back_to in (λ i. record { reply = o.reply; state = state (eqb o.reply 0) e i; memory = o.memory })

performs_onward : (w : Windows) (s : State) (p : Plan State) → Answers Any (Onward s) p → perform_on w s p ≡ sent (back_to s (perform_on w s p)) (following s)
performs_onward w s p h = onward_sent s (perform_on w s p)
    (perform_meets w s Any (Onward s) (λ o. Onward s o.reply o.state []) (unfold Onward in refl) (λ r t a vs k. unfold Onward in k) (λ a n. tt) p h)

pub save_sent : (w : Windows) (s : State) (x : ℕ) → perform_on w s (save_context s x) ≡ sent (back_to s (perform_on w s (save_context s x))) (following s)
save_sent w s x = performs_onward w s (save_context s x) (answers s x)
  where
    answers : (s : State) (x : ℕ) → Answers Any (Onward s) (save_context s x)
    answers s x = unfold save_context tell Answers Onward saved_state saved_unspilled stored spilled with_special goes halted in
        (on (Answers Any (Onward s)) (ltb x (sp s r_g)) (λ e. refl) (λ e. refl))

unsaved_onward : (s : State) (o g a l : ℕ) (vs : List ℕ) → Onward s 0 (next (unsaved s o g a l vs)) []
unfolding Onward unsaved unsaved_unspilled spilled with_special goes
unsaved_onward s o g a l vs = refl

halted_onward : (s : State) (n : ℕ) → 14 ≤ n → n ≤ 16 → Onward s n (halted s) []
unfolding Onward halted
halted_onward s n a b = rw (ne_eqb n 0 (λ q. let z : n ≡ 0 = q in omega arith))

pub unsave_sent : (w : Windows) (s : State) (p : ℕ) → perform_on w s (unsave_context s p) ≡ sent (back_to s (perform_on w s (unsave_context s p))) (following s)
unfolding unsave_context
unsave_sent w s p = performs_onward w s _
    (context_meets (halted s) (λ o g a l vs. next (unsaved s o g a l vs)) p Any (Onward s) (halted_onward s) (λ o g a l vs b c d e f i. unsaved_onward s o g a l vs))
