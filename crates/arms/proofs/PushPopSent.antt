-- Laws of calls and returns, over plain variables: the stack leaves PC as it was, and where it is done the arm sends PC on. First the outcome of a
-- plan with PC sent on, then PUSH, then POP. SAVE and UNSAVE: SaveUnsaveSent.
use Rattle.model.proofs.Prelude.{ℕ, ◌≤◌, Bool, cond, false, true, List, [], ap, refl, sym, ◌∙◌, ◌≡◌, arith, eqb, ne_eqb, hole, misplaced, no_frame}
use Rattle.model.proofs.Prelude.{pop_frame, pop_rule, pop_to, push_frame, Windows, tell, reply_of, Outcome, Plan, puts, goes, halted, Answers, on, perform_on, Any}
use Rattle.model.proofs.Prelude.{number_zero, refused_not_zero, perform_meets, pop_sent, push_sent, sent}
use Rattle.arms.proofs.Prelude.{Reply, State, Gives, only_if, placed, pop_answer, PopGives, pop_in, pop_number, push_in, return_to}
use Rattle.stack.specs.declared.frame.PopFrame.{PopFrame}
use Rattle.stack.specs.declared.frame.PopFrame.TheVariants.{Frame, NoFrame, Rejected, Missing, NotAdmissible, WindowRule, Shared}
use Rattle.arms.specs.Replied.{Replied}
use Rattle.model.specs.declared.Reply.TheVariants as reply

-- ---- the stack's outcome, PC sent on

only_sent : (b : Bool) (w : Windows) (s : State) (p q : Plan State) (t : ℕ) → perform_on w s p ≡ sent (perform_on w s q) t → only_if b w s p ≡ sent (only_if b w s q) t
unfolding only_if
only_sent true w s p q t h = h
only_sent false w s p q t h = unfold sent in refl

-- a number of 0 to 22; PC as it was
Stays : State → ℕ → State → List ℕ → Type 0
Stays s r t vs = (r ≤ 22) × (t.pc ≡ s.pc)

-- nothing stored; PC as it was
Reads : State → ℕ → State → List ℕ → Type 0
Reads s r t vs = (vs ≡ []) × (t.pc ≡ s.pc)

push_answers : (s : State) (h : ℕ) → Answers Any (Stays s) (push_frame s h s.pc)
unfolding push_frame tell Answers Stays goes
push_answers s h = (omega arith, refl)

push_stays : (b : Bool) (w : Windows) (s : State) (h : ℕ) → Stays s (only_if b w s (push_frame s h s.pc)).reply (only_if b w s (push_frame s h s.pc)).state []
unfolding only_if Stays
push_stays true w s h =
    perform_meets w s Any (Stays s) (λ o. Stays s o.reply o.state []) (omega arith, refl) (λ r t a vs k. k) (λ a n. tt) _ (push_answers s h)
push_stays false w s h = (omega arith, refl)

pop_answers : (s : State) (x : ℕ) → Answers Any (Reads s) (pop_frame s x s.pc)
unfolding pop_frame pop_rule pop_to tell Answers Reads goes halted
pop_answers s x =
    on (Answers Any (Reads s)) (no_frame s) (λ n. (refl, refl)) (λ n. on (Answers Any (Reads s)) (misplaced s) (λ m. (refl, refl)) (λ m. (refl, λ v i. (refl, λ ls j. (refl, refl)))))

pop_stays : (b : Bool) (w : Windows) (s : State) (x : ℕ) → ((only_if b w s (pop_frame s x s.pc)).memory ≡ w) × ((only_if b w s (pop_frame s x s.pc)).state.pc ≡ s.pc)
unfolding only_if Reads puts
pop_stays true w s x =
    perform_meets w s Any (Reads s) (λ o. (o.memory ≡ w) × (o.state.pc ≡ s.pc)) (refl, refl) (λ r t a vs k. (rw k.0, k.1)) (λ a n. tt) _ (pop_answers s x)
pop_stays false w s x = (refl, refl)

-- ---- a reply and a state with it

module _ (s : State) (o p : Outcome State Windows) (target : ℕ) (r : Reply) (t : State) (v : Windows)
    (e : p ≡ sent o target) (er : r ≡ reply_of o.reply) (et : t ≡ goes o.state s.pc) (ev : v ≡ o.memory) where
  sent_done : o.reply ≡ 0 → Replied p r (goes t target) v
  unfolding sent
  sent_done z =
      let f : goes t target ≡ goes o.state target = ap (λ (u : State). goes u target) et ∙ (unfold goes in refl) in
      rw e (record { reply_is = er; state_is = f ∙ sym (ap (λ (n : ℕ). cond (eqb n 0) (goes o.state target) o.state) z); window_is = ev })

  sent_not : o.state.pc ≡ s.pc → eqb o.reply 0 ≡ false → Replied p r t v
  unfolding sent
  sent_not k z =
      let f : goes o.state s.pc ≡ o.state = ap (goes o.state) (sym k) ∙ (unfold goes in refl) in
      rw e (record { reply_is = er; state_is = et ∙ f ∙ sym (ap (λ (b : Bool). cond b (goes o.state target) o.state) z); window_is = ev })

-- ---- PUSH

module _ (w : Windows) (s : State) (x target : ℕ) (r : Reply) (t : State) (v : Windows) (g : Gives (push_in w s x) s r t v) where
  push_open : only_if (placed s) w s (push_frame s (hole s x) target) ≡ sent (push_in w s x) target
  unfolding push_in
  push_open = only_sent (placed s) w s _ _ target (push_sent w s (hole s x) target s.pc)

  small : (push_in w s x).reply ≤ 33
  unfolding push_in Stays
  small = let h = (push_stays (placed s) w s (hole s x)).0 in omega arith

  at_start : (push_in w s x).state.pc ≡ s.pc
  unfolding push_in Stays
  at_start = (push_stays (placed s) w s (hole s x)).1

  pub push_done : r ≡ reply.Done → Replied (only_if (placed s) w s (push_frame s (hole s x) target)) r (goes t target) v
  push_done d = sent_done s _ _ target r t v push_open g.reply_is g.state_is g.window_is (number_zero _ r small g.reply_is d)

  pub push_refused : (r ≡ reply.Done → ⊥) → Replied (only_if (placed s) w s (push_frame s (hole s x) target)) r t v
  push_refused h =
      let z : eqb (push_in w s x).reply 0 ≡ false = ne_eqb _ 0 (refused_not_zero _ r g.reply_is h) in
      sent_not s _ _ target r t v push_open g.reply_is g.state_is g.window_is at_start z

-- ---- POP

-- where an answer goes, n where it does not say
goal : ℕ → PopFrame → ℕ
goal n (Frame to) = to
goal n NoFrame = n
goal n Rejected = n
goal n Missing = n
goal n NotAdmissible = n
goal n WindowRule = n
goal n Shared = n

module _ (w : Windows) (s : State) (x yz : ℕ) (q : PopFrame) (t : State) (g : PopGives (pop_in w s x) s yz q t) where
  pop_open : only_if (placed s) w s (pop_frame s x (return_to s yz)) ≡ sent (pop_in w s x) (return_to s yz)
  unfolding pop_in
  pop_open = only_sent (placed s) w s _ _ (return_to s yz) (pop_sent w s x (return_to s yz) s.pc)

  window_stays : w ≡ (pop_in w s x).memory
  unfolding pop_in
  window_stays = sym (pop_stays (placed s) w s x).0

  pc_stays : (pop_in w s x).state.pc ≡ s.pc
  unfolding pop_in
  pc_stays = (pop_stays (placed s) w s x).1

  numbered : (a : PopFrame) → q ≡ a → (pop_in w s x).reply ≡ pop_number a
  numbered a e = sym g.number_is ∙ ap pop_number e

  done : (to : ℕ) → (pop_in w s x).reply ≡ 0 → to ≡ return_to s yz → Replied (only_if (placed s) w s (pop_frame s x (return_to s yz))) reply.Done (goes t to) w
  unfolding reply_of
  done to z e = rw e (sent_done s _ _ (return_to s yz) reply.Done t w pop_open (sym (ap reply_of z)) g.state_is window_stays z)

  pub pop_done : (to : ℕ) → q ≡ Frame to → Replied (only_if (placed s) w s (pop_frame s x (return_to s yz))) reply.Done (goes t to) w
  unfolding pop_number pop_answer goal
  pop_done to e =
      let z : (pop_in w s x).reply ≡ 0 = numbered (Frame to) e in
      let f : Frame to ≡ Frame (return_to s yz) = sym e ∙ g.answer_is ∙ ap (pop_answer s yz) z in
      done to z (ap (goal (return_to s yz)) f)

  pub pop_refused : (a : PopFrame) (r : Reply) → q ≡ a → r ≡ reply_of (pop_number a) → eqb (pop_number a) 0 ≡ false → Replied (only_if (placed s) w s (pop_frame s x (return_to s yz))) r t w
  pop_refused a r e f n =
      let z : (pop_in w s x).reply ≡ pop_number a = numbered a e in
      sent_not s _ _ (return_to s yz) r t w pop_open (f ∙ sym (ap reply_of z)) g.state_is window_stays pc_stays (rw z n)
