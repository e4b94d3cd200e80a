-- Laws of SAVE and UNSAVE, over plain variables: first which outcomes send PC on to @ + 4, then the whole outcome from what the stack gives, done or
-- refused. PUSH and POP: PushPopSent.
use Rattle.model.proofs.Prelude.{ℕ, ◌%◌, ◌+◌, ◌^◌, ◌≤◌, Bool, cond, false, true, List, ap, refl, sym, ◌∙◌, ◌≡◌, arith, eqb, ltb, eq-eqb, ne_eqb}
use Rattle.model.proofs.Prelude.{save_context, unsave_context, unsaved, Windows, tell, Outcome, Plan, admissible, following, goes, halted, next, r_g, sp}
use Rattle.model.proofs.Prelude.{Answers, context_meets, on, perform_on, Any, number_zero, refused_not_zero, perform_meets, back_to, save_sent, sent, unsave_sent}
use Rattle.arms.proofs.Prelude.{Reply, Done, State, Gives, only_if}
use Rattle.arms.specs.Replied.{Replied}

-- an outcome with a reply of 0 to 22, and PC at @ + 4 where it is done, else as it was
pub record Onward (o : Outcome State Windows) (s : State) : Type 0 where
  pub most : o.reply ≤ 22
  pub sent_on : o ≡ sent (back_to s o) (following s)

-- ---- which outcomes are so

Most : {S : Type 0} → ℕ → S → List ℕ → Type 0
Most r t vs = r ≤ 22

performs_most : (w : Windows) (s : State) (p : Plan State) → Answers Any Most p → (perform_on w s p).reply ≤ 22
performs_most w s p h = perform_meets w s Any Most (λ o. o.reply ≤ 22) (omega arith) (λ r t a vs k. unfold Most in k) (λ a n. tt) p h

save_most : (s : State) (x : ℕ) → Answers Any Most (save_context s x)
unfolding save_context tell Answers Most
save_most s x = on (Answers Any Most) (ltb x (sp s r_g)) (λ e. omega arith) (λ e. omega arith)

unsave_most : (s : State) (p : ℕ) → Answers Any Most (unsave_context s p)
unfolding unsave_context Most
unsave_most s p = context_meets (halted s) (λ o g a l vs. next (unsaved s o g a l vs)) p Any Most (λ n a b. omega arith) (λ o g a l vs b c d e f i. omega arith)

-- 1 changes nothing
module _ (w : Windows) (s : State) where
  unchanged : Onward (record { reply = 1; state = s; memory = w }) s
  unchanged = record { most = omega arith; sent_on = unfold sent back_to goes in refl }

  only_onward : (b : Bool) (p : Plan State) → Onward (perform_on w s p) s → Onward (only_if b w s p) s
  unfolding only_if
  only_onward true p h = h
  only_onward false p h = unchanged

  pub save_onward : (x : ℕ) → Onward (only_if (admissible s) w s (save_context s x)) s
  save_onward x = only_onward (admissible s) _ (record { most = performs_most w s _ (save_most s x); sent_on = save_sent w s x })

  pub unsave_onward : (p : ℕ) → Onward (perform_on w s (unsave_context s p)) s
  unsave_onward p = record { most = performs_most w s _ (unsave_most s p); sent_on = unsave_sent w s p }

-- ---- the two ways out

module _ (o : Outcome State Windows) (s : State) (h : Onward o s) (r : Reply) (t : State) (v : Windows)
    (e : Gives o s r t v) where
  small : o.reply ≤ 33
  small = let m = h.most in omega arith

  state_at_law : (b : Bool) → eqb o.reply 0 ≡ b → o.state ≡ cond b (goes (goes o.state s.pc) (following s)) (goes o.state s.pc)
  state_at_law b q = ap (λ (p : Outcome State Windows). p.state) h.sent_on ∙ (unfold sent back_to in ap (λ (t : Bool). cond t (goes (goes o.state s.pc) (following s)) (goes o.state s.pc)) q)

  pub onward_done : (n : ℕ) → r ≡ Done → n ≡ (t.pc + 4) % 2 ^ 64 → Replied o r (goes t n) v
  onward_done n z q = record { reply_is = e.reply_is; state_is = state; window_is = e.window_is }
    where
      moved : goes t (following s) ≡ goes (goes o.state s.pc) (following s)
      moved = ap (λ (u : State). goes u (following s)) e.state_is

      -- PC is not the stack's to change
      here : t.pc ≡ s.pc
      here = unfold goes in ap (λ (u : State). u.pc) e.state_is

      state : goes t n ≡ o.state
      state = ap (goes t) (q ∙ ap (λ (p : ℕ). (p + 4) % 2 ^ 64) here) ∙ moved ∙ sym (state_at_law true (eq-eqb _ _ (number_zero _ r small e.reply_is z)))

  pub onward_refused : (r ≡ Done → ⊥) → Replied o r t v
  onward_refused z = record {
    reply_is = e.reply_is;
    state_is = e.state_is ∙ sym (state_at_law false (ne_eqb _ 0 (refused_not_zero _ r e.reply_is z)));
    window_is = e.window_is;
  }
