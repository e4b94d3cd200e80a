-- What PUSH and POP answer and leave, for each way out of the code: refused, the octabytes that are there, those that are not. What the
-- registers are is in PushPopRegisters.
use Rattle.model.proofs.Prelude.{min, ℕ, ◌%◌, ◌*◌, ◌+◌, ◌-◌, ◌<◌, ◌^◌, ◌≤◌, false, true, List, [], ap, refl, sym, ◌∙◌, ◌≡◌, arith, get_or, length, le-leb, lt-leb}
use Rattle.model.proofs.Prelude.{tab, framed, hole, misplaced, no_frame, pop_frame, popped, pop_rule, pop_to, pushed, pushed_rule, push_frame, slide, unslide, both}
use Rattle.model.proofs.Prelude.{shapes_of, Windows, tell, reply_of, answer, looks, Outcome, puts, admissible, goes, halted, r_g, r_j, r_l, r_o, sp, spilled}
use Rattle.model.proofs.Prelude.{stack_start, with_special, refusing, adm, Inside, perform_on, said, both_lawful, called, push_is, get_d_looks, length_tab}
use Rattle.model.proofs.Prelude.{perform_read}
use Rattle.model.specs.declared.State.{State}
use Rattle.model.specs.declared.Reply.{Reply}
use Rattle.machine.specs.Octas.{read_octa}
use Rattle.machine.proofs.BothOctas.{run_read}
use Rattle.stack.specs.GivenBack.{refusal_on, placed, Gives}
use Rattle.stack.specs.PushPop.{push_of, push_in, pop_of, pop_in, pop_number, pop_answer, PopGives}
use Rattle.stack.specs.declared.frame.PopFrame.{PopFrame}
use Rattle.stack.specs.declared.frame.PopFrame.TheVariants.{Frame, NoFrame, Rejected, Missing, NotAdmissible}
use Rattle.stack.proofs.Judged.{ended, refused_guarded, only_open, only_one, guarded_only, read_lacks, store_lacks}
use Rattle.model.specs.declared.Reply.TheVariants as reply

-- what is asked holds of an admissible state
pub admissible_placed : (s : State) → admissible s ≡ true → placed s ≡ true
unfolding placed
admissible_placed s a = let b = adm s a in rw (le-leb (sp s r_g) 255 b.g_high, le-leb (sp s r_l) (sp s r_g) b.l_g)

-- ---- PUSH

module _ (w : Windows) (s : State) (x : ℕ) where
  gives : (n : ℕ) (r : Reply) (t u : State) (v m : Windows) → push_in w s x ≡ ended n u m → r ≡ reply_of n → t ≡ goes u s.pc → v ≡ m → Gives (push_in w s x) s r t v
  gives n r t u v m e er et ev = rw e (record { reply_is = er; state_is = et; window_is = ev })

  stays : s ≡ goes s s.pc
  unfolding goes
  stays = refl

  pub push_one : placed s ≡ false → Gives (push_in w s x) s reply.NotAdmissible s w
  unfolding reply_of
  push_one a = gives 1 reply.NotAdmissible s s w w (unfold push_in in (only_one w s (placed s) _ a)) refl stays refl

  -- by value: refused, or what is done in place
  pub push_refused : (n : ℕ) → n ≡ refusal_on w s → (n ≡ 0 → ⊥) → (q : Reply) → q ≡ reply_of n → Gives (push_of w s x) s q s w
  unfolding push_of
  push_refused n e f q d = rw (refused_guarded w s (push_frame s (hole s x) s.pc) n e f) (record { reply_is = d; state_is = stays; window_is = refl })

  pub push_judged : refusal_on w s ≡ 0 → push_in w s x ≡ push_of w s x
  unfolding push_of push_in
  push_judged e = sym (guarded_only w s (placed s) (push_frame s (hole s x) s.pc) e (admissible_placed s))

  module _ (a : placed s ≡ true) (h : ℕ) (e : h ≡ hole s x) where
    push_open : push_in w s x ≡ perform_on w s (push_frame s h s.pc)
    unfolding push_in
    push_open = only_open w s (placed s) _ a ∙ ap (λ (n : ℕ). perform_on w s (push_frame s n s.pc)) (sym e)

    pub push_six : (Inside w (sp s r_o) (h + 1) → ⊥) → (q : Reply) → q ≡ reply.Missing → Gives (push_in w s x) s q s w
    unfolding reply_of push_frame
    push_six f q d =
        let len : length (tab 0 (h + 1) (framed s h)) ≡ h + 1 = length_tab (h + 1) 0 (framed s h) in
        rw d (gives 6 reply.Missing s s w w (push_open ∙ store_lacks w s 0 _ (sp s r_o) (tab 0 (h + 1) (framed s h)) (λ i. f (rw len at i))) refl stays refl)

    pub push_done : (t : State) (v : Windows) → Inside w (sp s r_o) (h + 1) → v ≡ puts both w (sp s r_o) (tab 0 (h + 1) (framed s h)) → t ≡ pushed s h → Gives (push_in w s x) s reply.Done t v
    unfolding reply_of
    push_done t v i ev et =
        gives 0 reply.Done t (called s h s.pc) v _ (push_open ∙ push_is both both_lawful (refusing (shapes_of w)) s h s.pc w i) refl (et ∙ back) ev
      where
        back : pushed s h ≡ goes (goes (pushed s h) s.pc) s.pc
        back = unfold goes pushed pushed_rule slide spilled with_special in refl

-- ---- POP

module _ (w : Windows) (s : State) (x yz : ℕ) where
  pops : (o : Outcome State Windows) (n : ℕ) (r : PopFrame) (t u : State) → o ≡ ended n u w → r ≡ pop_answer s yz n → pop_number r ≡ n → t ≡ goes u s.pc → PopGives o s yz r t
  pops o n r t u e er en et = record { answer_is = rw e er; number_is = rw e en; state_is = rw e et }

  as_was : s ≡ goes s s.pc
  unfolding goes
  as_was = refl

  pub pop_one : placed s ≡ false → PopGives (pop_in w s x) s yz NotAdmissible s
  unfolding pop_answer pop_number
  pop_one a = pops _ 1 NotAdmissible s s (unfold pop_in in (only_one w s (placed s) _ a)) refl refl as_was

  -- by value
  pub pop_refused : (n : ℕ) → n ≡ refusal_on w s → (n ≡ 0 → ⊥) → (q : PopFrame) → pop_number q ≡ n → q ≡ pop_answer s yz n → PopGives (pop_of w s x) s yz q s
  unfolding pop_of
  pop_refused n e f q d g = pops _ n q s s (refused_guarded w s (pop_frame s x s.pc) n e f) g d as_was

  pub pop_judged : refusal_on w s ≡ 0 → pop_in w s x ≡ pop_of w s x
  unfolding pop_of pop_in
  pop_judged e = sym (guarded_only w s (placed s) (pop_frame s x s.pc) e (admissible_placed s))

  module _ (a : placed s ≡ true) where
    pop_open : pop_in w s x ≡ perform_on w s (pop_frame s x s.pc)
    unfolding pop_in
    pop_open = only_open w s (placed s) _ a

    pub pop_none : sp s r_o ≤ stack_start → PopGives (pop_in w s x) s yz NoFrame (halted s)
    unfolding pop_answer pop_number pop_frame no_frame tell
    pop_none l = pops _ 29 NoFrame (halted s) (halted s) (pop_open ∙ rw (le-leb _ _ l) (said w s _ 29)) refl refl (unfold goes halted in refl)

    module _ (above : stack_start < sp s r_o) where
      pub pop_rejected : misplaced s ≡ true → PopGives (pop_in w s x) s yz Rejected (halted s)
      unfolding pop_answer pop_number pop_frame no_frame tell
      pop_rejected m = pops _ 12 Rejected (halted s) (halted s) (pop_open ∙ rw (lt-leb _ _ above, m) (said w s _ 12)) refl refl (unfold goes halted in refl)

      module _ (m : misplaced s ≡ false) where
        pop_rule' : pop_in w s x ≡ perform_on w s (pop_rule s x s.pc)
        unfolding pop_frame no_frame
        pop_rule' = pop_open ∙ rw (lt-leb _ _ above, m)

        missing : pop_in w s x ≡ ended 6 s w → PopGives (pop_in w s x) s yz Missing s
        unfolding pop_answer pop_number
        missing e = pops _ 6 Missing s s e refl refl as_was

        pub pop_lacks : (Inside w (sp s r_o - 8) 1 → ⊥) → PopGives (pop_in w s x) s yz Missing s
        unfolding pop_rule
        pop_lacks f = missing (pop_rule' ∙ read_lacks w s (sp s r_o - 8) 1 _ f)

        module _ (i : Inside w (sp s r_o - 8) 1) (h : ℕ) (e : h ≡ read_octa w (sp s r_o - 8) % 256) where
          hole_read : get_or (looks both w (sp s r_o - 8) 1) 0 0 % 256 ≡ h
          hole_read =
              let z : sp s r_o - 8 + 8 * 0 ≡ sp s r_o - 8 = omega arith in
              let q : get_or (looks both w (sp s r_o - 8) 1) 0 0 ≡ read_octa w (sp s r_o - 8)
              = get_d_looks both both_lawful 1 w (sp s r_o - 8) 0 (omega arith) ∙ sym (run_read w (sp s r_o - 8) 1 i 0 (sp s r_o - 8 + 8 * 0) (omega arith) refl) ∙ ap (read_octa w) z in
              ap (λ (n : ℕ). n % 256) q ∙ sym e

          pop_to' : pop_in w s x ≡ perform_on w s (pop_to s x s.pc h)
          unfolding pop_rule
          pop_to' =
              pop_rule' ∙ perform_read both both_lawful (refusing (shapes_of w)) s 6 (sp s r_o - 8) 1 (λ v. pop_to s x s.pc (get_or v 0 0 % 256)) w i
              ∙ ap (λ (n : ℕ). perform_on w s (pop_to s x s.pc n)) hole_read

          pub pop_short : (Inside w (sp s r_o - 8 * (h + 1)) (min h (sp s r_g)) → ⊥) → PopGives (pop_in w s x) s yz Missing s
          unfolding pop_to
          pop_short f = missing (pop_to' ∙ read_lacks w s (sp s r_o - 8 * (h + 1)) (min h (sp s r_g)) _ f)

          pub pop_done : (t : State) (target : ℕ) → Inside w (sp s r_o - 8 * (h + 1)) (min h (sp s r_g)) → t ≡ popped s x h (looks both w (sp s r_o - 8 * (h + 1)) (min h (sp s r_g)))
              → target ≡ (sp s r_j + 4 * yz) % 2 ^ 64 → PopGives (pop_in w s x) s yz (Frame target) t
          unfolding pop_answer pop_number pop_to
          pop_done t target j et eg =
              let ls = looks both w (sp s r_o - 8 * (h + 1)) (min h (sp s r_g)) in
              pops _ 0 (Frame target) t (goes (popped s x h ls) s.pc)
              (pop_to' ∙ perform_read both both_lawful (refusing (shapes_of w)) s 6 (sp s r_o - 8 * (h + 1)) (min h (sp s r_g)) (λ ls. answer 0 (goes (popped s x h ls) s.pc) 0 []) w j ∙ said w s _ 0)
              (rw eg) refl (et ∙ back ls)
            where
              back : (ls : List ℕ) → popped s x h ls ≡ goes (goes (popped s x h ls) s.pc) s.pc
              back ls = unfold goes popped unslide spilled with_special in refl
