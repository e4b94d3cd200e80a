-- Laws of a script carried through: what a line's turn prints, and what is left after it.
use Rattle.model.proofs.Prelude.{suc, ℕ, ◌+◌, ◌-◌, ◌<◌, ◌≤◌, Bool, cond, false, true, append-nil, List, [], ◌++◌, ◌∷◌, ap, refl, sym, ◌∙◌, ◌≡◌, add-one, arith}
use Rattle.model.proofs.Prelude.{eqb, drop, drop_of_length-le, length, length-drop, take, drop-drop, set_out, eq-eqb, le-leb, lt-leb, ne_eqb, start, Windows}
use Rattle.model.proofs.Prelude.{written, made, fresh, r_g, r_l, r_o, set_register, sp, with_special, step_of, Outcome}
use Rattle.script.proofs.Prelude.{State, line_length, pieces, bad_text, filled, Wrote, length_line, pieces_last, pieces_line, pieces_some, Leads}
use Rattle.script.proofs.Prelude.{leads_last, leads_on, wrote_as, wrote_nothing}
use Rattle.instruction.specs.StepAnswer.{Numbered}
use Rattle.script.specs.Line.{line_of}
use Rattle.script.specs.Script.{done_line, refused_line, step_text, form_turn, carried, windows, script_most, printed}
use Rattle.script.specs.Writing.{TurnWritten, end_of, goes_on}
use Rattle.std.specs.Prelude.{Option, None, Some}
use Rattle.std.specs.declared.ops.ControlFlow.{ControlFlow}
use Rattle.std.specs.declared.ops.ControlFlow.TheVariants.{Continue, Break}
use Rattle.script.specs.declared.line.Form.{Form}
use Rattle.script.specs.declared.line.Form.TheVariants.{Register, Special, Step}
use Rattle.script.specs.declared.line.Setting.{Setting}
use Rattle.model.specs.declared.Instruction.{Instruction}

-- ---- what a line prints

module _ (i : Instruction) (n : ℕ) (s : State) where
  pub text_done : n ≡ 0 → filled done_line (i.op ∷ i.x ∷ i.y ∷ i.z ∷ s.pc ∷ sp s r_g ∷ sp s r_l ∷ sp s r_o ∷ []) ≡ step_text i n s
  unfolding step_text
  text_done e = rw (eq-eqb n 0 e)

  pub text_refused : (n ≡ 0 → ⊥) → filled refused_line (i.op ∷ i.x ∷ i.y ∷ i.z ∷ n ∷ s.pc ∷ sp s r_g ∷ sp s r_l ∷ sp s r_o ∷ []) ≡ step_text i n s
  unfolding step_text
  text_refused h = rw (ne_eqb n 0 h)

-- ---- what a line leaves

-- past the last register nothing is set
pub special_out : (s : State) (k v : ℕ) → length s.special ≤ k → s ≡ with_special s k v
unfolding with_special
special_out s k v h = λ i. record { general = s.general; special = sym (set_out s.special k v h) i; pc = s.pc; halt = s.halt; marks = s.marks; mask = s.mask }

module _ (n : ℕ) (s : State) (w : Windows) (b : List ℕ) (at : ℕ) where
  pub leaves_register : (a : Setting) (t : State) → t ≡ set_register s a.index a.value
      → TurnWritten (form_turn n s w (Some (Register a))) b at b (Continue at) t w
  unfolding form_turn
  leaves_register a t h = record { text_is = wrote_nothing b at; goes_on_is = refl; state_is = h; windows_are = refl }

  pub leaves_special : (a : Setting) (t : State) → t ≡ with_special s a.index a.value
      → TurnWritten (form_turn n s w (Some (Special a))) b at b (Continue at) t w
  unfolding form_turn
  leaves_special a t h = record { text_is = wrote_nothing b at; goes_on_is = refl; state_is = h; windows_are = refl }

  pub leaves_bad : (c : List ℕ) (end : ℕ) → Wrote b at (bad_text n) c end → TurnWritten (form_turn n s w None) b at c (Break end) s w
  unfolding form_turn
  leaves_bad c end h = record { text_is = h; goes_on_is = refl; state_is = refl; windows_are = refl }

-- a step's text is written, and the script goes on where it is done
module _ (n : ℕ) (s : State) (w : Windows) (i : Instruction) (b : List ℕ) (at number : ℕ) (t : State) (v : Windows)
    (g : Numbered (step_of w s i.op i.x i.y i.z) number t v) (c : List ℕ) (end : ℕ) (p : Wrote b at (step_text i number t) c end) where
  o : Outcome State Windows
  o = step_of w s i.op i.x i.y i.z

  leaves_step : (r : ControlFlow ℕ ℕ) → end_of r ≡ end → goes_on r ≡ eqb number 0 → TurnWritten (form_turn n s w (Some (Step i))) b at c r t v
  unfolding form_turn o
  leaves_step r e h =
      let k : number ≡ o.reply = g.reply_is in
      record {
        text_is = rw e (wrote_as b at (step_text i number t) (step_text i o.reply o.state) c end
            (ap (λ (m : ℕ). step_text i m t) k ∙ ap (step_text i o.reply) g.state_is) p);
        goes_on_is = h ∙ ap (λ (m : ℕ). eqb m 0) k;
        state_is = g.state_is;
        windows_are = g.window_is;
      }

  pub leaves_done : number ≡ 0 → TurnWritten (form_turn n s w (Some (Step i))) b at c (Continue end) t v
  leaves_done z = leaves_step (Continue end) refl (sym (eq-eqb number 0 z))

  pub leaves_refused : (number ≡ 0 → ⊥) → TurnWritten (form_turn n s w (Some (Step i))) b at c (Break end) t v
  leaves_refused z = leaves_step (Break end) refl (sym (ne_eqb number 0 z))

-- ---- what is left of a script

module _ (n : ℕ) (s : State) (w : Windows) where
  carried_more : (p : List ℕ) (ps : List (List ℕ)) → 0 < length ps
      → carried n s w (p ∷ ps)
      ≡ (form_turn n s w (line_of p)).text
      ++ cond (form_turn n s w (line_of p)).goes_on (carried (suc n) (form_turn n s w (line_of p)).state (form_turn n s w (line_of p)).windows ps) []
  unfolding carried
  carried_more p [] h = absurd (omega arith)
  carried_more p (q ∷ ps) h = refl

  -- nothing at the end
  pub carried_end : (l : List ℕ) (at : ℕ) → length l ≤ at → carried n s w (pieces (drop at l)) ≡ []
  unfolding carried pieces
  carried_end l at h = rw (drop_of_length-le l h)

  -- a last line without its newline
  pub carried_unended : (l : List ℕ) (at end : ℕ) → at < length l → end ≡ at + line_length (drop at l) → end ≡ length l
      → carried n s w (pieces (drop at l)) ≡ bad_text n
  unfolding carried
  carried_unended l at end h e f =
      let z : length (drop at l) ≡ 0 → ⊥ = λ q. omega (arith, length-drop at l) in
      let k : line_length (drop at l) ≡ length (drop at l) = omega (arith, length-drop at l) in
      rw (pieces_last (drop at l) k, ne_eqb (length (drop at l)) 0 z)

  -- a line
  carried_line : (l : List ℕ) (at end : ℕ) (f : Option Form) → at < length l → end ≡ at + line_length (drop at l) → (end ≡ length l → ⊥)
      → f ≡ line_of (take (end - at) (drop at l))
      → carried n s w (pieces (drop at l))
      ≡ (form_turn n s w f).text
      ++ cond (form_turn n s w f).goes_on (carried (n + 1) (form_turn n s w f).state (form_turn n s w f).windows (pieces (drop (end + 1) l))) []
  carried_line l at end f h e z g =
      let k : line_length (drop at l) < length (drop at l) = omega (arith, length-drop at l, length_line (drop at l)) in
      let m : end - at ≡ line_length (drop at l) = omega arith in
      let o : end + 1 ≡ at + suc (line_length (drop at l)) = omega arith in
      rw (g, m, o, add-one, ← drop-drop (suc (line_length (drop at l))) at l, pieces_line (drop at l) k)
      (carried_more (take (line_length (drop at l)) (drop at l)) (pieces (drop (suc (line_length (drop at l))) (drop at l))) (pieces_some _))

-- how the loop over lines goes on, and how it ends
module _ (l b t : List ℕ) (n : ℕ) (s : State) (w : Windows) (c : List ℕ) (next at end : ℕ) (f : Option Form) (d : List ℕ) (r : ControlFlow ℕ ℕ) (u : State) (v : Windows)
    (h : at < length l) (e : end ≡ at + line_length (drop at l)) (z : end ≡ length l → ⊥) (g : f ≡ line_of (take (end - at) (drop at l)))
    (p : Leads c next (carried n s w (pieces (drop at l))) b 0 t) (q : TurnWritten (form_turn n s w f) c next d r u v) where
  left : (k : Bool) → goes_on r ≡ k
      → carried n s w (pieces (drop at l))
      ≡ (form_turn n s w f).text
      ++ cond k (carried (n + 1) (form_turn n s w f).state (form_turn n s w f).windows (pieces (drop (end + 1) l))) []
  left k e' = rw (← e', q.goes_on_is) (carried_line n s w l at end f h e z g)

  pub line_onward : goes_on r ≡ true → Leads d (end_of r) (carried (n + 1) u v (pieces (drop (end + 1) l))) b 0 t
  line_onward k = rw (q.state_is, q.windows_are) (leads_on b 0 t c next _ (form_turn n s w f).text _ d (end_of r) p (left true k) q.text_is)

  pub line_stop : goes_on r ≡ false → Wrote b 0 t d (end_of r)
  line_stop k = leads_last b 0 t c next _ (form_turn n s w f).text d (end_of r) p (left false k ∙ append-nil (form_turn n s w f).text) q.text_is

-- ---- the whole

-- the fresh state with all vectors loaded
pub start_is : (s : State) → s ≡ fresh → made s.general s.special s.pc s.halt 0x1FF s.mask ≡ start
unfolding start fresh
start_is s e = ap (λ (u : State). made u.general u.special u.pc u.halt 0x1FF u.mask) e

module _ (l b c : List ℕ) (r : ℕ) where
  pub prints_long : script_most < length l → Wrote b 0 (bad_text 0) c r → (c ≡ written b 0 (printed l)) × (r ≡ length (printed l))
  unfolding printed
  prints_long h p = rw (lt-leb (length l) script_most h) (p.bytes_are, omega (arith, p.end_is))

  pub prints_carried : length l ≤ script_most → (s : State) (w : Windows) → s ≡ start → w ≡ windows → Wrote b 0 (carried 1 s w (pieces l)) c r
      → (c ≡ written b 0 (printed l)) × (r ≡ length (printed l))
  unfolding printed
  prints_carried h s w e f p =
      let k : carried 1 s w (pieces l) ≡ carried 1 start windows (pieces l) = ap (λ (u : State). carried 1 u w (pieces l)) e ∙ ap (λ (v : Windows). carried 1 start v (pieces l)) f in
      rw (le-leb (length l) script_most h) (p.bytes_are ∙ ap (written b 0) k, omega (arith, p.end_is, ap length k))
