-- The theorem `Grammar`: the one text of a form is read as that form, and a line that is read as a form is its text.
use Rattle.model.proofs.Prelude.{ℕ, Bool, cond, false, true, ◌&&◌, List, [], ◌∷◌, ap, refl, sym, ◌∙◌, ◌≡◌, arith, ltb, get_or, length, lt-ltb, ltb-true, All}
use Rattle.model.proofs.Prelude.{and_left, and_right}
use Rattle.script.proofs.Prelude.{None, Option, Some, codes, filled}
use Rattle.script.specs.Line.{register_line, special_line, step_line, matched, register_form, special_form, step_form, line_of, text_of, FormFits, Grammar}
use Rattle.script.specs.declared.line.Form.{Form}
use Rattle.script.specs.declared.line.Form.TheVariants.{Register, Special, Step}
use Rattle.script.proofs.Matching.{filled_matched, Filling, matched_filled}
use Rattle.script.proofs.Forms.{register_clear, special_clear, step_clear, register_marks, special_marks, step_marks, line_register, line_special, line_step, line_bad}

-- ---- a form's text is read

special_first : (vs : List ℕ) → matched register_line (filled special_line vs) ≡ None
unfolding register_line special_line codes filled matched
special_first vs = refl

step_first : (vs : List ℕ) → matched register_line (filled step_line vs) ≡ None
unfolding register_line step_line codes filled matched
step_first vs = refl

step_second : (vs : List ℕ) → matched special_line (filled step_line vs) ≡ None
unfolding special_line step_line codes filled matched
step_second vs = refl

text_read : (f : Form) → FormFits f → line_of (text_of f) ≡ Some f
unfolding FormFits text_of register_form special_form step_form All
text_read (Register a) h =
    let vs : List ℕ = a.index ∷ a.value ∷ [] in
    line_register _ vs (filled_matched register_line vs register_clear (sym register_marks) (omega arith, (h.1, tt))) ∙ rw (lt-ltb a.index 256 h.0)
text_read (Special a) h =
    let vs : List ℕ = a.index ∷ a.value ∷ [] in
    line_special _ vs (special_first vs) (filled_matched special_line vs special_clear (sym special_marks) (omega arith, (h.1, tt))) ∙ rw (lt-ltb a.index 32 h.0)
text_read (Step i) h =
    let vs : List ℕ = i.op ∷ i.x ∷ i.y ∷ i.z ∷ [] in
    line_step _ vs (step_first vs) (step_second vs) (filled_matched step_line vs step_clear (sym step_marks) (omega arith, (omega arith, (omega arith, (omega arith, tt)))))
    ∙ rw (lt-ltb i.op 256 h.0, lt-ltb i.x 256 h.1, lt-ltb i.y 256 h.2, lt-ltb i.z 256 h.3)

-- ---- and nothing else

abbrev Says : List ℕ → Option Form → Type 0
Says l o = (f : Form) → o ≡ Some f → FormFits f × (text_of f ≡ l)

none_some : {f : Form} → ◌≡◌ {A = Option Form} None (Some f) → ⊥
none_some e = let z : ◌≡◌ {A = ℕ} 0 1 = cc in omega arith

says : (t : Bool) (g : Form) (l : List ℕ) → (t ≡ true → FormFits g × (text_of g ≡ l)) → Says l (cond t (Some g) None)
says true g l h f e = let q : g ≡ f = cc in rw (← q) (h refl)
says false g l h f e = absurd (none_some e)

-- a list by its elements
two : (vs : List ℕ) → length vs ≡ 2 → vs ≡ get_or vs 0 0 ∷ get_or vs 1 0 ∷ []
two [] e = absurd (omega arith)
two (a ∷ []) e = absurd (omega arith)
two (a ∷ b ∷ []) e = refl
two (a ∷ b ∷ c ∷ vs) e = absurd (omega arith)

four : (vs : List ℕ) → length vs ≡ 4 → vs ≡ get_or vs 0 0 ∷ get_or vs 1 0 ∷ get_or vs 2 0 ∷ get_or vs 3 0 ∷ []
four [] e = absurd (omega arith)
four (a ∷ b ∷ vs) e = ap (λ (l : List ℕ). a ∷ b ∷ l) (two vs (omega arith))
four (a ∷ []) e = absurd (omega arith)

register_says : (l vs : List ℕ) → Filling register_line l vs → Says l (register_form vs)
unfolding FormFits text_of register_form All
register_says l vs f =
    let g : Filling register_line l (get_or vs 0 0 ∷ get_or vs 1 0 ∷ []) = rw (two vs (f.count ∙ register_marks)) at f in
    says (ltb (get_or vs 0 0) 256) _ l (λ e. ((ltb-true _ _ e, g.words.1.0), g.text))

special_says : (l vs : List ℕ) → Filling special_line l vs → Says l (special_form vs)
unfolding FormFits text_of special_form All
special_says l vs f =
    let g : Filling special_line l (get_or vs 0 0 ∷ get_or vs 1 0 ∷ []) = rw (two vs (f.count ∙ special_marks)) at f in
    says (ltb (get_or vs 0 0) 32) _ l (λ e. ((ltb-true _ _ e, g.words.1.0), g.text))

step_says : (l vs : List ℕ) → Filling step_line l vs → Says l (step_form vs)
unfolding FormFits text_of step_form
step_says l vs f =
    let b : ℕ → Bool = λ k. ltb (get_or vs k 0) 256 in
    let g : Filling step_line l (get_or vs 0 0 ∷ get_or vs 1 0 ∷ get_or vs 2 0 ∷ get_or vs 3 0 ∷ []) = rw (four vs (f.count ∙ step_marks)) at f in
    says (b 0 && (b 1 && (b 2 && b 3))) _ l (λ e.
    let e1 : (b 1 && (b 2 && b 3)) ≡ true = and_right (b 0) _ e in
    let e2 : (b 2 && b 3) ≡ true = and_right (b 1) _ e1 in
    ((ltb-true _ _ (and_left (b 0) _ e), ltb-true _ _ (and_left (b 1) _ e1), ltb-true _ _ (and_left (b 2) _ e2), ltb-true _ _ (and_right (b 2) _ e2)), g.text))

line_says : (l : List ℕ) → Says l (line_of l)
line_says l = go (matched register_line l) refl (matched special_line l) refl (matched step_line l) refl
  where
    go : (a : Option (List ℕ)) → matched register_line l ≡ a → (b : Option (List ℕ)) → matched special_line l ≡ b
        → (c : Option (List ℕ)) → matched step_line l ≡ c → Says l (line_of l)
    go (Some vs) e b f c g = rw (line_register l vs e) (register_says l vs (matched_filled register_line l vs register_clear e))
    go None e (Some vs) f c g = rw (line_special l vs e f) (special_says l vs (matched_filled special_line l vs special_clear f))
    go None e None f (Some vs) g = rw (line_step l vs e f g) (step_says l vs (matched_filled step_line l vs step_clear g))
    go None e None f None g = rw (line_bad l e f g) (λ f' q. absurd (none_some q))

pub grammar : Grammar
grammar = record { read = text_read; nothing_else = line_says }
