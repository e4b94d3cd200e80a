-- Theorem 9: the order of judging. A run that is there or not; then GET and PUT, SAVE, POP, UNSAVE and the exception.
use Rattle.model.proofs.Logic.{ℕ, ◌%◌, ◌*◌, ◌+◌, ◌-◌, ◌<◌, ◌^◌, ◌≤◌, Bool, false, true, List, ◌≢◌, ap, refl, ◌∙◌, ◌≡◌, arith, count_leading_zeros, get_or, length}
use Rattle.model.proofs.Logic.{le-leb, le-ltb, lt-leb, lt-ltb, ne_eqb}
use Rattle.model.specs.Fill.{tab}
use Rattle.model.specs.Registers.{r_j, r_o, r_g, sp, reg, hides, admissible, next, halted, with_special}
use Rattle.model.specs.Memory.{Windows, shapes_of, ruled, shares, inside, both}
use Rattle.model.specs.Plan.{Plan, answer, read, clear, named, looks, perform}
use Rattle.model.specs.Opcodes.{Operand, put, arm_of, system}
use Rattle.model.specs.NoMemory.{say, refuse, tell}
use Rattle.model.specs.Control.{yz_of}
use Rattle.model.specs.Frames.{no_frame, misplaced, pop_rule, pop_frame}
use Rattle.model.specs.Contexts.{extent, saved, saved_state, save_context, below, unsaved, context_rest, context_count, context_at, unsave_context}
use Rattle.model.specs.System.{unless_hidden, put_special, get_special}
use Rattle.model.specs.Trips.{enabled, is_loaded, with_added, trip_to, raised}
use Rattle.model.specs.Step.{refusal_of, unruled_by, refusing, plan_of, step_of, exception_of}
use Rattle.model.specs.Order.{refused_by, halted_by, Passes, Packed, Counted, StepsInOrder}
use Rattle.model.specs.declared.State.{State}
use Rattle.model.proofs.Runs.{length_tab}
use Rattle.model.proofs.StepAnswers.{worst_six}
use Rattle.model.proofs.Entry.{perform_on, said, step_open, unruled_two, unruled_shared}
use Rattle.model.proofs.StepByArm.{passing, step_told, step_refused, step_inadmissible, step_unruled}
use Rattle.model.proofs.Rules.{has_clear}
use Rattle.model.proofs.Mask.{hidden_special}

-- ---- 1 to 5, and 22

one_first : (w : Windows) (s : State) (op x y z : ℕ) → admissible s ≡ false → step_of w s op x y z ≡ refused_by 1 w s
one_first = step_inadmissible

two_next : (w : Windows) (s : State) (op x y z : ℕ) → admissible s ≡ true → ruled (shapes_of w) ≡ false → step_of w s op x y z ≡ refused_by 2 w s
two_next w s op x y z a r = let n : unruled_by (shapes_of w) ≡ 2 = unruled_two (shapes_of w) r in step_unruled w s op x y z a (λ e. omega arith) ∙ rw n

twenty_two : (w : Windows) (s : State) (op x y z : ℕ) → admissible s ≡ true → ruled (shapes_of w) ≡ true → shares (shapes_of w) ≡ true → step_of w s op x y z ≡ refused_by 22 w s
twenty_two w s op x y z a r h = let n : unruled_by (shapes_of w) ≡ 22 = unruled_shared (shapes_of w) r h in step_unruled w s op x y z a (λ e. omega arith) ∙ rw n

three_to_five : (w : Windows) (s : State) (op x y z : ℕ) → Passes w s → refusal_of (arm_of op) x y z ≢ 0 → step_of w s op x y z ≡ refused_by (refusal_of (arm_of op) x y z) w s
three_to_five w s op x y z h n = step_refused w s h.admitted (passing w s h) op x y z (refusal_of (arm_of op) x y z) refl (nonzero (refusal_of (arm_of op) x y z) n)
  where
    nonzero : (r : ℕ) → r ≢ 0 → 1 ≤ r
    nonzero r f = omega arith

-- ---- runs

there : (w : Windows) (s : State) (a n : ℕ) (k : List ℕ → Plan State) → clear (refusing (shapes_of w)) a n ≡ true
    → perform_on w s (read 6 a n k) ≡ perform_on w s (k (looks both w a n))
unfolding perform
there w s a n k e = rw e

missed : (w : Windows) (s : State) (a n : ℕ) (k : List ℕ → Plan State) → clear (refusing (shapes_of w)) a n ≡ false → perform_on w s (read 6 a n k) ≡ refused_by 6 w s
unfolding perform named
missed w s a n k e = rw (e, worst_six (shapes_of w) n a e)

missed_store : (w : Windows) (s t : State) (a : ℕ) (vs : List ℕ) → clear (refusing (shapes_of w)) a (length vs) ≡ false → perform_on w s (answer 0 t a vs) ≡ refused_by 6 w s
unfolding perform
missed_store w s t a vs e = rw (e, worst_six (shapes_of w) (length vs) a e)

one_there : (w : Windows) (a : ℕ) (b : Bool) → inside (shapes_of w) a ≡ b → clear (refusing (shapes_of w)) a 1 ≡ b
one_there w a b e = has_clear (shapes_of w) a ∙ e

-- ---- GET and PUT

get_thirty_one : (w : Windows) (s : State) (x y z : ℕ) → Passes w s → hides s.mask z ≡ true → step_of w s 0xFE x y z ≡ halted_by 31 w s
get_thirty_one w s x y z h e = step_told w s h.admitted (passing w s h) 0xFE x y z (refuse 31 s)
    (unfold refusal_of arm_of in (rw (le-ltb 31 z (hidden_special s.mask z e)))) (unfold plan_of arm_of get_special unless_hidden in (rw e))

put_thirty_one : (w : Windows) (s : State) (op x y z : ℕ) (o : Operand) → arm_of op ≡ system (put o) → Passes w s → hides s.mask x ≡ true → step_of w s op x y z ≡ halted_by 31 w s
put_thirty_one w s op x y z o a h e = step_told w s h.admitted (passing w s h) op x y z (refuse 31 s) (unfold refusal_of in (rw a)) (unfold plan_of put_special unless_hidden in (rw (a, e)))

-- ---- SAVE

save_open : (w : Windows) (s : State) (x y z : ℕ) → Passes w s → step_of w s 0xFA x y z ≡ perform_on w s (save_context s x)
unfolding plan_of refusal_of arm_of
save_open w s x y z h = step_open w s 0xFA x y z h.admitted (passing w s h) refl

save_thirteen : (w : Windows) (s : State) (x y z : ℕ) → Passes w s → x < sp s r_g → step_of w s 0xFA x y z ≡ halted_by 13 w s
unfolding save_context tell
save_thirteen w s x y z h l = save_open w s x y z h ∙ rw (lt-ltb x (sp s r_g) l) (said w s (halted s) 13)

save_six : (w : Windows) (s : State) (x y z : ℕ) → Passes w s → sp s r_g ≤ x → clear (refusing (shapes_of w)) (sp s r_o) (extent s) ≡ false → step_of w s 0xFA x y z ≡ refused_by 6 w s
unfolding save_context
save_six w s x y z h l e =
    save_open w s x y z h ∙ rw (le-ltb x (sp s r_g) l) (missed_store w s (next (saved_state s x)) (sp s r_o) (tab 0 (extent s) (saved s)) (rw (length_tab (extent s) 0 (saved s)) e))

-- ---- POP

pop_open : (w : Windows) (s : State) (x y z : ℕ) → Passes w s → step_of w s 0xF8 x y z ≡ perform_on w s (pop_frame s x ((sp s r_j + 4 * yz_of y z) % 2 ^ 64))
unfolding plan_of refusal_of arm_of
pop_open w s x y z h = step_open w s 0xF8 x y z h.admitted (passing w s h) refl

pop_twenty_nine : (w : Windows) (s : State) (x y z : ℕ) → Passes w s → no_frame s ≡ true → step_of w s 0xF8 x y z ≡ halted_by 29 w s
unfolding pop_frame tell
pop_twenty_nine w s x y z h e = pop_open w s x y z h ∙ rw e (said w s (halted s) 29)

pop_twelve : (w : Windows) (s : State) (x y z : ℕ) → Passes w s → no_frame s ≡ false → misplaced s ≡ true → step_of w s 0xF8 x y z ≡ halted_by 12 w s
unfolding pop_frame tell
pop_twelve w s x y z h a b = pop_open w s x y z h ∙ rw (a, b) (said w s (halted s) 12)

pop_six : (w : Windows) (s : State) (x y z : ℕ) → Passes w s → no_frame s ≡ false → misplaced s ≡ false → inside (shapes_of w) (sp s r_o - 8) ≡ false → step_of w s 0xF8 x y z ≡ refused_by 6 w s
unfolding pop_frame pop_rule
pop_six w s x y z h a b e = pop_open w s x y z h ∙ rw (a, b) (missed w s (sp s r_o - 8) 1 _ (one_there w (sp s r_o - 8) false e))

-- ---- UNSAVE

found : State → ℕ → ℕ → ℕ → ℕ → List ℕ → State
found s o g a l vs = next (unsaved s o g a l vs)

unsave_open : (w : Windows) (s : State) (x y z : ℕ) → Passes w s → step_of w s 0xFB x y z ≡ perform_on w s (unsave_context s (reg s z))
unfolding plan_of refusal_of arm_of
unsave_open w s x y z h = step_open w s 0xFB x y z h.admitted (passing w s h) refl

unsave_packed : (w : Windows) (s : State) (x y z : ℕ) → Passes w s → inside (shapes_of w) (reg s z) ≡ false → step_of w s 0xFB x y z ≡ refused_by 6 w s
unfolding unsave_context context_at
unsave_packed w s x y z h e = unsave_open w s x y z h ∙ missed w s (reg s z) 1 _ (one_there w (reg s z) false e)

-- the packed octabyte is there: what follows it
packed_open : (w : Windows) (s : State) (x y z g a : ℕ) → Passes w s → Packed w (reg s z) g a
    → step_of w s 0xFB x y z ≡ perform_on w s (context_count (halted s) (found s) (reg s z) g a)
unfolding unsave_context context_at looks found
packed_open w s x y z g a h p =
    unsave_open w s x y z h ∙ there w s (reg s z) 1 _ (one_there w (reg s z) true p.there)
    ∙ rw (p.threshold, p.status)

unsave_fourteen : (w : Windows) (s : State) (x y z g a : ℕ) → Passes w s → Packed w (reg s z) g a → g < 32 → step_of w s 0xFB x y z ≡ halted_by 14 w s
unfolding context_count
unsave_fourteen w s x y z g a h p l = packed_open w s x y z g a h p ∙ rw (lt-leb 32 g l) (said w s (halted s) 14)

unsave_fifteen : (w : Windows) (s : State) (x y z g a : ℕ) → Passes w s → Packed w (reg s z) g a → 32 ≤ g → g ≤ 255 → 0x3FFFF < a → step_of w s 0xFB x y z ≡ halted_by 15 w s
unfolding context_count
unsave_fifteen w s x y z g a h p l m b = packed_open w s x y z g a h p ∙ rw (le-leb 32 g l, le-leb g 255 m, lt-leb a 0x3FFFF b) (said w s (halted s) 15)

-- rG and rA pass: the count
count_open : (w : Windows) (s : State) (x y z g a : ℕ) → Passes w s → Packed w (reg s z) g a → 32 ≤ g → g ≤ 255 → a ≤ 0x3FFFF
    → step_of w s 0xFB x y z ≡ perform_on w s (read 6 (below (reg s z) (269 - g)) 1 (λ v. context_rest (halted s) (found s) (reg s z) g a (get_or v 0 0)))
unfolding context_count
count_open w s x y z g a h p l m b = packed_open w s x y z g a h p ∙ rw (le-leb 32 g l, le-leb g 255 m, le-leb a 0x3FFFF b)

unsave_count : (w : Windows) (s : State) (x y z g a : ℕ) → Passes w s → Packed w (reg s z) g a → 32 ≤ g → g ≤ 255 → a ≤ 0x3FFFF
    → inside (shapes_of w) (below (reg s z) (269 - g)) ≡ false → step_of w s 0xFB x y z ≡ refused_by 6 w s
unsave_count w s x y z g a h p l m b e =
    count_open w s x y z g a h p l m b ∙ missed w s (below (reg s z) (269 - g)) 1 _ (one_there w (below (reg s z) (269 - g)) false e)

rest_open : (w : Windows) (s : State) (x y z g a l : ℕ) → Passes w s → Counted w (reg s z) g a l
    → step_of w s 0xFB x y z ≡ perform_on w s (context_rest (halted s) (found s) (reg s z) g a l)
unfolding looks
rest_open w s x y z g a l h p =
    count_open w s x y z g a h p.packed p.least p.most p.status_fits
    ∙ there w s (below (reg s z) (269 - g)) 1 _ (one_there w (below (reg s z) (269 - g)) true p.count_there)
    ∙ ap (λ (n : ℕ). perform_on w s (context_rest (halted s) (found s) (reg s z) g a n)) p.count

unsave_sixteen : (w : Windows) (s : State) (x y z g a l : ℕ) → Passes w s → Counted w (reg s z) g a l → g < l → step_of w s 0xFB x y z ≡ halted_by 16 w s
unfolding context_rest
unsave_sixteen w s x y z g a l h p b = rest_open w s x y z g a l h p ∙ rw (lt-leb l g b) (said w s (halted s) 16)

unsave_rest : (w : Windows) (s : State) (x y z g a l : ℕ) → Passes w s → Counted w (reg s z) g a l → l ≤ g
    → clear (refusing (shapes_of w)) (below (reg s z) (l + 269 - g)) (l + 270 - g) ≡ false → step_of w s 0xFB x y z ≡ refused_by 6 w s
unfolding context_rest
unsave_rest w s x y z g a l h p b e = rest_open w s x y z g a l h p ∙ rw (le-leb l g b) (missed w s (below (reg s z) (l + 269 - g)) (l + 270 - g) _ e)

-- ---- exceptions

exception_one : (s : State) (f op x y z u v : ℕ) → admissible s ≡ false → exception_of s f op x y z u v ≡ say 1 s
unfolding exception_of
exception_one s f op x y z u v e = rw e

exception_nineteen : (s : State) (f op x y z u v : ℕ) → admissible s ≡ true → enabled s f ≢ 0 → is_loaded s (count_leading_zeros 8 (enabled s f) + 1) ≡ false
    → (exception_of s f op x y z u v).reply ≡ 19
unfolding exception_of raised trip_to with_added with_special
exception_nineteen s f op x y z u v a n e = rw (a, ne_eqb (enabled s f) 0 n, e)

pub steps_in_order : StepsInOrder
steps_in_order = record {
  one_first = one_first;
  two_next = two_next;
  twenty_two = twenty_two;
  three_to_five = three_to_five;
  get_thirty_one = get_thirty_one;
  put_thirty_one = put_thirty_one;
  save_thirteen = save_thirteen;
  save_six = save_six;
  pop_twenty_nine = pop_twenty_nine;
  pop_twelve = pop_twelve;
  pop_six = pop_six;
  unsave_packed = unsave_packed;
  unsave_fourteen = unsave_fourteen;
  unsave_fifteen = unsave_fifteen;
  unsave_count = unsave_count;
  unsave_sixteen = unsave_sixteen;
  unsave_rest = unsave_rest;
  exception_one = exception_one;
  exception_nineteen = exception_nineteen;
}
