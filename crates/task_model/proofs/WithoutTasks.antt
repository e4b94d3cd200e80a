-- The claim without tasks follows: it is that of one task whose part is the whole of B. Then 32 refuses nothing, a turn is the step, and so is a list's.
use Rattle.model.proofs.Prelude.{suc, zero, ℕ, ◌+◌, false, List, [], ◌∷◌, ◌≢◌, ap, refl, subst, sym, ◌∙◌, ◌≡◌, arith, eqb, get_or, length, set, after, AtPop}
use Rattle.model.proofs.Prelude.{GivesBack, opcode_of, pop_after, PopMet, Private, SameOutside, Within, hole, needs_of, Ran, run_needs_by, runs, step_on, both}
use Rattle.model.proofs.Prelude.{inside, Shapes, shapes_of, Windows, op_pop, All, map_outcome, Off, Outcome, perform, fresh, r_o, sp, fetched, fetched_of, Item}
use Rattle.model.proofs.Prelude.{item_plan, mmix, refusing, step, step_of, by_fetch, by_step, done_by, item_by, MetBy, Way, on, both_lawful, needs_map}
use Rattle.model.proofs.Prelude.{perform_shape}
use Rattle.task_model.proofs.Prelude.{needs, State}
use Rattle.task_model.specs.Tasks.{Own, refusing_in, task_of, Turn, turn, turn_judge, turn_plan, studies, without32, turn_needs}
use Rattle.task_model.specs.TaskDemand.{TasksAlike, turn_on, after_turns, pop_in, PopMetIn, GivesBackTo, PrivateTo, WithoutTasks}
use Rattle.task_model.proofs.Judge.{whole, whole_judge}
use Rattle.task_model.proofs.Callers.{turn_does}

-- ---- the whole of B as a part

never_32 : (w : Shapes) (xs : List ℕ) → without32 (refusing w) xs ≡ xs
unfolding without32
never_32 w [] = refl
never_32 w (a ∷ xs) = rw other (ap (λ (l : List ℕ). a ∷ l) (never_32 w xs))
  where
    other : eqb (refusing w a) 32 ≡ false
    other = unfold refusing in (on (λ (r : ℕ). eqb r 32 ≡ false) (inside w a) (λ e. refl) (λ e. refl))

-- ---- one task

-- its turns
unfoldable turns_of : Shapes → List Item → List Turn
turns_of w [] = []
turns_of w (i ∷ is) = turn 0 (whole w) i ∷ turns_of w is

-- its outcome, and what its list leaves
abbrev alone : Outcome State Windows → Outcome (List State) Windows
alone o = record { reply = o.reply; state = o.state ∷ []; memory = o.memory }

abbrev ran_alone : Ran State Windows → Ran (List State) Windows
ran_alone r = record { answers = r.answers; state = r.state ∷ []; memory = r.memory }

pub mmix_shape : (s : State) (m : Windows) (i : Item) → shapes_of (step_on both mmix s m i).memory ≡ shapes_of m
unfolding step_on both
mmix_shape s m i = perform_shape both both_lawful (mmix.judge s (both.shape m) i) s (mmix.plan s (both.shape m) i) m

runs_shape : (is : List Item) (s : State) (m : Windows) → shapes_of (runs both mmix s m is).memory ≡ shapes_of m
unfolding runs
runs_shape [] s m = refl
runs_shape (i ∷ is) s m = runs_shape is (step_on both mmix s m i).state (step_on both mmix s m i).memory ∙ mmix_shape s m i

module _ (sh : Shapes) where
  judge_is : (m : Windows) → shapes_of m ≡ sh → refusing_in (whole sh) (shapes_of m) ≡ refusing (shapes_of m)
  judge_is m e = rw e (λ i. λ a. whole_judge sh a i)

  -- a turn of any task on the whole of B is a step
  pub turn_whole : (k : ℕ) (ss : List State) (m : Windows) (i : Item) → shapes_of m ≡ sh
      → step_on both studies ss m (turn k (whole sh) i) ≡ map_outcome (λ t. set ss k t) (step_on both mmix (task_of ss k) m i)
  turn_whole k ss m i e =
      turn_does k (whole sh) ss m i
      ∙ ap (λ (j : ℕ → ℕ). map_outcome (λ (t : State). set ss k t) (perform both j (task_of ss k) (item_plan (task_of ss k) (shapes_of m) i) m)) (judge_is m e)
      ∙ (unfold step_on mmix both in refl)

  pub needs_whole : (k : ℕ) (ss : List State) (m : Windows) (i : Item) → shapes_of m ≡ sh → turn_needs ss m (turn k (whole sh) i) ≡ needs_of both mmix (task_of ss k) m i
  unfolding turn_needs needs_of studies turn_judge turn_plan mmix both
  needs_whole k ss m i e =
      ap (without32 (refusing_in (whole sh) (shapes_of m))) (needs_map both (λ t. set ss k t) (refusing_in (whole sh) (shapes_of m)) (item_plan (task_of ss k) (shapes_of m) i) m)
      ∙ ap (λ (j : ℕ → ℕ). without32 j (needs both j (item_plan (task_of ss k) (shapes_of m) i) m)) (judge_is m e) ∙ never_32 (shapes_of m) _

  turn_alone : (s : State) (m : Windows) (i : Item) → shapes_of m ≡ sh → step_on both studies (s ∷ []) m (turn 0 (whole sh) i) ≡ alone (step_on both mmix s m i)
  turn_alone s m i e = turn_whole 0 (s ∷ []) m i e ∙ (unfold map_outcome in refl)

  needs_alone : (s : State) (m : Windows) (i : Item) → shapes_of m ≡ sh → turn_needs (s ∷ []) m (turn 0 (whole sh) i) ≡ needs_of both mmix s m i
  needs_alone s m i e = needs_whole 0 (s ∷ []) m i e

  runs_alone : (is : List Item) (s : State) (m : Windows) → shapes_of m ≡ sh → runs both studies (s ∷ []) m (turns_of sh is) ≡ ran_alone (runs both mmix s m is)
  unfolding turns_of runs
  runs_alone [] s m e = refl
  runs_alone (i ∷ is) s m e = rw (turn_alone s m i e, runs_alone is (step_on both mmix s m i).state (step_on both mmix s m i).memory (mmix_shape s m i ∙ e))

  run_needs_alone : (is : List Item) (s : State) (m : Windows) → shapes_of m ≡ sh
      → run_needs_by both studies turn_needs (s ∷ []) m (turns_of sh is) ≡ run_needs_by both mmix (needs_of both mmix) s m is
  unfolding turns_of run_needs_by
  run_needs_alone [] s m e = refl
  run_needs_alone (i ∷ is) s m e =
      rw (turn_alone s m i e, needs_alone s m i e, run_needs_alone is (step_on both mmix s m i).state (step_on both mmix s m i).memory (mmix_shape s m i ∙ e))

  step_alone : (s : State) (m : Windows) (op x y z : ℕ) → shapes_of m ≡ sh → turn_on (whole sh) m (s ∷ []) 0 (step op x y z) ≡ alone (step_of m s op x y z)
  step_alone s m op x y z e = turn_alone s m (step op x y z) e ∙ (unfold step_on mmix step_of item_plan both in refl)

  way_alone : (s : State) (m : Windows) (op : ℕ) (u : Way) → shapes_of m ≡ sh → turn_on (whole sh) m (s ∷ []) 0 (item_by u op) ≡ alone (done_by u op m s)
  way_alone s m op (by_step x y z) e = step_alone s m op x y z e
  way_alone s m op by_fetch e = turn_alone s m fetched e ∙ (unfold step_on mmix fetched_of item_plan both in refl)

  -- from the tasks' claim to 01's, a and b the outcomes of the call
  module _ (h : ℕ) (is : List Item) where
    after_alone : (o : Outcome State Windows) → shapes_of o.memory ≡ sh → after_turns (alone o) (turns_of sh is) ≡ ran_alone (after o is)
    after_alone o e = runs_alone is o.state o.memory e

    back_alone : (q : State) (o : Outcome State Windows) → shapes_of o.memory ≡ sh → (u : Way)
        → GivesBackTo 0 h q (pop_in (whole sh) (after_turns (alone o) (turns_of sh is)) 0 u) → GivesBack h q (pop_after (after o is) u)
    back_alone q o e u g =
        let p : pop_in (whole sh) (after_turns (alone o) (turns_of sh is)) 0 u ≡ alone (pop_after (after o is) u)
        = ap (λ (r : Ran (List State) Windows). pop_in (whole sh) r 0 u) (after_alone o e)
        ∙ way_alone (after o is).state (after o is).memory op_pop u (runs_shape is o.state o.memory ∙ e) in
        let b : GivesBackTo 0 h q (alone (pop_after (after o is) u)) = subst (GivesBackTo 0 h q) p g in
        record { done = b.done; locals = b.locals }

    met_alone : (o : Outcome State Windows) → shapes_of o.memory ≡ sh → (u : Way) → PopMet (after o is) u → PopMetIn (whole sh) (after_turns (alone o) (turns_of sh is)) 0 u
    met_alone o e u m =
        let r : Ran State Windows = after o is in
        subst (λ (x : Ran (List State) Windows). PopMetIn (whole sh) x 0 u) (sym (after_alone o e))
        (subst (λ (j : ℕ → ℕ). MetBy op_pop j r.memory r.state u) (sym (judge_is r.memory (runs_shape is o.state o.memory ∙ e))) m)

    private_alone : (s t : State) (a b : Outcome State Windows) → shapes_of a.memory ≡ sh → shapes_of b.memory ≡ sh
        → PrivateTo (whole sh) 0 h s t (alone a) (alone b) (turns_of sh is) → Private h s t a b is
    private_alone s t a b ea eb p =
        let ra : after_turns (alone a) (turns_of sh is) ≡ ran_alone (after a is) = after_alone a ea in
        let rb : after_turns (alone b) (turns_of sh is) ≡ ran_alone (after b is) = after_alone b eb in
        let at_pop_law : AtPop h (sp a.state r_o) (after a is).state → AtPop h (sp a.state r_o) (task_of (after_turns (alone a) (turns_of sh is)).state 0)
        = subst (λ (r : Ran (List State) Windows). AtPop h (sp a.state r_o) (task_of r.state 0)) (sym ra) in
        record {
          call_same = p.call_same;
          answers_same = ap (λ (r : Ran (List State) Windows). r.answers) (sym ra) ∙ p.answers_same ∙ ap (λ (r : Ran (List State) Windows). r.answers) rb;
          state_same = ap (λ (r : Ran (List State) Windows). task_of r.state 0) (sym ra) ∙ ap (λ (q : List State). task_of q 0) p.states_same
              ∙ ap (λ (r : Ran (List State) Windows). task_of r.state 0) rb;
          window_same = subst (λ (r : Ran (List State) Windows). SameOutside (Within (sp s r_o) h) (after a is).memory r.memory) rb
              (subst (λ (r : Ran (List State) Windows). SameOutside (Within (sp s r_o) h) r.memory (after_turns (alone b) (turns_of sh is)).memory) ra p.window_same);
          first_back = λ at u m. back_alone s a ea u (p.first_back (at_pop_law at) u (met_alone a ea u m));
          second_back = λ at u m. back_alone t b eb u (p.second_back (at_pop_law at) u (met_alone b eb u m));
        }

step_shape : (w : Windows) (s : State) (op x y z : ℕ) → shapes_of (step_of w s op x y z).memory ≡ shapes_of w
unfolding step_of step_on mmix item_plan both
step_shape w s op x y z = mmix_shape s w (step op x y z)

pub without_tasks : WithoutTasks
without_tasks claim w s t c x y z is ns nt ws wt alike done pcs off =
    let sh : Shapes = shapes_of w in
    let p : Own = whole (shapes_of w) in
    let a : Outcome State Windows = step_of w s (opcode_of c) x y z in
    let b : Outcome State Windows = step_of w t (opcode_of c) x y z in
    let la : turn_on p w (s ∷ []) 0 (step (opcode_of c) x y z) ≡ alone a = step_alone sh s w (opcode_of c) x y z refl in
    let lb : turn_on p w (t ∷ []) 0 (step (opcode_of c) x y z) ≡ alone b = step_alone sh t w (opcode_of c) x y z refl in
    let ea : shapes_of a.memory ≡ sh = step_shape w s (opcode_of c) x y z in
    let eb : shapes_of b.memory ≡ sh = step_shape w t (opcode_of c) x y z in
    let al : TasksAlike 0 (hole s x) (s ∷ []) (t ∷ []) = record { count_same = refl; caller = alike; others = λ k n. none_else k n } in
    private_alone sh (hole s x) is s t a b ea eb
    (subst (λ (o : Outcome (List State) Windows). PrivateTo p 0 (hole s x) s t o (alone b) (turns_of sh is)) la
    (subst (λ (o : Outcome (List State) Windows). PrivateTo p 0 (hole s x) s t (turn_on p w (s ∷ []) 0 (step (opcode_of c) x y z)) o (turns_of sh is)) lb
    (claim p w (s ∷ []) (t ∷ []) 0 c x y z (turns_of sh is) tt (unfold length in omega arith) ns nt ws wt al
    (ap (λ (o : Outcome (List State) Windows). o.reply) la ∙ done)
    (ap (λ (o : Outcome (List State) Windows). (task_of o.state 0).pc) la ∙ pcs ∙ sym (ap (λ (o : Outcome (List State) Windows). (task_of o.state 0).pc) lb))
    (subst (λ (o : Outcome (List State) Windows). All (Off (Within (sp s r_o) (hole s x + 1))) (run_needs_by both studies turn_needs o.state o.memory (turns_of sh is))) (sym la)
    (subst (All (Off (Within (sp s r_o) (hole s x + 1)))) (sym (run_needs_alone sh is a.state a.memory ea)) off)))))
  where
    none_else : (k : ℕ) → k ≢ 0 → get_or (s ∷ []) k fresh ≡ get_or (t ∷ []) k fresh
    none_else zero n = absurd (n refl)
    none_else (suc k) n = refl
