-- Instances of the theorems on lists of calls, all hypotheses computed. The program is that of model's Instance, on one struct: a run of mmix_run_parts in which PUSHJ
-- and POP are fetched; and PUSHJ by mmix_step_parts, with a run as the list.
use Rattle.model.proofs.Prelude.{suc, zero, ℕ, ◌*◌, ◌+◌, ◌<◌, true, append-nil, List, [], ◌++◌, ◌∷◌, inl, ◌≢◌, refl, subst, sym, ◌∙◌, ◌≡◌, arith, set, start}
use Rattle.model.proofs.Prelude.{target_of, PUSHJ, indexed, over, tab, within, count_of, framed, hole, last_output, misplaced, no_frame, pop_frame, popped, pop_rule}
use Rattle.model.proofs.Prelude.{pop_to, pushed, pushed_rule, push_frame, restored, slid, slide, unslide, needs_of, run_needs_by, runs, step_on, bytes_in, operand_in}
use Rattle.model.proofs.Prelude.{unit_at, both, has, inside, octa_at, octa_bytes, offset, put_octa, ruled, ruled_one, shape_of, shapes_of, shares, write_octa, tell}
use Rattle.model.proofs.Prelude.{bytes_of, octa, part, value_of, written, arm_of, op_pop, look, looks, map_plan, missing, named, perform, puts, ups, worst}
use Rattle.model.proofs.Prelude.{admissible, claim_local, cleared, fresh, goes, halted, hideable, hides, reg, r_o, set_register, sp, spilled, stored, with_special}
use Rattle.model.proofs.Prelude.{run_for, run_of, claims, fetched, fetched_plan, from_three, guarded, instruction_plan, Item, item_plan, keeps_claim, mmix, opcode_in}
use Rattle.model.proofs.Prelude.{plan_of, refusal_of, refusing, settled_by, step, step_of, step_plan, taken_back, tetra_at, tetra_of, tetra_plan, unruled_by, by_fetch}
use Rattle.model.proofs.Prelude.{at_each, each, at_pop_law, below, off_run_law, off_run, poppable, ranged, ranged_state, caller, callers_alike, hiding, same_seen}
use Rattle.claims.proofs.Prelude.{needs, State, lent, AlikeThere, at_call, at_pop, called_at, CalledThere, caller_at, Cut, hole_at, popped_at, PopsThere}
use Rattle.claims.proofs.Prelude.{pop_turn, pushed_at, Reading, turns_cut, turns_to_pop, CalledIn, any_parts, Condition, OwnFrame, own_needs, PartsApart}
use Rattle.claims.proofs.Prelude.{TasksAlike, foreign, Own, owns, refusing_in, studies, task_of, Turn, turn, turn_judge, turn_needs, turn_plan, without32}
use Rattle.claims.specs.OneCall.{Held, struct, held_state, HeldFits, on_parts, Made, tried_items, asked_by}
use Rattle.claims.specs.Calls.{Chain, items, AllFit}
use Rattle.claims.proofs.Demand3Instance.{ran, pushing, ran_meets, pushing_meets, called, Back, both_back, bytes, alike}
use Rattle.claims.specs.TaskCalls.{held_by, states_held, alone, TaskMade, TaskMeetsBy, turns_of, turns_by, FitsBy, TaskChain, task_entries, task_last_held, task_last_window, AllFitIn, all_turns, calls_need, PrivateTaskCalls}
use Rattle.claims.specs.TaskLists.{TasksCarried}
use Rattle.claims.specs.AnywhereCalls.{AllHeldFit, CameBackHeld, PrivateHeld, TwoLists}
use Rattle.claims.specs.OwnCalls.{PartLent, PartsLent}
use Rattle.claims.specs.OneState.{OneIsTasks}
use Rattle.claims.specs.HiddenCalls.{HeldShown, SameToBoth}
use Rattle.claims.proofs.BegunCalls.{tried_fit}
use Rattle.claims.proofs.TaskCalls.{demand3_task_calls}
use Rattle.claims.proofs.TaskLists.{lists_of_task_calls}
use Rattle.claims.proofs.AnywhereCalls.{anywhere_calls, anywhere_own_calls, anywhere_calls_twice, anywhere_own_calls_twice}
use Rattle.claims.proofs.Within.{anywhere_calls_within, anywhere_own_calls_within}
use Rattle.claims.proofs.OwnCalls.{own_part_calls}
use Rattle.claims.proofs.HiddenCalls.{hidden_calls}
use Rattle.claims.proofs.OneState.{one_state}
use Rattle.claims.proofs.Demand3Instance.{computed as by_step}

-- ---- what is called

-- a call on what task k holds, as one of tasks'
abbrev pub as_task : List Held → ℕ → Made → TaskMade
as_task hs k c = record { entry = alone k c.entry; reply = c.reply; count = c.count; counts = []; refusals = []; held = set hs k c.held; window = c.window }

abbrev holds : State → List Held
holds s = struct s ∷ []

-- one run granted g
abbrev runs_of : ℕ → State → List TaskMade
runs_of g s = as_task (holds s) 0 (ran g lent s) ∷ []

abbrev begun : State
begun = goes (caller 7) 0

abbrev pub own : Own
own = record { start = 0; size = 48 }

abbrev one : List Turn
one = turn 0 own fetched ∷ []

-- some turns, then the call, SWYM at C and the POP
abbrev pub cut : List Turn → Cut
cut is = record { before = is; task = 0; part = own; kind = PUSHJ; how = by_fetch; list = one; pop_part = own; pop_how = by_fetch; rest = [] }

-- PUSHJ by step, and after it a run of one instruction
abbrev pushes : ℕ → TaskMade
pushes v = as_task (holds (caller v)) 0 (pushing lent (caller v))

abbrev list : ℕ → List TaskMade
list v = as_task (holds (called v).state) 0 (ran 1 (called v).memory (called v).state) ∷ []

-- what is asked of the turns k from a state in which $0 is v
abbrev MetAt : Cut → State → ℕ → Type 0
MetAt k s v =
    (ranged_state s ≡ true) × (opcode_in (tetra_of (at_call k (s ∷ []) lent).memory (caller_at k (s ∷ []) lent)) ≡ 0xF2) × ((called_at k (s ∷ []) lent).reply ≡ 0)
    × (hole_at k (s ∷ []) lent ≡ 1) × (reg (pushed_at k (s ∷ []) lent) 0 ≡ v)
    × (off_run (sp (caller_at k (s ∷ []) lent) r_o) (hole_at k (s ∷ []) lent + 1)
    (run_needs_by both studies turn_needs (called_at k (s ∷ []) lent).state (called_at k (s ∷ []) lent).memory k.list) ≡ true)
    × (off_run (sp (caller_at k (s ∷ []) lent) r_o) (hole_at k (s ∷ []) lent + 1)
    (run_needs_by both studies (own_needs 0) (called_at k (s ∷ []) lent).state (called_at k (s ∷ []) lent).memory k.list) ≡ true)
    × (each (hole_at k (s ∷ []) lent + 1) (λ i. has (shapes_of (at_call k (s ∷ []) lent).memory).b (sp (caller_at k (s ∷ []) lent) r_o + 8 * i)) ≡ true)
    × (poppable (hole_at k (s ∷ []) lent) (sp (task_of (called_at k (s ∷ []) lent).state 0) r_o) (task_of (at_pop k (s ∷ []) lent).state 0) ≡ true)
    × (opcode_in (tetra_of (at_pop k (s ∷ []) lent).memory (task_of (at_pop k (s ∷ []) lent).state 0)) ≡ op_pop)
    × (refusing_in own (shapes_of (at_pop k (s ∷ []) lent).memory) (task_of (at_pop k (s ∷ []) lent).state 0).pc ≡ 0)

pub computed : MetAt (cut one) begun 7 × MetAt (cut []) (caller 7) 7 × MetAt (cut []) (caller 8) 8
    × ((task_of (called_at (cut []) (caller 7 ∷ []) lent).state 0).pc ≡ (task_of (called_at (cut []) (caller 8 ∷ []) lent).state 0).pc)
    × (all_turns (holds begun) lent (runs_of 4 begun) ≡ turns_cut (cut one)) × (all_turns (holds (caller 7)) lent (runs_of 2 (caller 7)) ≡ turns_to_pop (cut []) ++ [])
    × (all_turns (holds (caller 7)) lent (runs_of 3 (caller 7)) ≡ turns_to_pop (cut []) ++ (pop_turn (cut []) ∷ []))
    × (off_run (sp (caller 7) r_o) (hole (caller 7) 1 + 1) (calls_need (pushes 7).held (pushes 7).window (list 7)) ≡ true)
    × (ranged_state (hiding 1) ≡ true) × (ranged_state (hiding 2) ≡ true)
unfolding over indexed within tab octa part written value_of bytes_of hideable hides admissible fresh goes halted with_special cleared claim_local stored set_register spilled shape_of ruled_one offset has octa_bytes write_octa shapes_of inside octa_at put_octa both ruled shares map_plan worst named look looks puts perform ups missing needs arm_of tell target_of hole framed slid slide pushed_rule pushed push_frame count_of last_output restored unslide popped pop_to pop_rule no_frame misplaced pop_frame bytes_in unit_at operand_in step_on needs_of runs run_needs_by refusal_of unruled_by refusing plan_of guarded from_three step_plan step_of claims tetra_at keeps_claim settled_by taken_back instruction_plan tetra_plan fetched_plan item_plan mmix run_for run_of start owns foreign refusing_in turn_judge turn_plan studies without32 turn_needs own_needs each below ranged_state off_run poppable all_turns turns_by turns_of asked_by tried_items calls_need states_held held_state
computed = (
  (refl, refl, refl, refl, refl, refl, refl, refl, refl, refl, refl),
  (refl, refl, refl, refl, refl, refl, refl, refl, refl, refl, refl),
  (refl, refl, refl, refl, refl, refl, refl, refl, refl, refl, refl),
  refl,
  refl,
  refl,
  refl,
  refl,
  refl,
  refl,
)

-- ---- of these calls

held_fit : (s : State) → ranged_state s ≡ true → AllHeldFit (holds s)
unfolding HeldFits
held_fit s e zero l = ranged s e
held_fit s e (suc k) l = absurd (omega arith)

chain : (g : ℕ) (s : State) → TaskChain (holds s) lent (runs_of g s)
unfolding TaskChain TaskMeetsBy
chain g s = (record { there = omega arith; contract = ran_meets g lent s; others = refl }, tt)

fits : (g : ℕ) (s : State) → AllFitIn (runs_of g s)
unfolding AllFitIn FitsBy asked_by
fits g s = (tried_fit _ _, tt)

one_apart : PartsApart own 0 one
unfolding PartsApart
one_apart = (λ n. absurd (n refl), tt)

module _ (is : List Turn) (s : State) (v : ℕ) (m : MetAt (cut is) s v) where
  pub called_any : CalledThere (cut is) (s ∷ []) lent any_parts (λ c. turn_needs)
  called_any = record { names = m.1; done = m.2; parts = tt; off = off_run_law _ _ _ m.5 }

  called_own : CalledThere (cut is) (s ∷ []) lent OwnFrame own_needs
  called_own = record {
    names = m.1;
    done = m.2;
    parts = record { in_b = at_each _ (λ i. has (shapes_of (at_call (cut is) (s ∷ []) lent).memory).b (sp (caller_at (cut is) (s ∷ []) lent) r_o + 8 * i)) m.7; apart = one_apart };
    off = off_run_law _ _ _ m.6;
  }

  pub called_in : CalledIn (cut is) (s ∷ []) lent
  called_in = record { names = called_own.names; done = called_own.done; in_b = called_own.parts.in_b; off = called_own.off }

  pub pops : PopsThere (cut is) (s ∷ []) lent
  pops = record { finds_back = at_pop_law _ _ _ m.8; met = record { names = m.9; lent = m.10 }; lets = inl refl }

  -- so $0 is v again in a state whose locals come back
  pub first_local : (t : State) → ((i : ℕ) → i < hole_at (cut is) (s ∷ []) lent → reg t i ≡ reg (pushed_at (cut is) (s ∷ []) lent) i) → reg t 0 ≡ v
  first_local t back = back 0 (subst (λ (h : ℕ). 0 < h) (sym m.3) (omega arith)) ∙ m.4

-- ---- a run that calls and returns

anywhere_calls_met : CameBackHeld (cut one) (holds begun) lent (runs_of 4 begun)
unfolding states_held held_state
anywhere_calls_met =
    anywhere_calls (holds begun) lent (runs_of 4 begun) (cut one) (held_fit begun computed.0.0) bytes (fits 4 begun) (chain 4 begun) computed.4 (omega arith)
    (called_any one begun 7 computed.0) (pops one begun 7 computed.0)

anywhere_own_calls_met : CameBackHeld (cut one) (holds begun) lent (runs_of 4 begun)
unfolding states_held held_state
anywhere_own_calls_met =
    anywhere_own_calls (holds begun) lent (runs_of 4 begun) (cut one) (held_fit begun computed.0.0) bytes (fits 4 begun) (chain 4 begun) computed.4 (omega arith)
    (called_own one begun 7 computed.0) (pops one begun 7 computed.0)

-- so $0 is 7 again in what the host holds
seven : reg (held_state (held_by (task_last_held (holds begun) (runs_of 4 begun)) 0)) 0 ≡ 7
unfolding states_held held_state
seven = first_local one begun 7 computed.0 (held_state (held_by (task_last_held (holds begun) (runs_of 4 begun)) 0)) (anywhere_calls_met.held_back refl)

own_part_calls_met : CameBackHeld (cut one) (holds begun) lent (runs_of 4 begun)
unfolding states_held held_state PartsLent PartLent
own_part_calls_met =
    (own_part_calls own 0 (holds begun) lent (runs_of 4 begun) (omega arith) (held_fit begun computed.0.0) bytes (fits 4 begun) (chain 4 begun) (refl, tt)
    ).comes_back (cut one) refl refl computed.4 (called_in one begun 7 computed.0) (pops one begun 7 computed.0)

lists_of_task_calls_met : TasksCarried (holds begun) lent (runs_of 4 begun) (runs both studies (begun ∷ []) lent (turns_cut (cut one)))
unfolding states_held held_state
lists_of_task_calls_met =
    subst (λ (ts : List Turn). TasksCarried (holds begun) lent (runs_of 4 begun) (runs both studies (begun ∷ []) lent ts)) computed.4
    (lists_of_task_calls (holds begun) lent (runs_of 4 begun) (held_fit begun computed.0.0) bytes (fits 4 begun) (chain 4 begun))

-- the same run as a chain of one state
one_state_met : OneIsTasks (struct begun) lent (ran 4 lent begun ∷ [])
unfolding HeldFits Chain items asked_by
one_state_met =
    let is : List Item = tried_items (ran 4 lent begun).reply (ran 4 lent begun).count in
    one_state (struct begun) lent (ran 4 lent begun ∷ []) (ranged begun computed.0.0) bytes (subst AllFit (sym (append-nil is)) (tried_fit _ _)) (ran_meets 4 lent begun, tt)

-- ---- two of them: $0 is 7 in the one and 8 in the other

alike_there : AlikeThere (cut []) (cut []) (caller 7 ∷ []) (caller 8 ∷ []) lent lent
unfolding runs
alike_there = record {
  alike = subst (λ (h : ℕ). TasksAlike 0 h (caller 7 ∷ []) (caller 8 ∷ [])) (sym computed.1.3) (record { count_same = refl; caller = callers_alike 7 8; others = other });
  windows_same = refl;
  targets_same = computed.3;
}
  where
    other : (k : ℕ) → k ≢ 0 → task_of (caller 7 ∷ []) k ≡ task_of (caller 8 ∷ []) k
    other zero n = absurd (n refl)
    other (suc k) n = refl

two : (parted : Condition) (needed : Reading) (g : ℕ) (then : List Turn) → CalledThere (cut []) (caller 7 ∷ []) lent parted needed
    → all_turns (holds (caller 7)) lent (runs_of g (caller 7)) ≡ turns_to_pop (cut []) ++ then
    → TwoLists parted needed (cut []) then (holds (caller 7)) (holds (caller 8)) lent lent (runs_of g (caller 7)) (runs_of g (caller 8))
unfolding states_held held_state task_entries runs
two parted needed g then c turns = record {
  fit = held_fit (caller 7) computed.1.0;
  fit_too = held_fit (caller 8) computed.2.0;
  bytes = bytes;
  bytes_too = bytes;
  fits = fits g (caller 7);
  entries_same = refl;
  chain = chain g (caller 7);
  chain_too = chain g (caller 8);
  turns_are = turns;
  there = omega arith;
  before_same = refl;
  called = c;
  alike = alike_there;
}

-- runs that end just before the POP
anywhere_calls_twice_met : PrivateHeld (cut []) (holds (caller 7)) (holds (caller 8)) lent lent (runs_of 2 (caller 7)) (runs_of 2 (caller 8))
anywhere_calls_twice_met =
    anywhere_calls_twice (cut []) _ _ lent lent (runs_of 2 (caller 7)) (runs_of 2 (caller 8)) (two _ _ 2 [] (called_any [] (caller 7) 7 computed.1) computed.5)

anywhere_own_calls_twice_met : PrivateHeld (cut []) (holds (caller 7)) (holds (caller 8)) lent lent (runs_of 2 (caller 7)) (runs_of 2 (caller 8))
anywhere_own_calls_twice_met =
    anywhere_own_calls_twice (cut []) _ _ lent lent (runs_of 2 (caller 7)) (runs_of 2 (caller 8)) (two _ _ 2 [] (called_own [] (caller 7) 7 computed.1) computed.5)

-- runs that do the POP too: so $0 is 8 again in the second
abbrev Eight : Type 0
Eight = reg (task_of (popped_at (cut []) (caller 8 ∷ []) lent).state 0) 0 ≡ 8

anywhere_calls_within_met : Eight
unfolding states_held held_state
anywhere_calls_within_met =
    first_local [] (caller 8) 8 computed.2 (task_of (popped_at (cut []) (caller 8 ∷ []) lent).state 0)
    ((anywhere_calls_within (cut []) (pop_turn (cut []) ∷ []) (holds (caller 7)) (holds (caller 8)) lent lent (runs_of 3 (caller 7)) (runs_of 3 (caller 8))
    (two any_parts (λ c. turn_needs) 3 _ (called_any [] (caller 7) 7 computed.1) computed.6)
    ).second_back (record { rest = []; turns_are = computed.6 }) (pops [] (caller 8) 8 computed.2)).0.locals

anywhere_own_calls_within_met : Eight
unfolding states_held held_state
anywhere_own_calls_within_met =
    first_local [] (caller 8) 8 computed.2 (task_of (popped_at (cut []) (caller 8 ∷ []) lent).state 0)
    ((anywhere_own_calls_within (cut []) (pop_turn (cut []) ∷ []) (holds (caller 7)) (holds (caller 8)) lent lent (runs_of 3 (caller 7)) (runs_of 3 (caller 8))
    (two OwnFrame own_needs 3 _ (called_own [] (caller 7) 7 computed.1) computed.6)
    ).second_back (record { rest = []; turns_are = computed.6 }) (pops [] (caller 8) 8 computed.2)).0.locals

-- ---- the call by step

kept : PrivateTaskCalls 0 1 (holds (caller 7)) (holds (caller 8)) (pushes 7) (pushes 8) (list 7) (list 8)
unfolding held_state asked_by task_entries AllFitIn FitsBy
kept =
    subst (λ (h : ℕ). PrivateTaskCalls 0 h (holds (caller 7)) (holds (caller 8)) (pushes 7) (pushes 8) (list 7) (list 8)) by_step.0.2
    (demand3_task_calls lent (holds (caller 7)) (holds (caller 8)) 0 PUSHJ 1 0 2 (on_parts (step 0xF2 1 0 2)) (pushes 7) (pushes 8) (list 7) (list 8) (omega arith)
    (held_fit (caller 7) computed.1.0) (held_fit (caller 8) computed.2.0) bytes (record { op_byte = omega arith; x_byte = omega arith; y_byte = omega arith; z_byte = omega arith })
    (tried_fit _ _, tt) (record { count_same = refl; caller = alike; others = other }) refl refl refl refl (chained 7) (chained 8) by_step.0.4 by_step.0.5 (off_run_law _ _ _ computed.7))
  where
    other : (k : ℕ) → k ≢ 0 → held_by (holds (caller 7)) k ≡ held_by (holds (caller 8)) k
    other zero n = absurd (n refl)
    other (suc k) n = refl

    chained : (v : ℕ) → TaskChain (holds (caller v)) lent (pushes v ∷ list v)
    chained v = unfold TaskChain TaskMeetsBy in (
      record { there = omega arith; contract = pushing_meets lent (caller v); others = refl },
      (record { there = omega arith; contract = ran_meets 1 (called v).memory (called v).state; others = refl }, tt),
    )

-- so a run of one instruction, the POP, gives 7 back to the one and 8 to the other
demand3_task_calls_met : Back
unfolding held_state task_last_held task_last_window
demand3_task_calls_met = both_back (kept.first_back (at_pop_law 1 _ _ by_step.0.7)) (kept.second_back (at_pop_law 1 _ _ by_step.0.7))

-- ---- rC is hidden, and is 1 in the one and 2 in the other

hidden_calls_met : SameToBoth (holds (hiding 1)) (holds (hiding 2)) lent (runs_of 2 (hiding 1)) (runs_of 2 (hiding 2))
unfolding task_entries
hidden_calls_met =
    hidden_calls (holds (hiding 1)) (holds (hiding 2)) lent (runs_of 2 (hiding 1)) (runs_of 2 (hiding 2)) (held_fit (hiding 1) computed.8) (held_fit (hiding 2) computed.9) bytes
    (fits 2 (hiding 1)) refl (chain 2 (hiding 1)) (chain 2 (hiding 2)) (record { count_same = refl; each_shown = shown })
  where
    shown : (k : ℕ) → k < 1 → HeldShown (held_by (holds (hiding 1)) k) (held_by (holds (hiding 2)) k)
    shown zero l = unfold HeldShown in same_seen 1 2
    shown (suc k) l = absurd (omega arith)
