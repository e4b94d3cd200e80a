-- Instances of demand 3 with tasks, by step and fetched, and of a call and its POP anywhere in turns, all hypotheses computed. The program is that of model's Instance:
-- task 0 calls and returns on its own part of B; in between task 1 asks for the frame, and is refused by 32.
use Rattle.model.proofs.Prelude.{suc, zero, ℕ, ◌*◌, ◌+◌, ◌<◌, true, List, [], ◌∷◌, inl, ◌≢◌, refl, subst, sym, ◌≡◌, arith, ltb, length, ltb-true, start}
use Rattle.model.proofs.Prelude.{target_of, AtPop, PUSHJ, Within, x_at, indexed, over, tab, within, count_of, framed, hole, last_output, misplaced, no_frame}
use Rattle.model.proofs.Prelude.{pop_frame, popped, pop_rule, pop_to, pushed, pushed_rule, push_frame, restored, slid, slide, unslide, needs_of, Ran, run_needs_by}
use Rattle.model.proofs.Prelude.{runs, step_on, bytes_in, extended, load_from, operand_in, unit_at, both, has, inside, octa_at, octa_bytes, offset, put_octa, ruled}
use Rattle.model.proofs.Prelude.{ruled_one, shape_of, shapes_of, shares, Windows, write_octa, tell, bytes_of, octa, part, value_of, written, arm_of, op_pop, All, look}
use Rattle.model.proofs.Prelude.{looks, map_plan, missing, named, Off, Outcome, perform, puts, ups, worst, admissible, claim_local, cleared, fresh, goes, halted}
use Rattle.model.proofs.Prelude.{hideable, hides, r_o, r_s, set_register, Sized, sp, spilled, stack_start, stored, with_special, Words, run_for, claims, fetched}
use Rattle.model.proofs.Prelude.{fetched_plan, from_three, guarded, instruction_plan, item_plan, keeps_claim, opcode_in, plan_of, refusal_of, refusing, settled_by, step}
use Rattle.model.proofs.Prelude.{step_plan, taken_back, tetra_at, tetra_of, tetra_plan, unruled_by, by_fetch, by_step, item_by, Way, at_each, each, at_pop_law, below}
use Rattle.model.proofs.Prelude.{off_run_law, off_run, poppable, ranged, ranged_state, caller, callers_alike}
use Rattle.task_model.proofs.Prelude.{needs, State, lent}
use Rattle.task_model.specs.Tasks.{Own, owns, foreign, refusing_in, turn_judge, turn_plan, task_of, Turn, turn, studies, without32, turn_needs}
use Rattle.task_model.specs.Schedule.{count_by, refusal_by, any_runs, turn_of, turns_from, rounds, call_by}
use Rattle.task_model.specs.Call.{part_at, each_below, part_ruled, overlaps, part_clear, tasks_ruled, turn_run, call_of}
use Rattle.task_model.specs.TasksMeant.{tried_turns}
use Rattle.task_model.specs.Lent.{Once, picked, renamed, TurnsBelow, among_all}
use Rattle.task_model.specs.CallApart.{turns_tried}
use Rattle.task_model.specs.TaskDemand.{TasksAlike, turn_on, after_turns, pop_in, GivesBackTo, PrivateTo, Condition, FetchedClaimIn, any_parts, PartsApart, OwnFrame, own_needs}
use Rattle.task_model.specs.Anywhere.{Cut, turns_cut, at_call, called_at, at_pop, caller_at, hole_at, CallerThere, CalledThere, PopsThere, CameBack, AlikeThere}
use Rattle.task_model.proofs.TaskDemand.{demand3_tasks, demand3_tasks_fetched, demand3_own, demand3_own_fetched}
use Rattle.task_model.proofs.Parts.{parts_meant}
use Rattle.task_model.proofs.CallApart.{calls_apart}
use Rattle.task_model.proofs.Lent.{lent_turns}
use Rattle.task_model.proofs.Anywhere.{anywhere, anywhere_own, anywhere_twice, anywhere_own_twice}

-- ---- two tasks

abbrev own : Own
own = record { start = 8; size = 16 }

abbrev others : Own
others = record { start = 24; size = 16 }

-- $255 of the other is the frame's first octabyte
abbrev tasks : ℕ → List State
tasks v = caller v ∷ stored (with_special (with_special start r_o (stack_start + 24)) r_s (stack_start + 24)) 255 (stack_start + 8) ∷ []

-- the same before the SWYM at 0
abbrev begun : ℕ → List State
begun v = goes (caller v) 0 ∷ stored (with_special (with_special start r_o (stack_start + 24)) r_s (stack_start + 24)) 255 (stack_start + 8) ∷ []

-- LDO $254,$255,0 by the other (32), and SWYM at C, fetched
abbrev list : List Turn
list = turn 1 others (step 0x8D 254 255 0) ∷ turn 0 own fetched ∷ []

tasks_alike : (v u : ℕ) → TasksAlike 0 1 (tasks v) (tasks u)
tasks_alike v u = record { count_same = refl; caller = callers_alike v u; others = other }
  where
    other : (k : ℕ) → k ≢ 0 → task_of (tasks v) k ≡ task_of (tasks u) k
    other zero n = absurd (n refl)
    other (suc k) n = refl

apart : PartsApart own 0 list
unfolding PartsApart
apart = (λ n. inl (omega arith), (λ n. absurd (n refl), tt))

-- the call by either way, where $0 is v
abbrev called : Way → ℕ → Outcome (List State) Windows
called i v = turn_on own lent (tasks v) 0 (item_by i 0xF2)

abbrev ended : Way → ℕ → Ran (List State) Windows
ended i v = after_turns (called i v) list

-- what demand 3 asks of it, in both readings of needs; and a POP that is fetched, in both runs
abbrev Met : Way → Type 0
Met i =
    ((called i 7).reply ≡ 0) × ((task_of (called i 7).state 0).pc ≡ (task_of (called i 8).state 0).pc)
    × (off_run (stack_start + 8) 2 (run_needs_by both studies turn_needs (called i 7).state (called i 7).memory list) ≡ true)
    × (off_run (stack_start + 8) 2 (run_needs_by both studies (own_needs 0) (called i 7).state (called i 7).memory list) ≡ true)
    × (poppable 1 (sp (task_of (called i 7).state 0) r_o) (task_of (ended i 7).state 0) ≡ true)
    × ((opcode_in (tetra_of (ended i 7).memory (task_of (ended i 7).state 0)) ≡ op_pop) × (refusing_in own (shapes_of (ended i 7).memory) (task_of (ended i 7).state 0).pc ≡ 0))
    × ((opcode_in (tetra_of (ended i 8).memory (task_of (ended i 8).state 0)) ≡ op_pop) × (refusing_in own (shapes_of (ended i 8).memory) (task_of (ended i 8).state 0).pc ≡ 0))

-- some turns, then the call, the list and the POP, all fetched
abbrev cut : List Turn → List Turn → Cut
cut is js = record { before = is; task = 0; part = own; kind = PUSHJ; how = by_fetch; list = js; pop_part = own; pop_how = by_fetch; rest = [] }

-- what `Anywhere` and its kin ask of these turns
abbrev MetAt : Cut → List State → Type 0
MetAt k ss =
    (ltb 0 (length (at_call k ss lent).state) ≡ true) × (ranged_state (caller_at k ss lent) ≡ true)
    × (opcode_in (tetra_of (at_call k ss lent).memory (caller_at k ss lent)) ≡ 0xF2) × ((called_at k ss lent).reply ≡ 0)
    × (hole_at k ss lent ≡ 1) × (sp (caller_at k ss lent) r_o ≡ stack_start + 8)
    × (off_run (stack_start + 8) 2 (run_needs_by both studies turn_needs (called_at k ss lent).state (called_at k ss lent).memory k.list) ≡ true)
    × (off_run (stack_start + 8) 2 (run_needs_by both studies (own_needs 0) (called_at k ss lent).state (called_at k ss lent).memory k.list) ≡ true)
    × (each 2 (λ i. has (shapes_of (at_call k ss lent).memory).b (stack_start + 8 + 8 * i)) ≡ true)
    × (poppable 1 (sp (task_of (called_at k ss lent).state 0) r_o) (task_of (at_pop k ss lent).state 0) ≡ true)
    × ((opcode_in (tetra_of (at_pop k ss lent).memory (task_of (at_pop k ss lent).state 0)) ≡ op_pop)
    × (refusing_in own (shapes_of (at_pop k ss lent).memory) (task_of (at_pop k ss lent).state 0).pc ≡ 0))

-- a call of both tasks, an instruction a turn, in which task 0 calls and returns: 1 to each turn's task
abbrev parts : List ℕ
parts = 8 ∷ 16 ∷ 24 ∷ 16 ∷ []

abbrev between : List Turn
between = turn 1 others fetched ∷ turn 0 own fetched ∷ turn 1 others fetched ∷ []

abbrev swym : List Turn
swym = turn 0 own fetched ∷ []

computed : ((ranged_state (caller 7) ≡ true) × (ranged_state (caller 8) ≡ true) × (hole (caller 7) 1 ≡ 1) × (sp (caller 7) r_o ≡ stack_start + 8)
    × (each 2 (λ i. has (shapes_of lent).b (stack_start + 8 + 8 * i)) ≡ true))
    × Met (by_step 1 0 2) × MetAt (cut swym list) (begun 7) × MetAt (cut [] list) (tasks 7) × MetAt (cut [] list) (tasks 8)
    × ((task_of (called_at (cut [] list) (tasks 7) lent).state 0).pc ≡ (task_of (called_at (cut [] list) (tasks 8) lent).state 0).pc)
    × MetAt (cut [] between) (tasks 7) × (tasks_ruled 48 parts 1 ≡ true) × (turns_tried lent (tasks 7) parts 1 5 ≡ turns_cut (cut [] between))
    × (Met by_fetch × (opcode_in (tetra_of lent (caller 7)) ≡ 0xF2) × (x_at lent (caller 7) ≡ 1))
unfolding each_below part_ruled overlaps part_clear tasks_ruled count_by refusal_by any_runs turn_of turns_from rounds call_by turn_run call_of run_for tried_turns over indexed within tab octa part written value_of bytes_of hideable hides admissible fresh goes halted with_special cleared claim_local stored set_register spilled shape_of ruled_one offset has octa_bytes write_octa shapes_of inside octa_at put_octa both ruled shares map_plan worst named look looks puts perform ups missing needs arm_of tell target_of hole framed slid slide pushed_rule pushed push_frame count_of last_output restored unslide popped pop_to pop_rule no_frame misplaced pop_frame bytes_in unit_at operand_in load_from extended step_on needs_of runs run_needs_by refusal_of unruled_by refusing plan_of guarded from_three step_plan claims tetra_at keeps_claim settled_by taken_back instruction_plan tetra_plan fetched_plan item_plan start owns foreign refusing_in turn_judge turn_plan studies without32 turn_needs own_needs each below ranged_state off_run poppable
computed = (
  (refl, refl, refl, refl, refl),
  (refl, refl, refl, refl, refl, (refl, refl), (refl, refl)),
  (refl, refl, refl, refl, refl, refl, refl, refl, refl, refl, (refl, refl)),
  (refl, refl, refl, refl, refl, refl, refl, refl, refl, refl, (refl, refl)),
  (refl, refl, refl, refl, refl, refl, refl, refl, refl, refl, (refl, refl)),
  refl,
  (refl, refl, refl, refl, refl, refl, refl, refl, refl, refl, (refl, refl)),
  refl,
  refl,
  ((refl, refl, refl, refl, refl, (refl, refl), (refl, refl)), refl, refl),
)

-- of the frame's place and size, by the numbers that these are
at_frame : (P : ℕ → ℕ → Type 0) → P (stack_start + 8) 1 → P (sp (caller 7) r_o) (hole (caller 7) 1)
at_frame P h = subst (λ (a : ℕ). P a (hole (caller 7) 1)) (sym computed.0.3) (subst (P (stack_start + 8)) (sym computed.0.2) h)

own_frame : OwnFrame own lent (stack_start + 8) 2 0 list
own_frame = record { in_b = at_each 2 (λ i. has (shapes_of lent).b (stack_start + 8 + 8 * i)) computed.0.4; apart = apart }

-- 7 comes back to the one, and 8 to the other
abbrev Back : Way → State → State → Type 0
Back i s t = GivesBackTo 0 1 s (pop_in own (ended i 7) 0 by_fetch) × GivesBackTo 0 1 t (pop_in own (ended i 8) 0 by_fetch)

both_back : (i : Way) (s t : State) → Met i → PrivateTo own 0 1 s t (called i 7) (called i 8) list → Back i s t
both_back i s t m p = (
  p.first_back (at_pop_law 1 _ _ m.4) by_fetch (record { names = m.5.0; lent = m.5.1 }),
  p.second_back (at_pop_law 1 _ _ m.4) by_fetch (record { names = m.6.0; lent = m.6.1 }),
)

abbrev stepping : Way
stepping = by_step 1 0 2

stepped : PrivateTo own 0 (hole (caller 7) 1) (caller 7) (caller 8) (called stepping 7) (called stepping 8) list → Back stepping (caller 7) (caller 8)
stepped p = both_back stepping (caller 7) (caller 8) computed.1 (subst (λ (h : ℕ). PrivateTo own 0 h (caller 7) (caller 8) (called stepping 7) (called stepping 8) list) computed.0.2 p)

alike : TasksAlike 0 (hole (caller 7) 1) (tasks 7) (tasks 8)
alike = subst (λ (h : ℕ). TasksAlike 0 h (tasks 7) (tasks 8)) (sym computed.0.2) (tasks_alike 7 8)

demand3_tasks_met : Back stepping (caller 7) (caller 8)
demand3_tasks_met =
    stepped (demand3_tasks own lent (tasks 7) (tasks 8) 0 PUSHJ 1 0 2 list tt (omega arith)
    (ranged _ computed.0.0).0 (ranged _ computed.0.1).0 (ranged _ computed.0.0).1 (ranged _ computed.0.1).1 alike computed.1.0 computed.1.1
    (at_frame (λ a h. All (Off (Within a (h + 1))) (run_needs_by both studies turn_needs (called stepping 7).state (called stepping 7).memory list)) (off_run_law (stack_start + 8) 2 _ computed.1.2)))

demand3_own_met : Back stepping (caller 7) (caller 8)
demand3_own_met =
    stepped (demand3_own own lent (tasks 7) (tasks 8) 0 PUSHJ 1 0 2 list (at_frame (λ a h. OwnFrame own lent a (h + 1) 0 list) own_frame) (omega arith)
    (ranged _ computed.0.0).0 (ranged _ computed.0.1).0 (ranged _ computed.0.0).1 (ranged _ computed.0.1).1 alike computed.1.0 computed.1.1
    (at_frame (λ a h. All (Off (Within a (h + 1))) (run_needs_by both studies (own_needs 0) (called stepping 7).state (called stepping 7).memory list)) (off_run_law (stack_start + 8) 2 _ computed.1.3)))

-- ---- the same, the call fetched

abbrev claimed : ℕ → State
claimed v = claim_local (caller v) 1

-- a theorem's claim, X of the tetra being x
abbrev Claimed : (ℕ → ℕ → Type 0) → List ℕ → ℕ → Type 0
Claimed parted xs x = parted (sp (caller 7) r_o) (hole (caller 7) x + 1) → 0 < length (tasks 7) → Sized (caller 7) → Sized (caller 8) → Words (caller 7) → Words (caller 8)
    → opcode_in (tetra_of lent (caller 7)) ≡ 0xF2 → TasksAlike 0 (hole (caller 7) x) (tasks 7) (tasks 8)
    → (called by_fetch 7).reply ≡ 0 → (task_of (called by_fetch 7).state 0).pc ≡ (task_of (called by_fetch 8).state 0).pc
    → All (Off (Within (sp (caller 7) r_o) (hole (caller 7) x + 1))) xs
    → PrivateTo own 0 (hole (caller 7) x) (claim_local (caller 7) x) (claim_local (caller 8) x) (called by_fetch 7) (called by_fetch 8) list

by_claim : (parted : Condition) (needed : ℕ → List State → Windows → Turn → List ℕ) → FetchedClaimIn parted needed → parted own lent (stack_start + 8) 2 0 list
    → off_run (stack_start + 8) 2 (run_needs_by both studies (needed 0) (called by_fetch 7).state (called by_fetch 7).memory list) ≡ true
    → Back by_fetch (claimed 7) (claimed 8)
by_claim parted needed d h e =
    both_back by_fetch (claimed 7) (claimed 8) computed.9.0
    (subst (λ (n : ℕ). PrivateTo own 0 n (claimed 7) (claimed 8) (called by_fetch 7) (called by_fetch 8) list) computed.0.2
    (subst (Claimed (λ a n. parted own lent a n 0 list) (run_needs_by both studies (needed 0) (called by_fetch 7).state (called by_fetch 7).memory list)) computed.9.2
    (d own lent (tasks 7) (tasks 8) 0 PUSHJ list)
    (at_frame (λ a n. parted own lent a (n + 1) 0 list) h) (omega arith)
    (ranged _ computed.0.0).0 (ranged _ computed.0.1).0 (ranged _ computed.0.0).1 (ranged _ computed.0.1).1
    computed.9.1 alike computed.9.0.0 computed.9.0.1
    (at_frame (λ a n. All (Off (Within a (n + 1))) (run_needs_by both studies (needed 0) (called by_fetch 7).state (called by_fetch 7).memory list)) (off_run_law (stack_start + 8) 2 _ e))))

demand3_tasks_fetched_met : Back by_fetch (claimed 7) (claimed 8)
demand3_tasks_fetched_met = by_claim any_parts (λ c. turn_needs) demand3_tasks_fetched tt computed.9.0.2

demand3_own_fetched_met : Back by_fetch (claimed 7) (claimed 8)
demand3_own_fetched_met = by_claim OwnFrame own_needs demand3_own_fetched own_frame computed.9.0.3

-- ---- anywhere in turns

module _ (is js : List Turn) (ss : List State) (m : MetAt (cut is js) ss) where
  frame_at : (P : ℕ → ℕ → Type 0) → P (stack_start + 8) 1 → P (sp (caller_at (cut is js) ss lent) r_o) (hole_at (cut is js) ss lent)
  frame_at P h = subst (λ (a : ℕ). P a (hole_at (cut is js) ss lent)) (sym m.5) (subst (P (stack_start + 8)) (sym m.4) h)

  there : CallerThere (cut is js) ss lent
  there = record { there = ltb-true _ _ m.0; sized = (ranged _ m.1).0; words = (ranged _ m.1).1 }

  called_any : CalledThere (cut is js) ss lent any_parts (λ c. turn_needs)
  called_any = record {
    names = m.2;
    done = m.3;
    parts = tt;
    off = frame_at (λ a h. All (Off (Within a (h + 1))) (run_needs_by both studies turn_needs (called_at (cut is js) ss lent).state (called_at (cut is js) ss lent).memory js)) (off_run_law (stack_start + 8) 2 _ m.6);
  }

  called_own : PartsApart own 0 js → CalledThere (cut is js) ss lent OwnFrame own_needs
  called_own clear = record {
    names = m.2;
    done = m.3;
    parts = frame_at (λ a h. OwnFrame own (at_call (cut is js) ss lent).memory a (h + 1) 0 js)
        (record { in_b = at_each 2 (λ i. has (shapes_of (at_call (cut is js) ss lent).memory).b (stack_start + 8 + 8 * i)) m.8; apart = clear });
    off = frame_at (λ a h. All (Off (Within a (h + 1))) (run_needs_by both studies (own_needs 0) (called_at (cut is js) ss lent).state (called_at (cut is js) ss lent).memory js)) (off_run_law (stack_start + 8) 2 _ m.7);
  }

  pops : PopsThere (cut is js) ss lent
  pops = record {
    finds_back = subst (λ (h : ℕ). AtPop h (sp (task_of (called_at (cut is js) ss lent).state 0) r_o) (task_of (at_pop (cut is js) ss lent).state 0)) (sym m.4) (at_pop_law 1 _ _ m.9);
    met = record { names = m.10.0; lent = m.10.1 };
    lets = inl refl;
  }

anywhere_met : CameBack (cut swym list) (begun 7) lent
anywhere_met = anywhere (cut swym list) (begun 7) lent (there swym list _ computed.2) (called_any swym list _ computed.2) (pops swym list _ computed.2)

anywhere_own_met : CameBack (cut swym list) (begun 7) lent
anywhere_own_met = anywhere_own (cut swym list) (begun 7) lent (there swym list _ computed.2) (called_own swym list _ computed.2 apart) (pops swym list _ computed.2)

alike_there : AlikeThere (cut [] list) (cut [] list) (tasks 7) (tasks 8) lent lent
unfolding runs
alike_there = record {
  alike = subst (λ (h : ℕ). TasksAlike 0 h (tasks 7) (tasks 8)) (sym computed.3.4) (tasks_alike 7 8);
  windows_same = refl;
  targets_same = computed.5;
}

-- in the second run too the POP gives back
anywhere_twice_met : CameBack (cut [] list) (tasks 8) lent
anywhere_twice_met =
    (anywhere_twice (cut [] list) [] (tasks 7) (tasks 8) lent lent (there [] list _ computed.3) (there [] list _ computed.4) (called_any [] list _ computed.3) alike_there).second_back (pops [] list _ computed.4)

anywhere_own_twice_met : CameBack (cut [] list) (tasks 8) lent
anywhere_own_twice_met =
    (anywhere_own_twice (cut [] list) [] (tasks 7) (tasks 8) lent lent (there [] list _ computed.3) (there [] list _ computed.4) (called_own [] list _ computed.3 apart) alike_there).second_back (pops [] list _ computed.4)

-- ---- a whole call

between_apart : PartsApart own 0 between
unfolding PartsApart
between_apart = (λ n. inl (omega arith), (λ n. absurd (n refl), (λ n. inl (omega arith), tt)))

-- the turns that it tries are apart from task 0's part
parts_meant_met : PartsApart (part_at parts 0) 0 (turns_tried lent (tasks 7) parts 1 5)
parts_meant_met = parts_meant.turns_apart 48 parts 1 computed.7 lent (tasks 7) 5 0 (omega arith)

calls_apart_met : CameBack (cut [] between) (tasks 7) lent
calls_apart_met =
    let c : CalledThere (cut [] between) (tasks 7) lent OwnFrame own_needs = called_own [] between _ computed.6 between_apart in
    (calls_apart 48 lent (tasks 7) parts 1 5 computed.7).comes_back (cut [] between) computed.8 (there [] between _ computed.6)
    (record { names = c.names; done = c.done; in_b = c.parts.in_b; off = c.off }) (pops [] between _ computed.6)

-- ---- tasks that are lent

-- task 1 alone is lent
lent_turns_met : runs both studies (tasks 7) lent (turn 1 others fetched ∷ []) ≡ among_all (tasks 7) (1 ∷ []) (runs both studies (picked fresh (tasks 7) (1 ∷ [])) lent (turn 0 others fetched ∷ []))
unfolding renamed Once TurnsBelow
lent_turns_met = lent_turns.turns_among (tasks 7) lent (1 ∷ []) (turn 0 others fetched ∷ []) (omega arith, (λ k l. absurd (omega arith)), tt) (omega arith, tt)
